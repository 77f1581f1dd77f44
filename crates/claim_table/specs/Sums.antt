-- Sums over lists, for every weighting of numbers.
use Rattle.std.specs.Prelude.{◌≡◌, ℕ, zero, suc, ◌+◌, ◌<◌, ◌⊎◌, List, [], ◌∷◌}

-- the sum of the numbers' weights
abbrev pub weigh : (ℕ → ℕ) → List ℕ → ℕ
weigh h [] = 0
weigh h (x ∷ xs) = h x + weigh h xs

-- the sum of the weights of the numbers below n
abbrev pub below : (ℕ → ℕ) → ℕ → ℕ
below h zero = 0
below h (suc n) = below h n + h n

-- the sum of f over the members
abbrev pub total : {A : Type 0} → (A → ℕ) → List A → ℕ
total f [] = 0
total f (x ∷ xs) = f x + total f xs

-- 1 at i, else 0
abbrev pub same : ℕ → ℕ → ℕ
same zero zero = 1
same zero (suc x) = 0
same (suc i) zero = 0
same (suc i) (suc x) = same i x

-- 1 from n on, else 0
abbrev pub past : ℕ → ℕ → ℕ
past zero x = 1
past (suc n) zero = 0
past (suc n) (suc x) = past n x

-- i occurs in the list
abbrev pub Has : List ℕ → ℕ → Type 0
Has [] i = ⊥
Has (x ∷ xs) i = (i ≡ x) ⊎ Has xs i

-- each member is below m
abbrev pub AllBelow : List ℕ → ℕ → Type 0
AllBelow xs m = (i : ℕ) → Has xs i → i < m
