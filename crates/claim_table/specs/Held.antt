-- The slots that a seat holds, each with its value.
use Rattle.std.specs.Prelude.{◌≡◌, ℕ, ◌==◌, ◌⊎◌, List, [], ◌∷◌, if◌then◌else◌}

module _ {S : Type 0} where
  -- slot i is among them, with value s
  abbrev pub Holds : List (ℕ × S) → ℕ → S → Type 0
  Holds [] i s = ⊥
  Holds (x ∷ xs) i s = ((i ≡ x.0) × (s ≡ x.1)) ⊎ Holds xs i s

  -- no slot occurs twice
  abbrev pub Once : List (ℕ × S) → Type 0
  Once [] = Unit {0}
  Once (x ∷ xs) = ((s : S) → ¬ Holds xs x.0 s) × Once xs

  -- the second place
  abbrev pub behind : ℕ × S → List (ℕ × S) → List (ℕ × S)
  behind x [] = x ∷ []
  behind x (y ∷ ys) = y ∷ x ∷ ys

  -- slot i moves to the front
  abbrev pub brought : ℕ → List (ℕ × S) → List (ℕ × S)
  brought i [] = []
  brought i (x ∷ xs) = if x.0 == i then x ∷ xs else behind x (brought i xs)
