-- Steps of loops over lists.
use Rattle.std.proofs.Common.{◌≡◌, ◌∙◌, ap, refl, ℕ, zero, suc, ◌+◌, ◌<◌, ◌≤◌, List, [], ◌∷◌, ◌++◌, map, length, take, drop, get_or, set, arith}
use Rattle.std.proofs.lemmas.List.{append-nil, drop_all, take_all, take_more, map-append}

replaced : {X : Type 0} (f : X → X) (xs : List X) (i : ℕ) (d : X) → i < length xs →
    set (map f (take i xs) ++ drop i xs) i (f (get_or (map f (take i xs) ++ drop i xs) i d)) ≡ map f (take (suc i) xs) ++ drop (suc i) xs
replaced f [] i d inside = absurd (omega arith)
replaced f (x ∷ xs) zero d inside = refl
replaced f (x ∷ xs) (suc i) d inside = ap (λ ys. f x ∷ ys) (replaced f xs i d (omega arith))

-- one more element is replaced
pub replaced_more : {X : Type 0} (f : X → X) (xs ys : List X) (i : ℕ) (d y : X) → i < length xs → ys ≡ map f (take i xs) ++ drop i xs → y ≡ f (get_or ys i d) →
    set ys i y ≡ map f (take (i + 1) xs) ++ drop (i + 1) xs
replaced_more {X} f xs ys i d y inside so_far new =
    let next : suc i ≡ i + 1 = omega arith in
    ap (set ys i) new ∙ ap (λ (zs : List X). set zs i (f (get_or zs i d))) so_far ∙ replaced f xs i d inside ∙ ap (λ (n : ℕ). map f (take n xs) ++ drop n xs) next

-- a slice of a whole vector is written back
pub written_back : {X : Type 0} (n : ℕ) (new old : List X) → length new ≡ length old → n ≡ length old → take n (new ++ drop (length new) old) ≡ new
written_back {X} n new old same count =
    ap (λ (ys : List X). take n (new ++ ys)) (drop_all (length new) old (omega arith)) ∙ ap (take n) (append-nil new) ∙ take_all n new (omega arith)

pub length-take-le : {X : Type 0} (i : ℕ) (xs : List X) → length (take i xs) ≤ i
length-take-le zero xs = omega arith
length-take-le (suc i) [] = omega arith
length-take-le (suc i) (x ∷ xs) = let rest = length-take-le i xs in omega (arith, rest)

pub map-take_more : {X Y : Type 0} (f : X → Y) (xs : List X) (i : ℕ) (d : X) → i < length xs → map f (take (i + 1) xs) ≡ map f (take i xs) ++ f (get_or xs i d) ∷ []
map-take_more f xs i d inside = ap (map f) (take_more xs i d inside) ∙ map-append f (take i xs) (get_or xs i d ∷ [])
