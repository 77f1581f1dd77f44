-- Lists, whatever is in them.
use Rattle.std.proofs.Common.{◌≡◌, ◌∙◌, ap, refl, sym, suc, List, [], ◌∷◌, map, Bool, true, false, true≢false, cond, arith}
use Rattle.std.specs.Prelude.{filter, if◌then◌else◌}
use Rattle.std.specs.List.{AllByRecursion, AllPairs}
use Rattle.std.proofs.lemmas.List.Elements.{All-from_recursion, recursion_from_All}
use Rattle.std.proofs.lemmas.List.Kept.{AllPairs-cons}
use Rattle.std.specs.declared.cmp.Ordering.{Ordering}
use Rattle.std.specs.Ordering.{is_gt}
use Rattle.ksql_place.specs.Ascending.{ascending, placed, PassesFirst}

pub All-weaker : {A : Type 0} (P Q : A → Type 0) → ((x : A) → P x → Q x) → (xs : List A) → AllByRecursion P xs → AllByRecursion Q xs
All-weaker P Q f [] h = tt
All-weaker P Q f (x ∷ xs) h = (f x h.0, All-weaker P Q f xs h.1)

pub All-map : {A B : Type 0} (P : B → Type 0) (f : A → B) (xs : List A) → AllByRecursion (λ x. P (f x)) xs → AllByRecursion P (map f xs)
All-map P f [] h = tt
All-map P f (x ∷ xs) h = (h.0, All-map P f xs h.1)

pub filter-map : {A B : Type 0} (p : B → Bool) (f : A → B) (xs : List A) → filter p (map f xs) ≡ map f (filter (λ x. p (f x)) xs)
filter-map p f [] = refl
filter-map {A} {B} p f (x ∷ xs) = by (p (f x)) (filter-map p f xs)
  where
    by : (b : Bool) → filter p (map f xs) ≡ map f (filter (λ x. p (f x)) xs) →
        cond b (f x ∷ filter p (map f xs)) (filter p (map f xs)) ≡ map f (cond b (x ∷ filter (λ x. p (f x)) xs) (filter (λ x. p (f x)) xs))
    by true ih = ap (λ (rest : List B). f x ∷ rest) ih
    by false ih = ih

pub first-map : {A B : Type 0} (p : B → Bool) (f : A → B) (xs : List A) → PassesFirst (λ x. p (f x)) xs → PassesFirst p (map f xs)
first-map p f [] first = tt
first-map p f (x ∷ xs) first = (All-map (λ later. p later ≡ true → p (f x) ≡ true) f xs first.0, first-map p f xs first.1)

pub All-both : {A : Type 0} (P Q : A → Type 0) (xs : List A) → AllByRecursion P xs → AllByRecursion Q xs → AllByRecursion (λ x. P x × Q x) xs
All-both P Q [] p q = tt
All-both P Q (x ∷ xs) p q = ((p.0, q.0), All-both P Q xs p.1 q.1)

pub All-of : {A : Type 0} {P : A → Type 0} (xs : List A) → ((x : A) → P x) → AllByRecursion P xs
All-of [] h = tt
All-of (x ∷ xs) h = (h x, All-of xs h)

pub All-filter : {A : Type 0} (P : A → Type 0) (p : A → Bool) (xs : List A) → AllByRecursion P xs → AllByRecursion P (filter p xs)
All-filter P p [] h = tt
All-filter P p (x ∷ xs) h = by (p x) (All-filter P p xs h.1)
  where
    by : (b : Bool) → AllByRecursion P (filter p xs) → AllByRecursion P (cond b (x ∷ filter p xs) (filter p xs))
    by true ih = (h.0, ih)
    by false ih = ih

pub All-passes : {A : Type 0} (p : A → Bool) (xs : List A) → AllByRecursion (λ x. p x ≡ true) (filter p xs)
All-passes p [] = tt
All-passes p (x ∷ xs) = by (p x) refl (All-passes p xs)
  where
    by : (b : Bool) → p x ≡ b → AllByRecursion (λ x. p x ≡ true) (filter p xs) → AllByRecursion (λ x. p x ≡ true) (cond b (x ∷ filter p xs) (filter p xs))
    by true is ih = (is, ih)
    by false is ih = ih

All-placed : {A : Type 0} (P : A → Type 0) (cmp : A → A → Ordering) (a : A) (bs : List A) → P a → AllByRecursion P bs → AllByRecursion P (placed cmp a bs)
All-placed P cmp a [] h hs = (h, tt)
All-placed {A} P cmp a (b ∷ bs) h hs = by (is_gt (cmp a b)) (All-placed P cmp a bs h hs.1)
  where
    by : (up : Bool) → AllByRecursion P (placed cmp a bs) → AllByRecursion P (if up then b ∷ placed cmp a bs else a ∷ b ∷ bs)
    by true ih = (hs.0, ih)
    by false ih = (h, hs)

pub All-ascending : {A : Type 0} (P : A → Type 0) (cmp : A → A → Ordering) (xs : List A) → AllByRecursion P xs → AllByRecursion P (ascending cmp xs)
All-ascending P cmp [] h = tt
All-ascending P cmp (x ∷ xs) h = All-placed P cmp x (ascending cmp xs) h.0 (All-ascending P cmp xs h.1)

pub first-filter : {A : Type 0} (p q : A → Bool) (xs : List A) → PassesFirst p xs → PassesFirst p (filter q xs)
first-filter p q [] first = tt
first-filter p q (x ∷ xs) first = by (q x) (first-filter p q xs first.1)
  where
    by : (b : Bool) → PassesFirst p (filter q xs) → PassesFirst p (cond b (x ∷ filter q xs) (filter q xs))
    by true ih = (All-filter (λ later. p later ≡ true → p x ≡ true) q xs first.0, ih)
    by false ih = ih

pub filter-swap : {A : Type 0} (p q : A → Bool) (xs : List A) → filter p (filter q xs) ≡ filter q (filter p xs)
filter-swap p q [] = refl
filter-swap {A} p q (x ∷ xs) = by (p x) (q x) refl refl (filter-swap p q xs)
  where
    by : (a b : Bool) → p x ≡ a → q x ≡ b → filter p (filter q xs) ≡ filter q (filter p xs) →
        filter p (cond (q x) (x ∷ filter q xs) (filter q xs)) ≡ filter q (cond (p x) (x ∷ filter p xs) (filter p xs))
    by a b is_a is_b ih =
        ap (λ t. filter p (cond t (x ∷ filter q xs) (filter q xs))) is_b
        ∙ both a b is_a is_b
        ∙ sym (ap (λ t. filter q (cond t (x ∷ filter p xs) (filter p xs))) is_a)
      where
        both : (a b : Bool) → p x ≡ a → q x ≡ b → filter p (cond b (x ∷ filter q xs) (filter q xs)) ≡ filter q (cond a (x ∷ filter p xs) (filter p xs))
        both true true is_a is_b =
            ap (λ t. cond t (x ∷ filter p (filter q xs)) (filter p (filter q xs))) is_a ∙ ap (λ (rest : List A). x ∷ rest) ih
            ∙ sym (ap (λ t. cond t (x ∷ filter q (filter p xs)) (filter q (filter p xs))) is_b)
        both true false is_a is_b = ih ∙ sym (ap (λ t. cond t (x ∷ filter q (filter p xs)) (filter q (filter p xs))) is_b)
        both false true is_a is_b = ap (λ t. cond t (x ∷ filter p (filter q xs)) (filter p (filter q xs))) is_a ∙ ih
        both false false is_a is_b = ih

-- each with all those after it, by recursion
abbrev pub Pairwise : {A : Type 0} → (A → A → Type 0) → List A → Type 0
Pairwise R [] = Unit {0}
Pairwise R (x ∷ xs) = AllByRecursion (R x) xs × Pairwise R xs

pub Pairwise-from_all : {A : Type 0} (R : A → A → Type 0) (xs : List A) → AllPairs R xs → Pairwise R xs
Pairwise-from_all R [] pairs = tt
Pairwise-from_all R (x ∷ xs) pairs = (
  recursion_from_All (R x) xs (λ i d below. pairs 0 (suc i) d (omega arith) (omega (arith, below))),
  Pairwise-from_all R xs (λ i j d low below. pairs (suc i) (suc j) d (omega (arith, low)) (omega (arith, below))),
)

pub all-from_pairwise : {A : Type 0} (R : A → A → Type 0) (xs : List A) → Pairwise R xs → AllPairs R xs
all-from_pairwise R [] pairs = λ i j d low below. absurd (omega (arith, below))
all-from_pairwise R (x ∷ xs) pairs = AllPairs-cons R x xs (All-from_recursion (R x) xs pairs.0) (all-from_pairwise R xs pairs.1)

pub Pairwise-weaker : {A : Type 0} (R S : A → A → Type 0) → ((x y : A) → R x y → S x y) → (xs : List A) → Pairwise R xs → Pairwise S xs
Pairwise-weaker R S f [] pairs = tt
Pairwise-weaker R S f (x ∷ xs) pairs = (All-weaker (R x) (S x) (f x) xs pairs.0, Pairwise-weaker R S f xs pairs.1)

pub Pairwise-both : {A : Type 0} (R S : A → A → Type 0) (xs : List A) → Pairwise R xs → Pairwise S xs → Pairwise (λ x y. R x y × S x y) xs
Pairwise-both R S [] r s = tt
Pairwise-both R S (x ∷ xs) r s = (All-both (R x) (S x) xs r.0 s.0, Pairwise-both R S xs r.1 s.1)

-- what holds of each holds of both in each pair
pub Pairwise-each : {A : Type 0} (P : A → Type 0) (xs : List A) → AllByRecursion P xs → Pairwise (λ x y. P x × P y) xs
Pairwise-each P [] h = tt
Pairwise-each P (x ∷ xs) h = (All-weaker P (λ y. P x × P y) (λ y q. (h.0, q)) xs h.1, Pairwise-each P xs h.1)

pub Pairwise-map : {A B : Type 0} (R : B → B → Type 0) (f : A → B) (xs : List A) → Pairwise (λ x y. R (f x) (f y)) xs → Pairwise R (map f xs)
Pairwise-map R f [] pairs = tt
Pairwise-map R f (x ∷ xs) pairs = (All-map (R (f x)) f xs pairs.0, Pairwise-map R f xs pairs.1)

pub Pairwise-filter : {A : Type 0} (R : A → A → Type 0) (p : A → Bool) (xs : List A) → Pairwise R xs → Pairwise R (filter p xs)
Pairwise-filter R p [] pairs = tt
Pairwise-filter R p (x ∷ xs) pairs = by (p x) (Pairwise-filter R p xs pairs.1)
  where
    by : (b : Bool) → Pairwise R (filter p xs) → Pairwise R (cond b (x ∷ filter p xs) (filter p xs))
    by true ih = (All-filter (R x) p xs pairs.0, ih)
    by false ih = ih

All-from_filter : {A : Type 0} (P : A → Type 0) (p : A → Bool) (xs : List A) → AllByRecursion P (filter p xs) → AllByRecursion (λ x. p x ≡ true → P x) xs
All-from_filter P p [] h = tt
All-from_filter {A} P p (x ∷ xs) h = by (p x) refl h (All-from_filter P p xs)
  where
    by : (b : Bool) → p x ≡ b → AllByRecursion P (cond b (x ∷ filter p xs) (filter p xs)) →
        (AllByRecursion P (filter p xs) → AllByRecursion (λ (y : A). p y ≡ true → P y) xs) → AllByRecursion (λ (y : A). p y ≡ true → P y) (x ∷ xs)
    by true is h rest = (λ _. h.0, rest h.1)
    by false is h rest = (λ e. absurd (true≢false (sym e ∙ is)), rest h)

-- a relation on the members that pass, if both do
pub Pairwise-from_filter : {A : Type 0} (R : A → A → Type 0) (p : A → Bool) (xs : List A) → Pairwise R (filter p xs) → Pairwise (λ x y. p x ≡ true → p y ≡ true → R x y) xs
Pairwise-from_filter R p [] pairs = tt
Pairwise-from_filter {A} R p (x ∷ xs) pairs = by (p x) refl pairs (Pairwise-from_filter R p xs)
  where
    by : (b : Bool) → p x ≡ b → Pairwise R (cond b (x ∷ filter p xs) (filter p xs)) →
        (Pairwise R (filter p xs) → Pairwise (λ (y z : A). p y ≡ true → p z ≡ true → R y z) xs) → Pairwise (λ (y z : A). p y ≡ true → p z ≡ true → R y z) (x ∷ xs)
    by true is pairs rest = (
      All-weaker (λ y. p y ≡ true → R x y) (λ y. p x ≡ true → p y ≡ true → R x y) (λ y h _. h) xs (All-from_filter (R x) p xs pairs.0),
      rest pairs.1,
    )
    by false is pairs rest = (All-of {P = λ y. p x ≡ true → p y ≡ true → R x y} xs (λ y e. absurd (true≢false (sym e ∙ is))), rest pairs)
