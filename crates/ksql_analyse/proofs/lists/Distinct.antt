-- Names that differ: one more after them, and their parts one after the other.
use Rattle.std.proofs.Common.{◌≡◌, ℕ, zero, suc, ◌<◌, ◌==◌, arith, Bool, true, false, not, ◌&&◌, ◌||◌, if◌then◌else◌, List, [], ◌∷◌, ◌++◌, map, refl, ap, ap₂, sym, ◌∙◌}
use Rattle.std.specs.Prelude.{filter, bytes_eq}
use Rattle.std.specs.List.{list_any, list_all}
use Rattle.std.proofs.lemmas.Slice.Eq.{bytes_eq-Decides}
use Rattle.std.proofs.lemmas.List.Folds.{list_any-append, list_all-append}
use Rattle.std.proofs.lemmas.List.{append-nil}
use Rattle.std.proofs.lemmas.Bool.{and_parts, and_from}
use Rattle.ksql_types.specs.Names.{is_among, are_distinct}

pub same-bytes : (s t : List ℕ) → bytes_eq s t ≡ bytes_eq t s
same-bytes s t = at (bytes_eq s t) (bytes_eq t s) refl refl
  where
    at : (a b : Bool) → bytes_eq s t ≡ a → bytes_eq t s ≡ b → bytes_eq s t ≡ bytes_eq t s
    at true b h k = h ∙ sym ((bytes_eq-Decides t s).1 (sym ((bytes_eq-Decides s t).0 h)))
    at false true h k = (bytes_eq-Decides s t).1 (sym ((bytes_eq-Decides t s).0 k)) ∙ sym k
    at false false h k = h ∙ sym k

pub or-false : (a b : Bool) → (a || b) ≡ false → (a ≡ false) × (b ≡ false)
or-false true b h = absurd (cc (h))
or-false false b h = (refl, h)

pub false-or : (a b : Bool) → a ≡ false → b ≡ false → (a || b) ≡ false
false-or a b h k = ap₂ (λ x y. x || y) h k

pub not-true : (b : Bool) → b ≡ false → not b ≡ true
not-true b h = ap not h

pub true-not : (b : Bool) → not b ≡ true → b ≡ false
true-not true h = absurd (cc (h))
true-not false h = refl

-- a number that isn't zero
pub not-zero : (n : ℕ) → (n == 0) ≡ false → 0 < n
not-zero zero h = absurd (cc (h))
not-zero (suc n) h = omega arith

-- what is false beside what is true
pub and-false : (a b : Bool) → a ≡ true → (a && b) ≡ false → b ≡ false
and-false true b h k = k
and-false false b h k = absurd (cc (h))

-- one more among them
pub distinct-insert : (name : List ℕ) (xs ys : List (List ℕ)) → are_distinct (xs ++ ys) ≡ true → is_among (xs ++ ys) name ≡ false → are_distinct (xs ++ name ∷ ys) ≡ true
distinct-insert name [] ys h k = and_from (not (is_among ys name)) (are_distinct ys) (not-true (is_among ys name) k) h
distinct-insert name (x ∷ xs) ys h k =
    let d = and_parts (not (is_among (xs ++ ys) x)) (are_distinct (xs ++ ys)) h in
    let o = or-false (bytes_eq name x) (is_among (xs ++ ys) name) k in
    let parts = or-false (is_among xs x) (is_among ys x) (sym (list_any-append (bytes_eq x) xs ys) ∙ true-not (is_among (xs ++ ys) x) d.0) in
    let none : is_among (xs ++ name ∷ ys) x ≡ false =
    list_any-append (bytes_eq x) xs (name ∷ ys)
    ∙ false-or (is_among xs x) (bytes_eq x name || is_among ys x) parts.0 (false-or (bytes_eq x name) (is_among ys x) (same-bytes x name ∙ o.0) parts.1) in
    and_from (not (is_among (xs ++ name ∷ ys) x)) (are_distinct (xs ++ name ∷ ys)) (not-true (is_among (xs ++ name ∷ ys) x) none) (distinct-insert name xs ys d.1 o.1)

pub distinct-push : (name : List ℕ) (xs : List (List ℕ)) → are_distinct xs ≡ true → is_among xs name ≡ false → are_distinct (xs ++ name ∷ []) ≡ true
distinct-push name xs h k =
    distinct-insert name xs [] (ap are_distinct (append-nil xs) ∙ h) (ap (λ l. is_among l name) (append-nil xs) ∙ k)

-- ---- what passes, and then what doesn't

module _ {A : Type 0} (f : A → List ℕ) (p : A → Bool) where
  abbrev pub parted : List A → List (List ℕ)
  parted xs = map f (filter p xs) ++ map f (filter (λ x. not (p x)) xs)

  swap-or : (a b c : Bool) → (b || (a || c)) ≡ (a || (b || c))
  swap-or true true c = refl
  swap-or true false c = refl
  swap-or false true c = refl
  swap-or false false c = refl

  any-at : (test : List ℕ → Bool) (b : Bool) (x : A) (ys zs : List A)
      → list_any test (map f (if b then x ∷ ys else ys) ++ map f (if not b then x ∷ zs else zs)) ≡ (test (f x) || list_any test (map f ys ++ map f zs))
  any-at test true x ys zs = refl
  any-at test false x ys zs =
      list_any-append test (map f ys) (f x ∷ map f zs) ∙ swap-or (test (f x)) (list_any test (map f ys)) (list_any test (map f zs))
      ∙ ap (λ b. test (f x) || b) (sym (list_any-append test (map f ys) (map f zs)))

  pub any-parted : (test : List ℕ → Bool) (xs : List A) → list_any test (parted xs) ≡ list_any test (map f xs)
  any-parted test [] = refl
  any-parted test (x ∷ xs) =
      any-at test (p x) x (filter p xs) (filter (λ y. not (p y)) xs) ∙ ap (λ b. test (f x) || b) (any-parted test xs)

  swap-and : (a b c : Bool) → (b && (a && c)) ≡ (a && (b && c))
  swap-and true true c = refl
  swap-and true false c = refl
  swap-and false true c = refl
  swap-and false false c = refl

  all-at : (test : List ℕ → Bool) (b : Bool) (x : A) (ys zs : List A)
      → list_all test (map f (if b then x ∷ ys else ys) ++ map f (if not b then x ∷ zs else zs)) ≡ (test (f x) && list_all test (map f ys ++ map f zs))
  all-at test true x ys zs = refl
  all-at test false x ys zs =
      list_all-append test (map f ys) (f x ∷ map f zs) ∙ swap-and (test (f x)) (list_all test (map f ys)) (list_all test (map f zs))
      ∙ ap (λ b. test (f x) && b) (sym (list_all-append test (map f ys) (map f zs)))

  pub all-parted : (test : List ℕ → Bool) (xs : List A) → list_all test (parted xs) ≡ list_all test (map f xs)
  all-parted test [] = refl
  all-parted test (x ∷ xs) =
      all-at test (p x) x (filter p xs) (filter (λ y. not (p y)) xs) ∙ ap (λ b. test (f x) && b) (all-parted test xs)

  distinct-at : (b : Bool) (x : A) (ys zs : List A) → are_distinct (map f ys ++ map f zs) ≡ true → is_among (map f ys ++ map f zs) (f x) ≡ false
      → are_distinct (map f (if b then x ∷ ys else ys) ++ map f (if not b then x ∷ zs else zs)) ≡ true
  distinct-at true x ys zs h k =
      and_from (not (is_among (map f ys ++ map f zs) (f x))) (are_distinct (map f ys ++ map f zs)) (not-true (is_among (map f ys ++ map f zs) (f x)) k) h
  distinct-at false x ys zs h k = distinct-insert (f x) (map f ys) (map f zs) h k

  pub distinct-parted : (xs : List A) → are_distinct (map f xs) ≡ true → are_distinct (parted xs) ≡ true
  distinct-parted [] h = refl
  distinct-parted (x ∷ xs) h =
      let d = and_parts (not (is_among (map f xs) (f x))) (are_distinct (map f xs)) h in
      distinct-at (p x) x (filter p xs) (filter (λ y. not (p y)) xs) (distinct-parted xs d.1)
      (any-parted (bytes_eq (f x)) xs ∙ true-not (is_among (map f xs) (f x)) d.0)
