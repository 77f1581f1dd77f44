-- A list where each item occurs once: what it contains, and how it grows at its end.
use Rattle.std.proofs.Common.{◌≡◌, ℕ, ◌<◌, suc, zero, Bool, true, false, if◌then◌else◌, ◌||◌, List, [], ◌∷◌, ◌++◌, map, length, get_or, reverse, All, AllPairs, refl, sym, ap, ap₂, ◌∙◌, true≢false, arith}
use Rattle.std.proofs.lemmas.List.{reverse-append}
use Rattle.std.proofs.lemmas.List.Elements.{All-head, All-tail, All-cons}
use Rattle.std.proofs.lemmas.List.Folds.{list_any-append}
use Rattle.std.proofs.lemmas.List.Sums.{fold-append}
use Rattle.std.proofs.lemmas.Map.Steps.{list_any_congr}
use Rattle.std.specs.Cmp.{IsEquivalence}
use Rattle.std.specs.List.{list_any}
use Rattle.indexmap.specs.IndexSet.{insert_key, insert_all}
use Rattle.state_store.specs.Store.{last_of_each}

first_false : (a b : Bool) → (a || b) ≡ false → a ≡ false
first_false true b e = e
first_false false b e = refl

second_false : (a b : Bool) → (a || b) ≡ false → b ≡ false
second_false true b e = absurd (true≢false e)
second_false false b e = e

or_true : (b : Bool) → (b || true) ≡ true
or_true true = refl
or_true false = refl

or_comm : (a b : Bool) → (a || b) ≡ (b || a)
or_comm true b = sym (or_true b)
or_comm false true = refl
or_comm false false = refl

or_false : (a : Bool) → (a || false) ≡ a
or_false true = refl
or_false false = refl

known_or : (a b : Bool) → (a ≡ true → b ≡ true) → b ≡ (a || b)
known_or true b e = e refl
known_or false b e = refl

none_equal : {X : Type 0} (test : X → Bool) (xs : List X) (d : X) (i : ℕ) → list_any test xs ≡ false → i < length xs → test (get_or xs i d) ≡ false
none_equal test [] d i none within = absurd (omega arith)
none_equal test (x ∷ xs) d zero none within = first_false (test x) (list_any test xs) none
none_equal test (x ∷ xs) d (suc i) none within =
    none_equal test xs d i (second_false (test x) (list_any test xs) none) (omega arith)

module _ {X : Type 0} {eq : X → X → Bool} (laws : IsEquivalence eq) where
  -- a list of items apart from each other, with one more in front
  apart_first : (x : X) (xs : List X) → list_any (eq x) xs ≡ false → AllPairs (λ x y. eq x y ≡ false) xs → AllPairs (λ x y. eq x y ≡ false) (x ∷ xs)
  apart_first x xs none rest i zero d below within = absurd (omega arith)
  apart_first x xs none rest zero (suc j) d below within = none_equal (eq x) xs d j none (omega arith)
  apart_first x xs none rest (suc i) (suc j) d below within = rest i j d (omega arith) (omega arith)

  -- it contains the items of the list, and no other
  pub list_any-last_of_each : (x : X) (ys : List X) → list_any (eq x) (last_of_each eq ys) ≡ list_any (eq x) ys
  list_any-last_of_each x [] = refl
  list_any-last_of_each x (y ∷ ys) = by (list_any (eq y) ys) refl (list_any-last_of_each x ys)
    where
      by : (b : Bool) → list_any (eq y) ys ≡ b → list_any (eq x) (last_of_each eq ys) ≡ list_any (eq x) ys → list_any (eq x) (if b then last_of_each eq ys else y ∷ last_of_each eq ys) ≡ (eq x y || list_any (eq x) ys)
      by true again rest = rest ∙ known_or (eq x y) (list_any (eq x) ys) (λ e. list_any_congr laws x y ys e ∙ again)
      by false once rest = ap (λ b. eq x y || b) rest

  -- no two of its items are equal
  pub AllPairs-last_of_each : (xs : List X) → AllPairs (λ x y. eq x y ≡ false) (last_of_each eq xs)
  AllPairs-last_of_each [] = λ i j d below within. absurd (omega arith)
  AllPairs-last_of_each (x ∷ xs) = by (list_any (eq x) xs) refl (AllPairs-last_of_each xs)
    where
      by : (b : Bool) → list_any (eq x) xs ≡ b → AllPairs (λ x y. eq x y ≡ false) (last_of_each eq xs) → AllPairs (λ x y. eq x y ≡ false) (if b then last_of_each eq xs else x ∷ last_of_each eq xs)
      by true again rest = rest
      by false once rest = apart_first x (last_of_each eq xs) (list_any-last_of_each x xs ∙ once) rest

  -- the items of a reversed list, each put at the end unless it is there already
  newest_first : List X → List X
  newest_first xs = insert_all eq [] (reverse xs)

  newest_first-cons : (x : X) (xs : List X) → newest_first (x ∷ xs) ≡ insert_key eq (newest_first xs) x
  unfolding newest_first
  newest_first-cons x xs =
      ap (insert_all eq []) (reverse-append (x ∷ []) xs) ∙ fold-append (insert_key eq) [] (reverse xs) (x ∷ [])

  list_any-insert_key : (x y : X) (ys : List X) → list_any (eq x) (insert_key eq ys y) ≡ (eq x y || list_any (eq x) ys)
  list_any-insert_key x y ys = by (list_any (eq y) ys) refl
    where
      by : (b : Bool) → list_any (eq y) ys ≡ b → list_any (eq x) (if b then ys else ys ++ y ∷ []) ≡ (eq x y || list_any (eq x) ys)
      by true there = known_or (eq x y) (list_any (eq x) ys) (λ e. list_any_congr laws x y ys e ∙ there)
      by false new = list_any-append (eq x) ys (y ∷ []) ∙ or_comm (list_any (eq x) ys) (eq x y || false) ∙ ap (λ b. b || list_any (eq x) ys) (or_false (eq x y))

  list_any-newest_first : (x : X) (ys : List X) → list_any (eq x) (newest_first ys) ≡ list_any (eq x) ys
  unfolding newest_first
  list_any-newest_first x [] = refl
  list_any-newest_first x (y ∷ ys) =
      ap (list_any (eq x)) (newest_first-cons y ys)
      ∙ list_any-insert_key x y (newest_first ys)
      ∙ ap (λ b. eq x y || b) (list_any-newest_first x ys)

  -- reversed, the items are at the places of their last occurrences
  reverse-newest_first : (xs : List X) → reverse (newest_first xs) ≡ last_of_each eq xs
  unfolding newest_first
  reverse-newest_first [] = refl
  reverse-newest_first (x ∷ xs) =
      ap reverse (newest_first-cons x xs)
      ∙ ap (λ b. reverse (if b then newest_first xs else newest_first xs ++ x ∷ [])) (list_any-newest_first x xs)
      ∙ by (list_any (eq x) xs) (reverse-newest_first xs)
    where
      by : (b : Bool) → reverse (newest_first xs) ≡ last_of_each eq xs → reverse (if b then newest_first xs else newest_first xs ++ x ∷ []) ≡ (if b then last_of_each eq xs else x ∷ last_of_each eq xs)
      by true rest = rest
      by false rest = reverse-append (newest_first xs) (x ∷ []) ∙ ap (λ ys. x ∷ ys) rest

  pub reverse-insert_all : (xs : List X) → reverse (insert_all eq [] (reverse xs)) ≡ last_of_each eq xs
  unfolding newest_first
  reverse-insert_all xs = reverse-newest_first xs

module _ {X : Type 0} (eq : X → X → Bool) (P : X → Type 0) where
  -- what holds of each item of the list
  pub All-last_of_each : (xs : List X) → All P xs → All P (last_of_each eq xs)
  All-last_of_each [] all = all
  All-last_of_each (x ∷ xs) all = by (list_any (eq x) xs) (All-last_of_each xs (All-tail P x xs all))
    where
      by : (b : Bool) → All P (last_of_each eq xs) → All P (if b then last_of_each eq xs else x ∷ last_of_each eq xs)
      by true rest = rest
      by false rest = All-cons P x (last_of_each eq xs) (All-head P x xs all) rest

  module _ {Y : Type 0} (f : X → Y) (eq' : Y → Y → Bool) (agree : (x y : X) → P x → P y → eq' (f x) (f y) ≡ eq x y) where
    list_any-map : (x : X) (ys : List X) → P x → All P ys → list_any (eq' (f x)) (map f ys) ≡ list_any (eq x) ys
    list_any-map x [] p all = refl
    list_any-map x (y ∷ ys) p all =
        ap₂ (λ a b. a || b) (agree x y p (All-head P y ys all)) (list_any-map x ys p (All-tail P y ys all))

    -- the images of items, where two are equal exactly if the items are
    pub map-last_of_each : (xs : List X) → All P xs → map f (last_of_each eq xs) ≡ last_of_each eq' (map f xs)
    map-last_of_each [] all = refl
    map-last_of_each (x ∷ xs) all =
        by (list_any (eq x) xs) (map-last_of_each xs (All-tail P x xs all))
        ∙ ap (λ b. if b then last_of_each eq' (map f xs) else f x ∷ last_of_each eq' (map f xs)) (sym (list_any-map x xs (All-head P x xs all) (All-tail P x xs all)))
      where
        by : (b : Bool) → map f (last_of_each eq xs) ≡ last_of_each eq' (map f xs) → map f (if b then last_of_each eq xs else x ∷ last_of_each eq xs) ≡ (if b then last_of_each eq' (map f xs) else f x ∷ last_of_each eq' (map f xs))
        by true rest = rest
        by false rest = ap (λ ys. f x ∷ ys) rest
