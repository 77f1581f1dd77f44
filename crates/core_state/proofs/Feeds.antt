-- Lists in an order that keeps feeds together, and their parts by feeds.
use mathlib.Core.Logic.{inl, inr}
use Rattle.std.specs.Cmp.{IsTotalOrder}
use Rattle.std.specs.Ordering.{nat_cmp, ordering_then, is_gt}
use Rattle.std.specs.Prelude.{All, filter, nat_lt, nat_le, ◌&&◌, if◌then◌else◌}
use Rattle.std.specs.declared.cmp.Ordering.{Ordering}
use Rattle.std.specs.declared.cmp.Ordering.TheVariants.{Less, Equal, Greater}
use Rattle.std.proofs.Common.{◌⊎◌, ◌≡◌, ◌∙◌, ap, ap₂, sym, refl, subst, ℕ, List, [], ◌∷◌, ◌++◌, ◌<◌, ◌≤◌, arith, Bool, true, false, cond}
use Rattle.std.proofs.lemmas.Bool.{false≢true}
use Rattle.std.proofs.lemmas.Bool.Decides.{nat_tests}
use Rattle.std.proofs.lemmas.Cmp.{on_total}
use Rattle.std.proofs.lemmas.List.Elements.{All-head, All-tail, All-cons, All-nil}
use Rattle.ksql_place.specs.Ascending.{placed, ascending}
use Rattle.ksql_place.specs.Routing.{change_cmp}
use Rattle.ksql_place.specs.declared.change.Change.{Change}
use Rattle.ksql_place.proofs.Ascending.{NoneBefore, Ascends}
use Rattle.ksql_place.proofs.Orders.{place_total}
use Rattle.core_state.specs.State.{feed_of}
use Rattle.core_state.specs.Wired.{is_between, between}

-- ---- the order of changes

pub change_total : IsTotalOrder change_cmp
change_total = on_total (λ (x : Change). x.place) place_total

pub change_rises : (x y : Change) → is_gt (change_cmp x y) ≡ false → feed_of x ≤ feed_of y
change_rises x y h = feeds x.place.stamp.feed y.place.stamp.feed _ _ h
  where
    feeds : (a b : ℕ) (o p : Ordering) → is_gt (ordering_then (ordering_then (nat_cmp a b) o) p) ≡ false → a ≤ b
    feeds a b o p h = by (nat_cmp a b) refl h
      where
        by : (c : Ordering) → nat_cmp a b ≡ c → is_gt (ordering_then (ordering_then c o) p) ≡ false → a ≤ b
        by Less is h = grind (arith, nat_tests)
        by Equal is h = grind (arith, nat_tests)
        by Greater is h = absurd (false≢true (sym h))

-- ---- members of what is put in order

module _ {A : Type 0} (cmp : A → A → Ordering) where
  All-placed : (P : A → Type 0) (a : A) (bs : List A) → P a → All P bs → All P (placed cmp a bs)
  All-placed P a [] h k = All-cons P a [] h (All-nil P)
  All-placed P a (b ∷ bs) h k = by (is_gt (cmp a b)) (All-placed P a bs h (All-tail P b bs k))
    where
      by : (up : Bool) → All P (placed cmp a bs) → All P (if up then b ∷ placed cmp a bs else a ∷ b ∷ bs)
      by true rest = All-cons P b (placed cmp a bs) (All-head P b bs k) rest
      by false rest = All-cons P a (b ∷ bs) h k

  pub All-ascending : (P : A → Type 0) (bs : List A) → All P bs → All P (ascending cmp bs)
  All-ascending P [] h = h
  All-ascending P (b ∷ bs) h = All-placed P b (ascending cmp bs) (All-head P b bs h) (All-ascending P bs (All-tail P b bs h))

-- ---- parts by feeds

and_true : (a b : Bool) → a ≡ true → b ≡ true → (a && b) ≡ true
and_true true true f g = refl
and_true true false f g = g
and_true false b f g = f

and_false_left : (a b : Bool) → a ≡ false → (a && b) ≡ false
and_false_left true b f = absurd (cc (f))
and_false_left false b f = refl

and_false_right : (a b : Bool) → b ≡ false → (a && b) ≡ false
and_false_right true b f = f
and_false_right false b f = refl

le_true : (a b : ℕ) → a ≤ b → nat_le a b ≡ true
le_true a b h = grind (arith, nat_tests)

le_false : (a b : ℕ) → b < a → nat_le a b ≡ false
le_false a b h = grind (arith, nat_tests)

lt_true : (a b : ℕ) → a < b → nat_lt a b ≡ true
lt_true a b h = grind (arith, nat_tests)

lt_false : (a b : ℕ) → b ≤ a → nat_lt a b ≡ false
lt_false a b h = grind (arith, nat_tests)

pub nat_cases : (a b : ℕ) → (a ≤ b) ⊎ (b < a)
nat_cases a b = by (nat_le a b) refl
  where
    by : (k : Bool) → nat_le a b ≡ k → (a ≤ b) ⊎ (b < a)
    by true is = inl (grind (arith, nat_tests))
    by false is = inr (grind (arith, nat_tests))

module _ {A : Type 0} (feed : A → ℕ) where
  pub in_it : (a b : ℕ) (x : A) → a < feed x → feed x ≤ b → is_between feed a b x ≡ true
  in_it a b x low high = and_true (nat_lt a (feed x)) (nat_le (feed x) b) (lt_true a (feed x) low) (le_true (feed x) b high)

  pub above_it : (a b : ℕ) (x : A) → b < feed x → is_between feed a b x ≡ false
  above_it a b x high = and_false_right (nat_lt a (feed x)) (nat_le (feed x) b) (le_false (feed x) b high)

  pub below_it : (a b : ℕ) (x : A) → feed x ≤ a → is_between feed a b x ≡ false
  below_it a b x low = and_false_left (nat_lt a (feed x)) (nat_le (feed x) b) (lt_false a (feed x) low)

  pub cons_kept : (p : A → Bool) (x : A) (xs : List A) → p x ≡ true → filter p (x ∷ xs) ≡ x ∷ filter p xs
  cons_kept p x xs is = ap (λ k. cond k (x ∷ filter p xs) (filter p xs)) is

  pub cons_gone : (p : A → Bool) (x : A) (xs : List A) → p x ≡ false → filter p (x ∷ xs) ≡ filter p xs
  cons_gone p x xs is = ap (λ k. cond k (x ∷ filter p xs) (filter p xs)) is

  pub between-all : (a b : ℕ) (xs : List A) → All (λ x. (a < feed x) × (feed x ≤ b)) xs → between feed a b xs ≡ xs
  between-all a b [] h = refl
  between-all a b (x ∷ xs) h =
      let first = All-head (λ x. (a < feed x) × (feed x ≤ b)) x xs h in
      cons_kept (is_between feed a b) x xs (in_it a b x first.0 first.1)
      ∙ ap (λ l. x ∷ l) (between-all a b xs (All-tail (λ x. (a < feed x) × (feed x ≤ b)) x xs h))

  pub between-above : (a b : ℕ) (xs : List A) → All (λ x. b < feed x) xs → between feed a b xs ≡ []
  between-above a b [] h = refl
  between-above a b (x ∷ xs) h = cons_gone (is_between feed a b) x xs (above_it a b x (All-head (λ x. b < feed x) x xs h)) ∙ between-above a b xs (All-tail (λ x. b < feed x) x xs h)

  pub between-below : (a b : ℕ) (xs : List A) → All (λ x. feed x ≤ a) xs → between feed a b xs ≡ []
  between-below a b [] h = refl
  between-below a b (x ∷ xs) h = cons_gone (is_between feed a b) x xs (below_it a b x (All-head (λ x. feed x ≤ a) x xs h)) ∙ between-below a b xs (All-tail (λ x. feed x ≤ a) x xs h)

  pub All-between : (a b : ℕ) (xs : List A) → All (λ x. (a < feed x) × (feed x ≤ b)) (between feed a b xs)
  All-between a b [] = All-nil (λ x. (a < feed x) × (feed x ≤ b))
  All-between a b (x ∷ xs) = by (nat_cases (feed x) b) (nat_cases (feed x) a) (All-between a b xs)
    where
      P : A → Type 0
      P = λ x. (a < feed x) × (feed x ≤ b)

      gone : is_between feed a b x ≡ false → All P (between feed a b xs) → All P (between feed a b (x ∷ xs))
      gone is rest = subst (All P) (sym (cons_gone (is_between feed a b) x xs is)) rest

      by : (feed x ≤ b) ⊎ (b < feed x) → (feed x ≤ a) ⊎ (a < feed x) → All P (between feed a b xs) → All P (between feed a b (x ∷ xs))
      by (inr high) low rest = gone (above_it a b x high) rest
      by (inl high) (inl low) rest = gone (below_it a b x low) rest
      by (inl high) (inr low) rest =
          subst (All P) (sym (cons_kept (is_between feed a b) x xs (in_it a b x low high))) (All-cons P x (between feed a b xs) (low, high) rest)

  -- feeds of feeds
  pub between-within : (a b c d : ℕ) (xs : List A) → c ≤ a → b ≤ d → between feed a b (between feed c d xs) ≡ between feed a b xs
  between-within a b c d [] low high = refl
  between-within a b c d (x ∷ xs) low high = by (nat_cases (feed x) d) (nat_cases (feed x) c) (between-within a b c d xs low high)
    where
      gone : is_between feed c d x ≡ false → is_between feed a b x ≡ false → between feed a b (between feed c d xs) ≡ between feed a b xs → between feed a b (between feed c d (x ∷ xs)) ≡ between feed a b (x ∷ xs)
      gone outer inner rest = ap (between feed a b) (cons_gone (is_between feed c d) x xs outer) ∙ rest ∙ sym (cons_gone (is_between feed a b) x xs inner)

      by : (feed x ≤ d) ⊎ (d < feed x) → (feed x ≤ c) ⊎ (c < feed x) → between feed a b (between feed c d xs) ≡ between feed a b xs → between feed a b (between feed c d (x ∷ xs)) ≡ between feed a b (x ∷ xs)
      by (inr up) under rest = gone (above_it c d x up) (above_it a b x (omega (arith, up, high))) rest
      by (inl up) (inl under) rest = gone (below_it c d x under) (below_it a b x (omega (arith, under, low))) rest
      by (inl up) (inr under) rest =
          ap (between feed a b) (cons_kept (is_between feed c d) x xs (in_it c d x under up))
          ∙ ap (λ l. cond (is_between feed a b x) (x ∷ l) l) rest

  module _ (cmp : A → A → Ordering) (rises : (x y : A) → is_gt (cmp x y) ≡ false → feed x ≤ feed y) where
    above-all : (b : ℕ) (x : A) (xs : List A) → b < feed x → NoneBefore cmp x xs → All (λ y. b < feed y) xs
    above-all b x [] high none = All-nil (λ y. b < feed y)
    above-all b x (y ∷ ys) high none = All-cons (λ y. b < feed y) y ys (omega (arith, high, rises x y none.0)) (above-all b x ys high none.1)

    -- a list in order is its earlier feeds and then its later ones
    pub between-parts : (a b c : ℕ) (xs : List A) → a ≤ b → b ≤ c → Ascends cmp xs → between feed a c xs ≡ between feed a b xs ++ between feed b c xs
    between-parts a b c [] ab bc up = refl
    between-parts a b c (x ∷ xs) ab bc up = by (nat_cases (feed x) b) (nat_cases (feed x) a) (between-parts a b c xs ab bc up.1)
      where
        by : (feed x ≤ b) ⊎ (b < feed x) → (feed x ≤ a) ⊎ (a < feed x) → between feed a c xs ≡ between feed a b xs ++ between feed b c xs → between feed a c (x ∷ xs) ≡ between feed a b (x ∷ xs) ++ between feed b c (x ∷ xs)
        by (inr high) low rest =
            let all : All (λ y. b < feed y) (x ∷ xs) = All-cons (λ y. b < feed y) x xs high (above-all b x xs high up.0) in
            let none : between feed a b (x ∷ xs) ≡ [] = between-above a b (x ∷ xs) all in
            same (x ∷ xs) all ∙ ap (λ l. l ++ between feed b c (x ∷ xs)) (sym none)
          where
            same : (ys : List A) → All (λ y. b < feed y) ys → between feed a c ys ≡ between feed b c ys
            same [] h = refl
            same (y ∷ ys) h =
                let first : b < feed y = All-head (λ y. b < feed y) y ys h in
                ap₂ (λ k l. cond k (y ∷ l) l)
                (ap₂ (λ j k. j && k) (lt_true a (feed y) (omega (arith, first, ab)) ∙ sym (lt_true b (feed y) first)) refl)
                (same ys (All-tail (λ y. b < feed y) y ys h))
        by (inl high) (inl low) rest =
            cons_gone (is_between feed a c) x xs (below_it a c x low) ∙ rest
            ∙ ap₂ (λ us vs. us ++ vs) (sym (cons_gone (is_between feed a b) x xs (below_it a b x low))) (sym (cons_gone (is_between feed b c) x xs (below_it b c x high)))
        by (inl high) (inr low) rest =
            cons_kept (is_between feed a c) x xs (in_it a c x low (omega (arith, high, bc))) ∙ ap (λ l. x ∷ l) rest
            ∙ ap₂ (λ us vs. us ++ vs) (sym (cons_kept (is_between feed a b) x xs (in_it a b x low high))) (sym (cons_gone (is_between feed b c) x xs (below_it b c x high)))
