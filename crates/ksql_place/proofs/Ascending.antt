-- Lists in the order of a comparison.
use Rattle.std.proofs.Common.{◌≡◌, ◌∙◌, ap, ap₂, sym, refl, ℕ, zero, suc, add-one, List, [], ◌∷◌, ◌++◌, ◌<◌, ◌≤◌, Bool, true, false, cond, length, get_or, arith}
use Rattle.std.specs.Prelude.{filter, not, ◌&&◌, if◌then◌else◌}
use Rattle.std.specs.declared.cmp.Ordering.{Ordering}
use Rattle.std.specs.declared.cmp.Ordering.TheVariants.{Less, Equal, Greater}
use Rattle.std.specs.Ordering.{ordering_reverse, is_gt, is_lt, is_eq}
use Rattle.std.specs.Cmp.{IsTotalOrder, Equal-is}
use Rattle.std.specs.List.{All, AllByRecursion}
use Rattle.std.specs.List.Sorted.{IsPermutation, IsSorted, IsStable, ties}
use Rattle.std.proofs.lemmas.Bool.{false≢true}
use Rattle.std.proofs.lemmas.Cmp.{upto, alike_right, tied_itself}
use Rattle.std.proofs.lemmas.List.Elements.{recursion_from_All, All-head, All-tail}
use Rattle.std.proofs.lemmas.List.Sorted.{ranks_by, sorted_far, IsPermutation-refl, IsPermutation-cons, IsPermutation-trans, IsPermutation-sym, IsPermutation-middle}
use Rattle.ksql_place.specs.Ascending.{placed, ascending}

-- the meaning of a reversed comparison
gt-turned : (o p : Ordering) → o ≡ ordering_reverse p → is_gt o ≡ true → is_gt p ≡ false
gt-turned o Less h up = refl
gt-turned o Equal h up = refl
gt-turned o Greater h up = absurd (false≢true (ap is_gt (sym h) ∙ up))

lt-turned : (o p : Ordering) → o ≡ ordering_reverse p → is_lt p ≡ false → is_gt o ≡ false
lt-turned o Less h up = absurd (false≢true (sym up))
lt-turned o Equal h up = ap is_gt h
lt-turned o Greater h up = ap is_gt h

gt-turned-lt : (o p : Ordering) → o ≡ ordering_reverse p → is_gt p ≡ false → is_lt o ≡ false
gt-turned-lt o Less h up = ap is_lt h
gt-turned-lt o Equal h up = ap is_lt h
gt-turned-lt o Greater h up = absurd (false≢true (sym up))

tied-turned : (o p : Ordering) → o ≡ ordering_reverse p → is_gt o ≡ false → is_gt p ≡ false → o ≡ Equal
tied-turned o Less h o-low p-low = absurd (false≢true (sym o-low ∙ ap is_gt h))
tied-turned o Equal h o-low p-low = h
tied-turned o Greater h o-low p-low = absurd (false≢true (sym p-low))

both-turned : (o p : Ordering) → p ≡ ordering_reverse o → (not (is_lt o) && not (is_lt p)) ≡ is_eq o
both-turned Less p h = refl
both-turned Equal p h = ap (λ q. not (is_lt q)) h
both-turned Greater p h = ap (λ q. not (is_lt q)) h

-- no member is before this one
abbrev pub NoneBefore : {A : Type 0} → (A → A → Ordering) → A → List A → Type 0
NoneBefore cmp a bs = AllByRecursion (λ b. is_gt (cmp a b) ≡ false) bs

-- no member is before an earlier one
abbrev pub Ascends : {A : Type 0} → (A → A → Ordering) → List A → Type 0
Ascends cmp [] = Unit {0}
Ascends cmp (a ∷ bs) = NoneBefore cmp a bs × Ascends cmp bs

-- whether two members tie
abbrev pub tied : {A : Type 0} → (A → A → Ordering) → A → A → Bool
tied cmp a b = is_eq (cmp a b)

cond-head : {A : Type 0} (b : Bool) (u : A) (us vs : List A) → b ≡ true → cond b (u ∷ us) vs ≡ u ∷ us
cond-head b u us vs is = ap (λ (t : Bool). cond t (u ∷ us) vs) is

cond-tails : {A : Type 0} (b : Bool) (u : A) (us vs : List A) → cond b (u ∷ us) us ≡ cond b (u ∷ vs) vs → us ≡ vs
cond-tails true u us vs same = cc
cond-tails false u us vs same = same

module _ {A : Type 0} {cmp : A → A → Ordering} (total : IsTotalOrder cmp) where
  pub NoneBefore-lower : (a b : A) (cs : List A) → is_gt (cmp a b) ≡ false → NoneBefore cmp b cs → NoneBefore cmp a cs
  NoneBefore-lower a b [] low none = tt
  NoneBefore-lower a b (c ∷ cs) low none = (upto total a b c low none.0, NoneBefore-lower a b cs low none.1)

  NoneBefore-placed : (s a : A) (bs : List A) → is_gt (cmp s a) ≡ false → NoneBefore cmp s bs → NoneBefore cmp s (placed cmp a bs)
  NoneBefore-placed s a [] low none = (low, tt)
  NoneBefore-placed s a (b ∷ bs) low none =
      elim (is_gt (cmp a b)) as (λ up. NoneBefore cmp s (if up then b ∷ placed cmp a bs else a ∷ b ∷ bs))
      [ true ↦ (none.0, NoneBefore-placed s a bs low none.1) | false ↦ (low, none) ]

  Ascends-placed : (a : A) (bs : List A) → Ascends cmp bs → Ascends cmp (placed cmp a bs)
  Ascends-placed a [] up = (tt, tt)
  Ascends-placed a (b ∷ bs) up = by (is_gt (cmp a b)) refl (Ascends-placed a bs up.1)
    where
      by : (after : Bool) → is_gt (cmp a b) ≡ after → Ascends cmp (placed cmp a bs) → Ascends cmp (if after then b ∷ placed cmp a bs else a ∷ b ∷ bs)
      by true is rest = (NoneBefore-placed b a bs (gt-turned (cmp a b) (cmp b a) (total.antisymm a b) is) up.0, rest)
      by false is rest = ((is, NoneBefore-lower a b bs is up.0), up)

  -- the order ascends
  pub Ascends-ascending : (bs : List A) → Ascends cmp (ascending cmp bs)
  Ascends-ascending [] = tt
  Ascends-ascending (a ∷ bs) = Ascends-placed a (ascending cmp bs) (Ascends-ascending bs)

  IsPermutation-placed : (a : A) (bs : List A) → IsPermutation (a ∷ bs) (placed cmp a bs)
  IsPermutation-placed a [] = IsPermutation-refl (a ∷ [])
  IsPermutation-placed a (b ∷ bs) =
      elim (is_gt (cmp a b)) as (λ up. IsPermutation (a ∷ b ∷ bs) (if up then b ∷ placed cmp a bs else a ∷ b ∷ bs)) [
        | true ↦ IsPermutation-trans (a ∷ b ∷ bs) (b ∷ a ∷ bs) (b ∷ placed cmp a bs)
            (IsPermutation-sym (b ∷ a ∷ bs) (a ∷ b ∷ bs) (IsPermutation-middle (b ∷ []) a bs))
            (IsPermutation-cons b (a ∷ bs) (placed cmp a bs) (IsPermutation-placed a bs))
        | false ↦ IsPermutation-refl (a ∷ b ∷ bs)
      ]

  -- it has the same members
  pub IsPermutation-ascending : (bs : List A) → IsPermutation bs (ascending cmp bs)
  IsPermutation-ascending [] = IsPermutation-refl []
  IsPermutation-ascending (a ∷ bs) =
      IsPermutation-trans (a ∷ bs) (a ∷ ascending cmp bs) (placed cmp a (ascending cmp bs))
      (IsPermutation-cons a bs (ascending cmp bs) (IsPermutation-ascending bs))
      (IsPermutation-placed a (ascending cmp bs))

  NoneBefore-ascending : (s : A) (bs : List A) → NoneBefore cmp s bs → NoneBefore cmp s (ascending cmp bs)
  NoneBefore-ascending s [] none = tt
  NoneBefore-ascending s (b ∷ bs) none = NoneBefore-placed s b (ascending cmp bs) none.0 (NoneBefore-ascending s bs none.1)

  placed-least : (a : A) (bs : List A) → NoneBefore cmp a bs → placed cmp a bs ≡ a ∷ bs
  placed-least a [] none = refl
  placed-least a (b ∷ bs) none = ap (λ up. if up then b ∷ placed cmp a bs else a ∷ b ∷ bs) none.0

  -- a list that ascends stays as it is
  pub ascending-kept : (bs : List A) → Ascends cmp bs → ascending cmp bs ≡ bs
  ascending-kept [] up = refl
  ascending-kept (a ∷ bs) up = ap (placed cmp a) (ascending-kept bs up.1) ∙ placed-least a bs up.0

  -- the second list may be put in order by itself first
  pub ascending-again : (us vs : List A) → ascending cmp (us ++ ascending cmp vs) ≡ ascending cmp (us ++ vs)
  ascending-again [] vs = ascending-kept (ascending cmp vs) (Ascends-ascending vs)
  ascending-again (u ∷ us) vs = ap (placed cmp u) (ascending-again us vs)

  placed-append : (a : A) (us vs : List A) → NoneBefore cmp a vs → placed cmp a (us ++ vs) ≡ placed cmp a us ++ vs
  placed-append a [] vs none = placed-least a vs none
  placed-append a (u ∷ us) vs none = by (is_gt (cmp a u)) (placed-append a us vs none)
    where
      by : (up : Bool) → placed cmp a (us ++ vs) ≡ placed cmp a us ++ vs →
          (if up then u ∷ placed cmp a (us ++ vs) else a ∷ u ∷ (us ++ vs)) ≡ (if up then u ∷ placed cmp a us else a ∷ u ∷ us) ++ vs
      by true rest = ap (λ (bs : List A). u ∷ bs) rest
      by false rest = refl

  -- if none of the second list is before any of the first, each is sorted on its own
  pub ascending-append : (us vs : List A) → All (λ u. All (λ v. is_gt (cmp u v) ≡ false) vs) us → ascending cmp (us ++ vs) ≡ ascending cmp us ++ ascending cmp vs
  ascending-append [] vs apart = refl
  ascending-append (u ∷ us) vs apart =
      ap (placed cmp u) (ascending-append us vs (All-tail (λ u. All (λ v. is_gt (cmp u v) ≡ false) vs) u us apart))
      ∙ placed-append u (ascending cmp us) (ascending cmp vs)
      (NoneBefore-ascending u vs (recursion_from_All (λ v. is_gt (cmp u v) ≡ false) vs (All-head (λ u. All (λ v. is_gt (cmp u v) ≡ false) vs) u us apart)))

  module _ (p : A → Bool) where
    NoneBefore-filter : (s : A) (bs : List A) → NoneBefore cmp s bs → NoneBefore cmp s (filter p bs)
    NoneBefore-filter s [] none = tt
    NoneBefore-filter s (b ∷ bs) none =
        elim (p b) as (λ t. NoneBefore cmp s (cond t (b ∷ filter p bs) (filter p bs)))
        [ true ↦ (none.0, NoneBefore-filter s bs none.1) | false ↦ NoneBefore-filter s bs none.1 ]

    filter-gone : (a : A) (bs : List A) → p a ≡ false → filter p (placed cmp a bs) ≡ filter p bs
    filter-gone a [] gone = ap (λ t. cond t (a ∷ []) []) gone
    filter-gone a (b ∷ bs) gone = by (is_gt (cmp a b)) (filter-gone a bs gone)
      where
        by : (up : Bool) → filter p (placed cmp a bs) ≡ filter p bs → filter p (if up then b ∷ placed cmp a bs else a ∷ b ∷ bs) ≡ filter p (b ∷ bs)
        by true rest = ap (λ cs. cond (p b) (b ∷ cs) cs) rest
        by false rest = ap (λ t. cond t (a ∷ filter p (b ∷ bs)) (filter p (b ∷ bs))) gone

    filter-placed : (a : A) (bs : List A) → p a ≡ true → Ascends cmp bs → filter p (placed cmp a bs) ≡ placed cmp a (filter p bs)
    filter-placed a [] is up = ap (λ t. cond t (a ∷ []) []) is
    filter-placed a (b ∷ bs) is up = by (is_gt (cmp a b)) refl (filter-placed a bs is up.1)
      where
        after-b : (t : Bool) → is_gt (cmp a b) ≡ true → filter p (placed cmp a bs) ≡ placed cmp a (filter p bs) →
            cond t (b ∷ filter p (placed cmp a bs)) (filter p (placed cmp a bs)) ≡ placed cmp a (cond t (b ∷ filter p bs) (filter p bs))
        after-b true gt rest = ap (λ cs. b ∷ cs) rest ∙ sym (ap (λ up. if up then b ∷ placed cmp a (filter p bs) else a ∷ b ∷ filter p bs) gt)
        after-b false gt rest = rest

        by : (after : Bool) → is_gt (cmp a b) ≡ after → filter p (placed cmp a bs) ≡ placed cmp a (filter p bs) →
            filter p (if after then b ∷ placed cmp a bs else a ∷ b ∷ bs) ≡ placed cmp a (filter p (b ∷ bs))
        by true gt rest = after-b (p b) gt rest
        by false low rest =
            ap (λ t. cond t (a ∷ filter p (b ∷ bs)) (filter p (b ∷ bs))) is
            ∙ sym (placed-least a (filter p (b ∷ bs)) (NoneBefore-filter a (b ∷ bs) (low, NoneBefore-lower a b bs low up.0)))

    -- a part of the order is the order of that part
    pub filter-ascending : (bs : List A) → filter p (ascending cmp bs) ≡ ascending cmp (filter p bs)
    filter-ascending [] = refl
    filter-ascending (a ∷ bs) = by (p a) refl (filter-ascending bs)
      where
        by : (t : Bool) → p a ≡ t → filter p (ascending cmp bs) ≡ ascending cmp (filter p bs) →
            filter p (placed cmp a (ascending cmp bs)) ≡ ascending cmp (cond t (a ∷ filter p bs) (filter p bs))
        by true is rest = filter-placed a (ascending cmp bs) is (Ascends-ascending bs) ∙ ap (placed cmp a) rest
        by false is rest = filter-gone a (ascending cmp bs) is ∙ rest

  -- members that tie with a third are not before each other
  tied-both : (x a b : A) → tied cmp x a ≡ true → tied cmp x b ≡ true → is_gt (cmp a b) ≡ false
  tied-both x a b with-a with-b = ap is_gt (sym (total.congr x a b ((Equal-is (cmp x a)).0 with-a)) ∙ (Equal-is (cmp x b)).0 with-b)

  NoneBefore-tied : (x a : A) (bs : List A) → tied cmp x a ≡ true → NoneBefore cmp a (filter (tied cmp x) bs)
  NoneBefore-tied x a [] with-a = tt
  NoneBefore-tied x a (b ∷ bs) with-a = by (tied cmp x b) refl (NoneBefore-tied x a bs with-a)
    where
      by : (t : Bool) → tied cmp x b ≡ t → NoneBefore cmp a (filter (tied cmp x) bs) → NoneBefore cmp a (cond t (b ∷ filter (tied cmp x) bs) (filter (tied cmp x) bs))
      by true is rest = (tied-both x a b with-a is, rest)
      by false is rest = rest

  Ascends-tied : (x : A) (bs : List A) → Ascends cmp (filter (tied cmp x) bs)
  Ascends-tied x [] = tt
  Ascends-tied x (b ∷ bs) = by (tied cmp x b) refl (Ascends-tied x bs)
    where
      by : (t : Bool) → tied cmp x b ≡ t → Ascends cmp (filter (tied cmp x) bs) → Ascends cmp (cond t (b ∷ filter (tied cmp x) bs) (filter (tied cmp x) bs))
      by true is rest = (NoneBefore-tied x b bs is, rest)
      by false is rest = rest

  -- members that tie keep their order
  pub filter-tied : (x : A) (bs : List A) → filter (tied cmp x) (ascending cmp bs) ≡ filter (tied cmp x) bs
  filter-tied x bs = filter-ascending (tied cmp x) bs ∙ ascending-kept (filter (tied cmp x) bs) (Ascends-tied x bs)

  tied-itself : (a : A) → tied cmp a a ≡ true
  tied-itself a = ap is_eq (tied_itself total a)

  -- what none is before, no member that ties with one of these is before
  first-low : (s u y : A) (bs ys : List A) → NoneBefore cmp s bs → filter (tied cmp u) bs ≡ y ∷ ys → is_gt (cmp s u) ≡ false
  first-low s u y [] ys none some = absurd (cc (some))
  first-low s u y (b ∷ bs) ys none some = by (cmp u b) refl some (λ h. first-low s u y bs ys none.1 h)
    where
      by : (o : Ordering) → cmp u b ≡ o → cond (is_eq o) (b ∷ filter (tied cmp u) bs) (filter (tied cmp u) bs) ≡ y ∷ ys →
          (filter (tied cmp u) bs ≡ y ∷ ys → is_gt (cmp s u) ≡ false) → is_gt (cmp s u) ≡ false
      by Equal is h rest = ap is_gt (alike_right total u b s is) ∙ none.0
      by Less is h rest = rest h
      by Greater is h rest = rest h

  -- two lists that ascend are equal where their members that tie with any one are the same, in the same order
  pub same_by_ties : (us vs : List A) → Ascends cmp us → Ascends cmp vs → ((x : A) → filter (tied cmp x) us ≡ filter (tied cmp x) vs) → us ≡ vs
  same_by_ties [] [] us-up vs-up same = refl
  same_by_ties [] (v ∷ vs) us-up vs-up same = absurd (cc (same v ∙ cond-head (tied cmp v v) v (filter (tied cmp v) vs) (filter (tied cmp v) vs) (tied-itself v)))
  same_by_ties (u ∷ us) [] us-up vs-up same = absurd (cc (sym (same u) ∙ cond-head (tied cmp u u) u (filter (tied cmp u) us) (filter (tied cmp u) us) (tied-itself u)))
  same_by_ties (u ∷ us) (v ∷ vs) us-up vs-up same =
      let u-first : filter (tied cmp u) (u ∷ us) ≡ u ∷ filter (tied cmp u) us = cond-head (tied cmp u u) u (filter (tied cmp u) us) (filter (tied cmp u) us) (tied-itself u) in
      let v-first : filter (tied cmp v) (v ∷ vs) ≡ v ∷ filter (tied cmp v) vs = cond-head (tied cmp v v) v (filter (tied cmp v) vs) (filter (tied cmp v) vs) (tied-itself v) in
      let itself = λ (a : A). ap is_gt (tied_itself total a) in
      let v-low : is_gt (cmp v u) ≡ false = first-low v u u (v ∷ vs) (filter (tied cmp u) us) (itself v, vs-up.0) (sym (same u) ∙ u-first) in
      let u-low : is_gt (cmp u v) ≡ false = first-low u v v (u ∷ us) (filter (tied cmp v) vs) (itself u, us-up.0) (same v ∙ v-first) in
      let u-v : tied cmp u v ≡ true = ap is_eq (tied-turned (cmp u v) (cmp v u) (total.antisymm u v) u-low v-low) in
      let heads : u ∷ filter (tied cmp u) us ≡ v ∷ filter (tied cmp u) vs = sym u-first ∙ same u ∙ cond-head (tied cmp u v) v (filter (tied cmp u) vs) (filter (tied cmp u) vs) u-v in
      let firsts : u ≡ v = cc in
      let rest : us ≡ vs =
      same_by_ties us vs us-up.1 vs-up.1
      (λ x. cond-tails (tied cmp x u) u (filter (tied cmp x) us) (filter (tied cmp x) vs)
      (same x ∙ ap (λ (a : A). cond (tied cmp x a) (a ∷ filter (tied cmp x) vs) (filter (tied cmp x) vs)) (sym firsts))) in
      ap₂ (λ (a : A) (bs : List A). a ∷ bs) firsts rest

  -- a sort that keeps the order of ties gives what is ascending
  ties-tied : (x y : A) → ties (λ a b. is_lt (cmp a b)) x y ≡ tied cmp x y
  ties-tied x y = both-turned (cmp x y) (cmp y x) (total.antisymm y x)

  pub IsStable-ascending : (bs : List A) → IsStable cmp bs (ascending cmp bs)
  IsStable-ascending bs =
      λ x. ap (λ (p : A → Bool). filter p (ascending cmp bs)) (λ i y. ties-tied x y i) ∙ filter-tied x bs ∙ ap (λ (p : A → Bool). filter p bs) (λ i y. sym (ties-tied x y) i)

  none_before-from_far : (s : A) (bs : List A) → ((j : ℕ) (d : A) → j < length bs → is_lt (cmp (get_or bs j d) s) ≡ false) → NoneBefore cmp s bs
  none_before-from_far s [] far = tt
  none_before-from_far s (b ∷ bs) far = (
    lt-turned (cmp s b) (cmp b s) (total.antisymm s b) (far 0 b (omega arith)),
    none_before-from_far s bs (λ j d below. far (suc j) d (omega (arith, below))),
  )

  ascends-from_far : (bs : List A) → ((i j : ℕ) (d : A) → i ≤ j → j < length bs → is_lt (cmp (get_or bs j d) (get_or bs i d)) ≡ false) → Ascends cmp bs
  ascends-from_far [] far = tt
  ascends-from_far (b ∷ bs) far = (
    none_before-from_far b bs (λ j d below. far 0 (suc j) d (omega arith) (omega (arith, below))),
    ascends-from_far bs (λ i j d up below. far (suc i) (suc j) d (omega (arith, up)) (omega (arith, below))),
  )

  pub Ascends-from_sort : (bs : List A) → IsSorted cmp bs → Ascends cmp bs
  Ascends-from_sort bs sorted = ascends-from_far bs (sorted_far (λ a b. is_lt (cmp a b)) (ranks_by total (λ a. a)) bs sorted)

  pub sorted-ascending : (before after : List A) → IsSorted cmp after → IsStable cmp before after → after ≡ ascending cmp before
  sorted-ascending before after sorted stable =
      same_by_ties after (ascending cmp before) (Ascends-from_sort after sorted) (Ascends-ascending before)
      (λ x. ap (λ (p : A → Bool). filter p after) (λ i y. sym (ties-tied x y) i) ∙ stable x ∙ ap (λ (p : A → Bool). filter p before) (λ i y. ties-tied x y i) ∙ sym (filter-tied x before))

  sorted-from_ascends : (bs : List A) → Ascends cmp bs → (i : ℕ) (d : A) → suc i < length bs → is_lt (cmp (get_or bs (suc i) d) (get_or bs i d)) ≡ false
  sorted-from_ascends [] up i d below = absurd (omega (arith, below))
  sorted-from_ascends (b ∷ []) up i d below = absurd (omega (arith, below))
  sorted-from_ascends (b ∷ c ∷ bs) up zero d below = gt-turned-lt (cmp c b) (cmp b c) (total.antisymm c b) up.0.0
  sorted-from_ascends (b ∷ c ∷ bs) up (suc i) d below = sorted-from_ascends (c ∷ bs) up.1 i d (omega (arith, below))

  pub IsSorted-from_ascends : (bs : List A) → Ascends cmp bs → IsSorted cmp bs
  IsSorted-from_ascends bs up = λ i d _ below. rw add-one (sorted-from_ascends bs up i d (omega (arith, below)))

  NoneBefore-append : (s : A) (us vs : List A) → NoneBefore cmp s us → NoneBefore cmp s vs → NoneBefore cmp s (us ++ vs)
  NoneBefore-append s [] vs us-none vs-none = vs-none
  NoneBefore-append s (u ∷ us) vs us-none vs-none = (us-none.0, NoneBefore-append s us vs us-none.1 vs-none)

  -- of two lists that ascend, the first list's head goes first unless it is after the other's
  pub merge-left : (a b : A) (us vs : List A) → is_gt (cmp a b) ≡ false → Ascends cmp (a ∷ us) → Ascends cmp (b ∷ vs) →
      ascending cmp ((a ∷ us) ++ b ∷ vs) ≡ a ∷ ascending cmp (us ++ b ∷ vs)
  merge-left a b us vs low us-up vs-up =
      placed-least a (ascending cmp (us ++ b ∷ vs))
      (NoneBefore-ascending a (us ++ b ∷ vs) (NoneBefore-append a us (b ∷ vs) us-up.0 (low, NoneBefore-lower a b vs low vs-up.0)))

  all_after : (a b : A) (us : List A) → is_gt (cmp a b) ≡ true → NoneBefore cmp a us → AllByRecursion (λ u. is_gt (cmp u b) ≡ true) us
  all_after a b [] gt none = tt
  all_after a b (u ∷ us) gt none = (by (is_gt (cmp u b)) refl, all_after a b us gt none.1)
    where
      by : (after : Bool) → is_gt (cmp u b) ≡ after → is_gt (cmp u b) ≡ true
      by true is = is
      by false is = absurd (false≢true (sym (upto total a u b none.0 is) ∙ gt))

  least-first : (b : A) (us vs : List A) → AllByRecursion (λ u. is_gt (cmp u b) ≡ true) us → NoneBefore cmp b vs → ascending cmp (us ++ b ∷ vs) ≡ b ∷ ascending cmp (us ++ vs)
  least-first b [] vs after none = placed-least b (ascending cmp vs) (NoneBefore-ascending b vs none)
  least-first b (u ∷ us) vs after none =
      ap (placed cmp u) (least-first b us vs after.1 none)
      ∙ ap (λ up. if up then b ∷ placed cmp u (ascending cmp (us ++ vs)) else u ∷ b ∷ ascending cmp (us ++ vs)) after.0

  -- otherwise the first of the other does
  pub merge-right : (a b : A) (us vs : List A) → is_gt (cmp a b) ≡ true → Ascends cmp (a ∷ us) → Ascends cmp (b ∷ vs) →
      ascending cmp ((a ∷ us) ++ b ∷ vs) ≡ b ∷ ascending cmp ((a ∷ us) ++ vs)
  merge-right a b us vs gt us-up vs-up = least-first b (a ∷ us) vs (gt, all_after a b us gt us-up.0) vs-up.0
