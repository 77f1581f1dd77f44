-- Lists that ascend are merged: what is due comes out in order, and the rest stays.
use Rattle.std.proofs.Common.{ap₂, sum, ◌+◌, ◌≡◌, ◌∙◌, ap, sym, refl, ℕ, zero, suc, List, [], ◌∷◌, ◌++◌, ◌<◌, Bool, true, false, cond, length, map, get_or, set, arith, append_assoc, Some, None, IfSome}
use Rattle.std.specs.Prelude.{filter, if◌then◌else◌}
use Rattle.std.proofs.lemmas.List.Sums.{sum-map, sum_by-set}
use Rattle.std.specs.List.{sum_by, AllByRecursion, flat_map}
use Rattle.std.specs.declared.cmp.Ordering.{Ordering}
use Rattle.std.specs.Ordering.{is_gt}
use Rattle.std.specs.Cmp.{IsTotalOrder}
use Rattle.std.proofs.lemmas.Bool.{false≢true}
use Rattle.std.proofs.lemmas.Cmp.{upto}
use Rattle.ksql_place.specs.Ascending.{placed, ascending}
use Rattle.ksql_place.proofs.Ascending.{NoneBefore, Ascends, NoneBefore-lower}
use Rattle.topic_log.specs.Commits.{first_if}

-- all of these are after this one
abbrev pub AllAfter : {A : Type 0} → (A → A → Ordering) → A → List A → Type 0
AllAfter cmp b us = AllByRecursion (λ u. is_gt (cmp u b) ≡ true) us

-- a list with this member, which goes before what is in front of it and not after what is behind it, and the list
-- without it
pub record Cut {A : Type 0} (cmp : A → A → Ordering) (b : A) (whole rest : List A) : Type 0 where
  pub front : List A
  pub back : List A
  pub whole_is : whole ≡ front ++ b ∷ back
  pub rest_is : rest ≡ front ++ back
  pub after : AllAfter cmp b front
  pub none : NoneBefore cmp b back

-- the members of all lists that pass a test
abbrev pub passing : {A : Type 0} → (A → Bool) → List (List A) → List A
passing p ls = flat_map (λ xs. xs) (map (filter p) ls)

-- each list ascends
abbrev pub EachAscends : {A : Type 0} → (A → A → Ordering) → List (List A) → Type 0
EachAscends cmp ls = AllByRecursion (Ascends cmp) ls

module _ {A : Type 0} {cmp : A → A → Ordering} (total : IsTotalOrder cmp) where
  placed-least : (a : A) (bs : List A) → NoneBefore cmp a bs → placed cmp a bs ≡ a ∷ bs
  placed-least a [] none = refl
  placed-least a (b ∷ bs) none = ap (λ up. if up then b ∷ placed cmp a bs else a ∷ b ∷ bs) none.0

  NoneBefore-placed : (s a : A) (bs : List A) → is_gt (cmp s a) ≡ false → NoneBefore cmp s bs → NoneBefore cmp s (placed cmp a bs)
  NoneBefore-placed s a [] low none = (low, tt)
  NoneBefore-placed s a (b ∷ bs) low none =
      elim (is_gt (cmp a b)) as (λ up. NoneBefore cmp s (if up then b ∷ placed cmp a bs else a ∷ b ∷ bs))
      [ true ↦ (none.0, NoneBefore-placed s a bs low none.1) | false ↦ (low, none) ]

  NoneBefore-ascending : (s : A) (bs : List A) → NoneBefore cmp s bs → NoneBefore cmp s (ascending cmp bs)
  NoneBefore-ascending s [] none = tt
  NoneBefore-ascending s (b ∷ bs) none = NoneBefore-placed s b (ascending cmp bs) none.0 (NoneBefore-ascending s bs none.1)

  -- the member before all others goes first
  least-first : (b : A) (us vs : List A) → AllAfter cmp b us → NoneBefore cmp b vs → ascending cmp (us ++ b ∷ vs) ≡ b ∷ ascending cmp (us ++ vs)
  least-first b [] vs after none = placed-least b (ascending cmp vs) (NoneBefore-ascending b vs none)
  least-first b (u ∷ us) vs after none =
      ap (placed cmp u) (least-first b us vs after.1 none)
      ∙ ap (λ up. if up then b ∷ placed cmp u (ascending cmp (us ++ vs)) else u ∷ b ∷ ascending cmp (us ++ vs)) after.0

  pub ascending-cut : (b : A) (whole rest : List A) → Cut cmp b whole rest → ascending cmp whole ≡ b ∷ ascending cmp rest
  ascending-cut b whole rest cut =
      ap (ascending cmp) cut.whole_is ∙ least-first b cut.front cut.back cut.after cut.none ∙ sym (ap (λ us. b ∷ ascending cmp us) cut.rest_is)

  NoneBefore-append : (s : A) (us vs : List A) → NoneBefore cmp s us → NoneBefore cmp s vs → NoneBefore cmp s (us ++ vs)
  NoneBefore-append s [] vs h k = k
  NoneBefore-append s (u ∷ us) vs h k = (h.0, NoneBefore-append s us vs h.1 k)

  AllAfter-append : (s : A) (us vs : List A) → AllAfter cmp s us → AllAfter cmp s vs → AllAfter cmp s (us ++ vs)
  AllAfter-append s [] vs h k = k
  AllAfter-append s (u ∷ us) vs h k = (h.0, AllAfter-append s us vs h.1 k)

  -- what is after a member is after one that is not after it
  pub after-higher : (a b u : A) → is_gt (cmp a b) ≡ true → is_gt (cmp a u) ≡ false → is_gt (cmp u b) ≡ true
  after-higher a b u gt low = by (is_gt (cmp u b)) refl
    where
      by : (k : Bool) → is_gt (cmp u b) ≡ k → is_gt (cmp u b) ≡ true
      by true is = is
      by false is = absurd (false≢true (sym (upto total a u b low is) ∙ gt))

  AllAfter-higher : (a b : A) (us : List A) → is_gt (cmp a b) ≡ true → NoneBefore cmp a us → AllAfter cmp b us
  AllAfter-higher a b [] gt none = tt
  AllAfter-higher a b (u ∷ us) gt none = (after-higher a b u gt none.0, AllAfter-higher a b us gt none.1)

  module _ (p : A → Bool) where
    AllAfter-filter : (s : A) (us : List A) → AllAfter cmp s us → AllAfter cmp s (filter p us)
    AllAfter-filter s [] h = tt
    AllAfter-filter s (u ∷ us) h = by (p u) (AllAfter-filter s us h.1)
      where
        by : (k : Bool) → AllAfter cmp s (filter p us) → AllAfter cmp s (cond k (u ∷ filter p us) (filter p us))
        by true rest = (h.0, rest)
        by false rest = rest

    NoneBefore-filter : (s : A) (us : List A) → NoneBefore cmp s us → NoneBefore cmp s (filter p us)
    NoneBefore-filter s [] h = tt
    NoneBefore-filter s (u ∷ us) h = by (p u) (NoneBefore-filter s us h.1)
      where
        by : (k : Bool) → NoneBefore cmp s (filter p us) → NoneBefore cmp s (cond k (u ∷ filter p us) (filter p us))
        by true rest = (h.0, rest)
        by false rest = rest

    pub Ascends-filter : (us : List A) → Ascends cmp us → Ascends cmp (filter p us)
    Ascends-filter [] h = tt
    Ascends-filter (u ∷ us) h = by (p u) (Ascends-filter us h.1)
      where
        by : (k : Bool) → Ascends cmp (filter p us) → Ascends cmp (cond k (u ∷ filter p us) (filter p us))
        by true rest = (NoneBefore-filter u us h.0, rest)
        by false rest = rest

    pub filter-kept : (x : A) (xs : List A) → p x ≡ true → filter p (x ∷ xs) ≡ x ∷ filter p xs
    filter-kept x xs is = ap (λ k. cond k (x ∷ filter p xs) (filter p xs)) is

    pub filter-gone : (x : A) (xs : List A) → p x ≡ false → filter p (x ∷ xs) ≡ filter p xs
    filter-gone x xs is = ap (λ k. cond k (x ∷ filter p xs) (filter p xs)) is

    -- none of these lists has a passing member before this one
    NoneBefore-passing : (s : A) (ls : List (List A)) → ((j : ℕ) → j < length ls → NoneBefore cmp s (filter p (get_or ls j []))) → NoneBefore cmp s (passing p ls)
    NoneBefore-passing s [] h = tt
    NoneBefore-passing s (l ∷ ls) h =
        NoneBefore-append s (filter p l) (passing p ls) (h 0 (omega arith)) (NoneBefore-passing s ls (λ j below. h (suc j) (omega (arith, below))))

    -- the passing members of all lists, cut at the first member of one of them
    pub passing-cut : (ls : List (List A)) (i : ℕ) (x : A) (rest : List A) → i < length ls → get_or ls i [] ≡ x ∷ rest → p x ≡ true → NoneBefore cmp x rest →
        ((j : ℕ) → j < i → AllAfter cmp x (filter p (get_or ls j []))) →
        ((j : ℕ) → i < j → j < length ls → NoneBefore cmp x (filter p (get_or ls j []))) →
        Cut cmp x (passing p ls) (passing p (set ls i rest))
    passing-cut [] i x rest within at passes none before behind = absurd (omega (arith, within))
    passing-cut (l ∷ ls) zero x rest within at passes none before behind = record {
      front = [];
      back = filter p rest ++ passing p ls;
      whole_is = ap (λ us. filter p us ++ passing p ls) at ∙ ap (λ us. us ++ passing p ls) (filter-kept x rest passes);
      rest_is = refl;
      after = tt;
      none =
          NoneBefore-append x (filter p rest) (passing p ls) (NoneBefore-filter x rest none)
          (NoneBefore-passing x ls (λ j below. behind (suc j) (omega arith) (omega (arith, below))));
    }
    passing-cut (l ∷ ls) (suc i) x rest within at passes none before behind =
        let cut = passing-cut ls i x rest (omega (arith, within)) at passes none
        (λ j low. before (suc j) (omega (arith, low)))
        (λ j low below. behind (suc j) (omega (arith, low)) (omega (arith, below))) in
        record {
          front = filter p l ++ cut.front;
          back = cut.back;
          whole_is = ap (λ us. filter p l ++ us) cut.whole_is ∙ sym (append_assoc (filter p l) cut.front (x ∷ cut.back));
          rest_is = ap (λ us. filter p l ++ us) cut.rest_is ∙ sym (append_assoc (filter p l) cut.front cut.back);
          after = AllAfter-append x (filter p l) cut.front (before 0 (omega arith)) cut.after;
          none = cut.none;
        }

    -- a member that is not after one that passes also passes
    module _ (downward : (a b : A) → is_gt (cmp a b) ≡ false → p b ≡ true → p a ≡ true) where
      fails-higher : (a b : A) → is_gt (cmp a b) ≡ false → p a ≡ false → p b ≡ false
      fails-higher a b low fails = by (p b) refl
        where
          by : (k : Bool) → p b ≡ k → p b ≡ false
          by true is = absurd (false≢true (sym fails ∙ downward a b low is))
          by false is = is

      -- where the first fails, all fail
      none_pass : (x : A) (xs : List A) → p x ≡ false → NoneBefore cmp x xs → filter p xs ≡ []
      none_pass x [] fails none = refl
      none_pass x (y ∷ ys) fails none = filter-gone y ys (fails-higher x y none.0 fails) ∙ none_pass x ys fails none.1

      none_due : (xs : List A) → Ascends cmp xs → first_if p xs ≡ None → filter p xs ≡ []
      none_due [] up is = refl
      none_due (x ∷ xs) up is = by (p x) refl is
        where
          by : (k : Bool) → p x ≡ k → cond k (Some x) None ≡ None → filter p (x ∷ xs) ≡ []
          by true passes h = absurd (cc (h))
          by false fails h = filter-gone x xs fails ∙ none_pass x xs fails up.0

      -- a member that is before the first that is due is before all that are
      pub AllAfter-due : (b : A) (xs : List A) → Ascends cmp xs → IfSome (first_if p xs) (λ y. is_gt (cmp y b) ≡ true) → AllAfter cmp b (filter p xs)
      AllAfter-due b [] up h = tt
      AllAfter-due b (x ∷ xs) up h = by (p x) refl h
        where
          by : (k : Bool) → p x ≡ k → IfSome (cond k (Some x) None) (λ y. is_gt (cmp y b) ≡ true) → AllAfter cmp b (cond k (x ∷ filter p xs) (filter p xs))
          by true passes gt = (gt, AllAfter-filter b xs (AllAfter-higher x b xs gt up.0))
          by false fails low = coe_nil (filter p xs) (none_pass x xs fails up.0)
            where
              coe_nil : (us : List A) → us ≡ [] → AllAfter cmp b us
              coe_nil [] is = tt
              coe_nil (u ∷ us) is = absurd (cc (is))

      pub NoneBefore-due : (b : A) (xs : List A) → Ascends cmp xs → IfSome (first_if p xs) (λ y. is_gt (cmp b y) ≡ false) → NoneBefore cmp b (filter p xs)
      NoneBefore-due b [] up h = tt
      NoneBefore-due b (x ∷ xs) up h = by (p x) refl h
        where
          by : (k : Bool) → p x ≡ k → IfSome (cond k (Some x) None) (λ y. is_gt (cmp b y) ≡ false) → NoneBefore cmp b (cond k (x ∷ filter p xs) (filter p xs))
          by true passes low = (low, NoneBefore-filter b xs (NoneBefore-lower total b x xs low up.0))
          by false fails low = coe_nil (filter p xs) (none_pass x xs fails up.0)
            where
              coe_nil : (us : List A) → us ≡ [] → NoneBefore cmp b us
              coe_nil [] is = tt
              coe_nil (u ∷ us) is = absurd (cc (is))

      -- if no first member is due, nothing is
      pub nothing_passes : (ls : List (List A)) → EachAscends cmp ls → ((j : ℕ) → j < length ls → first_if p (get_or ls j []) ≡ None) → passing p ls ≡ []
      nothing_passes [] up none = refl
      nothing_passes (l ∷ ls) up none =
          ap₂ (λ (us vs : List A). us ++ vs) (none_due l up.0 (none 0 (omega arith))) (nothing_passes ls up.1 (λ j below. none (suc j) (omega (arith, below))))

  -- ---- one of the lists

  pub EachAscends-at : (ls : List (List A)) (j : ℕ) → EachAscends cmp ls → Ascends cmp (get_or ls j [])
  EachAscends-at [] j up = tt
  EachAscends-at (l ∷ ls) zero up = up.0
  EachAscends-at (l ∷ ls) (suc j) up = EachAscends-at ls j up.1

module _ {A : Type 0} where
  pub lengths-set : (ls : List (List A)) (i : ℕ) (x : A) (rest : List A) → i < length ls → get_or ls i [] ≡ x ∷ rest → sum (map length (set ls i rest)) + 1 ≡ sum (map length ls)
  lengths-set ls i x rest within at =
      let here : length (get_or ls i []) ≡ suc (length rest) = ap length at in
      let both : sum_by length (set ls i rest) + length (get_or ls i []) ≡ sum_by length ls + length rest = sum_by-set length ls i rest [] within in
      let left : sum (map length (set ls i rest)) ≡ sum_by length (set ls i rest) = sum-map length (set ls i rest) in
      let right : sum (map length ls) ≡ sum_by length ls = sum-map length ls in
      omega (arith, here, both, left, right)

  pub filters-set : (q : A → Bool) (ls : List (List A)) (i : ℕ) (x : A) (rest : List A) → get_or ls i [] ≡ x ∷ rest → q x ≡ false → map (filter q) (set ls i rest) ≡ map (filter q) ls
  filters-set q [] i x rest at fails = refl
  filters-set q (l ∷ ls) zero x rest at fails = ap (λ us. us ∷ map (filter q) ls) (sym (ap (filter q) at ∙ ap (λ k. cond k (x ∷ filter q rest) (filter q rest)) fails))
  filters-set q (l ∷ ls) (suc i) x rest at fails = ap (λ us. filter q l ∷ us) (filters-set q ls i x rest at fails)

  -- what the first member that is due says of the list
  pub first_due : (p : A → Bool) (x y : A) (rest : List A) → first_if p (x ∷ rest) ≡ Some y → (x ≡ y) × (p x ≡ true)
  first_due p x y rest is = by (p x) refl is
    where
      by : (k : Bool) → p x ≡ k → cond k (Some x) None ≡ Some y → (x ≡ y) × (p x ≡ true)
      by true passes h = (cc (h), passes)
      by false passes h = absurd (cc (h))

module _ {A : Type 0} (p q : A → Bool) (other : (a : A) → p a ≡ false → q a ≡ true) where
  all_other : (xs : List A) → filter p xs ≡ [] → filter q xs ≡ xs
  all_other [] none = refl
  all_other (x ∷ xs) none = by (p x) refl none (all_other xs)
    where
      by : (k : Bool) → p x ≡ k → cond k (x ∷ filter p xs) (filter p xs) ≡ [] → (filter p xs ≡ [] → filter q xs ≡ xs) → filter q (x ∷ xs) ≡ x ∷ xs
      by true passes h rest = absurd (cc (h))
      by false fails h rest = ap (λ k. cond k (x ∷ filter q xs) (filter q xs)) (other x fails) ∙ ap (λ us. x ∷ us) (rest h)

  both_none : (us vs : List A) → us ++ vs ≡ [] → (us ≡ []) × (vs ≡ [])
  both_none [] vs none = (refl, none)
  both_none (u ∷ us) vs none = absurd (cc (none))

  -- if nothing is due, all stays
  pub none_left : (ls : List (List A)) → passing p ls ≡ [] → map (filter q) ls ≡ ls
  none_left [] none = refl
  none_left (l ∷ ls) none =
      let both = both_none (filter p l) (passing p ls) none in
      ap₂ (λ (u : List A) (us : List (List A)). u ∷ us) (all_other l both.0) (none_left ls both.1)

module _ {A : Type 0} (cmp : A → A → Ordering) where
  placed-some : (a : A) (bs : List A) → ¬ (placed cmp a bs ≡ [])
  placed-some a [] none = absurd (cc (none))
  placed-some a (b ∷ bs) none = by (is_gt (cmp a b)) none
    where
      by : (up : Bool) → (if up then b ∷ placed cmp a bs else a ∷ b ∷ bs) ≡ [] → ⊥
      by true none = absurd (cc (none))
      by false none = absurd (cc (none))

  -- only an empty list is empty when it is sorted
  pub ascending-none : (xs : List A) → ascending cmp xs ≡ [] → xs ≡ []
  ascending-none [] none = refl
  ascending-none (x ∷ xs) none = absurd (placed-some x (ascending cmp xs) none)
