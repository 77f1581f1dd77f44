-- What is taken of two inputs, merged by the places of what they show.
use Rattle.std.proofs.Common.{◌≡◌, ◌∙◌, ap, sym, refl, ℕ, zero, suc, List, [], ◌∷◌, ◌++◌, ◌≤◌, ◌==◌, Bool, true, false, length, take, drop, arith, append-nil, append_assoc}
use Rattle.std.specs.Prelude.{if◌then◌else◌, map, not, flat_map}
use Rattle.std.specs.Cmp.Lexicographic.{slice_cmp}
use Rattle.std.specs.List.{AllByRecursion}
use Rattle.std.specs.declared.cmp.Ordering.{Ordering}
use Rattle.std.specs.Ordering.{is_gt, nat_cmp, ordering_then}
use Rattle.std.proofs.lemmas.Bool.{false≢true}
use Rattle.std.proofs.lemmas.Cmp.{upto, nat_cmp_total, tied_itself}
use Rattle.std.proofs.lemmas.List.Elements.{recursion_from_All}
use Rattle.ksql_types.specs.declared.relation.Kind.{Kind}
use Rattle.ksql_types.specs.declared.relation.Kind.TheVariants as kind
use Rattle.ksql_types.specs.declared.value.Value.{Value}
use Rattle.ksql_place.specs.Ascending.{ascending, placed}
use Rattle.ksql_place.specs.Order.{between_cmp, place_cmp, stamp_cmp}
use Rattle.ksql_place.specs.Said.{saying}
use Rattle.ksql_place.specs.declared.change.Change.{Change}
use Rattle.ksql_place.specs.declared.change.Decoded.{Decoded}
use Rattle.ksql_place.specs.declared.change.Decoded.TheVariants.{Good, Tombstone, Skipped}
use Rattle.ksql_place.specs.declared.change.SourceRecord.{SourceRecord}
use Rattle.ksql_place.specs.declared.stamp.Place.{Place}
use Rattle.ksql_place.proofs.Ascending.{NoneBefore}
use Rattle.ksql_place.proofs.Orders.{between_total}
use Rattle.ksql_nodes.specs.Entries.{Entry, from_side}
use Rattle.query_meaning.specs.Queries.{entry_cmp}
use Rattle.topology.specs.Contents.{with_cells}
use Rattle.topology.specs.declared.topology.SubInput.{SubInput}
use Rattle.core_state.specs.declared.log.LogEntry.{LogEntry}
use Rattle.core_state.specs.declared.log.LogEntry.TheVariants.{Fed, Said}
use Rattle.topic_log.specs.Order.{IsInPlaceOrder, place_of}
use Rattle.task_core.specs.Readers.{goes_left, taken_as}

-- ---- lists in order

-- all of these are after this one
abbrev AllAfter : {A : Type 0} → (A → A → Ordering) → A → List A → Type 0
AllAfter cmp b us = AllByRecursion (λ u. is_gt (cmp u b) ≡ true) us

module _ {A : Type 0} (cmp : A → A → Ordering) where
  placed-least : (a : A) (bs : List A) → NoneBefore cmp a bs → placed cmp a bs ≡ a ∷ bs
  placed-least a [] none = refl
  placed-least a (b ∷ bs) none = ap (λ (up : Bool). if up then b ∷ placed cmp a bs else a ∷ b ∷ bs) none.0

  NoneBefore-placed : (s a : A) (bs : List A) → is_gt (cmp s a) ≡ false → NoneBefore cmp s bs → NoneBefore cmp s (placed cmp a bs)
  NoneBefore-placed s a [] low none = (low, tt)
  NoneBefore-placed s a (b ∷ bs) low none =
      elim (is_gt (cmp a b)) as (λ up. NoneBefore cmp s (if up then b ∷ placed cmp a bs else a ∷ b ∷ bs))
      [ true ↦ (none.0, NoneBefore-placed s a bs low none.1) | false ↦ (low, none) ]

  NoneBefore-ascending : (s : A) (bs : List A) → NoneBefore cmp s bs → NoneBefore cmp s (ascending cmp bs)
  NoneBefore-ascending s [] none = tt
  NoneBefore-ascending s (b ∷ bs) none = NoneBefore-placed s b (ascending cmp bs) none.0 (NoneBefore-ascending s bs none.1)

  NoneBefore-append : (s : A) (us vs : List A) → NoneBefore cmp s us → NoneBefore cmp s vs → NoneBefore cmp s (us ++ vs)
  NoneBefore-append s [] vs h k = k
  NoneBefore-append s (u ∷ us) vs h k = (h.0, NoneBefore-append s us vs h.1 k)

  -- one member before all others goes first, or none at all
  left-first : (us vs : List A) → length us ≤ 1 → AllByRecursion (λ u. NoneBefore cmp u vs) us → ascending cmp (us ++ vs) ≡ us ++ ascending cmp vs
  left-first [] vs few none = refl
  left-first (u ∷ []) vs few none = placed-least u (ascending cmp vs) (NoneBefore-ascending u vs none.0)
  left-first (u ∷ w ∷ us) vs few none = absurd (omega (arith, few))

  least-first : (b : A) (us vs : List A) → AllAfter cmp b us → NoneBefore cmp b vs → ascending cmp (us ++ b ∷ vs) ≡ b ∷ ascending cmp (us ++ vs)
  least-first b [] vs after none = placed-least b (ascending cmp vs) (NoneBefore-ascending b vs none)
  least-first b (u ∷ us) vs after none =
      ap (placed cmp u) (least-first b us vs after.1 none)
      ∙ ap (λ (up : Bool). if up then b ∷ placed cmp u (ascending cmp (us ++ vs)) else u ∷ b ∷ ascending cmp (us ++ vs)) after.0

  right-first : (bs us vs : List A) → length bs ≤ 1 → AllByRecursion (λ b. AllAfter cmp b us) bs → AllByRecursion (λ b. NoneBefore cmp b vs) bs →
      ascending cmp (us ++ (bs ++ vs)) ≡ bs ++ ascending cmp (us ++ vs)
  right-first [] us vs few after none = refl
  right-first (b ∷ []) us vs few after none = least-first b us vs after.0 none.0
  right-first (b ∷ c ∷ bs) us vs few after none = absurd (omega (arith, few))

-- ---- what is taken of an entry

-- an entry of a side at a place
pub record IsOf (side : ℕ) (place : Place) (e : Entry) : Type 0 where
  pub on : e.side ≡ side
  pub at : e.change.place ≡ place

cells-place : (n : ℕ) (c : Change) → (with_cells n c).place ≡ c.place
cells-place zero c = refl
cells-place (suc n) c = refl

-- at most one entry is taken, of the side and at the place of what was shown
pub record IsTaken (side : ℕ) (place : Place) (es : List Entry) : Type 0 where
  pub few : length es ≤ 1
  pub all : AllByRecursion (IsOf side place) es

none-taken : (side : ℕ) (place : Place) → IsTaken side place []
none-taken side place = record { few = omega arith; all = tt }

one-taken : (side keys : ℕ) (place : Place) (c : Change) → c.place ≡ place → IsTaken side place (record { side = side; change = with_cells keys c } ∷ [])
one-taken side keys place c is = record { few = omega arith; all = (record { on = refl; at = cells-place keys c ∙ is }, tt) }

said-taken : (k : Kind) (side keys : ℕ) (r : SourceRecord) (key : List Value) (value : Decoded) → r.key ≡ key → r.value ≡ value →
    IsTaken side (record { stamp = r.stamp; path = [] }) (from_side side (map (with_cells keys) (saying k (record r { key = key; value = value }))))
said-taken kind.Stream side keys r key (Good row) is-key is-value = one-taken side keys _ _ refl
said-taken kind.Stream side keys r key Tombstone is-key is-value = none-taken side _
said-taken kind.Stream side keys r key Skipped is-key is-value = none-taken side _
said-taken kind.Table side keys r [] value is-key is-value = none-taken side _
said-taken kind.Table side keys r (v ∷ vs) (Good row) is-key is-value = one-taken side keys _ _ refl
said-taken kind.Table side keys r (v ∷ vs) Tombstone is-key is-value = one-taken side keys _ _ refl
said-taken kind.Table side keys r (v ∷ vs) Skipped is-key is-value = none-taken side _
said-taken kind.Windowed side keys r key value is-key is-value = none-taken side _

pub is-taken : (k : Kind) (side : ℕ) (input : SubInput) (x : LogEntry) → IsTaken side (place_of x) (taken_as k side input x)
is-taken k side input (Fed r) = said-taken k side input.keys r r.key r.value refl refl
is-taken k side input (Said c) = one-taken side input.keys c.place c refl

-- ---- the order of what is taken

-- the number of the relation of a side
abbrev side_relation : ℕ → ℕ → ℕ → ℕ
side_relation left right side = if side == 0 then left else right

between-same : (p q : Place) (n : ℕ) → is_gt (place_cmp p q) ≡ false → is_gt (between_cmp p n q n) ≡ false
between-same p q n low =
    ap (λ (o : Ordering). is_gt (ordering_then (stamp_cmp p.stamp q.stamp) (ordering_then o (slice_cmp nat_cmp p.path q.path)))) (tied_itself nat_cmp_total n)
    ∙ low

module _ (left right : ℕ) where
  entry_cmp-of : (u v : Entry) (s t : ℕ) (p q : Place) → IsOf s p u → IsOf t q v →
      entry_cmp left right u v ≡ between_cmp p (side_relation left right s) q (side_relation left right t)
  entry_cmp-of u v s t p q h k = λ i. between_cmp (h.at i) (side_relation left right (h.on i)) (k.at i) (side_relation left right (k.on i))

  -- the entries shown are not before a place of the relation of a side
  abbrev LowAll : ℕ → Place → ℕ → List LogEntry → Type 0
  LowAll s p t ys = AllByRecursion (λ y. is_gt (between_cmp p (side_relation left right s) (place_of y) (side_relation left right t)) ≡ false) ys

  -- they are all after it
  abbrev HighAll : ℕ → Place → ℕ → List LogEntry → Type 0
  HighAll s p t ys = AllByRecursion (λ y. is_gt (between_cmp (place_of y) (side_relation left right t) p (side_relation left right s)) ≡ true) ys

  none-list : (u : Entry) (s t : ℕ) (p q : Place) (es : List Entry) → IsOf s p u →
      is_gt (between_cmp p (side_relation left right s) q (side_relation left right t)) ≡ false → AllByRecursion (IsOf t q) es → NoneBefore (entry_cmp left right) u es
  none-list u s t p q [] h low all = tt
  none-list u s t p q (e ∷ es) h low all = (ap is_gt (entry_cmp-of u e s t p q h all.0) ∙ low, none-list u s t p q es h low all.1)

  after-list : (u : Entry) (s t : ℕ) (p q : Place) (es : List Entry) → IsOf s p u →
      is_gt (between_cmp q (side_relation left right t) p (side_relation left right s)) ≡ true → AllByRecursion (IsOf t q) es → AllAfter (entry_cmp left right) u es
  after-list u s t p q [] h high all = tt
  after-list u s t p q (e ∷ es) h high all = (ap is_gt (entry_cmp-of e u t s q p all.0 h) ∙ high, after-list u s t p q es h high all.1)

  AllAfter-append : (s : Entry) (us vs : List Entry) → AllAfter (entry_cmp left right) s us → AllAfter (entry_cmp left right) s vs → AllAfter (entry_cmp left right) s (us ++ vs)
  AllAfter-append s [] vs h k = k
  AllAfter-append s (u ∷ us) vs h k = (h.0, AllAfter-append s us vs h.1 k)

  none-flat : (k : Kind) (input : SubInput) (u : Entry) (s t : ℕ) (p : Place) (ys : List LogEntry) → IsOf s p u → LowAll s p t ys →
      NoneBefore (entry_cmp left right) u (flat_map (taken_as k t input) ys)
  none-flat k input u s t p [] h low = tt
  none-flat k input u s t p (y ∷ ys) h low =
      NoneBefore-append (entry_cmp left right) u (taken_as k t input y) (flat_map (taken_as k t input) ys)
      (none-list u s t p (place_of y) (taken_as k t input y) h low.0 (is-taken k t input y).all)
      (none-flat k input u s t p ys h low.1)

  after-flat : (k : Kind) (input : SubInput) (u : Entry) (s t : ℕ) (p : Place) (ys : List LogEntry) → IsOf s p u → HighAll s p t ys →
      AllAfter (entry_cmp left right) u (flat_map (taken_as k t input) ys)
  after-flat k input u s t p [] h high = tt
  after-flat k input u s t p (y ∷ ys) h high =
      AllAfter-append u (taken_as k t input y) (flat_map (taken_as k t input) ys)
      (after-list u s t p (place_of y) (taken_as k t input y) h high.0 (is-taken k t input y).all)
      (after-flat k input u s t p ys h high.1)

  all-none : (es : List Entry) (s : ℕ) (p : Place) (vs : List Entry) → AllByRecursion (IsOf s p) es →
      ((u : Entry) → IsOf s p u → NoneBefore (entry_cmp left right) u vs) → AllByRecursion (λ u. NoneBefore (entry_cmp left right) u vs) es
  all-none [] s p vs all h = tt
  all-none (e ∷ es) s p vs all h = (h e all.0, all-none es s p vs all.1 h)

  all-after : (es : List Entry) (s : ℕ) (p : Place) (vs : List Entry) → AllByRecursion (IsOf s p) es →
      ((u : Entry) → IsOf s p u → AllAfter (entry_cmp left right) u vs) → AllByRecursion (λ u. AllAfter (entry_cmp left right) u vs) es
  all-after [] s p vs all h = tt
  all-after (e ∷ es) s p vs all h = (h e all.0, all-after es s p vs all.1 h)

  -- ---- places in order

  LowAll-lower : (s t t' : ℕ) (p q : Place) (ys : List LogEntry) →
      is_gt (between_cmp p (side_relation left right s) q (side_relation left right t)) ≡ false → LowAll t q t' ys → LowAll s p t' ys
  LowAll-lower s t t' p q [] low h = tt
  LowAll-lower s t t' p q (y ∷ ys) low h = (
    upto between_total (p, side_relation left right s) (q, side_relation left right t) (place_of y, side_relation left right t') low h.0,
    LowAll-lower s t t' p q ys low h.1,
  )

  -- what is not before one that is after a place is after that place
  HighAll-higher : (s t : ℕ) (p q : Place) (ys : List LogEntry) →
      is_gt (between_cmp q (side_relation left right t) p (side_relation left right s)) ≡ true → LowAll t q t ys → HighAll s p t ys
  HighAll-higher s t p q [] high h = tt
  HighAll-higher s t p q (y ∷ ys) high h = (by (is_gt (between_cmp (place_of y) n p m)) refl, HighAll-higher s t p q ys high h.1)
    where
      n : ℕ
      n = side_relation left right t

      m : ℕ
      m = side_relation left right s

      by : (b : Bool) → is_gt (between_cmp (place_of y) (side_relation left right t) p (side_relation left right s)) ≡ b →
          is_gt (between_cmp (place_of y) (side_relation left right t) p (side_relation left right s)) ≡ true
      by true is = is
      by false is =
          absurd (false≢true (sym (upto between_total (q, side_relation left right t) (place_of y, side_relation left right t) (p, side_relation left right s) h.0 is) ∙ high))

  LowAll-from_order : (t : ℕ) (x : LogEntry) (xs : List LogEntry) → IsInPlaceOrder (x ∷ xs) → LowAll t (place_of x) t xs
  LowAll-from_order t x xs up =
      recursion_from_All (λ y. is_gt (between_cmp (place_of x) (side_relation left right t) (place_of y) (side_relation left right t)) ≡ false) xs
      (λ i d below. between-same (place_of x) _ (side_relation left right t) (up 0 (suc i) d (omega arith) (omega (arith, below))))

pub order-tail : (x : LogEntry) (xs : List LogEntry) → IsInPlaceOrder (x ∷ xs) → IsInPlaceOrder xs
order-tail x xs up = λ i j d low below. up (suc i) (suc j) d (omega (arith, low)) (omega (arith, below))

pub order-drop : (xs : List LogEntry) → IsInPlaceOrder xs → IsInPlaceOrder (drop 1 xs)
order-drop [] up = up
order-drop (x ∷ xs) up = order-tail x xs up

-- ---- steps

not-true : (b : Bool) → not b ≡ true → b ≡ false
not-true true h = absurd (false≢true h)
not-true false h = refl

not-false : (b : Bool) → not b ≡ false → b ≡ true
not-false true h = refl
not-false false h = absurd (false≢true (sym h))

module _ (j k : Kind) (one other : SubInput) where
  abbrev pub lefts : List LogEntry → List Entry
  lefts xs = flat_map (taken_as j 0 one) xs

  abbrev pub rights : List LogEntry → List Entry
  rights ys = flat_map (taken_as k 1 other) ys

  abbrev pub both : List LogEntry → List LogEntry → List Entry
  both xs ys = ascending (entry_cmp one.relation other.relation) (lefts xs ++ rights ys)

  -- the first of the left entries goes next
  step-at-left : (x : LogEntry) (xs ys : List LogEntry) → IsInPlaceOrder (x ∷ xs) → LowAll one.relation other.relation 0 (place_of x) 1 ys →
      both (x ∷ xs) ys ≡ taken_as j 0 one x ++ both xs ys
  step-at-left x xs ys up low =
      let cmp = entry_cmp one.relation other.relation in
      let first = taken_as j 0 one x in
      let taken = is-taken j 0 one x in
      ap (ascending cmp) (append_assoc first (lefts xs) (rights ys))
      ∙ left-first cmp first (lefts xs ++ rights ys) taken.few
      (all-none one.relation other.relation first 0 (place_of x) (lefts xs ++ rights ys) taken.all
      (λ u of. NoneBefore-append cmp u (lefts xs) (rights ys)
      (none-flat one.relation other.relation j one u 0 0 (place_of x) xs of (LowAll-from_order one.relation other.relation 0 x xs up))
      (none-flat one.relation other.relation k other u 0 1 (place_of x) ys of low)))

  -- the first of the right ones does
  step-at-right : (xs : List LogEntry) (y : LogEntry) (ys : List LogEntry) → IsInPlaceOrder (y ∷ ys) → HighAll one.relation other.relation 1 (place_of y) 0 xs →
      both xs (y ∷ ys) ≡ taken_as k 1 other y ++ both xs ys
  step-at-right xs y ys up high =
      let cmp = entry_cmp one.relation other.relation in
      let first = taken_as k 1 other y in
      let taken = is-taken k 1 other y in
      right-first cmp first (lefts xs) (rights ys) taken.few
      (all-after one.relation other.relation first 1 (place_of y) (lefts xs) taken.all
      (λ u of. after-flat one.relation other.relation j one u 1 0 (place_of y) xs of high))
      (all-none one.relation other.relation first 1 (place_of y) (rights ys) taken.all
      (λ u of. none-flat one.relation other.relation k other u 1 1 (place_of y) ys of (LowAll-from_order one.relation other.relation 1 y ys up)))

  pub step-left : (xs ys : List LogEntry) → IsInPlaceOrder xs → IsInPlaceOrder ys → goes_left one.relation other.relation xs ys ≡ true →
      both xs ys ≡ lefts (take 1 xs) ++ both (drop 1 xs) ys
  step-left [] ys xs-up ys-up goes = absurd (false≢true goes)
  step-left (x ∷ xs) [] xs-up ys-up goes =
      step-at-left x xs [] xs-up tt ∙ ap (λ (us : List Entry). us ++ both xs []) (sym (append-nil (taken_as j 0 one x)))
  step-left (x ∷ xs) (y ∷ ys) xs-up ys-up goes =
      let low = not-true _ goes in
      step-at-left x xs (y ∷ ys) xs-up
      (low, LowAll-lower one.relation other.relation 0 1 1 (place_of x) (place_of y) ys low (LowAll-from_order one.relation other.relation 1 y ys ys-up))
      ∙ ap (λ (us : List Entry). us ++ both xs (y ∷ ys)) (sym (append-nil (taken_as j 0 one x)))

  pub step-right : (xs ys : List LogEntry) → IsInPlaceOrder xs → IsInPlaceOrder ys → goes_left one.relation other.relation xs ys ≡ false →
      both xs ys ≡ rights (take 1 ys) ++ both xs (drop 1 ys)
  step-right [] [] xs-up ys-up goes = refl
  step-right (x ∷ xs) [] xs-up ys-up goes = absurd (false≢true (sym goes))
  step-right [] (y ∷ ys) xs-up ys-up goes =
      step-at-right [] y ys ys-up tt ∙ ap (λ (us : List Entry). us ++ both [] ys) (sym (append-nil (taken_as k 1 other y)))
  step-right (x ∷ xs) (y ∷ ys) xs-up ys-up goes =
      let high = not-false _ goes in
      step-at-right (x ∷ xs) y ys ys-up
      (high, HighAll-higher one.relation other.relation 1 0 (place_of y) (place_of x) xs high (LowAll-from_order one.relation other.relation 0 x xs xs-up))
      ∙ ap (λ (us : List Entry). us ++ both (x ∷ xs) ys) (sym (append-nil (taken_as k 1 other y)))
