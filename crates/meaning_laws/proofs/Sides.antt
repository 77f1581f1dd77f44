-- The entries of a join are in the order of their places.
use Rattle.std.proofs.Common.{◌≡◌, ◌∙◌, ap, ap₂, refl, sym, subst, subst₂, ℕ, ◌<◌, List, [], ◌∷◌, ◌++◌, Bool, true, false, inl, inr, arith, true≢false}
use Rattle.std.proofs.lemmas.List.{append-nil}
use Rattle.std.proofs.lemmas.List.Elements.{filter-append}
use Rattle.std.proofs.lemmas.Bool.Decides.{Decides-ltb, nat_tests}
use Rattle.std.proofs.lemmas.Cmp.{nat_cmp_total, tied_itself}
use Rattle.std.specs.Prelude.{◌⊎◌, ◌==◌, filter, if◌then◌else◌, nat_lt}
use Rattle.std.specs.List.{AllByRecursion}
use Rattle.std.specs.Cmp.Lexicographic.{slice_cmp}
use Rattle.std.specs.Ordering.{is_gt, nat_cmp, ordering_then}
use Rattle.std.specs.declared.cmp.Ordering.{Ordering}
use Rattle.std.specs.declared.cmp.Ordering.TheVariants.{Less, Equal, Greater}
use Rattle.ksql_place.specs.Ascending.{ascending}
use Rattle.ksql_place.specs.Order.{between_cmp, stamp_cmp}
use Rattle.ksql_place.specs.declared.change.Change.{Change}
use Rattle.ksql_place.specs.declared.stamp.Place.{Place}
use Rattle.ksql_place.proofs.Ascending.{Ascends, Ascends-ascending, ascending-kept, filter-ascending}
use Rattle.ksql_place.proofs.Orders.{stamp_cmp-equal}
use Rattle.ksql_program.specs.declared.program.Item.{Item}
use Rattle.ksql_program.specs.declared.query.JoinKind.{JoinKind}
use Rattle.ksql_nodes.specs.declared.node.Node.TheVariants.{JoinTables}
use Rattle.ksql_nodes.specs.Entries.{Entry, from_side}
use Rattle.ksql_nodes.specs.Joins.{other_side}
use Rattle.ksql_nodes.proofs.Lists.{All-append}
use Rattle.query_meaning.specs.Queries.{entry_cmp, side_at}
use Rattle.query_meaning.proofs.QuerySteps.{entries_total}
use Rattle.meaning_laws.proofs.Lists.{All-ascending, All-map, All-of, All-weaker, Pairwise, Pairwise-both, Pairwise-each, Pairwise-from_filter, Pairwise-map, Pairwise-weaker}
use Rattle.meaning_laws.proofs.Forks.{IsBefore, Rise, before-less}
use Rattle.meaning_laws.proofs.Rising.{RiseAt, base}

abbrev entry : ℕ → Change → Entry
entry side c = record { side = side; change = c }

sides-kept : (t : Entry → Bool) (side : ℕ) → ((c : Change) → t (entry side c) ≡ true) → (changes : List Change) → filter t (from_side side changes) ≡ from_side side changes
sides-kept t side kept [] = refl
sides-kept t side kept (c ∷ cs) = ap₂ (λ b rest. if b then entry side c ∷ rest else rest) (kept c) (sides-kept t side kept cs)

sides-dropped : (t : Entry → Bool) (side : ℕ) → ((c : Change) → t (entry side c) ≡ false) → (changes : List Change) → filter t (from_side side changes) ≡ []
sides-dropped t side dropped [] = refl
sides-dropped t side dropped (c ∷ cs) = ap₂ (λ b rest. if b then entry side c ∷ rest else rest) (dropped c) (sides-dropped t side dropped cs)

-- an entry comes in on side 0 or on side 1
abbrev pub IsSided : Entry → Type 0
IsSided e = (e.side ≡ 0) ⊎ (e.side ≡ 1)

before-between : (a b : Place) (n : ℕ) → IsBefore a b → is_gt (between_cmp a n b n) ≡ false
before-between a b n h =
    ap is_gt (ap (λ o. ordering_then (stamp_cmp a.stamp b.stamp) (ordering_then o (slice_cmp nat_cmp a.path b.path))) (tied_itself nat_cmp_total n) ∙ before-less a b h)

Pairwise-from_ascends : (cmp : Entry → Entry → Ordering) (es : List Entry) → Ascends cmp es → Pairwise (λ e f. is_gt (cmp e f) ≡ false) es
Pairwise-from_ascends cmp [] up = tt
Pairwise-from_ascends cmp (e ∷ es) up = (up.0, Pairwise-from_ascends cmp es up.1)

-- which of two entries of different relations is first
apart-sides : (a b : Place) (m n : ℕ) → (m ≡ n → ⊥) → is_gt (between_cmp a m b n) ≡ false → (stamp_cmp a.stamp b.stamp ≡ Less) ⊎ ((a.stamp ≡ b.stamp) × (m < n))
apart-sides a b m n apart low = by (stamp_cmp a.stamp b.stamp) refl low
  where
    numbers : (o : Ordering) → nat_cmp m n ≡ o → is_gt (ordering_then o (slice_cmp nat_cmp a.path b.path)) ≡ false → m < n
    numbers Less is low = grind (arith, nat_tests)
    numbers Equal is low = absurd (apart (grind (arith, nat_tests)))
    numbers Greater is low = absurd (true≢false low)

    by : (o : Ordering) → stamp_cmp a.stamp b.stamp ≡ o → is_gt (ordering_then o (ordering_then (nat_cmp m n) (slice_cmp nat_cmp a.path b.path))) ≡ false →
        (stamp_cmp a.stamp b.stamp ≡ Less) ⊎ ((a.stamp ≡ b.stamp) × (m < n))
    by Less is low = inl is
    by Equal is low = inr (stamp_cmp-equal a.stamp b.stamp is, numbers (nat_cmp m n) refl low)
    by Greater is low = absurd (true≢false low)

module _ (left right : ℕ) (lefts rights : List Change) where
  abbrev both : List Entry
  both = from_side 0 lefts ++ from_side 1 rights

  abbrev merged : List Entry
  merged = ascending (entry_cmp left right) both

  pub merged-sided : AllByRecursion IsSided merged
  merged-sided =
      All-ascending IsSided (entry_cmp left right) both
      (All-append IsSided (from_side 0 lefts) (from_side 1 rights)
      (All-map IsSided (entry 0) lefts (All-of {P = λ c. IsSided (entry 0 c)} lefts (λ c. inl refl)))
      (All-map IsSided (entry 1) rights (All-of {P = λ c. IsSided (entry 1 c)} rights (λ c. inr refl))))

  abbrev AreInOrder : Entry → Entry → Type 0
  AreInOrder e f = IsBefore e.change.place f.change.place

  -- the entries of one side ascend
  side-ascends : (side : ℕ) (changes : List Change) → Rise changes → Ascends (entry_cmp left right) (from_side side changes)
  side-ascends side [] rise = tt
  side-ascends side (c ∷ cs) rise = (
    All-map (λ later. is_gt (entry_cmp left right (entry side c) later) ≡ false) (entry side) cs
        (All-weaker (λ (d : Change). IsBefore c.place d.place) (λ d. is_gt (entry_cmp left right (entry side c) (entry side d)) ≡ false)
        (λ d. before-between c.place d.place (if side == 0 then left else right)) cs rise.0),
    side-ascends side cs rise.1,
  )

  -- among all entries those of one side rise
  one-side : (t : Entry → Bool) (side : ℕ) (changes : List Change) → Rise changes → filter t both ≡ from_side side changes →
      Pairwise (λ e f. t e ≡ true → t f ≡ true → AreInOrder e f) merged
  one-side t side changes rise is =
      Pairwise-from_filter AreInOrder t merged
      (subst (Pairwise AreInOrder)
      (sym (filter-ascending (entries_total left right) t both ∙ ap (ascending (entry_cmp left right)) is ∙ ascending-kept (entries_total left right) (from_side side changes) (side-ascends side changes rise)))
      (Pairwise-map AreInOrder (entry side) changes rise))

  pub lefts-rise : Rise lefts → RiseAt (λ e. e.change.place) (λ e. e.side == 0) merged
  lefts-rise rise =
      one-side (λ e. e.side == 0) 0 lefts rise
      (filter-append (λ e. e.side == 0) (from_side 0 lefts) (from_side 1 rights)
      ∙ ap₂ (λ xs ys. xs ++ ys) (sides-kept (λ e. e.side == 0) 0 (λ c. refl) lefts) (sides-dropped (λ e. e.side == 0) 1 (λ c. refl) rights)
      ∙ append-nil (from_side 0 lefts))

  rights-rise : Rise rights → RiseAt (λ e. e.change.place) (λ e. e.side == 1) merged
  rights-rise rise =
      one-side (λ e. e.side == 1) 1 rights rise
      (filter-append (λ e. e.side == 1) (from_side 0 lefts) (from_side 1 rights)
      ∙ ap₂ (λ xs ys. xs ++ ys) (sides-dropped (λ e. e.side == 1) 0 (λ c. refl) lefts) (sides-kept (λ e. e.side == 1) 1 (λ c. refl) rights))

  module _ (items : List Item) (kind : JoinKind) (apart : left ≡ right → ⊥) where
    abbrev at : Entry → Place
    at e = base (JoinTables kind (side_at items left) (side_at items right)) e

    abbrev number_of : ℕ → ℕ
    number_of side = if nat_lt left right then side else other_side side

    abbrev relation_of_side : ℕ → ℕ
    relation_of_side side = if side == 0 then left else right

    -- entries of one side
    alike : (e f : Entry) → e.side ≡ f.side → AreInOrder e f → IsBefore (at e) (at f)
    alike e f same (inl less) = inl less
    alike e f same (inr h) = inr (h.0, inr (ap number_of same, h.1))

    up : left < right → nat_lt left right ≡ true
    up less = (Decides-ltb left right).1 less

    down : right < left → nat_lt left right ≡ false
    down less = grind (arith, nat_tests)

    -- entries of both sides
    crossed : (e f : Entry) (m n : ℕ) → relation_of_side e.side ≡ m → relation_of_side f.side ≡ n → (m ≡ n → ⊥) → (m < n → number_of e.side < number_of f.side) →
        is_gt (entry_cmp left right e f) ≡ false → IsBefore (at e) (at f)
    crossed e f m n is_m is_n differ steps low =
        by (apart-sides e.change.place f.change.place m n differ (subst₂ (λ x y. is_gt (between_cmp e.change.place x f.change.place y) ≡ false) is_m is_n low))
      where
        by : (stamp_cmp e.change.place.stamp f.change.place.stamp ≡ Less) ⊎ ((e.change.place.stamp ≡ f.change.place.stamp) × (m < n)) → IsBefore (at e) (at f)
        by (inl less) = inl less
        by (inr h) = inr (h.0, inl (steps h.1))

    pair : (e f : Entry) → IsSided e → IsSided f → ((e.side == 0) ≡ true → (f.side == 0) ≡ true → AreInOrder e f) → ((e.side == 1) ≡ true → (f.side == 1) ≡ true → AreInOrder e f) →
        is_gt (entry_cmp left right e f) ≡ false → IsBefore (at e) (at f)
    pair e f (inl is_e) (inl is_f) first second low = alike e f (is_e ∙ sym is_f) (first (ap (λ s. s == 0) is_e) (ap (λ s. s == 0) is_f))
    pair e f (inr is_e) (inr is_f) first second low = alike e f (is_e ∙ sym is_f) (second (ap (λ s. s == 1) is_e) (ap (λ s. s == 1) is_f))
    pair e f (inl is_e) (inr is_f) first second low =
        crossed e f left right (ap relation_of_side is_e) (ap relation_of_side is_f) apart
        (λ less. subst₂ (λ x y. x < y) (sym (ap₂ (λ b s. if b then s else other_side s) (up less) is_e)) (sym (ap₂ (λ b s. if b then s else other_side s) (up less) is_f)) (omega arith)) low
    pair e f (inr is_e) (inl is_f) first second low =
        crossed e f right left (ap relation_of_side is_e) (ap relation_of_side is_f) (λ same. apart (sym same))
        (λ less. subst₂ (λ x y. x < y) (sym (ap₂ (λ b s. if b then s else other_side s) (down less) is_e)) (sym (ap₂ (λ b s. if b then s else other_side s) (down less) is_f)) (omega arith)) low

    pub both-rise : Rise lefts → Rise rights → RiseAt at (λ e. true) merged
    both-rise left_rise right_rise =
        Pairwise-weaker
        (λ e f. ((is_gt (entry_cmp left right e f) ≡ false) × (IsSided e × IsSided f))
        × (((e.side == 0) ≡ true → (f.side == 0) ≡ true → AreInOrder e f) × ((e.side == 1) ≡ true → (f.side == 1) ≡ true → AreInOrder e f)))
        (λ e f. true ≡ true → true ≡ true → IsBefore (at e) (at f))
        (λ e f h _ _. pair e f h.0.1.0 h.0.1.1 h.1.0 h.1.1 h.0.0)
        merged
        (Pairwise-both (λ e f. (is_gt (entry_cmp left right e f) ≡ false) × (IsSided e × IsSided f))
        (λ e f. ((e.side == 0) ≡ true → (f.side == 0) ≡ true → AreInOrder e f) × ((e.side == 1) ≡ true → (f.side == 1) ≡ true → AreInOrder e f))
        merged
        (Pairwise-both (λ e f. is_gt (entry_cmp left right e f) ≡ false) (λ e f. IsSided e × IsSided f) merged
        (Pairwise-from_ascends (entry_cmp left right) merged (Ascends-ascending (entries_total left right) both))
        (Pairwise-each IsSided merged merged-sided))
        (Pairwise-both (λ e f. (e.side == 0) ≡ true → (f.side == 0) ≡ true → AreInOrder e f) (λ e f. (e.side == 1) ≡ true → (f.side == 1) ≡ true → AreInOrder e f) merged
        (lefts-rise left_rise) (rights-rise right_rise)))
