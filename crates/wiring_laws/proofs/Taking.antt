-- What a task takes of a topic: the same entries as of what the topic's records say.
use Rattle.std.proofs.Common.{◌≡◌, ◌∙◌, ap, ap₂, refl, sym, ℕ, List, [], ◌∷◌, ◌++◌, map, Bool, true, false, cond, eq-eqb, ne_eqb}
use Rattle.std.proofs.lemmas.Cmp.{nat_cmp_total, tied_itself}
use Rattle.std.proofs.lemmas.List.{append-nil, map-append}
use Rattle.std.proofs.lemmas.List.Elements.{filter-append}
use Rattle.std.specs.Prelude.{◌==◌, ◌&&◌, filter, flat_map}
use Rattle.std.specs.Cmp.Lexicographic.{slice_cmp}
use Rattle.std.specs.List.{AllByRecursion}
use Rattle.std.specs.Ordering.{is_gt, nat_cmp, ordering_then}
use Rattle.std.specs.declared.cmp.Ordering.TheVariants.{Less}
use Rattle.ksql_types.specs.declared.relation.Kind.{Kind}
use Rattle.ksql_place.specs.Ascending.{ascending}
use Rattle.ksql_place.specs.Order.{between_cmp, place_cmp, stamp_cmp}
use Rattle.ksql_place.specs.Said.{saying}
use Rattle.ksql_place.specs.declared.change.Change.{Change}
use Rattle.ksql_place.specs.declared.change.SourceRecord.{SourceRecord}
use Rattle.ksql_place.specs.declared.stamp.Place.{Place}
use Rattle.ksql_place.proofs.Ascending.{Ascends, ascending-kept}
use Rattle.ksql_nodes.specs.declared.node.Node.{Node}
use Rattle.ksql_nodes.specs.Entries.{Entry, from_side}
use Rattle.query_meaning.specs.Queries.{entry_cmp}
use Rattle.query_meaning.proofs.QuerySteps.{entries_total}
use Rattle.meaning_laws.proofs.Lists.{Pairwise}
use Rattle.meaning_laws.proofs.Saying.{saying-keeps}
use Rattle.topology.specs.Contents.{Contents, side_entries, task_entries, with_cells}
use Rattle.topology.specs.declared.topology.SubInput.{SubInput}
use Rattle.core_state.specs.State.{is_in}
use Rattle.core_state.specs.declared.log.LogEntry.{LogEntry}
use Rattle.core_state.specs.declared.log.LogEntry.TheVariants.{Fed, Said}
use Rattle.task_core.specs.Reading.{kind_read, relation_of, taken}
use Rattle.task_core.specs.Core.{taken_of}
use Rattle.wiring_laws.proofs.Steps.{cells-place}

-- ---- of one topic

-- of changes
pub said-taken : (nodes : List Node) (side : ℕ) (input : SubInput) (cs : List Change) → flat_map (taken nodes side input) (map Said cs) ≡ from_side side (map (with_cells input.keys) cs)
said-taken nodes side input [] = refl
said-taken nodes side input (c ∷ cs) = ap (λ rest. from_side side (with_cells input.keys c ∷ []) ++ rest) (said-taken nodes side input cs)

-- of records
pub fed-taken : (nodes : List Node) (side : ℕ) (input : SubInput) (rs : List SourceRecord) →
    flat_map (taken nodes side input) (map Fed rs) ≡ from_side side (map (with_cells input.keys) (flat_map (saying (kind_read nodes side)) rs))
fed-taken nodes side input [] = refl
fed-taken nodes side input (r ∷ rs) =
    let now : List Change = saying (kind_read nodes side) r in
    let later : List Change = flat_map (saying (kind_read nodes side)) rs in
    ap (λ rest. from_side side (map (with_cells input.keys) now) ++ rest) (fed-taken nodes side input rs)
    ∙ sym (ap (from_side side) (map-append (with_cells input.keys) now later) ∙ map-append (λ (c : Change). record { side = side; change = c }) (map (with_cells input.keys) now) (map (with_cells input.keys) later))

-- ---- the records of a partition

abbrev pub stands_in : ℕ → Change → Bool
stands_in part c = c.place.stamp.part == part

all-stand : (part : ℕ) (r : SourceRecord) (cs : List Change) → AllByRecursion (λ c. c.place.stamp ≡ r.stamp) cs → (r.stamp.part == part) ≡ true → filter (stands_in part) cs ≡ cs
all-stand part r [] all is = refl
all-stand part r (c ∷ cs) all is =
    ap (λ b. cond b (c ∷ filter (stands_in part) cs) (filter (stands_in part) cs)) (ap (λ s. s.part == part) all.0 ∙ is) ∙ ap (λ rest. c ∷ rest) (all-stand part r cs all.1 is)

none-stand : (part : ℕ) (r : SourceRecord) (cs : List Change) → AllByRecursion (λ c. c.place.stamp ≡ r.stamp) cs → (r.stamp.part == part) ≡ false → filter (stands_in part) cs ≡ []
none-stand part r [] all is = refl
none-stand part r (c ∷ cs) all is =
    ap (λ b. cond b (c ∷ filter (stands_in part) cs) (filter (stands_in part) cs)) (ap (λ s. s.part == part) all.0 ∙ is) ∙ none-stand part r cs all.1 is

-- what the records of a topic say in a partition is what the records of that partition say
pub said-part : (kind : Kind) (topic part : ℕ) (order : List SourceRecord) →
    filter (stands_in part) (flat_map (saying kind) (filter (λ (r : SourceRecord). r.stamp.topic == topic) order)) ≡ flat_map (saying kind) (filter (is_in topic part) order)
said-part kind topic part [] = refl
said-part kind topic part (r ∷ rs) = by (r.stamp.topic == topic) (r.stamp.part == part) refl (said-part kind topic part rs)
  where
    of_topic : List SourceRecord
    of_topic = filter (λ (x : SourceRecord). x.stamp.topic == topic) rs

    of_part : List SourceRecord
    of_part = filter (is_in topic part) rs

    now : List Change
    now = saying kind r

    by : (b d : Bool) → (r.stamp.part == part) ≡ d → filter (stands_in part) (flat_map (saying kind) of_topic) ≡ flat_map (saying kind) of_part →
        filter (stands_in part) (flat_map (saying kind) (cond b (r ∷ of_topic) of_topic)) ≡ flat_map (saying kind) (cond (b && d) (r ∷ of_part) of_part)
    by false d is rest = rest
    by true true is rest = filter-append (stands_in part) now (flat_map (saying kind) of_topic) ∙ ap₂ (λ xs ys. xs ++ ys) (all-stand part r now (saying-keeps kind r) is) rest
    by true false is rest = filter-append (stands_in part) now (flat_map (saying kind) of_topic) ∙ ap₂ (λ xs ys. xs ++ ys) (none-stand part r now (saying-keeps kind r) is) rest

-- ---- the order of entries of one side

-- places that rise are in order, whatever the number of their relation
in-order : (p q : Place) (n : ℕ) → place_cmp p q ≡ Less → is_gt (between_cmp p n q n) ≡ false
in-order p q n less = ap is_gt (ap (λ o. ordering_then (stamp_cmp p.stamp q.stamp) (ordering_then o (slice_cmp nat_cmp p.path q.path))) (tied_itself nat_cmp_total n) ∙ less)

abbrev pub IsBelow : Change → Change → Type 0
IsBelow c d = place_cmp c.place d.place ≡ Less

first-side : (left right columns : ℕ) (c : Change) (cs : List Change) → AllByRecursion (IsBelow c) cs →
    AllByRecursion (λ e. is_gt (entry_cmp left right (record { side = 0; change = with_cells columns c }) e) ≡ false) (from_side 0 (map (with_cells columns) cs))
first-side left right columns c [] all = tt
first-side left right columns c (d ∷ cs) all =
    (ap₂ (λ p q. is_gt (between_cmp p left q left)) (cells-place columns c) (cells-place columns d) ∙ in-order c.place d.place left all.0, first-side left right columns c cs all.1)

side-ascends : (left right columns : ℕ) (cs : List Change) → Pairwise IsBelow cs → Ascends (entry_cmp left right) (from_side 0 (map (with_cells columns) cs))
side-ascends left right columns [] rise = tt
side-ascends left right columns (c ∷ cs) rise = (first-side left right columns c cs rise.0, side-ascends left right columns cs rise.1)

-- ---- of the inputs of a task

-- what a task reads of what its inputs show
abbrev pub entries_read : List Node → List SubInput → (ℕ → List LogEntry) → List Entry
entries_read nodes inputs shown =
    ascending (entry_cmp (relation_of inputs 0) (relation_of inputs 1)) (flat_map (λ i. flat_map (taken_of nodes 0 inputs i) (shown i)) (map (λ (i : SubInput). i.topic) inputs))

module _ (nodes : List Node) (shown : ℕ → List LogEntry) (has : Contents) (part : ℕ) where
  abbrev pub IsShown : ℕ → SubInput → Type 0
  IsShown side i = flat_map (taken nodes side i) (shown i.topic) ≡ side_entries side i has part

  pub one-read : (a : SubInput) → IsShown 0 a → Pairwise IsBelow (has a.topic part) → entries_read nodes (a ∷ []) shown ≡ task_entries (a ∷ []) has part
  one-read a is rise =
      ap (ascending (entry_cmp a.relation 0))
      (append-nil (flat_map (taken_of nodes 0 (a ∷ []) a.topic) (shown a.topic))
      ∙ ap (λ b. flat_map (λ x. cond b (taken nodes 0 a x) []) (shown a.topic)) (eq-eqb a.topic a.topic refl) ∙ is)
      ∙ ascending-kept (entries_total a.relation 0) (side_entries 0 a has part) (side-ascends a.relation 0 a.keys (has a.topic part) rise)

  pub two-read : (a b : SubInput) → IsShown 0 a → IsShown 1 b → (a.topic ≡ b.topic → ⊥) → entries_read nodes (a ∷ b ∷ []) shown ≡ task_entries (a ∷ b ∷ []) has part
  two-read a b first second apart =
      ap (ascending (entry_cmp a.relation b.relation))
      (ap₂ (λ xs ys. xs ++ ys)
      (ap (λ t. flat_map (λ x. cond t (taken nodes 0 a x) (cond (b.topic == a.topic) (taken nodes 1 b x) [])) (shown a.topic)) (eq-eqb a.topic a.topic refl) ∙ first)
      (append-nil (flat_map (taken_of nodes 0 (a ∷ b ∷ []) b.topic) (shown b.topic))
      ∙ ap₂ (λ t u. flat_map (λ x. cond t (taken nodes 0 a x) (cond u (taken nodes 1 b x) [])) (shown b.topic)) (ne_eqb a.topic b.topic apart) (eq-eqb b.topic b.topic refl) ∙ second))
