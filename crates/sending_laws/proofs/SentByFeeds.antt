-- What tasks send for the records that pass a test of stamps, if these come first.
use Rattle.std.proofs.Common.{◌≡◌, ◌∙◌, ap, ap₂, sym, refl, ℕ, zero, suc, List, [], ◌∷◌, ◌++◌, map, Bool, true, false, cond, arith}
use Rattle.std.specs.Prelude.{◌==◌, filter, flat_map, if◌then◌else◌, Option, Some, None, nat_le, slice_get}
use Rattle.std.specs.Cmp.{IsTotalOrder}
use Rattle.std.specs.List.{range_with_len}
use Rattle.std.specs.Ordering.{is_gt, nat_cmp, ordering_then}
use Rattle.std.specs.declared.cmp.Ordering.{Ordering}
use Rattle.std.specs.declared.cmp.Ordering.TheVariants.{Less, Equal, Greater}
use Rattle.std.proofs.lemmas.Cmp.{on_total}
use Rattle.std.proofs.lemmas.List.Elements.{filter-append}
use Rattle.std.proofs.lemmas.Bool.Decides.{nat_tests}
use Rattle.ksql_types.specs.declared.relation.Kind.{Kind}
use Rattle.ksql_types.specs.declared.relation.Relation.{Relation}
use Rattle.ksql_types.specs.declared.topic.TopicSpec.{TopicSpec}
use Rattle.ksql_place.specs.Ascending.{ascending, PassesFirst, Rises}
use Rattle.ksql_place.specs.Order.{record_cmp, stamp_cmp}
use Rattle.ksql_place.specs.Said.{is_of_topic, said, said_by, saying}
use Rattle.ksql_place.specs.declared.change.Body.{Body}
use Rattle.ksql_place.specs.declared.change.Change.{Change}
use Rattle.ksql_place.specs.declared.change.SourceRecord.{SourceRecord}
use Rattle.ksql_place.specs.declared.stamp.Stamp.{Stamp}
use Rattle.ksql_place.proofs.Ascending.{Ascends, Ascends-ascending, filter-ascending}
use Rattle.ksql_place.proofs.Orders.{place_total}
use Rattle.ksql_program.specs.declared.program.Item.{Item}
use Rattle.ksql_program.specs.declared.program.Item.TheVariants.{Declared, Started}
use Rattle.ksql_nodes.specs.Entries.{Entry, from_side, through}
use Rattle.ksql_nodes.specs.Nodes.{gives}
use Rattle.ksql_nodes.specs.Steps.{KeepsStamp}
use Rattle.ksql_nodes.proofs.Cuts.{through-cut}
use Rattle.ksql_nodes.proofs.Stamps.{gives-keeps}
use Rattle.query_meaning.specs.Meaning.{up_to}
use Rattle.query_meaning.specs.Queries.{entry_cmp}
use Rattle.query_meaning.proofs.QuerySteps.{entries_total}
use Rattle.meaning_laws.proofs.Cuts.{rises-first}
use Rattle.meaning_laws.proofs.Lists.{All-map, All-of, All-weaker, filter-map, filter-swap, first-filter, first-map, Pairwise-from_all}
use Rattle.meaning_laws.proofs.Saying.{placed_at, saying-keeps, flat-each}
use Rattle.meaning_laws.proofs.StampOrder.{passes, enters, PassesAfter, first-append}
use Rattle.ksql_place.specs.Routing.{change_cmp, is_to, partitions_of}
use Rattle.topology.specs.Contents.{Contents, contents_from, sent, side_entries, source_changes, source_contents, task_entries, task_results, with_cells, with_sub}
use Rattle.topology.specs.declared.topology.Sub.{Sub}
use Rattle.topology.specs.declared.topology.SubInput.{SubInput}
use Rattle.topology.specs.declared.topology.Topology.{Topology}
use Rattle.sending_laws.specs.Sent.{IsSentByFeeds}

first-of : (o p : Ordering) → is_gt (ordering_then o p) ≡ false → is_gt o ≡ false
first-of Less p h = refl
first-of Equal p h = refl
first-of Greater p h = h

filter-each : {A B : Type 0} (p : B → Bool) (f g : A → List B) → ((x : A) → filter p (f x) ≡ g x) → (xs : List A) → filter p (flat_map f xs) ≡ flat_map g xs
filter-each p f g same [] = refl
filter-each p f g same (x ∷ xs) = filter-append p (f x) (flat_map f xs) ∙ ap₂ (λ now rest. now ++ rest) (same x) (filter-each p f g same xs)

-- if all that a member gives passes, or none of it
flat-filter : {A B : Type 0} (q : A → Bool) (f : A → List B) (xs : List A) → flat_map (λ x. cond (q x) (f x) []) xs ≡ flat_map f (filter q xs)
flat-filter q f [] = refl
flat-filter {A} {B} q f (x ∷ xs) = by (q x) (flat-filter q f xs)
  where
    by : (b : Bool) → flat_map (λ x. cond (q x) (f x) []) xs ≡ flat_map f (filter q xs) →
        cond b (f x) [] ++ flat_map (λ x. cond (q x) (f x) []) xs ≡ flat_map f (cond b (x ∷ filter q xs) (filter q xs))
    by true ih = ap (λ (rest : List B). f x ++ rest) ih
    by false ih = ih

change_total : IsTotalOrder change_cmp
change_total = on_total (λ (c : Change). c.place) place_total

module _ (p : Stamp → Bool) (lower : (a b : Stamp) → is_gt (stamp_cmp a b) ≡ false → p b ≡ true → p a ≡ true) where
  abbrev cut : List Change → List Change
  cut changes = filter (passes p) changes

  abbrev cut_records : List SourceRecord → List SourceRecord
  cut_records order = filter (λ r. p r.stamp) order

  abbrev First : List Change → Type 0
  First changes = PassesFirst (passes p) changes

  -- in an order by stamps, the members that pass come first
  ascends-first : {A : Type 0} (cmp : A → A → Ordering) (at : A → Stamp) → ((a b : A) → is_gt (cmp a b) ≡ false → is_gt (stamp_cmp (at a) (at b)) ≡ false) → (xs : List A) →
      Ascends cmp xs → PassesFirst (λ x. p (at x)) xs
  ascends-first cmp at by [] up = tt
  ascends-first cmp at by (x ∷ xs) up = (
    All-weaker (λ later. is_gt (cmp x later) ≡ false) (λ later. PassesAfter p (at x) (at later)) (λ later low. lower (at x) (at later) (by x later low)) xs up.0,
    ascends-first cmp at by xs up.1,
  )

  -- ---- what records say

  placed-cut : (r : SourceRecord) (o : Option Body) → cut (placed_at r o) ≡ cond (p r.stamp) (placed_at r o) []
  placed-cut r None = elim (p r.stamp) as (λ b. ◌≡◌ {A = List Change} [] (cond b [] [])) [ true ↦ refl | false ↦ refl ]
  placed-cut r (Some body) = refl

  said-cut : (relation : Relation) (order : List SourceRecord) → cut (said relation order) ≡ said relation (cut_records order)
  unfolding said
  said-cut relation order =
      let say : SourceRecord → List Change = saying relation.kind in
      filter-each (passes p) say (λ r. cond (p r.stamp) (say r) []) (λ r. placed-cut r (said_by relation.kind r.key r.value)) (filter (is_of_topic relation) order)
      ∙ flat-filter (λ (r : SourceRecord). p r.stamp) say (filter (is_of_topic relation) order)
      ∙ ap (flat_map say) (filter-swap (λ r. p r.stamp) (is_of_topic relation) order)

  flat-first : (kind : Kind) (order : List SourceRecord) → PassesFirst (λ r. p r.stamp) order → First (flat_map (saying kind) order)
  flat-first kind [] first = tt
  flat-first kind (r ∷ rs) first =
      first-append p r.stamp (saying kind r) (flat_map (saying kind) rs) (saying-keeps kind r) (flat-each (PassesAfter p r.stamp) kind rs first.0) (flat-first kind rs first.1)

  said-first : (relation : Relation) (order : List SourceRecord) → PassesFirst (λ r. p r.stamp) order → First (said relation order)
  unfolding said
  said-first relation order first = flat-first relation.kind (filter (is_of_topic relation) order) (first-filter (λ r. p r.stamp) (is_of_topic relation) order first)

  module _ (items : List Item) (order : List SourceRecord) where
    source-cut : (topic part : ℕ) → cut (source_contents items order topic part) ≡ source_contents items (cut_records order) topic part
    source-cut topic part = filter-swap (passes p) (λ c. c.place.stamp.part == part) (source_changes order (slice_get items topic)) ∙ ap (filter (λ c. c.place.stamp.part == part)) (by (slice_get items topic))
      where
        by : (o : Option Item) → cut (source_changes order o) ≡ source_changes (cut_records order) o
        by None = refl
        by (Some (Declared r)) = said-cut r order
        by (Some (Started q)) = refl

    source-first : PassesFirst (λ r. p r.stamp) order → (topic part : ℕ) → First (source_contents items order topic part)
    source-first first topic part = first-filter (passes p) (λ c. c.place.stamp.part == part) (source_changes order (slice_get items topic)) (by (slice_get items topic))
      where
        by : (o : Option Item) → First (source_changes order o)
        by None = tt
        by (Some (Declared r)) = said-first r order first
        by (Some (Started q)) = tt

  -- ---- a sub-topology, of contents and of these cut

  abbrev AreCut : Contents → Contents → Type 0
  AreCut has less = (topic part : ℕ) → cut (has topic part) ≡ less topic part

  abbrev AreFirst : Contents → Type 0
  AreFirst has = (topic part : ℕ) → First (has topic part)

  abbrev entry : ℕ → Change → Entry
  entry side c = record { side = side; change = c }

  cells-cut : (columns : ℕ) (changes : List Change) → cut (map (with_cells columns) changes) ≡ map (with_cells columns) (cut changes)
  cells-cut zero changes = filter-map (passes p) (with_cells zero) changes
  cells-cut (suc columns) changes = filter-map (passes p) (with_cells (suc columns)) changes

  cells-first : (columns : ℕ) (changes : List Change) → First changes → First (map (with_cells columns) changes)
  cells-first zero changes first = first-map (passes p) (with_cells zero) changes first
  cells-first (suc columns) changes first = first-map (passes p) (with_cells (suc columns)) changes first

  module _ (has less : Contents) (first : AreFirst has) (same : AreCut has less) where
    side-cut : (side : ℕ) (input : SubInput) (part : ℕ) → filter (enters p) (side_entries side input has part) ≡ side_entries side input less part
    side-cut side input part =
        filter-map (enters p) (entry side) (map (with_cells input.keys) (has input.topic part))
        ∙ ap (from_side side) (cells-cut input.keys (has input.topic part) ∙ ap (map (with_cells input.keys)) (same input.topic part))

    reads-cut : (inputs : List SubInput) (part : ℕ) → filter (enters p) (task_entries inputs has part) ≡ task_entries inputs less part
    reads-cut [] part = refl
    reads-cut (one ∷ []) part = side-cut 0 one part
    reads-cut (left ∷ right ∷ more) part =
        filter-ascending (entries_total left.relation right.relation) (enters p) (side_entries 0 left has part ++ side_entries 1 right has part)
        ∙ ap (ascending (entry_cmp left.relation right.relation))
        (filter-append (enters p) (side_entries 0 left has part) (side_entries 1 right has part) ∙ ap₂ (λ xs ys. xs ++ ys) (side-cut 0 left part) (side-cut 1 right part))

    reads-first : (inputs : List SubInput) (part : ℕ) → PassesFirst (enters p) (task_entries inputs has part)
    reads-first [] part = tt
    reads-first (one ∷ []) part =
        first-map (enters p) (entry 0) (map (with_cells one.keys) (has one.topic part)) (cells-first one.keys (has one.topic part) (first one.topic part))
    reads-first (left ∷ right ∷ more) part =
        ascends-first (entry_cmp left.relation right.relation) (λ e. e.change.place.stamp) (λ a b low. first-of (stamp_cmp a.change.place.stamp b.change.place.stamp) _ low)
        (task_entries (left ∷ right ∷ more) has part)
        (Ascends-ascending (entries_total left.relation right.relation) (side_entries 0 left has part ++ side_entries 1 right has part))

    results-cut : (sub : Sub) (part : ℕ) → cut (task_results sub has part) ≡ task_results sub less part
    results-cut sub part =
        through-cut p (map (gives 1) sub.nodes) (All-map KeepsStamp (gives 1) sub.nodes (All-of sub.nodes (gives-keeps 1))) (task_entries sub.inputs has part) (reads-first sub.inputs part)
        ∙ ap (through (map (gives 1) sub.nodes)) (reads-cut sub.inputs part)

    sent-cut : (sub : Sub) (n part : ℕ) → cut (sent sub has n part) ≡ sent sub less n part
    sent-cut sub n part =
        filter-ascending change_total (passes p) (flat_map (λ task. filter (is_to n part) (task_results sub has task)) (range_with_len 0 sub.partitions))
        ∙ ap (ascending change_cmp)
        (filter-each (passes p) (λ task. filter (is_to n part) (task_results sub has task)) (λ task. filter (is_to n part) (task_results sub less task))
        (λ task. filter-swap (passes p) (is_to n part) (task_results sub has task) ∙ ap (filter (is_to n part)) (results-cut sub task)) (range_with_len 0 sub.partitions))

    sent-first : (sub : Sub) (n part : ℕ) → First (sent sub has n part)
    sent-first sub n part =
        ascends-first change_cmp (λ c. c.place.stamp) (λ a b low. first-of (stamp_cmp a.place.stamp b.place.stamp) _ low) (sent sub has n part)
        (Ascends-ascending change_total (flat_map (λ task. filter (is_to n part) (task_results sub has task)) (range_with_len 0 sub.partitions)))

    sub-cut : (topics : List TopicSpec) (sub : Sub) → AreCut (with_sub topics has sub) (with_sub topics less sub)
    sub-cut topics sub topic part =
        elim (topic == sub.output) as (λ b. cut (if b then sent sub has (partitions_of topics topic) part else has topic part) ≡ (if b then sent sub less (partitions_of topics topic) part else less topic part))
        [ true ↦ sent-cut sub (partitions_of topics topic) part | false ↦ same topic part ]

    sub-first : (topics : List TopicSpec) (sub : Sub) → AreFirst (with_sub topics has sub)
    sub-first topics sub topic part =
        elim (topic == sub.output) as (λ b. First (if b then sent sub has (partitions_of topics topic) part else has topic part))
        [ true ↦ sent-first sub (partitions_of topics topic) part | false ↦ first topic part ]

  pub contents-cut : (topics : List TopicSpec) (has less : Contents) → AreFirst has → AreCut has less → (subs : List Sub) → AreCut (contents_from topics has subs) (contents_from topics less subs)
  unfolding contents_from
  contents-cut topics has less first same [] = same
  contents-cut topics has less first same (s ∷ ss) =
      contents-cut topics (with_sub topics has s) (with_sub topics less s) (sub-first has less first same topics s) (sub-cut has less first same topics s) ss

-- ---- feeds

up_to-lower : (feed : ℕ) (a b : Stamp) → is_gt (stamp_cmp a b) ≡ false → nat_le b.feed feed ≡ true → nat_le a.feed feed ≡ true
up_to-lower feed a b low is =
    let first : is_gt (nat_cmp a.feed b.feed) ≡ false = first-of (nat_cmp a.feed b.feed) _ low in
    grind (arith, nat_tests)

pub sent-by_feeds : (items : List Item) (t : Topology) (order : List SourceRecord) → Rises record_cmp order → IsSentByFeeds items t order
sent-by_feeds items t order rises feed topic part =
    let p : Stamp → Bool = λ s. nat_le s.feed feed in
    let first : PassesFirst (λ (r : SourceRecord). p r.stamp) order = rises-first p (up_to-lower feed) order (Pairwise-from_all (λ a b. record_cmp a b ≡ Less) order rises) in
    sym (contents-cut p (up_to-lower feed) t.topics (source_contents items order) (source_contents items (up_to feed order))
    (source-first p (up_to-lower feed) items order first) (source-cut p (up_to-lower feed) items order) t.subs topic part)
