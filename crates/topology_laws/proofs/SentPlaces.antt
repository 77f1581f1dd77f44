-- In each partition of each topic, repartition topics too, places rise.
use Rattle.std.proofs.Common.{◌≡◌, ◌∙◌, ap, refl, sym, subst, ℕ, ◌+◌, ◌<◌, ◌≤◌, List, [], ◌∷◌, ◌++◌, map, length, take, Bool, true, false, if◌then◌else◌, arith}
use Rattle.std.proofs.lemmas.Option.{none-some}
use Rattle.std.specs.Prelude.{◌==◌, filter, Option, Some, None, slice_get}
use Rattle.std.specs.List.{AllByRecursion}
use Rattle.ksql_types.specs.Columns.{columns}
use Rattle.ksql_types.specs.declared.relation.Kind.TheVariants as kind
use Rattle.ksql_types.specs.declared.relation.Relation.{Relation}
use Rattle.ksql_types.specs.declared.topic.TopicSpec.{TopicSpec}
use Rattle.ksql_types.specs.declared.value.SqlType.{SqlType}
use Rattle.ksql_place.specs.declared.change.Change.{Change}
use Rattle.ksql_place.specs.declared.change.SourceRecord.{SourceRecord}
use Rattle.ksql_expr.specs.declared.typed.Typed.{Typed}
use Rattle.ksql_program.specs.Program.{relation_at, relation_of}
use Rattle.ksql_program.specs.Sound.{column_types, IsCondition, IsSound, IsSoundQuery, Makes, Reads, joined as of_join, one as of_one, query as of_query}
use Rattle.ksql_program.specs.declared.program.Item.{Item}
use Rattle.ksql_program.specs.declared.program.Item.TheVariants.{Declared, Started}
use Rattle.ksql_program.specs.declared.query.From.{From}
use Rattle.ksql_program.specs.declared.query.From.TheVariants.{One, Join}
use Rattle.ksql_program.specs.declared.query.JoinKind.{JoinKind}
use Rattle.ksql_program.specs.declared.query.Query.{Query}
use Rattle.ksql_program.specs.declared.query.Shape.{Shape}
use Rattle.ksql_program.specs.declared.query.Shape.TheVariants as shape
use Rattle.ksql_nodes.specs.declared.node.Node.{Node}
use Rattle.ksql_nodes.specs.declared.node.Node.TheVariants as node
use Rattle.ksql_nodes.specs.Entries.{from_side, results, through}
use Rattle.ksql_nodes.specs.Nodes.{gives}
use Rattle.ksql_nodes.proofs.Lists.{All-append}
use Rattle.query_meaning.specs.Meaning.{meaning}
use Rattle.query_meaning.specs.Queries.{changes_at, filter_of, join_of, lanes_of, leftmost, partitions_at}
use Rattle.meaning_laws.proofs.EachRelation.{AreAmong, Each}
use Rattle.meaning_laws.proofs.Forks.{IsBefore, Rise, rise-placed}
use Rattle.meaning_laws.proofs.Lists.{Pairwise-filter}
use Rattle.meaning_laws.proofs.RelationColumns.{AreChangesOf}
use Rattle.meaning_laws.proofs.RelationTables.{TurnsIn}
use Rattle.meaning_laws.proofs.Turning.{changed-from-side}
use Rattle.ksql_place.specs.Routing.{is_to, partitions_of}
use Rattle.topology.specs.Contents.{Contents, contents, contents_from, sent, source_changes, source_contents, task_entries, with_sub}
use Rattle.topology.specs.Stages.{aggregate_nodes, are_own_key, inputs_of, is_rekeyed, rekey_stages, shape_stages, stages_of, table_of}
use Rattle.topology.specs.Topologies.{cuts_of, input_of, sub_of, subs_from, topology_of}
use Rattle.topology.specs.declared.stage.CutName.{CutName}
use Rattle.topology.specs.declared.stage.CutName.TheVariants as cut
use Rattle.topology.specs.declared.stage.Link.TheVariants as link
use Rattle.topology.specs.declared.stage.Stage.{Stage}
use Rattle.topology.specs.declared.topology.Sub.{Sub}
use Rattle.lane_laws.specs.Lanes.{in_part}
use Rattle.short_laws.specs.Fed.{IsFed}
use Rattle.sending_laws.specs.Sent.{IsPlacedThroughout}
use Rattle.topology_laws.proofs.EachSent.{HasAll, IsDone, begins, declared-more, each-changes, each-rise, each-turned, kept, numbered-before, out-count, out-number, query-more, raw-at, raw-before, raws, reads, reads-low}
use Rattle.topology_laws.proofs.FirstStage.{one-part, raw_entries, read-rise, read_changes}
use Rattle.topology_laws.proofs.InARow.{HasOneInput, nodes-rise}
use Rattle.sending_laws.proofs.ItemLists.{before-among, each-before, relation-at, sound-at, within}
use Rattle.topology_laws.proofs.QuerySent.{plain-reads, rekeyed-reads, rekeyed-sent, rekeying, relation-stands}
use Rattle.topology_laws.proofs.Raw.{IsRaw}
use Rattle.topology_laws.proofs.ShapeSent.{filter-laned, filter-one, first-sent, regroup, reshaped}
use Rattle.sending_laws.proofs.GroupStages.{cut_stages, whole_stages}
use Rattle.sending_laws.proofs.SubContents.{with-sub-other}
use Rattle.topology_laws.proofs.WholeRaw.{whole-raw-rise, whole_raw}
use Rattle.sending_laws.proofs.ItemLists.{partitions-at}

-- ---- a topic

-- places rise in each partition of a topic
abbrev RiseIn : ℕ → Contents → Type 0
RiseIn topic has = (part : ℕ) → Rise (has topic part)

filter-rise : (keeps : Change → Bool) (changes : List Change) → Rise changes → Rise (filter keeps changes)
filter-rise keeps changes rise = Pairwise-filter (λ c d. IsBefore c.place d.place) keeps changes rise

-- they still do after a sub-topology all of whose lists rise
sub-rises : (topics : List TopicSpec) (has : Contents) (s : Sub) (topic : ℕ) → ((n part : ℕ) → Rise (sent s has n part)) → RiseIn topic has → RiseIn topic (with_sub topics has s)
sub-rises topics has s topic sends rise part = by (topic == s.output)
  where
    by : (b : Bool) → Rise (if b then sent s has (partitions_of topics topic) part else has topic part)
    by true = sends (partitions_of topics topic) part
    by false = rise part

-- and after one that writes another topic
other-rises : (topics : List TopicSpec) (has : Contents) (s : Sub) (topic : ℕ) → (topic ≡ s.output → ⊥) → RiseIn topic has → RiseIn topic (with_sub topics has s)
other-rises topics has s topic apart rise part = subst Rise (sym (with-sub-other topics has s topic part apart)) (rise part)

-- so after the last sub-topology of a query, which writes the topic of its result
last-rises : (topics : List TopicSpec) (has : Contents) (s : Sub) (topic : ℕ) → (topic ≡ s.output → ⊥) → RiseIn topic has → RiseIn topic (contents_from topics has (s ∷ []))
unfolding contents_from
last-rises topics has s topic apart rise = other-rises topics has s topic apart rise

-- ---- a query

-- the topics of the relations before a query: the content of each partition is the partition's part of a list
module _ (items before : List Item) (among : AreAmong before items) (lists : List (List Change))
    (each : Each AreChangesOf before lists) (rise : Each (λ r. Rise) before lists) (turned : Each TurnsIn before lists)
    (numbered : (number : ℕ) (r : Relation) → relation_at before number ≡ Some r → (r.number ≡ number) × (0 < r.partitions))
    (raws : ℕ → List Change) (raw : (number : ℕ) (r : Relation) → relation_at before number ≡ Some r → IsRaw r (raws number) (changes_at lists number) × Rise (raws number))
    (q : Query) (form : Shape) (topics : List TopicSpec) (query first : ℕ) (count : partitions_of topics q.out.number ≡ q.out.partitions)
    (topic : ℕ) (apart : topic ≡ q.out.number → ⊥) where
  -- the stages after a rekeying
  module _ (from : From) (types : List (Option SqlType)) (l : Relation) (reading : Reads before from types l) (condition : IsCondition l.kind types q.filter)
      (number : ℕ) (cuts : List CutName) (has : Contents)
      (stand : (part : ℕ) → task_entries (map (input_of items first cuts) (inputs_of items from)) has part ≡ filter (in_part (partitions_at items (leftmost from)) part) (raw_entries items raws (partitions_at items (leftmost from)) from)) where
    abbrev n : ℕ
    n = partitions_at items (leftmost from)

    abbrev read : List Change
    read = read_changes items lists n from

    -- the stage that groups
    abbrev grouping_sub : List Typed → Sub
    grouping_sub keys =
        sub_of items query first cuts number
        (record { inputs = inputs_of items from; nodes = (table_of items from ++ (join_of items from ++ filter_of q.filter)) ++ node.Group keys ∷ []; partitions = n; output = link.Cut cut.Group (leftmost from) })

    grouping-rises : (keys : List Typed) (m part : ℕ) → Rise (sent (grouping_sub keys) has m part)
    grouping-rises keys m part =
        let nodes : List Node = filter_of q.filter ++ node.Group keys ∷ [] in
        let one : AllByRecursion HasOneInput nodes = All-append HasOneInput (filter_of q.filter) (node.Group keys ∷ []) (filter-one q.filter) (tt, tt) in
        subst Rise
        (sym (first-sent items before among lists each rise turned numbered raws raw from types l reading q condition topics query first number cuts has stand count
        (filter_of q.filter) (filter-laned n q.filter (from_side 0 read)) (node.Group keys) tt one
        ((table_of items from ++ (join_of items from ++ filter_of q.filter)) ++ node.Group keys ∷ [])
        (regroup (table_of items from) (join_of items from) (filter_of q.filter) (node.Group keys ∷ [])) (link.Cut cut.Group (leftmost from)) m part))
        (filter-rise (is_to m part) (through (map (gives n) nodes) (from_side 0 read))
        (nodes-rise n nodes one read (read-rise items before among lists each rise numbered raws raw n from types l reading)))

    -- a query that is cut before its aggregate
    cut-rises : (keys : List Typed) (shape : Shape) (rest : List Node) → RiseIn topic has → RiseIn topic (contents_from topics has (subs_from items query first cuts number (cut_stages items (reshaped q from shape) keys rest)))
    unfolding contents_from
    cut-rises keys shape rest before =
        other-rises topics (with_sub topics has (grouping_sub keys))
        (sub_of items query first cuts (number + 1) (record { inputs = link.Cut cut.Group (leftmost from) ∷ []; nodes = rest; partitions = n; output = link.Relation q.out.number })) topic apart
        (sub-rises topics has (grouping_sub keys) topic (grouping-rises keys) before)

    shape-rises : (shape : Shape) → RiseIn topic has → RiseIn topic (contents_from topics has (subs_from items query first cuts number (shape_stages items (reshaped q from shape) shape)))
    shape-rises (shape.Plain keys values) before = last-rises topics has _ topic apart before
    shape-rises (shape.Group keys w aggs having values) before = by (are_own_key items from keys)
      where
        group : Query
        group = reshaped q from (shape.Group keys w aggs having values)

        rest : List Node
        rest = aggregate_nodes items group (shape.Group keys w aggs having values)

        by : (b : Bool) → RiseIn topic (contents_from topics has (subs_from items query first cuts number (if b then whole_stages items group keys rest else cut_stages items group keys rest)))
        by true = last-rises topics has _ topic apart before
        by false = cut-rises keys (shape.Group keys w aggs having values) rest before

  module _ (has : Contents) (number : ℕ)
      (reads : (j : ℕ) (r : Relation) → relation_at before j ≡ Some r → (part : ℕ) → has j part ≡ filter (is_to r.partitions part) (raws j))
      (low : (j : ℕ) (r : Relation) → relation_at before j ≡ Some r → j < first) (before_it : RiseIn topic has) where
    -- places rise in the topic after the stages of the query, where it reads these relations, and where these stages
    -- come first
    abbrev RiseAfter : From → List Stage → Type 0
    RiseAfter from rekeys =
        let stages = rekeys ++ shape_stages items (reshaped q from form) form in
        ((place : ℕ) → place < length (cuts_of stages) → partitions_of topics (first + place) ≡ partitions_at items (leftmost from)) →
        RiseIn topic (contents_from topics has (subs_from items query first (cuts_of stages) number stages))

    one-rises : (j : ℕ) (l : Relation) → relation_at before j ≡ Some l → (l.kind ≡ kind.Windowed → ⊥) → IsCondition l.kind (column_types (columns l)) q.filter → RiseAfter (One j) []
    one-rises j l at un condition counts =
        let cuts : List CutName = cuts_of (shape_stages items (reshaped q (One j) form) form) in
        shape-rises (One j) (column_types (columns l)) l (of_one at un) condition number cuts has
        (λ task. one-part has (input_of items first cuts (link.Relation j)) (partitions_at items j) task (whole_raw items raws j)
        (relation-stands items before among lists each rise turned numbered raws raw j l at (partitions_at items j) (partitions-at items before among j l at) has task (reads j l at task) first cuts))
        form before_it

    module _ (k : JoinKind) (left right : ℕ) (on : Typed) (types : List (Option SqlType)) (l r : Relation) (is_read : Reads before (Join k left right on) types l)
        (at_left : relation_at before left ≡ Some l) (at_right : relation_at before right ≡ Some r) (alike : l.partitions ≡ r.partitions)
        (condition : IsCondition l.kind types q.filter) (makes : Makes l types form q.out) where
      abbrev from_both : From
      from_both = Join k left right on

      abbrev lanes : ℕ
      lanes = partitions_at items left

      plain-rises : is_rekeyed items from_both ≡ false → RiseAfter from_both []
      plain-rises is counts =
          let cuts : List CutName = cuts_of (shape_stages items (reshaped q from_both form) form) in
          shape-rises from_both types l is_read condition number cuts has
          (plain-reads items before among lists each rise turned numbered raws raw q form topics has query first number reads low count 0 k left right on types l r is_read at_left at_right alike condition makes is cuts)
          form before_it

      rekeying-rises : (cuts : List CutName) (m part : ℕ) → Rise (sent (sub_of items query first cuts number (rekeying items left on)) has m part)
      rekeying-rises cuts m part =
          let lefts : List Change = whole_raw items raws left in
          let keyed : List Change = results (gives lanes (node.Rekey on)) [] (from_side 0 lefts) in
          subst Rise
          (sym (rekeyed-sent items before among lists each rise turned numbered raws raw q form topics has query first number reads low count 0 k left right on types l r is_read at_left at_right alike condition makes cuts m part))
          (filter-rise (is_to m part) keyed
          (subst Rise (changed-from-side keyed) (nodes-rise lanes (node.Rekey on ∷ []) (tt, tt) lefts (whole-raw-rise items raws left (raw left l at_left).1))))

      rekeyed-rises : is_rekeyed items from_both ≡ true → RiseAfter from_both (rekeying items left on ∷ [])
      unfolding contents_from
      rekeyed-rises is counts =
          let rest : List CutName = cuts_of (shape_stages items (reshaped q from_both form) form) in
          let sub : Sub = sub_of items query first (cut.Left ∷ rest) number (rekeying items left on) in
          shape-rises from_both types l is_read condition (number + 1) (cut.Left ∷ rest) (with_sub topics has sub)
          (rekeyed-reads items before among lists each rise turned numbered raws raw q form topics has query first number reads low count 0 k left right on types l r is_read at_left at_right alike condition makes is rest
          (counts 0 (omega arith)))
          form (sub-rises topics has sub topic (rekeying-rises (cut.Left ∷ rest)) before_it)

      join-rises : RiseAfter from_both (rekey_stages items (reshaped q from_both form))
      join-rises = by (is_rekeyed items from_both) refl
        where
          by : (again : Bool) → is_rekeyed items from_both ≡ again → RiseAfter from_both (if again then rekeying items left on ∷ [] else [])
          by true is = rekeyed-rises is
          by false is = plain-rises is

    from-rises : (from : From) (types : List (Option SqlType)) (l : Relation) → Reads before from types l → IsCondition l.kind types q.filter → Makes l types form q.out → RiseAfter from (rekey_stages items (reshaped q from form))
    from-rises (One number) types l (of_one at un) condition makes = one-rises number l at un condition
    from-rises (Join k left right on) types l (of_join {r = r} at_left at_right apart table alike joins) condition makes =
        join-rises k left right on types l r (of_join at_left at_right apart table alike joins) at_left at_right alike condition makes

-- ---- all items

module _ (items : List Item) (order : List SourceRecord) (sound : IsSound items) (fed : IsFed items order) where
  -- each partition of each relation's topic has its part, and in all other topics places rise
  abbrev HasRising : ℕ → Contents → Type 0
  HasRising k has = HasAll items order sound fed k has × ((topic : ℕ) → slice_get items topic ≡ None → RiseIn topic has)

  source-rises : (topic : ℕ) → slice_get items topic ≡ None → RiseIn topic (source_contents items order)
  source-rises topic none part = subst (λ o. Rise (filter (λ c. c.place.stamp.part == part) (source_changes order o))) (sym none) tt

  declared-rises : (k : ℕ) (r : Relation) (has : Contents) → slice_get items k ≡ Some (Declared r) → HasRising k has → HasRising (k + 1) has
  declared-rises k r has at all = (declared-more items order sound fed k r has at all.0, all.1)

  query-rises : (k first number : ℕ) (q : Query) (has : Contents) → slice_get items k ≡ Some (Started q) → length items ≤ first →
      ((place : ℕ) → place < length (cuts_of (stages_of items q)) → partitions_of (topology_of items).topics (first + place) ≡ lanes_of items q) → HasRising k has →
      HasRising (k + 1) (contents_from (topology_of items).topics has (subs_from items k first (cuts_of (stages_of items q)) number (stages_of items q)))
  unfolding stages_of
  query-rises k first number q has at high counts all =
      (query-more items order sound fed k first number q has at high counts all.0, λ topic none. by (sound-at items k (Started q) sound.sound at).1 topic none)
    where
      lists : List (List Change)
      lists = meaning items order

      by : IsSoundQuery (take k items) q → (topic : ℕ) → slice_get items topic ≡ None →
          RiseIn topic (contents_from (topology_of items).topics has (subs_from items k first (cuts_of (stages_of items q)) number (stages_of items q)))
      by (of_query {types = types} {left = l} reading condition makes _ _) topic none =
          from-rises items (take k items) (before-among items k) (take k lists)
          (each-before AreChangesOf items lists k (each-changes items order sound fed)) (each-before (λ r. Rise) items lists k (each-rise items order sound fed)) (each-before TurnsIn items lists k (each-turned items order sound fed))
          (numbered-before items order sound fed k) (raws items order sound fed) (raw-before items order sound fed k)
          q q.shape (topology_of items).topics k first (out-count items order sound fed k first number q has at high counts all.0)
          topic (λ same. none-some (Started q) (sym none ∙ ap (slice_get items) (same ∙ out-number items order sound fed k first number q has at high counts all.0) ∙ at))
          has number (reads items order sound fed k first number q has at high counts all.0) (reads-low items order sound fed k first number q has at high counts all.0)
          (all.1 topic none) q.from types l reading condition makes counts

  pub placed : IsPlacedThroughout items (topology_of items) order
  placed topic part = rise-placed (contents items (topology_of items) order topic part) (by (slice_get items topic) refl)
    where
      end : HasRising (length items) (contents items (topology_of items) order)
      end = kept items order sound fed HasRising declared-rises query-rises (begins items order sound fed, source-rises)

      done : (i : Item) → slice_get items topic ≡ Some i → IsDone items order sound fed (length items) topic i
      done (Declared r) at = tt
      done (Started q) at = within items topic (Started q) at

      by : (o : Option Item) → slice_get items topic ≡ o → Rise (contents items (topology_of items) order topic part)
      by None none = end.1 topic none part
      by (Some i) at =
          subst Rise (sym (end.0 topic i at (done i at) part))
          (filter-rise (is_to (relation_of i).partitions part) (raws items order sound fed topic) (raw-at items order sound fed topic (relation_of i) (relation-at items topic i at)).1)
