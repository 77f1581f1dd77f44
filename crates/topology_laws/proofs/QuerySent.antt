-- The tasks of a query send to each partition of its result's topic what the query means there.
use Rattle.std.proofs.Common.{◌≡◌, ◌∙◌, ap, refl, sym, subst, ℕ, ◌+◌, ◌<◌, List, [], ◌∷◌, ◌++◌, map, length, Bool, true, false, if◌then◌else◌, arith}
use Rattle.std.specs.Prelude.{filter, Option, Some}
use Rattle.std.specs.List.{AllByRecursion}
use Rattle.ksql_types.specs.Columns.{columns}
use Rattle.ksql_types.specs.declared.relation.Kind.TheVariants as kind
use Rattle.ksql_types.specs.declared.relation.Relation.{Relation}
use Rattle.ksql_types.specs.declared.topic.TopicSpec.{TopicSpec}
use Rattle.ksql_types.specs.declared.value.SqlType.{SqlType}
use Rattle.ksql_place.specs.declared.change.Change.{Change}
use Rattle.ksql_expr.specs.declared.typed.Typed.{Typed}
use Rattle.ksql_program.specs.Program.{relation_at}
use Rattle.ksql_program.specs.Sound.{column_types, IsCondition, IsSoundQuery, Makes, Reads, joined as of_join, one as of_one, query as of_query}
use Rattle.ksql_program.specs.declared.program.Item.{Item}
use Rattle.ksql_program.specs.declared.query.From.{From}
use Rattle.ksql_program.specs.declared.query.From.TheVariants.{One, Join}
use Rattle.ksql_program.specs.declared.query.JoinKind.{JoinKind}
use Rattle.ksql_program.specs.declared.query.Query.{Query}
use Rattle.ksql_program.specs.declared.query.Shape.{Shape}
use Rattle.ksql_program.specs.declared.query.Shape.TheVariants as shape
use Rattle.ksql_nodes.specs.declared.node.Node.{Node}
use Rattle.ksql_nodes.specs.declared.node.Node.TheVariants as node
use Rattle.ksql_nodes.specs.Entries.{from_side, results}
use Rattle.ksql_nodes.specs.Nodes.{gives}
use Rattle.ksql_nodes.proofs.Lists.{All-append}
use Rattle.query_meaning.specs.Queries.{changes_at, lanes_of, leftmost, partitions_at, query_changes}
use Rattle.meaning_laws.proofs.EachRelation.{AreAmong, Each}
use Rattle.meaning_laws.proofs.Forks.{Rise}
use Rattle.meaning_laws.proofs.RelationColumns.{AreChangesOf}
use Rattle.meaning_laws.proofs.RelationTables.{TurnsIn}
use Rattle.meaning_laws.proofs.Turning.{changed-from-side}
use Rattle.ksql_place.specs.Routing.{is_to, partitions_of}
use Rattle.topology.specs.Contents.{Contents, contents_from, sent, task_entries, with_sub}
use Rattle.topology.specs.Stages.{are_own_key, aggregate_nodes, inputs_of, is_rekeyed, rekey_stages, shape_stages, stages_of}
use Rattle.topology.specs.Topologies.{cuts_of, input_of, place_of, sub_of, subs_from, topic_of}
use Rattle.topology.specs.declared.stage.CutName.{CutName}
use Rattle.topology.specs.declared.stage.CutName.TheVariants as cut
use Rattle.topology.specs.declared.stage.Link.{Link}
use Rattle.topology.specs.declared.stage.Link.TheVariants as link
use Rattle.topology.specs.declared.stage.Stage.{Stage}
use Rattle.topology.specs.declared.topology.Sub.{Sub}
use Rattle.lane_laws.specs.Lanes.{in_part, merged}
use Rattle.topology_laws.proofs.Raw.{IsRaw}
use Rattle.topology_laws.proofs.FirstStage.{Stands, left_side, one-part, raw_entries, two-parts}
use Rattle.topology_laws.proofs.InARow.{stage-sent}
use Rattle.topology_laws.proofs.WholeRaw.{cells-none, some-partition, whole-part, whole-raw-rise, whole_raw}
use Rattle.sending_laws.proofs.ItemLists.{partitions-at}
use Rattle.topology_laws.proofs.ShapeSent.{IsCounted, reshaped, shape-sent}
use Rattle.sending_laws.proofs.GroupStages.{cut_stages, whole_stages}
use Rattle.sending_laws.proofs.SubContents.{cut-apart, place-below, with-sub-other, with-sub-own}

-- the stage that rekeys the left side of a join
abbrev pub rekeying : List Item → ℕ → Typed → Stage
rekeying items left on = record { inputs = link.Relation left ∷ []; nodes = node.Rekey on ∷ []; partitions = partitions_at items left; output = link.Cut cut.Left left }

-- the topics of the relations before a query: the content of each partition is the partition's part of a list
module _ (items before : List Item) (among : AreAmong before items) (lists : List (List Change))
    (each : Each AreChangesOf before lists) (rise : Each (λ r. Rise) before lists) (turned : Each TurnsIn before lists)
    (numbered : (number : ℕ) (r : Relation) → relation_at before number ≡ Some r → (r.number ≡ number) × (0 < r.partitions))
    (raws : ℕ → List Change) (raw : (number : ℕ) (r : Relation) → relation_at before number ≡ Some r → IsRaw r (raws number) (changes_at lists number) × Rise (raws number)) where
  -- if the repartition topics have as many partitions as the query has lanes, so does that of the groups
  counted-groups : (q : Query) (from : From) (form : Shape) (topics : List TopicSpec) (first : ℕ) (cuts rekeys : List CutName) → cuts ≡ rekeys ++ cuts_of (shape_stages items (reshaped q from form) form) →
      ((place : ℕ) → place < length cuts → partitions_of topics (first + place) ≡ partitions_at items (leftmost from)) → IsCounted items from form topics (first + place_of cut.Group cuts)
  counted-groups q from (shape.Plain keys values) topics first cuts rekeys is counts = tt
  counted-groups q from (shape.Group keys w aggs having values) topics first cuts rekeys is counts = λ own.
      let nodes : List Node = aggregate_nodes items (reshaped q from (shape.Group keys w aggs having values)) (shape.Group keys w aggs having values) in
      let stages : Bool → List Stage =
      λ b. if b then whole_stages items (reshaped q from (shape.Group keys w aggs having values)) keys nodes else cut_stages items (reshaped q from (shape.Group keys w aggs having values)) keys nodes in
      counts (place_of cut.Group cuts)
      (subst (λ cs. place_of cut.Group cs < length cs) (sym (is ∙ ap (λ b. rekeys ++ cuts_of (stages b)) own)) (place-below rekeys [] cut.Group))

  -- a relation's topic as an input
  pub relation-stands : (number : ℕ) (r : Relation) → relation_at before number ≡ Some r → (n : ℕ) → n ≡ r.partitions → (has : Contents) (part : ℕ) → has number part ≡ filter (is_to r.partitions part) (raws number) →
      (first : ℕ) (cuts : List CutName) → Stands has (input_of items first cuts (link.Relation number)) n part (whole_raw items raws number)
  relation-stands number r at n is has part reads first cuts =
      whole-part items raws number n part (has number part) (reads ∙ ap (λ m. filter (is_to m part) (raws number)) (sym is))

  module _ (q : Query) (form : Shape) (topics : List TopicSpec) (has : Contents) (query first number : ℕ)
      (reads : (j : ℕ) (r : Relation) → relation_at before j ≡ Some r → (part : ℕ) → has j part ≡ filter (is_to r.partitions part) (raws j))
      (low : (j : ℕ) (r : Relation) → relation_at before j ≡ Some r → j < first)
      (count : partitions_of topics q.out.number ≡ q.out.partitions) (part : ℕ) where
    -- the stages of the query send what it means, where it reads these relations, and where these stages come first
    abbrev IsSentAfter : From → List Stage → Type 0
    IsSentAfter from rekeys =
        let stages = rekeys ++ shape_stages items (reshaped q from form) form in
        ((place : ℕ) → place < length (cuts_of stages) → partitions_of topics (first + place) ≡ partitions_at items (leftmost from)) →
        contents_from topics has (subs_from items query first (cuts_of stages) number stages) q.out.number part ≡ filter (is_to q.out.partitions part) (query_changes items lists (reshaped q from form))

    one-sent : (number : ℕ) (l : Relation) → relation_at before number ≡ Some l → (l.kind ≡ kind.Windowed → ⊥) → IsCondition l.kind (column_types (columns l)) q.filter → Makes l (column_types (columns l)) form q.out → IsSentAfter (One number) []
    one-sent j l at un condition makes counts =
        let from : From = One j in
        let cuts : List CutName = cuts_of (shape_stages items (reshaped q from form) form) in
        shape-sent items before among lists each rise turned numbered raws raw from (column_types (columns l)) l (of_one at un) q condition topics query first number cuts has
        (λ task. one-part has (input_of items first cuts (link.Relation j)) (partitions_at items j) task (whole_raw items raws j)
        (relation-stands j l at (partitions_at items j) (partitions-at items before among j l at) has task (reads j l at task) first cuts))
        count makes (counted-groups q from form topics first cuts [] refl counts) part

    module _ (k : JoinKind) (left right : ℕ) (on : Typed) (types : List (Option SqlType)) (l r : Relation) (is_read : Reads before (Join k left right on) types l)
        (at_left : relation_at before left ≡ Some l) (at_right : relation_at before right ≡ Some r) (alike : l.partitions ≡ r.partitions)
        (condition : IsCondition l.kind types q.filter) (makes : Makes l types form q.out) where
      abbrev from_both : From
      from_both = Join k left right on

      abbrev lanes : ℕ
      lanes = partitions_at items left

      abbrev lefts : List Change
      lefts = whole_raw items raws left

      -- the topics that the join reads, where its left side is rekeyed or not
      abbrev left_link : Bool → Link
      left_link again = if again then link.Cut cut.Left left else link.Relation left

      both-stand : (cuts : List CutName) (now : Contents) (again : Bool) → is_rekeyed items from_both ≡ again →
          ((task : ℕ) → Stands now (input_of items first cuts (left_link again)) lanes task (left_side lanes again on lefts)) → ((task : ℕ) → now right task ≡ has right task) →
          (task : ℕ) → task_entries (map (input_of items first cuts) (inputs_of items from_both)) now task ≡ filter (in_part lanes task) (raw_entries items raws lanes from_both)
      both-stand cuts now again is stands same task =
          subst (λ b. task_entries (map (input_of items first cuts) (left_link b ∷ link.Relation right ∷ [])) now task ≡ filter (in_part lanes task) (merged left right (left_side lanes b on lefts) (whole_raw items raws right)))
          (sym is) (by again (stands task))
        where
          -- only here must both relations have the same number of partitions: else the right one would be partitioned
          -- differently
          right_stands : Stands now (input_of items first cuts (link.Relation right)) lanes task (whole_raw items raws right)
          right_stands = relation-stands right r at_right lanes (partitions-at items before among left l at_left ∙ alike) now task (same task ∙ reads right r at_right task) first cuts

          by : (b : Bool) → Stands now (input_of items first cuts (left_link b)) lanes task (left_side lanes b on lefts) →
              task_entries (map (input_of items first cuts) (left_link b ∷ link.Relation right ∷ [])) now task ≡ filter (in_part lanes task) (merged left right (left_side lanes b on lefts) (whole_raw items raws right))
          by true h = two-parts now (input_of items first cuts (left_link true)) (input_of items first cuts (link.Relation right)) lanes task (left_side lanes true on lefts) (whole_raw items raws right) h right_stands
          by false h = two-parts now (input_of items first cuts (left_link false)) (input_of items first cuts (link.Relation right)) lanes task (left_side lanes false on lefts) (whole_raw items raws right) h right_stands

      left-stands : (cuts : List CutName) (task : ℕ) → Stands has (input_of items first cuts (link.Relation left)) lanes task lefts
      left-stands cuts task = relation-stands left l at_left lanes (partitions-at items before among left l at_left) has task (reads left l at_left task) first cuts

      -- what the tasks of the join read
      pub plain-reads : is_rekeyed items from_both ≡ false → (cuts : List CutName) → (task : ℕ) →
          task_entries (map (input_of items first cuts) (inputs_of items from_both)) has task ≡ filter (in_part lanes task) (raw_entries items raws lanes from_both)
      plain-reads is cuts = both-stand cuts has false is (left-stands cuts) (λ task. refl)

      plain-join : is_rekeyed items from_both ≡ false → IsSentAfter from_both []
      plain-join is counts =
          let cuts : List CutName = cuts_of (shape_stages items (reshaped q from_both form) form) in
          shape-sent items before among lists each rise turned numbered raws raw from_both types l is_read q condition topics query first number cuts has (plain-reads is cuts) count
          makes (counted-groups q from_both form topics first cuts [] refl counts) part

      pub rekeyed-sent : (cuts : List CutName) (m task : ℕ) →
          sent (sub_of items query first cuts number (rekeying items left on)) has m task ≡ filter (is_to m task) (results (gives lanes (node.Rekey on)) [] (from_side 0 lefts))
      rekeyed-sent cuts m task =
          stage-sent lanes (some-partition items before among left l at_left (numbered left l at_left).1) [] (λ t. task_entries (input_of items first cuts (link.Relation left) ∷ []) has t) (from_side 0 lefts)
          (λ t. one-part has (input_of items first cuts (link.Relation left)) lanes t lefts (left-stands cuts t))
          tt lefts refl (whole-raw-rise items raws left (raw left l at_left).1)
          [] tt (node.Rekey on) tt (tt, tt) (node.Rekey on ∷ []) refl m task
          ∙ ap (filter (is_to m task)) (changed-from-side (results (gives lanes (node.Rekey on)) [] (from_side 0 lefts)))

      pub rekeyed-reads : is_rekeyed items from_both ≡ true → (rest : List CutName) → partitions_of topics (first + 0) ≡ lanes → (task : ℕ) →
          task_entries (map (input_of items first (cut.Left ∷ rest)) (inputs_of items from_both)) (with_sub topics has (sub_of items query first (cut.Left ∷ rest) number (rekeying items left on))) task
          ≡ filter (in_part lanes task) (raw_entries items raws lanes from_both)
      rekeyed-reads is rest counted =
          let cuts : List CutName = cut.Left ∷ rest in
          let sub : Sub = sub_of items query first cuts number (rekeying items left on) in
          let now : Contents = with_sub topics has sub in
          both-stand cuts now true is
          (λ task. cells-none (now (first + 0) task) ∙ with-sub-own topics has sub (first + 0) lanes task refl counted ∙ rekeyed-sent cuts lanes task)
          (λ task. with-sub-other topics has sub right task (cut-apart first right 0 (low right r at_right)))

      rekeyed-left : is_rekeyed items from_both ≡ true → IsSentAfter from_both (rekeying items left on ∷ [])
      unfolding contents_from
      rekeyed-left is counts =
          let rest : List CutName = cuts_of (shape_stages items (reshaped q from_both form) form) in
          shape-sent items before among lists each rise turned numbered raws raw from_both types l is_read q condition topics query first (number + 1) (cut.Left ∷ rest)
          (with_sub topics has (sub_of items query first (cut.Left ∷ rest) number (rekeying items left on))) (rekeyed-reads is rest (counts 0 (omega arith))) count
          makes (counted-groups q from_both form topics first (cut.Left ∷ rest) (cut.Left ∷ []) refl counts) part

      join-sent : IsSentAfter from_both (rekey_stages items (reshaped q from_both form))
      join-sent = by (is_rekeyed items from_both) refl
        where
          by : (again : Bool) → is_rekeyed items from_both ≡ again → IsSentAfter from_both (if again then rekeying items left on ∷ [] else [])
          by true is = rekeyed-left is
          by false is = plain-join is

    from-sent : (from : From) (types : List (Option SqlType)) (l : Relation) → Reads before from types l → IsCondition l.kind types q.filter → Makes l types form q.out → IsSentAfter from (rekey_stages items (reshaped q from form))
    from-sent (One number) types l (of_one at un) condition makes = one-sent number l at un condition makes
    from-sent (Join k left right on) types l (of_join {r = r} at_left at_right apart table alike joins) condition makes =
        join-sent k left right on types l r (of_join at_left at_right apart table alike joins) at_left at_right alike condition makes

  -- the tasks of a query send what it means, whatever its sub-topologies and its repartition topics are numbered from
  pub query-sent : (q : Query) → IsSoundQuery before q → (topics : List TopicSpec) (has : Contents) (query first number : ℕ) →
      ((j : ℕ) (r : Relation) → relation_at before j ≡ Some r → (part : ℕ) → has j part ≡ filter (is_to r.partitions part) (raws j)) →
      ((j : ℕ) (r : Relation) → relation_at before j ≡ Some r → (j < first) × (j < q.out.number)) → q.out.number < first →
      ((place : ℕ) → place < length (cuts_of (stages_of items q)) → partitions_of topics (first + place) ≡ lanes_of items q) →
      partitions_of topics q.out.number ≡ q.out.partitions → (part : ℕ) →
      contents_from topics has (subs_from items query first (cuts_of (stages_of items q)) number (stages_of items q)) q.out.number part
      ≡ filter (is_to q.out.partitions part) (query_changes items lists q)
  unfolding stages_of
  query-sent q (of_query {types = types} {left = l} is_read condition makes _ _) topics has query first number reads low under counts count part =
      from-sent q q.shape topics has query first number reads (λ j r at. (low j r at).0) count part q.from types l is_read condition makes counts

-- ---- the other topics

-- a stage of a query writes the topic of its result or a repartition topic
abbrev IsWrittenBy : ℕ → Link → Type 0
IsWrittenBy out (link.Relation number) = number ≡ out
IsWrittenBy out (link.Cut name relation) = Unit {0}

writes-other : (first out topic : ℕ) (cuts : List CutName) → topic < first → (topic ≡ out → ⊥) → (output : Link) → IsWrittenBy out output → topic ≡ topic_of first cuts output → ⊥
writes-other first out topic cuts low apart (link.Relation number) written is = apart (is ∙ written)
writes-other first out topic cuts low apart (link.Cut name relation) written is = cut-apart first topic (place_of name cuts) low is

stages-others : (items : List Item) (topics : List TopicSpec) (query first out topic part : ℕ) (cuts : List CutName) → topic < first → (topic ≡ out → ⊥) → (stages : List Stage) →
    AllByRecursion (λ (s : Stage). IsWrittenBy out s.output) stages → (number : ℕ) (has : Contents) → contents_from topics has (subs_from items query first cuts number stages) topic part ≡ has topic part
unfolding contents_from
stages-others items topics query first out topic part cuts low apart [] written number has = refl
stages-others items topics query first out topic part cuts low apart (s ∷ stages) written number has =
    stages-others items topics query first out topic part cuts low apart stages written.1 (number + 1) (with_sub topics has (sub_of items query first cuts number s))
    ∙ with-sub-other topics has (sub_of items query first cuts number s) topic part (writes-other first out topic cuts low apart s.output written.0)

rekey-writes : (items : List Item) (q : Query) (from : From) → AllByRecursion (λ (s : Stage). IsWrittenBy q.out.number s.output) (rekey_stages items (record q { from = from }))
rekey-writes items q (One number) = tt
rekey-writes items q (Join k left right on) = by (is_rekeyed items (Join k left right on))
  where
    by : (again : Bool) → AllByRecursion (λ (s : Stage). IsWrittenBy q.out.number s.output)
        (if again then rekeying items left on ∷ [] else [])
    by true = (tt, tt)
    by false = tt

shape-writes : (items : List Item) (q : Query) (form : Shape) → AllByRecursion (λ (s : Stage). IsWrittenBy q.out.number s.output) (shape_stages items q form)
shape-writes items q (shape.Plain keys values) = (refl, tt)
shape-writes items q (shape.Group keys w aggs having values) = by (are_own_key items q.from keys)
  where
    rest : List Node
    rest = aggregate_nodes items q (shape.Group keys w aggs having values)

    by : (own : Bool) → AllByRecursion (λ (s : Stage). IsWrittenBy q.out.number s.output) (if own then whole_stages items q keys rest else cut_stages items q keys rest)
    by true = (refl, tt)
    by false = (tt, (refl, tt))

-- topics of relations but that of the result stay as they are
pub query-others : (items : List Item) (q : Query) (topics : List TopicSpec) (has : Contents) (query first number topic : ℕ) → topic < first → (topic ≡ q.out.number → ⊥) → (part : ℕ) →
    contents_from topics has (subs_from items query first (cuts_of (stages_of items q)) number (stages_of items q)) topic part ≡ has topic part
unfolding stages_of
query-others items q topics has query first number topic low apart part =
    stages-others items topics query first q.out.number topic part (cuts_of (stages_of items q)) low apart (stages_of items q)
    (All-append (λ (s : Stage). IsWrittenBy q.out.number s.output) (rekey_stages items q) (shape_stages items q q.shape) (rekey-writes items q q.from) (shape-writes items q q.shape)) number has
