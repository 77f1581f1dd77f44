-- The tasks of a query, where its first stage reads parts of whole lists, send what it means: in one stage, or in two
-- with the groups' repartition topic between them.
use Rattle.std.proofs.Common.{◌≡◌, ◌∙◌, ap, refl, sym, subst, ℕ, ◌+◌, ◌<◌, ◌≤◌, List, [], ◌∷◌, ◌++◌, map, length, append_assoc, Bool, true, false, if◌then◌else◌, arith}
use Rattle.std.proofs.lemmas.List.{map-append}
use Rattle.std.specs.Prelude.{filter, Option, Some, None, option_to_list}
use Rattle.std.specs.List.{AllByRecursion}
use Rattle.ksql_types.specs.declared.relation.Column.{Column}
use Rattle.ksql_types.specs.declared.relation.Kind.{Kind}
use Rattle.ksql_types.specs.declared.relation.Relation.{Relation}
use Rattle.ksql_types.specs.declared.relation.Window.{Window}
use Rattle.ksql_types.specs.declared.topic.TopicSpec.{TopicSpec}
use Rattle.ksql_types.specs.declared.value.SqlType.{SqlType}
use Rattle.ksql_place.specs.declared.change.Change.{Change}
use Rattle.ksql_expr.specs.declared.typed.Typed.{Typed}
use Rattle.ksql_program.specs.Program.{relation_at}
use Rattle.ksql_program.specs.Sound.{AreColumns, Aggregates, IsCondition, IsWindowed, Makes, Reads, grouped as of_group, joined as of_join, one as of_one, plain as of_plain}
use Rattle.ksql_program.specs.declared.program.Item.{Item}
use Rattle.ksql_program.specs.declared.query.Agg.{Agg}
use Rattle.ksql_program.specs.declared.query.From.{From}
use Rattle.ksql_program.specs.declared.query.From.TheVariants.{One, Join}
use Rattle.ksql_program.specs.declared.query.Query.{Query}
use Rattle.ksql_program.specs.declared.query.Shape.{Shape}
use Rattle.ksql_program.specs.declared.query.Shape.TheVariants as shape
use Rattle.ksql_nodes.specs.declared.node.Node.{Node}
use Rattle.ksql_nodes.specs.declared.node.Node.TheVariants as node
use Rattle.ksql_nodes.specs.Entries.{Entry, Step, from_side, results, through}
use Rattle.ksql_nodes.specs.Nodes.{gives}
use Rattle.ksql_nodes.proofs.Lists.{All-append}
use Rattle.query_meaning.specs.Queries.{changes_at, filter_of, join_of, kind_at, leftmost, partitions_at, query_changes, read_entries, shape_steps, steps_of}
use Rattle.meaning_laws.proofs.EachRelation.{AreAmong, Each}
use Rattle.meaning_laws.proofs.Forks.{Rise}
use Rattle.meaning_laws.proofs.RelationColumns.{AreChangesOf}
use Rattle.meaning_laws.proofs.RelationTables.{TurnsIn, reads-kind, reads-unwindowed}
use Rattle.meaning_laws.proofs.Lists.{All-map}
use Rattle.ksql_place.specs.Routing.{is_to, partitions_of}
use Rattle.topology.specs.Contents.{Contents, contents_from, sent, task_entries, with_sub}
use Rattle.topology.specs.Stages.{are_own_key, aggregate_nodes, inputs_of, shape_stages, table_of}
use Rattle.topology.specs.Topologies.{input_of, place_of, sub_of, subs_from}
use Rattle.topology.specs.declared.stage.CutName.{CutName}
use Rattle.topology.specs.declared.stage.CutName.TheVariants as cut
use Rattle.topology.specs.declared.stage.Link.{Link}
use Rattle.topology.specs.declared.stage.Link.TheVariants as link
use Rattle.topology.specs.declared.stage.Stage.{Stage}
use Rattle.topology.specs.declared.topology.Sub.{Sub}
use Rattle.topology.specs.declared.topology.SubInput.{SubInput}
use Rattle.lane_laws.specs.Lanes.{AreLaned, HasKey, IsInOwnGroup, LooksAtNone, in_part}
use Rattle.lane_laws.proofs.NodeLanes.{group-keyed, laned-aggregate, laned-filter, laned-group, laned-having}
use Rattle.topology_laws.proofs.Raw.{IsRaw}
use Rattle.topology_laws.proofs.FirstStage.{first_nodes, one-part, raw_entries, read-after, read-rise, read_changes, reads-first}
use Rattle.topology_laws.proofs.Grouped.{group-steps, group_nodes, read-turned}
use Rattle.topology_laws.proofs.InARow.{HasOneInput, entries_after, entries-changes, laned-append, nodes-rise, stage-sent, through-append, through-last}
use Rattle.topology_laws.proofs.OwnKeys.{filter-own, own-read}
use Rattle.topology_laws.proofs.WholeRaw.{cells-none, some-partition}
use Rattle.sending_laws.proofs.GroupStages.{cut_stages, whole_stages}
use Rattle.sending_laws.proofs.SubContents.{with-sub-own}

-- ---- nodes after the join

pub filter-one : (on : Option Typed) → AllByRecursion HasOneInput (filter_of on)
filter-one None = tt
filter-one (Some e) = (tt, tt)

having-one : (having : Option Typed) → AllByRecursion HasOneInput (map (λ e. node.Having e) (option_to_list having))
having-one None = tt
having-one (Some e) = (tt, tt)

pub filter-laned : (n : ℕ) (on : Option Typed) (es : List Entry) → AreLaned n (filter_of on) es
filter-laned n None es = tt
filter-laned n (Some e) es = (laned-filter n e es, tt)

having-laned : (n : ℕ) (having : Option Typed) (es : List Entry) → AreLaned n (map (λ e. node.Having e) (option_to_list having)) es
having-laned n None es = tt
having-laned n (Some e) es = (laned-having n e es, tt)

-- the aggregate and HAVING
abbrev aggregating : Kind → List Agg → Option Window → Option Typed → List Node
aggregating over aggs w having = node.Aggregate over aggs w ∷ map (λ e. node.Having e) (option_to_list having)

aggregating-laned : (n : ℕ) (over : Kind) (aggs : List Agg) (w : Option Window) (having : Option Typed) (es : List Entry) → AllByRecursion HasKey es → AreLaned n (aggregating over aggs w having) es
aggregating-laned n over aggs w having es keyed =
    (laned-aggregate n over aggs w es keyed, having-laned n having (from_side 0 (results (gives n (node.Aggregate over aggs w)) [] es)))

aggregating-one : (having : Option Typed) (values : List Typed) → AllByRecursion HasOneInput (map (λ e. node.Having e) (option_to_list having) ++ node.Select [] values ∷ [])
aggregating-one having values = All-append HasOneInput (map (λ e. node.Having e) (option_to_list having)) (node.Select [] values ∷ []) (having-one having) (tt, tt)

-- the nodes of a grouped query but the last one
abbrev grouping : Option Typed → List Typed → Kind → List Agg → Option Window → Option Typed → List Node
grouping on keys over aggs w having = filter_of on ++ node.Group keys ∷ aggregating over aggs w having

grouping-one : (on : Option Typed) (keys : List Typed) (over : Kind) (aggs : List Agg) (w : Option Window) (having : Option Typed) (values : List Typed) →
    AllByRecursion HasOneInput (grouping on keys over aggs w having ++ node.Select [] values ∷ [])
grouping-one on keys over aggs w having values =
    All-append HasOneInput (grouping on keys over aggs w having) (node.Select [] values ∷ [])
    (All-append HasOneInput (filter_of on) (node.Group keys ∷ aggregating over aggs w having) (filter-one on) (tt, (tt, having-one having))) (tt, tt)

-- rows are in the groups of their own key after WHERE too
passed-own : (n : ℕ) (on : Option Typed) (keys : List Typed) (es : List Entry) → AllByRecursion (λ (e : Entry). IsInOwnGroup keys e.change) es →
    AllByRecursion (λ (e : Entry). IsInOwnGroup keys e.change) (entries_after (map (gives n) (filter_of on)) es)
passed-own n None keys es own = own
passed-own n (Some e) keys es own = filter-own n e keys es own

-- a grouping by at least one expression gives keys
groups-keyed : (n : ℕ) (keys : List Typed) → 1 ≤ length keys → (es : List Entry) → AllByRecursion HasKey (from_side 0 (results (gives n (node.Group keys)) [] es))
groups-keyed n [] some es = absurd (omega (arith, some))
groups-keyed n (key ∷ keys) some es = group-keyed n key keys es

-- four lists in a row
pub regroup : (xs ys zs ws : List Node) → (xs ++ (ys ++ zs)) ++ ws ≡ (xs ++ ys) ++ (zs ++ ws)
regroup xs ys zs ws = ap (λ v. v ++ ws) (sym (append_assoc xs ys zs)) ∙ append_assoc (xs ++ ys) zs ws

-- ---- a query

-- a query that reads other relations, and has another shape
abbrev pub reshaped : Query → From → Shape → Query
reshaped q from shape = record q { from = from; shape = shape }

-- where a query is cut before its aggregate, the repartition topic of the groups has as many partitions as the query
-- has lanes
abbrev pub IsCounted : List Item → From → Shape → List TopicSpec → ℕ → Type 0
IsCounted items from (shape.Plain keys values) topics topic = Unit {0}
IsCounted items from (shape.Group keys w aggs having values) topics topic = are_own_key items from keys ≡ false → partitions_of topics topic ≡ partitions_at items (leftmost from)

-- the topics of the relations before a query: the content of each partition is the partition's part of a list
module _ (items before : List Item) (among : AreAmong before items) (lists : List (List Change))
    (each : Each AreChangesOf before lists) (rise : Each (λ r. Rise) before lists) (turned : Each TurnsIn before lists)
    (numbered : (number : ℕ) (r : Relation) → relation_at before number ≡ Some r → (r.number ≡ number) × (0 < r.partitions))
    (raws : ℕ → List Change) (raw : (number : ℕ) (r : Relation) → relation_at before number ≡ Some r → IsRaw r (raws number) (changes_at lists number) × Rise (raws number)) where
  reads-at : (from : From) (types : List (Option SqlType)) (l : Relation) → Reads before from types l → relation_at before (leftmost from) ≡ Some l
  reads-at (One number) types l (of_one at _) = at
  reads-at (Join k left right on) types l (of_join at _ _ _ _ _) = at

  module _ (from : From) (types : List (Option SqlType)) (l : Relation) (reads : Reads before from types l) where
    abbrev n : ℕ
    n = partitions_at items (leftmost from)

    abbrev read : List Change
    read = read_changes items lists n from

    -- the entries after the join
    abbrev es : List Entry
    es = from_side 0 read

    some-lane : 0 < n
    some-lane = let at = reads-at from types l reads in some-partition items before among (leftmost from) l at (numbered (leftmost from) l at).1

    rises : Rise read
    rises = read-rise items before among lists each rise numbered raws raw n from types l reads

    -- the query's steps after its join
    query-after : (q : Query) (form : Shape) → query_changes items lists (reshaped q from form) ≡ through (map (gives n) (filter_of q.filter) ++ shape_steps n (kind_at items (leftmost from)) form) es
    unfolding query_changes steps_of
    query-after q form =
        let last : List Step = shape_steps n (kind_at items (leftmost from)) form in
        ap (λ steps. through (steps ++ last) (read_entries items lists from)) (map-append (gives n) (join_of items from) (filter_of q.filter))
        ∙ ap (λ steps. through steps (read_entries items lists from)) (append_assoc (map (gives n) (join_of items from)) (map (gives n) (filter_of q.filter)) last)
        ∙ through-append (map (gives n) (join_of items from)) (map (gives n) (filter_of q.filter) ++ last) (read_entries items lists from)
        ∙ ap (through (map (gives n) (filter_of q.filter) ++ last)) (read-after items lists n from)

    module _ (q : Query) (condition : IsCondition l.kind types q.filter) (topics : List TopicSpec) (query first number : ℕ) (cuts : List CutName) (has : Contents)
        (stand : (part : ℕ) → task_entries (map (input_of items first cuts) (inputs_of items from)) has part ≡ filter (in_part n part) (raw_entries items raws n from))
        (count : partitions_of topics q.out.number ≡ q.out.partitions) where
      abbrev passing : List Node
      passing = filter_of q.filter

      abbrev first_stage : List Node → Link → Stage
      first_stage nodes output = record { inputs = inputs_of items from; nodes = nodes; partitions = n; output = output }

      -- what the tasks of the first stage send
      pub first-sent : (middle : List Node) → AreLaned n middle es → (last : Node) → LooksAtNone last → AllByRecursion HasOneInput (middle ++ last ∷ []) →
          (nodes : List Node) → nodes ≡ first_nodes items from ++ (middle ++ last ∷ []) → (output : Link) (m part : ℕ) →
          sent (sub_of items query first cuts number (first_stage nodes output)) has m part ≡ filter (is_to m part) (through (map (gives n) (middle ++ last ∷ [])) es)
      first-sent middle divided last looks one nodes is output m part =
          let start = reads-first items before among lists each rise numbered raws raw n from types l reads in
          stage-sent n some-lane (first_nodes items from) (λ task. task_entries (map (input_of items first cuts) (inputs_of items from)) has task) (raw_entries items raws n from) stand
          start.0 read start.1 rises middle divided last looks one nodes is m part

      plain-sent : (keys values : List Typed) (part : ℕ) →
          contents_from topics has (subs_from items query first cuts number (shape_stages items (reshaped q from (shape.Plain keys values)) (shape.Plain keys values))) q.out.number part
          ≡ filter (is_to q.out.partitions part) (query_changes items lists (reshaped q from (shape.Plain keys values)))
      unfolding contents_from
      plain-sent keys values part =
          let select : Node = node.Select keys values in
          let nodes : List Node = (table_of items from ++ (join_of items from ++ passing)) ++ select ∷ [] in
          with-sub-own topics has (sub_of items query first cuts number (first_stage nodes (link.Relation q.out.number))) q.out.number q.out.partitions part refl count
          ∙ first-sent passing (filter-laned n q.filter es) select tt (All-append HasOneInput passing (select ∷ []) (filter-one q.filter) (tt, tt)) nodes
          (regroup (table_of items from) (join_of items from) passing (select ∷ [])) (link.Relation q.out.number) q.out.partitions part
          ∙ ap (filter (is_to q.out.partitions part)) (ap (λ steps. through steps es) (map-append (gives n) passing (select ∷ [])) ∙ sym (query-after q (shape.Plain keys values)))

      module _ (keys : List Typed) (kcs : List Column) (w : Option Window) (aggs : List Agg) (ats : List (Option SqlType)) (having : Option Typed) (values : List Typed)
          (some : 1 ≤ length keys) (typed : AreColumns l.kind types keys kcs) (sound : Aggregates l.kind types aggs ats) (windowed : IsWindowed l.kind w) where
        abbrev group : Shape
        group = shape.Group keys w aggs having values

        abbrev over : Kind
        over = kind_at items (leftmost from)

        abbrev aggregate : List Node
        aggregate = aggregating over aggs w having

        abbrev select_all : Node
        select_all = node.Select [] values

        -- the query as nodes
        group-means : query_changes items lists (reshaped q from group) ≡ through (map (gives n) (group_nodes q.filter keys over aggs w having values)) es
        group-means =
            let is : over ≡ l.kind = reads-kind before items among reads in
            query-after q group
            ∙ group-steps n l types q.filter condition read keys kcs w aggs ats having values typed sound windowed over (sym is) (λ e. reads-unwindowed before reads (sym is ∙ e))
            (read-turned items before among lists turned n from types l reads)

        -- in one stage
        whole-divided : are_own_key items from keys ≡ true → AreLaned n (grouping q.filter keys over aggs w having) es
        whole-divided own =
            let passed : List Entry = entries_after (map (gives n) passing) es in
            laned-append n passing (node.Group keys ∷ aggregate) es (filter-laned n q.filter es) (
              laned-group n keys passed
                  (passed-own n q.filter keys es
                  (All-map (λ (e : Entry). IsInOwnGroup keys e.change) (λ c. record { side = 0; change = c }) read (own-read items before among lists each n from types l reads keys own))),
              aggregating-laned n over aggs w having (from_side 0 (results (gives n (node.Group keys)) [] passed)) (groups-keyed n keys some passed),
            )

        whole-sent : are_own_key items from keys ≡ true → (part : ℕ) →
            contents_from topics has (subs_from items query first cuts number (whole_stages items (reshaped q from group) keys (aggregate_nodes items (reshaped q from group) group))) q.out.number part
            ≡ filter (is_to q.out.partitions part) (query_changes items lists (reshaped q from group))
        unfolding contents_from
        whole-sent own part =
            let nodes : List Node = ((table_of items from ++ (join_of items from ++ passing)) ++ node.Group keys ∷ []) ++ (aggregate ++ select_all ∷ []) in
            let same : grouping q.filter keys over aggs w having ++ select_all ∷ [] ≡ group_nodes q.filter keys over aggs w having values = append_assoc passing (node.Group keys ∷ aggregate) (select_all ∷ []) in
            with-sub-own topics has (sub_of items query first cuts number (first_stage nodes (link.Relation q.out.number))) q.out.number q.out.partitions part refl count
            ∙ first-sent (grouping q.filter keys over aggs w having) (whole-divided own) select_all tt (grouping-one q.filter keys over aggs w having values) nodes
            (append_assoc (table_of items from ++ (join_of items from ++ passing)) (node.Group keys ∷ []) (aggregate ++ select_all ∷ [])
            ∙ regroup (table_of items from) (join_of items from) passing (node.Group keys ∷ (aggregate ++ select_all ∷ []))
            ∙ ap (λ xs. (table_of items from ++ join_of items from) ++ xs) (sym same))
            (link.Relation q.out.number) q.out.partitions part
            ∙ ap (filter (is_to q.out.partitions part)) (ap (λ xs. through (map (gives n) xs) es) same ∙ sym group-means)

        -- in two stages, with the repartition topic of the groups between them
        abbrev groups : List Change
        groups = through (map (gives n) (passing ++ node.Group keys ∷ [])) es

        cut-one : AllByRecursion HasOneInput (passing ++ node.Group keys ∷ [])
        cut-one = All-append HasOneInput passing (node.Group keys ∷ []) (filter-one q.filter) (tt, tt)

        all-keyed : AllByRecursion HasKey (from_side 0 groups)
        all-keyed =
            subst (λ cs. AllByRecursion HasKey (from_side 0 cs)) (sym (through-last n passing (node.Group keys) read))
            (groups-keyed n keys some (from_side 0 (through (map (gives n) passing) es)))

        groups-mean : through (map (gives n) (aggregate ++ select_all ∷ [])) (from_side 0 groups) ≡ query_changes items lists (reshaped q from group)
        groups-mean =
            let rest : List Node = aggregate ++ select_all ∷ [] in
            sym (group-means
            ∙ ap (λ xs. through (map (gives n) xs) es) (sym (append_assoc passing (node.Group keys ∷ []) rest))
            ∙ ap (λ steps. through steps es) (map-append (gives n) (passing ++ node.Group keys ∷ []) rest)
            ∙ through-append (map (gives n) (passing ++ node.Group keys ∷ [])) (map (gives n) rest) es
            ∙ ap (through (map (gives n) rest)) (entries-changes (map (gives n) (passing ++ node.Group keys ∷ [])) read))

        module _ (counted : partitions_of topics (first + place_of cut.Group cuts) ≡ n) where
          abbrev topic : ℕ
          topic = first + place_of cut.Group cuts

          abbrev grouping_sub : Sub
          grouping_sub =
              sub_of items query first cuts number
              (first_stage ((table_of items from ++ (join_of items from ++ passing)) ++ node.Group keys ∷ []) (link.Cut cut.Group (leftmost from)))

          abbrev after : Contents
          after = with_sub topics has grouping_sub

          groups-stand : (part : ℕ) → after topic part ≡ filter (is_to n part) groups
          groups-stand part =
              with-sub-own topics has grouping_sub topic n part refl counted
              ∙ first-sent passing (filter-laned n q.filter es) (node.Group keys) tt cut-one ((table_of items from ++ (join_of items from ++ passing)) ++ node.Group keys ∷ [])
              (regroup (table_of items from) (join_of items from) passing (node.Group keys ∷ [])) (link.Cut cut.Group (leftmost from)) n part

          cut-sent : (part : ℕ) →
              contents_from topics has (subs_from items query first cuts number (cut_stages items (reshaped q from group) keys (aggregate_nodes items (reshaped q from group) group))) q.out.number part
              ≡ filter (is_to q.out.partitions part) (query_changes items lists (reshaped q from group))
          unfolding contents_from
          cut-sent part =
              let input : SubInput = record { topic = topic; relation = leftmost from; keys = 0 } in
              let rest : List Node = aggregate ++ select_all ∷ [] in
              with-sub-own topics after
              (sub_of items query first cuts (number + 1) (record { inputs = link.Cut cut.Group (leftmost from) ∷ []; nodes = rest; partitions = n; output = link.Relation q.out.number }))
              q.out.number q.out.partitions part refl count
              ∙ stage-sent n some-lane [] (λ task. task_entries (input ∷ []) after task) (from_side 0 groups)
              (λ task. one-part after input n task groups (cells-none (after topic task) ∙ groups-stand task))
              tt groups refl (nodes-rise n (passing ++ node.Group keys ∷ []) cut-one read rises)
              aggregate (aggregating-laned n over aggs w having (from_side 0 groups) all-keyed) select_all tt (tt, aggregating-one having values) rest refl q.out.partitions part
              ∙ ap (filter (is_to q.out.partitions part)) groups-mean

        group-sent : IsCounted items from group topics (first + place_of cut.Group cuts) → (part : ℕ) →
            contents_from topics has (subs_from items query first cuts number (shape_stages items (reshaped q from group) group)) q.out.number part
            ≡ filter (is_to q.out.partitions part) (query_changes items lists (reshaped q from group))
        group-sent counted part = by (are_own_key items from keys) refl
          where
            stages : Bool → List Stage
            stages b =
                if b
                then whole_stages items (reshaped q from group) keys (aggregate_nodes items (reshaped q from group) group)
                else cut_stages items (reshaped q from group) keys (aggregate_nodes items (reshaped q from group) group)

            by : (b : Bool) → are_own_key items from keys ≡ b →
                contents_from topics has (subs_from items query first cuts number (stages b)) q.out.number part ≡ filter (is_to q.out.partitions part) (query_changes items lists (reshaped q from group))
            by true own = whole-sent own part
            by false own = cut-sent (counted own) part

      pub shape-sent : {form : Shape} {out : Relation} → Makes l types form out → IsCounted items from form topics (first + place_of cut.Group cuts) → (part : ℕ) →
          contents_from topics has (subs_from items query first cuts number (shape_stages items (reshaped q from form) form)) q.out.number part
          ≡ filter (is_to q.out.partitions part) (query_changes items lists (reshaped q from form))
      shape-sent (of_plain {ks = ks} {vs = vs} _ _ _) counted part = plain-sent ks vs part
      shape-sent (of_group {ks = ks} {vs = vs} {w = w} {gs = gs} {h = h} {out = out} ats some _ typed _ sound windowed _ _ _) counted part =
          group-sent ks out.schema.keys w gs ats h vs some typed sound windowed counted part
