-- The stages of the plan of a query are those of the query.
use Rattle.std.proofs.Common.{◌≡◌, ◌∙◌, ap, ap₂, sym, refl, ℕ, Bool, true, false, List, [], ◌∷◌, ◌++◌, append_assoc, append-nil}
use Rattle.std.specs.Prelude.{Option, Some, None, if◌then◌else◌}
use Rattle.ksql_types.specs.declared.relation.Kind.{Kind}
use Rattle.ksql_types.specs.declared.relation.Kind.TheVariants.{Stream, Table, Windowed}
use Rattle.ksql_types.specs.declared.relation.Relation.{Relation as OneRelation}
use Rattle.ksql_types.specs.declared.relation.Window.{Window}
use Rattle.ksql_expr.specs.declared.typed.Typed.{Typed}
use Rattle.ksql_program.specs.declared.program.Item.{Item}
use Rattle.ksql_program.specs.declared.query.Agg.{Agg}
use Rattle.ksql_program.specs.declared.query.From.{From}
use Rattle.ksql_program.specs.declared.query.From.TheVariants.{One, Join}
use Rattle.ksql_program.specs.declared.query.JoinKind.{JoinKind}
use Rattle.ksql_program.specs.declared.query.Query.{Query}
use Rattle.ksql_program.specs.declared.query.Shape.{Shape}
use Rattle.ksql_program.specs.declared.query.Shape.TheVariants.{Plain, Group}
use Rattle.ksql_nodes.specs.declared.node.Node.{Node}
use Rattle.ksql_nodes.specs.declared.node.Node.TheVariants as node
use Rattle.query_meaning.specs.Queries.{after_aggregate, filter_of, join_of, join_over, kind_at, leftmost, partitions_at, side_at}
use Rattle.topology.specs.Stages.{are_own_key, input_nodes, inputs_of, is_rekeyed, is_stream_key, is_tables_key, rekey_stages, shape_stages, stages_of, table_of}
use Rattle.topology.specs.declared.stage.CutName.{CutName}
use Rattle.topology.specs.declared.stage.CutName.TheVariants as name
use Rattle.topology.specs.declared.stage.Link.TheVariants.{Relation, Cut}
use Rattle.topology.specs.declared.stage.Stage.{Stage}
use Rattle.logical_plan.specs.Plans.{aggregate_plan, filter_plan, having_plan, join_plan, left_plan, plan_of, read_plan, shape_plan}
use Rattle.logical_plan.specs.declared.tree.Plan.{Plan}
use Rattle.logical_plan.specs.declared.tree.Plan.TheVariants as tree
use Rattle.logical_plan.proofs.Folds.{fold-Source, fold-Filter, fold-Rekey, fold-JoinStreamTable, fold-JoinTables, fold-Group, fold-Aggregate, fold-Having, fold-Select}
use Rattle.key_planner.specs.Cuts.{Part, as_side, both, closed, cut, grouped, has_steps, is_one, joined, leftmost_of, opened, own_key, part_of, part_step, read, stages_from, with_node}
use Rattle.key_planner.specs.declared.staging.Open.{Open}

module _ (items : List Item) where
  -- ---- a relation

  -- a relation's topic as it is
  abbrev relation : ℕ → Open
  relation number = record { stages = []; inputs = Relation number ∷ []; nodes = []; leftmost = number }

  opened-source : (number : ℕ) → opened items (tree.Source number) ≡ read items number
  unfolding part_of
  opened-source number = ap (λ (p : Part). p.last) (fold-Source Part (part_step items) number)

  -- a table's own node is no step
  no-steps : (number : ℕ) (over : Kind) → kind_at items number ≡ over → has_steps (table_of items (One number)) ≡ false
  no-steps number Stream is = rw is
  no-steps number Table is = rw is
  no-steps number Windowed is = rw is

  relation-side : (cut_name : CutName) (number : ℕ) → as_side items cut_name (read items number) ≡ relation number
  relation-side cut_name number =
      ap (λ (b : Bool). if b then cut items cut_name (read items number) else relation number) (no-steps number (kind_at items number) refl)

  -- a stream has no node of its own
  read-stream : (number : ℕ) → kind_at items number ≡ Stream → read items number ≡ relation number
  read-stream number is =
      let none : table_of items (One number) ≡ [] = rw is in
      ap (λ (nodes : List Node). record { stages = []; inputs = Relation number ∷ []; nodes = nodes; leftmost = number }) none

  -- ---- what a query reads

  -- the stage that rekeys a stream
  abbrev rekey : ℕ → Typed → Stage
  rekey left on = record { inputs = Relation left ∷ []; nodes = node.Rekey on ∷ []; partitions = partitions_at items left; output = Cut name.Left left }

  -- the left side of a join, rekeyed or not
  abbrev left_side : Bool → ℕ → Typed → Open
  left_side b left on = record {
    stages = if b then rekey left on ∷ [] else [];
    inputs = (if b then Cut name.Left left else Relation left) ∷ [];
    nodes = [];
    leftmost = left;
  }

  opened-rekeyed : (left : ℕ) (on : Typed) → opened items (tree.Rekey on (tree.Source left)) ≡ with_node (node.Rekey on) (read items left)
  unfolding part_of
  opened-rekeyed left on = ap (λ (p : Part). p.last) (fold-Rekey Part (part_step items) on (tree.Source left)) ∙ ap (with_node (node.Rekey on)) (opened-source left)

  left-opened : (b : Bool) (left : ℕ) (on : Typed) → kind_at items left ≡ Stream →
      as_side items name.Left (opened items (if b then tree.Rekey on (tree.Source left) else tree.Source left)) ≡ left_side b left on
  left-opened true left on is = ap (as_side items name.Left) (opened-rekeyed left on ∙ ap (with_node (node.Rekey on)) (read-stream left is))
  left-opened false left on is = ap (as_side items name.Left) (opened-source left) ∙ relation-side name.Left left

  leftmost-source : (number : ℕ) → leftmost_of items (tree.Source number) ≡ number
  unfolding part_of
  leftmost-source number = ap (λ (p : Part). p.leftmost) (fold-Source Part (part_step items) number)

  left-most : (b : Bool) (left : ℕ) (on : Typed) → leftmost_of items (if b then tree.Rekey on (tree.Source left) else tree.Source left) ≡ left
  unfolding part_of
  left-most true left on = ap (λ (p : Part). p.leftmost) (fold-Rekey Part (part_step items) on (tree.Source left)) ∙ leftmost-source left
  left-most false left on = leftmost-source left

  -- the stages so far, where these nodes are in the open one
  abbrev reading : From → List Stage → List Node → Open
  reading f stages nodes = record { stages = stages; inputs = inputs_of items f; nodes = nodes; leftmost = leftmost f }

  -- the stage that a query's join needs before it
  abbrev rekeys : From → List Stage
  rekeys (One number) = []
  rekeys (Join k left right on) = if is_rekeyed items (Join k left right on) then rekey left on ∷ [] else []

  sides-joined : (b : Bool) (x : Node) (left right : ℕ) (on : Typed) → with_node x (both (left_side b left on) (relation right))
      ≡ record {
        stages = if b then rekey left on ∷ [] else [];
        inputs = (if b then Cut name.Left left else Relation left) ∷ Relation right ∷ [];
        nodes = x ∷ [];
        leftmost = left;
      }
  sides-joined true x left right on = refl
  sides-joined false x left right on = refl

  -- a table is never rekeyed
  tables-opened : (k : JoinKind) (left right : ℕ) (on : Typed) → is_rekeyed items (Join k left right on) ≡ false →
      opened items (tree.JoinTables k (tree.Source left) (tree.Source right))
      ≡ reading (Join k left right on) (rekeys (Join k left right on)) (node.JoinTables k (side_at items left) (side_at items right) ∷ [])
  unfolding part_of
  tables-opened k left right on not =
      ap (λ (p : Part). p.last) (fold-JoinTables Part (part_step items) k (tree.Source left) (tree.Source right))
      ∙ ap₂ (λ (a b : ℕ). joined items (node.JoinTables k (side_at items a) (side_at items b)) (opened items (tree.Source left)) (opened items (tree.Source right)))
      (leftmost-source left) (leftmost-source right)
      ∙ ap₂ (λ (l r : Open). with_node (node.JoinTables k (side_at items left) (side_at items right)) (both l r)) (ap (as_side items name.Left) (opened-source left) ∙ relation-side name.Left left)
      (ap (as_side items name.Right) (opened-source right) ∙ relation-side name.Right right)
      ∙ sides-joined false (node.JoinTables k (side_at items left) (side_at items right)) left right on
      ∙ ap (λ (b : Bool). record {
        stages = if b then rekey left on ∷ [] else [];
        inputs = (if b then Cut name.Left left else Relation left) ∷ Relation right ∷ [];
        nodes = node.JoinTables k (side_at items left) (side_at items right) ∷ [];
        leftmost = left;
      }) (sym not)

  join-opened : (k : JoinKind) (left right : ℕ) (on : Typed) (over : Kind) → kind_at items left ≡ over →
      opened items (join_plan items k left right on over) ≡ reading (Join k left right on) (rekeys (Join k left right on)) (join_over items k left right on over)
  unfolding part_of
  join-opened k left right on Stream is =
      ap (λ (p : Part). p.last) (fold-JoinStreamTable Part (part_step items) k on (left_plan items k left right on) (tree.Source right))
      ∙ ap₂ (λ (a b : ℕ). joined items (node.JoinStreamTable k on (side_at items a) (side_at items b)) (opened items (left_plan items k left right on)) (opened items (tree.Source right)))
      (left-most (is_rekeyed items (Join k left right on)) left on) (leftmost-source right)
      ∙ ap₂ (λ (l r : Open). with_node (node.JoinStreamTable k on (side_at items left) (side_at items right)) (both l r)) (left-opened (is_rekeyed items (Join k left right on)) left on is)
      (ap (as_side items name.Right) (opened-source right) ∙ relation-side name.Right right)
      ∙ sides-joined (is_rekeyed items (Join k left right on)) (node.JoinStreamTable k on (side_at items left) (side_at items right)) left right on
  join-opened k left right on Table is = tables-opened k left right on (rw is)
  join-opened k left right on Windowed is = tables-opened k left right on (rw is)

  read-opened : (f : From) → opened items (read_plan items f) ≡ reading f (rekeys f) (table_of items f ++ join_of items f)
  read-opened (One number) = opened-source number ∙ ap (λ (nodes : List Node). reading (One number) [] nodes) (sym (append-nil (table_of items (One number))))
  read-opened (Join k left right on) = join-opened k left right on (kind_at items left) refl

  -- whether some expressions are the key of a join of two tables
  tables-own : (k : JoinKind) (left right : ℕ) (on : Typed) (keys : List Typed) →
      ((e : Typed) → is_tables_key k (side_at items left) (side_at items right) e ≡ are_own_key items (Join k left right on) (e ∷ [])) →
      own_key items (tree.JoinTables k (tree.Source left) (tree.Source right)) keys ≡ are_own_key items (Join k left right on) keys
  unfolding part_of
  tables-own k left right on keys alone =
      ap (λ (p : Part). p.own keys) (fold-JoinTables Part (part_step items) k (tree.Source left) (tree.Source right))
      ∙ ap₂ (λ (a b : ℕ). is_one (is_tables_key k (side_at items a) (side_at items b)) keys)
      (leftmost-source left) (leftmost-source right)
      ∙ by keys
    where
      by : (keys : List Typed) → is_one (is_tables_key k (side_at items left) (side_at items right)) keys ≡ are_own_key items (Join k left right on) keys
      by [] = refl
      by (e ∷ []) = alone e
      by (e ∷ d ∷ es) = refl

  -- whether some expressions are the key of what a query reads
  join-own : (k : JoinKind) (left right : ℕ) (on : Typed) (over : Kind) (keys : List Typed) → kind_at items left ≡ over →
      own_key items (join_plan items k left right on over) keys ≡ are_own_key items (Join k left right on) keys
  unfolding part_of
  join-own k left right on Stream keys is =
      ap (λ (p : Part). p.own keys) (fold-JoinStreamTable Part (part_step items) k on (left_plan items k left right on) (tree.Source right))
      ∙ ap (λ (number : ℕ). is_one (is_stream_key k (side_at items number) on) keys) (left-most (is_rekeyed items (Join k left right on)) left on)
      ∙ by keys
    where
      by : (keys : List Typed) → is_one (is_stream_key k (side_at items left) on) keys ≡ are_own_key items (Join k left right on) keys
      by [] = refl
      by (e ∷ []) = rw is
      by (e ∷ d ∷ es) = refl
  join-own k left right on Table keys is = tables-own k left right on keys by
    where
      by : (e : Typed) → is_tables_key k (side_at items left) (side_at items right) e ≡ are_own_key items (Join k left right on) (e ∷ [])
      by e = rw is
  join-own k left right on Windowed keys is = tables-own k left right on keys by
    where
      by : (e : Typed) → is_tables_key k (side_at items left) (side_at items right) e ≡ are_own_key items (Join k left right on) (e ∷ [])
      by e = rw is

  read-own : (f : From) (keys : List Typed) → own_key items (read_plan items f) keys ≡ are_own_key items f keys
  unfolding part_of
  read-own (One number) keys = ap (λ (p : Part). p.own keys) (fold-Source Part (part_step items) number)
  read-own (Join k left right on) keys = join-own k left right on (kind_at items left) keys refl

  -- ---- WHERE

  filter-opened : (filter : Option Typed) (p : Plan) (f : From) (stages : List Stage) (nodes : List Node) → opened items p ≡ reading f stages nodes →
      opened items (filter_plan filter p) ≡ reading f stages (nodes ++ filter_of filter)
  unfolding part_of
  filter-opened None p f stages nodes is = is ∙ ap (reading f stages) (sym (append-nil nodes))
  filter-opened (Some on) p f stages nodes is = ap (λ (p : Part). p.last) (fold-Filter Part (part_step items) on p) ∙ ap (with_node (node.Filter on)) is

  filter-own : (filter : Option Typed) (p : Plan) (keys : List Typed) → own_key items (filter_plan filter p) keys ≡ own_key items p keys
  unfolding part_of
  filter-own None p keys = refl
  filter-own (Some on) p keys = ap (λ (p : Part). p.own keys) (fold-Filter Part (part_step items) on p)

  -- ---- the shape

  -- an aggregate, HAVING and the items in the open stage
  abbrev with_rest : List Node → Open → Open
  with_rest rest o = record { stages = o.stages; inputs = o.inputs; nodes = o.nodes ++ rest; leftmost = o.leftmost }

  rest-staged : (over : Kind) (aggs : List Agg) (window : Option Window) (having : Option Typed) (values : List Typed) (out : ℕ) (p : Plan) (o : Open) → opened items p ≡ o →
      stages_from items (tree.Select [] values out (having_plan having (tree.Aggregate over aggs window p)))
      ≡ closed items (Relation out) (with_rest (node.Aggregate over aggs window ∷ after_aggregate having values) o)
  unfolding part_of
  rest-staged over aggs window having values out p o is = by having
    where
      x : Node
      x = node.Aggregate over aggs window

      s : Node
      s = node.Select [] values

      aggregated : opened items (tree.Aggregate over aggs window p) ≡ with_node x o
      aggregated = ap (λ (p : Part). p.last) (fold-Aggregate Part (part_step items) over aggs window p) ∙ ap (with_node x) is

      selected : (arg : Plan) (before : Open) → opened items arg ≡ before → stages_from items (tree.Select [] values out arg) ≡ closed items (Relation out) (with_node s before)
      selected arg before at = ap (λ (p : Part). p.stages) (fold-Select Part (part_step items) [] values out arg) ∙ ap (λ (b : Open). closed items (Relation out) (with_node s b)) at

      rest : List Node → Open
      rest nodes = record { stages = o.stages; inputs = o.inputs; nodes = nodes; leftmost = o.leftmost }

      by : (having : Option Typed) → stages_from items (tree.Select [] values out (having_plan having (tree.Aggregate over aggs window p)))
          ≡ closed items (Relation out) (with_rest (x ∷ after_aggregate having values) o)
      by None =
          selected (tree.Aggregate over aggs window p) (with_node x o) aggregated
          ∙ ap (λ (nodes : List Node). closed items (Relation out) (rest nodes)) (append_assoc o.nodes (x ∷ []) (s ∷ []))
      by (Some on) =
          selected (tree.Having on (tree.Aggregate over aggs window p)) (with_node (node.Having on) (with_node x o))
          (ap (λ (p : Part). p.last) (fold-Having Part (part_step items) on (tree.Aggregate over aggs window p)) ∙ ap (with_node (node.Having on)) aggregated)
          ∙ ap (λ (nodes : List Node). closed items (Relation out) (rest nodes))
          (ap (λ (nodes : List Node). nodes ++ s ∷ []) (append_assoc o.nodes (x ∷ []) (node.Having on ∷ [])) ∙ append_assoc o.nodes (x ∷ node.Having on ∷ []) (s ∷ []))

  -- a grouping is cut where its key isn't the own key
  group-staged : (b : Bool) (q : Query) (keys : List Typed) (aggs : List Agg) (window : Option Window) (having : Option Typed) (values : List Typed) (p : Plan) →
      opened items p ≡ reading q.from (rekeys q.from) (input_nodes items q) → own_key items p keys ≡ b → are_own_key items q.from keys ≡ b →
      stages_from items (tree.Select [] values q.out.number (having_plan having (aggregate_plan (kind_at items (leftmost q.from)) keys aggs window p)))
      ≡ rekeys q.from ++ shape_stages items q (Group keys window aggs having values)
  unfolding part_of
  group-staged b q keys aggs window having values p is own same = by b own same
    where
      over : Kind
      over = kind_at items (leftmost q.from)

      group : Open
      group = with_node (node.Group keys) (reading q.from (rekeys q.from) (input_nodes items q))

      grouped-open : (b : Bool) → own_key items p keys ≡ b → opened items (tree.Group keys p) ≡ grouped items b keys (reading q.from (rekeys q.from) (input_nodes items q))
      grouped-open b own =
          ap (λ (p : Part). p.last) (fold-Group Part (part_step items) keys p) ∙ ap₂ (λ (b : Bool) (o : Open). grouped items b keys o) own is

      first : Stage
      first = record { inputs = inputs_of items q.from; nodes = group.nodes; partitions = partitions_at items (leftmost q.from); output = Cut name.Group (leftmost q.from) }

      last : Stage
      last = record {
        inputs = Cut name.Group (leftmost q.from) ∷ [];
        nodes = node.Aggregate over aggs window ∷ after_aggregate having values;
        partitions = partitions_at items (leftmost q.from);
        output = Relation q.out.number;
      }

      by : (b : Bool) → own_key items p keys ≡ b → are_own_key items q.from keys ≡ b →
          stages_from items (tree.Select [] values q.out.number (having_plan having (aggregate_plan over keys aggs window p)))
          ≡ rekeys q.from ++ shape_stages items q (Group keys window aggs having values)
      by true own same = rw same (rest-staged over aggs window having values q.out.number (tree.Group keys p) group (grouped-open true own))
      by false own same =
          rw same (rest-staged over aggs window having values q.out.number (tree.Group keys p) (cut items name.Group group) (grouped-open false own)
          ∙ append_assoc (rekeys q.from) (first ∷ []) (last ∷ []))

  shape-staged : (q : Query) (shape : Shape) (p : Plan) → opened items p ≡ reading q.from (rekeys q.from) (input_nodes items q) →
      ((keys : List Typed) → own_key items p keys ≡ are_own_key items q.from keys) →
      stages_from items (shape_plan (kind_at items (leftmost q.from)) q.out.number shape p) ≡ rekeys q.from ++ shape_stages items q shape
  unfolding part_of
  shape-staged q (Plain keys values) p is own =
      ap (λ (p : Part). p.stages) (fold-Select Part (part_step items) keys values q.out.number p)
      ∙ ap (λ (o : Open). closed items (Relation q.out.number) (with_node (node.Select keys values) o)) is
  shape-staged q (Group keys window aggs having values) p is own =
      group-staged (are_own_key items q.from keys) q keys aggs window having values p is (own keys) refl

  -- ---- a query

  rekeyed-first : (f : From) (filter : Option Typed) (shape : Shape) (out : OneRelation) →
      rekeys f ≡ rekey_stages items (record { from = f; filter = filter; shape = shape; out = out })
  rekeyed-first (One number) filter shape out = refl
  rekeyed-first (Join k left right on) filter shape out = refl

  -- the stages of the plan of a query are those of the query
  pub plan-staged : (q : Query) → stages_from items (plan_of items q) ≡ stages_of items q
  unfolding plan_of stages_of
  plan-staged q =
      shape-staged q q.shape (filter_plan q.filter (read_plan items q.from))
      (filter-opened q.filter (read_plan items q.from) q.from (rekeys q.from) (table_of items q.from ++ join_of items q.from) (read-opened q.from)
      ∙ ap (reading q.from (rekeys q.from)) (append_assoc (table_of items q.from) (join_of items q.from) (filter_of q.filter)))
      (λ keys. filter-own q.filter (read_plan items q.from) keys ∙ read-own q.from keys)
      ∙ ap (λ (stages : List Stage). stages ++ shape_stages items q q.shape) (rekeyed-first q.from q.filter q.shape q.out)
