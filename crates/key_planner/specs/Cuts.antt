-- The stages of a plan: its steps, cut where a step needs another key than its input has.
use Rattle.std.specs.Prelude.{ℕ, Bool, true, false, if◌then◌else◌, List, [], ◌∷◌, ◌++◌}
use Rattle.ksql_expr.specs.declared.typed.Typed.{Typed}
use Rattle.ksql_program.specs.declared.program.Item.{Item}
use Rattle.ksql_program.specs.declared.query.From.TheVariants.{One}
use Rattle.ksql_nodes.specs.declared.node.Node.{Node}
use Rattle.ksql_nodes.specs.declared.node.Node.TheVariants as node
use Rattle.query_meaning.specs.Queries.{key_columns, partitions_at, side_at}
use Rattle.topology.specs.Stages.{are_columns_from, is_stream_key, is_tables_key, table_of}
use Rattle.topology.specs.declared.stage.CutName.{CutName}
use Rattle.topology.specs.declared.stage.CutName.TheVariants as name
use Rattle.topology.specs.declared.stage.Link.{Link}
use Rattle.topology.specs.declared.stage.Link.TheVariants.{Relation, Cut}
use Rattle.topology.specs.declared.stage.Stage.{Stage}
use Rattle.logical_plan.specs.declared.tree.Plan.{Plan, fold-Plan}
use Rattle.logical_plan.specs.declared.tree.Plan.TheOpen.{Plan-F}
use Rattle.key_planner.specs.declared.staging.Open.{Open}

-- ---- the open stage

-- a relation is read; a table's records become its changes first
abbrev pub read : List Item → ℕ → Open
read items number = record { stages = []; inputs = Relation number ∷ []; nodes = table_of items (One number); leftmost = number }

-- one more step
abbrev pub with_node : Node → Open → Open
with_node x o = record { stages = o.stages; inputs = o.inputs; nodes = o.nodes ++ x ∷ []; leftmost = o.leftmost }

-- all stages, if the open one writes a topic
abbrev pub closed : List Item → Link → Open → List Stage
closed items output o = o.stages ++ record { inputs = o.inputs; nodes = o.nodes; partitions = partitions_at items o.leftmost; output = output } ∷ []

-- the open stage writes a repartition topic, and the next one reads it
abbrev pub cut : List Item → CutName → Open → Open
cut items name o = record { stages = closed items (Cut name o.leftmost) o; inputs = Cut name o.leftmost ∷ []; nodes = []; leftmost = o.leftmost }

-- whether a stage has steps
abbrev pub has_steps : List Node → Bool
has_steps [] = false
has_steps (node.Table number ∷ []) = false
has_steps _ = true

-- a side of a join: a relation's topic as it is, or the output of a stage of its own
abbrev pub as_side : List Item → CutName → Open → Open
as_side items name o = if has_steps o.nodes then cut items name o else record { stages = o.stages; inputs = o.inputs; nodes = []; leftmost = o.leftmost }

-- two sides in one stage
abbrev pub both : Open → Open → Open
both l r = record { stages = l.stages ++ r.stages; inputs = l.inputs ++ r.inputs; nodes = l.nodes; leftmost = l.leftmost }

-- a join of two sides
abbrev pub joined : List Item → Node → Open → Open → Open
joined items x l r = with_node x (both (as_side items name.Left l) (as_side items name.Right r))

-- a grouping: a grouping by anything but its input's own key goes through a repartition topic
abbrev pub grouped : List Item → Bool → List Typed → Open → Open
grouped items own keys o = if own then with_node (node.Group keys) o else cut items name.Group (with_node (node.Group keys) o)

-- ---- the parts of a plan

-- the result for a part of a plan: the stages so far, the leftmost relation that it reads, whether some expressions
-- are, in order, the key of its result, and its stages if it is the whole plan
pub record Part : Type 0 where
  pub last : Open
  pub leftmost : ℕ
  pub own : List Typed → Bool
  pub stages : List Stage

-- whether there is exactly one expression, and it passes a test
abbrev pub is_one : (Typed → Bool) → List Typed → Bool
is_one test (e ∷ []) = test e
is_one test _ = false

-- a part without a key of its own that isn't the whole plan
abbrev pub inner : ℕ → Open → Part
inner number o = record { last = o; leftmost = number; own = λ keys. false; stages = [] }

-- the result for a step, given those for its parts
abbrev pub part_step : List Item → Plan-F Part → Part
part_step items (Plan-F.Source number) = record { last = read items number; leftmost = number; own = are_columns_from 0 (key_columns items number); stages = [] }
part_step items (Plan-F.Filter on p) = record { last = with_node (node.Filter on) p.last; leftmost = p.leftmost; own = p.own; stages = [] }
part_step items (Plan-F.Rekey key p) = inner p.leftmost (with_node (node.Rekey key) p.last)
part_step items (Plan-F.JoinStreamTable k on l r) = record {
  last = joined items (node.JoinStreamTable k on (side_at items l.leftmost) (side_at items r.leftmost)) l.last r.last;
  leftmost = l.leftmost;
  own = is_one (is_stream_key k (side_at items l.leftmost) on);
  stages = [];
}
part_step items (Plan-F.JoinTables k l r) = record {
  last = joined items (node.JoinTables k (side_at items l.leftmost) (side_at items r.leftmost)) l.last r.last;
  leftmost = l.leftmost;
  own = is_one (is_tables_key k (side_at items l.leftmost) (side_at items r.leftmost));
  stages = [];
}
part_step items (Plan-F.Group keys p) = inner p.leftmost (grouped items (p.own keys) keys p.last)
part_step items (Plan-F.Aggregate over aggs window p) = inner p.leftmost (with_node (node.Aggregate over aggs window) p.last)
part_step items (Plan-F.Having on p) = inner p.leftmost (with_node (node.Having on) p.last)
part_step items (Plan-F.Select keys values out p) =
    let o = with_node (node.Select keys values) p.last in
    record { last = o; leftmost = p.leftmost; own = λ es. false; stages = closed items (Relation out) o }

unfoldable pub part_of : List Item → Plan → Part
part_of items = fold-Plan Part (part_step items)

-- the stages so far
abbrev pub opened : List Item → Plan → Open
opened items p = (part_of items p).last

-- whether some expressions are, in order, the key of a plan's result
abbrev pub own_key : List Item → Plan → List Typed → Bool
own_key items p = (part_of items p).own

-- the leftmost relation that a plan reads
abbrev pub leftmost_of : List Item → Plan → ℕ
leftmost_of items p = (part_of items p).leftmost

-- the stages of a plan
abbrev pub stages_from : List Item → Plan → List Stage
stages_from items p = (part_of items p).stages
