-- The changes of queries without a grouping, change by change, the steps of groupings, and where the changes of a relation lie.
use Rattle.std.specs.Prelude.{ℕ, ◌≡◌, List, [], ◌∷◌, ◌++◌, flat_map, filter, replicate, ◌==◌, Bool, true, if◌then◌else◌, Option, Some, None}
use Rattle.ksql_types.specs.declared.relation.Kind.{Kind}
use Rattle.ksql_types.specs.declared.relation.Kind.TheVariants.{Stream}
use Rattle.ksql_types.specs.declared.value.Value.{Value}
use Rattle.ksql_types.specs.declared.value.Value.TheVariants.{Null}
use Rattle.ksql_place.specs.declared.change.Body.{Body}
use Rattle.ksql_place.specs.declared.change.Change.{Change}
use Rattle.ksql_expr.specs.declared.typed.Typed.{Typed}
use Rattle.ksql_expr.specs.Value.{value_of, is_true_value}
use Rattle.ksql_program.specs.declared.query.Agg.{Agg}
use Rattle.ksql_nodes.specs.declared.node.Node.TheVariants as node
use Rattle.ksql_nodes.specs.Entries.{Row, Step}
use Rattle.ksql_nodes.specs.Nodes.{gives}
use Rattle.ksql_nodes.specs.Rows.{filtered, selected, values}
use Rattle.ksql_nodes.specs.TableAggregates.{aggregate_of_table}
use Rattle.query_meaning.specs.Queries.{key_cells, with_key_cells}
use Rattle.reference.specs.declared.plain.At.{At}
use Rattle.reference.specs.declared.plain.Plain.{Plain}
use Rattle.reference.specs.declared.meaning.Listed.{Listed}
use Rattle.reference.specs.declared.meaning.Listed.TheVariants.{Lent, Made}
use Rattle.query_meaning.specs.Parts.{rows_said}

-- the changes of a relation, wherever they are stored
abbrev pub changes_of : Listed → List Change
changes_of (Lent number order) = rows_said number order.now
changes_of (Made changes) = changes

-- a change with a place, a time and a key, and this body
abbrev pub change_at : At → Body → Change
change_at at body = record {
  place = record { stamp = at.stamp; path = at.path.now };
  time = at.time;
  key = at.key.now;
  span = at.span;
  body = body;
}

-- a plain query has a NULL for each key column of its source
abbrev pub HasNulls : Plain → Type 0
HasNulls plain = plain.nulls.items ≡ replicate plain.columns Null

-- whether a row passes WHERE at a time
abbrev pub passes : Option Typed → Row → ℕ → Bool
passes None row time = true
passes (Some on) row time = is_true_value (value_of row time on)

-- what WHERE and the select list make of a row with a key
abbrev pub row_left : ℕ → Option Typed → List Typed → ℕ → List Value → Row → Option Row
row_left columns filter items time key row =
    let whole = key_cells columns key ++ row in
    if passes filter whole time then Some (values items time whole) else None

-- a change that passes WHERE, if any
abbrev pub passed : Option Typed → Change → List Change
passed None c = c ∷ []
passed (Some on) c = filtered on c

-- the relation on a side of a join
abbrev pub relation_of_side : ℕ → ℕ → ℕ → ℕ
relation_of_side left right side = if side == 0 then left else right

-- the steps of a grouping without a window over a relation of a kind, with this many lanes
abbrev pub grouping_steps : ℕ → Kind → List Typed → List Agg → List Step
grouping_steps n Stream keys aggs = gives n (node.Group keys) ∷ gives n (node.Aggregate Stream aggs None) ∷ []
grouping_steps n _ keys aggs = aggregate_of_table keys aggs ∷ []

-- what a query with this WHERE and select list gives for a change of a relation with this many key columns
abbrev pub plain_gives : ℕ → Option Typed → List Typed → List Typed → Change → List Change
plain_gives columns filter keys items c = flat_map (selected keys items) (passed filter (with_key_cells columns c))
