-- A row as it is stored.
use Rattle.std.specs.Prelude.{List, ◌++◌}
use Rattle.ksql_types.specs.declared.value.Value.{Value}
use Rattle.ksql_expr.specs.declared.typed.Typed.{Typed}
use Rattle.ksql_expr.specs.Value.{value_of}
use Rattle.ksql_eval.specs.declared.view.RowView.{RowView}

-- the cells of a row: those of its key, then its own
abbrev pub cells : RowView → List Value
cells v = v.key.now ++ v.row.now

-- the value of an expression on a row
abbrev pub value_on : RowView → Typed → Value
value_on v = value_of (cells v) v.time
