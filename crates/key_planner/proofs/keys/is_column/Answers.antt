use Rattle.std.proofs.Common.{sym}
use Rattle.ksql_expr.specs.declared.typed.TypedNode.TheVariants as form
use Rattle.grouped_expressions.proofs.Equality.{decided}
use Rattle.key_planner.proofs.keys.is_column.Goals as goal

pub returns : goal.returns
returns c = sym (decided c.has_number.result c.args.e.now.node (form.Column c.args.number) c.has_number.ensures)
