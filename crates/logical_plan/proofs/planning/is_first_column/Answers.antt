use Rattle.std.proofs.Common.{sym}
use Rattle.ksql_expr.specs.declared.typed.TypedNode.TheVariants as form
use Rattle.grouped_expressions.proofs.Equality.{decided}
use Rattle.logical_plan.proofs.planning.is_first_column.Goals as goal

pub returns : goal.returns
returns c = sym (decided c.same_node.result c.args.e.now.node (form.Column 0) c.same_node.ensures)
