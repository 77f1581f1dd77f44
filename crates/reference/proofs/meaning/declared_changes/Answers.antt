use Rattle.std.proofs.Common.{◌∙◌, sym}
use Rattle.ksql_types.specs.declared.relation.Kind.TheVariants.{Stream, Table}
use Rattle.query_meaning.specs.Parts.{rows_said}
use Rattle.query_meaning.proofs.QuerySteps.{changed-from-side}
use Rattle.query_meaning.proofs.DeclaredChanges.{declared_changes-by}
use Rattle.reference.proofs.meaning.declared_changes.Goals as goal

pub returns-in-Stream : goal.returns-in-Stream
returns-in-Stream c =
    let relation = c.args.relation.now in
    let order = c.args.order.now in
    sym (declared_changes-by relation Stream order c.in-Stream.is ∙ changed-from-side (rows_said relation.number order))

pub returns-in_ok-changes-in-Table : goal.returns-in_ok-changes-in-Table
returns-in_ok-changes-in-Table c =
    c.of.ensures ∙ c.in_ok-changes-in-Table.ensures ∙ sym (declared_changes-by c.args.relation.now Table c.args.order.now c.in-Table.is)
