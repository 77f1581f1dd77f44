use Rattle.std.proofs.Common.{Some, ap, sym, ◌∙◌}
use Rattle.ksql_clauses.specs.Items.{plain_name}
use Rattle.ksql_clauses.proofs.Naming.{plain-Name, plain-other}
use Rattle.ksql_clauses.proofs.items.plain_name.Goals as goal

pub returns-in_ok-column_name-in-Name : goal.returns-in_ok-column_name-in-Name
returns-in_ok-column_name-in-Name c =
    ap (λ x. Some x) c.in_ok-column_name-in-Name.ensures
    ∙ sym (ap (plain_name c.args.known.now) c.in-Name.is ∙ plain-Name c.args.known.now c.in-Name.qualifier c.in-Name.name)

pub returns-in_default : goal.returns-in_default
returns-in_default c = sym (plain-other c.args.known.now c.args.expr.now c.in_default.not-Name)
