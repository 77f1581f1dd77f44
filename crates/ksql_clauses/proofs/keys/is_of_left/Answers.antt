use Rattle.std.proofs.Common.{not, ◌&&◌, refl, ap, sym, ◌∙◌}
use Rattle.ksql_clauses.specs.declared.left_names.Sought.TheVariants.{Other}
use Rattle.ksql_clauses.specs.Sought.{has_name}
use Rattle.ksql_clauses.proofs.LeftNames.{of-left}
use Rattle.ksql_clauses.proofs.keys.is_of_left.Goals as goal

pub returns-then-has_name : goal.returns-then-has_name
returns-then-has_name c =
    ap (λ b. b && not c.has_name-then-has_name.result) (sym c.if-has_name.true)
    ∙ of-left c.args.scope c.args.left c.args.expr.now c.has_name.result c.has_name-then-has_name.result c.has_name.ensures c.has_name-then-has_name.ensures

pub returns-else-has_name : goal.returns-else-has_name
returns-else-has_name c =
    let other = has_name (Other c.args.scope c.args.left) c.args.expr.now in
    c.if-has_name.false ∙ ap (λ b. b && not other) (sym c.if-has_name.false)
    ∙ of-left c.args.scope c.args.left c.args.expr.now c.has_name.result other c.has_name.ensures refl
