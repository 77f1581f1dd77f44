use Rattle.std.proofs.Common.{◌<◌, length, subst, sym, arith}
use Rattle.std.proofs.lemmas.List.Elements.{All-get_or}
use Rattle.ksql_scopes.specs.Uses.{IsSmall}
use Rattle.ksql_rules.proofs.Within.{All-unmap}
use Rattle.ksql_rules.proofs.findings.found_in.Goals as goal

pub judged-requires-clause-small : goal.judged-requires-clause-small
judged-requires-clause-small c =
    let exprs = c.args.exprs.now in
    let within : c.loop-expr.expr-index < length exprs = omega arith in
    subst (λ x. IsSmall x.now) (sym c.expr-item.is)
    (All-get_or (λ x. IsSmall x.now) exprs c.loop-expr.expr-index c.expr-item.result within (All-unmap IsSmall (λ x. x.now) exprs c.requires.small))
