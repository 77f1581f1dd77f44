use Rattle.std.proofs.Common.{◌≡◌, ◌+◌, ◌++◌, ◌∷◌, [], suc, Some, None, ap, sym, ◌∙◌, add-one}
use Rattle.ksql_clauses.specs.Items.{plain_name, named, named_from, numbered_name}
use Rattle.ksql_scopes.specs.Resolved.{resolved}
use Rattle.ksql_clauses.proofs.Naming.{appended, from-plain, from-numbered}
use Rattle.ksql_clauses.proofs.items.with_plain.Goals as goal

pub returns-in_ok-with_named-in-Some-clause-found : goal.returns-in_ok-with_named-in-Some-clause-found
returns-in_ok-with_named-in-Some-clause-found c = λ rest. appended _ _ _ _ _ c.in_ok-with_named-in-Some.ensures
    (from-plain c.args.scope.now c.args.known.now c.args.number c.args.expr.now c.in-Some.name rest (sym c.in_ok-plain.ensures ∙ c.in-Some.is))

pub returns-in_ok-with_named-in-None-clause-found : goal.returns-in_ok-with_named-in-None-clause-found
returns-in_ok-with_named-in-None-clause-found c = λ rest.
    let next : c.args.number + 1 ≡ suc c.args.number = add-one c.args.number in
    appended _ _ _ _ _ (c.in_ok-with_named-in-None.ensures ∙ ap (λ n. c.args.found.items ++ named n (resolved c.args.scope.now c.args.expr.now) ∷ []) c.in_ok-name-in-None.ensures)
    (from-numbered c.args.scope.now c.args.known.now c.args.number c.args.expr.now rest (sym c.in_ok-plain.ensures ∙ c.in-None.is)
    ∙ ap (λ n. named (numbered_name c.args.number) (resolved c.args.scope.now c.args.expr.now) ∷ named_from c.args.scope.now c.args.known.now n rest) (sym next))
