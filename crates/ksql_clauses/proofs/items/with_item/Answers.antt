use Rattle.std.proofs.Common.{◌≡◌, ◌++◌, ◌∷◌, [], Some, None, ap, sym, ◌∙◌}
use Rattle.statement_trees.specs.declared.tree.SelectItem.TheVariants.{One}
use Rattle.ksql_clauses.specs.Items.{named, named_from, all_stars, stars_of}
use Rattle.ksql_scopes.specs.Resolved.{resolved}
use Rattle.ksql_clauses.proofs.Naming.{appended, from-Star, from-StarOf, from-alias}
use Rattle.ksql_clauses.proofs.items.with_item.Goals as goal

pub returns-in_ok-with_all_stars-in-Star-clause-found : goal.returns-in_ok-with_all_stars-in-Star-clause-found
returns-in_ok-with_all_stars-in-Star-clause-found c = λ rest. appended _ _ _ _ _ c.in_ok-with_all_stars-in-Star.ensures
    (ap (λ i. named_from c.args.scope.now c.args.known.now c.args.number (i ∷ rest)) c.in-Star.is
    ∙ from-Star c.args.scope.now c.args.known.now c.args.number rest)

pub returns-in_ok-with_stars_of-in-StarOf-clause-found : goal.returns-in_ok-with_stars_of-in-StarOf-clause-found
returns-in_ok-with_stars_of-in-StarOf-clause-found c = λ rest. appended _ _ _ _ _ c.in_ok-with_stars_of-in-StarOf.ensures
    (ap (λ i. named_from c.args.scope.now c.args.known.now c.args.number (i ∷ rest)) c.in-StarOf.is
    ∙ from-StarOf c.args.scope.now c.args.known.now c.args.number c.in-StarOf.alias rest)

pub returns-in_ok-with_named-in-Some-clause-found : goal.returns-in_ok-with_named-in-Some-clause-found
returns-in_ok-with_named-in-Some-clause-found c = λ rest.
    appended _ _ _ _ _ (c.in_ok-with_named-in-Some.ensures
    ∙ ap (λ n. c.args.found.items ++ named n (resolved c.args.scope.now c.in-One.expr) ∷ []) c.in_ok-name-in-Some.ensures)
    (ap (λ i. named_from c.args.scope.now c.args.known.now c.args.number (i ∷ rest)) (c.in-One.is ∙ ap (λ x. One c.in-One.expr x) c.in-Some.is)
    ∙ from-alias c.args.scope.now c.args.known.now c.args.number c.in-One.expr c.in-Some.alias rest)
