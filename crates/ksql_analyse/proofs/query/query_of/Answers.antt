use Rattle.std.proofs.Common.{All, subst, sym}
use Rattle.ksql_scopes.specs.declared.scope.Scope.{Scope}
use Rattle.ksql_clauses.specs.Sources.{there}
use Rattle.ksql_analyse.specs.Typable.{IsTypable}
use Rattle.ksql_analyse.proofs.query.query_of.Goals as goal

pub part_tree-requires-clause-typable : goal.part_tree-requires-clause-typable
part_tree-requires-clause-typable c =
    subst (λ (s : Scope). All (IsTypable s) (there c.args.findings.now.select.now.filter)) (sym c.requires.ready.found.scope_is) c.requires.ready.typable.filter
