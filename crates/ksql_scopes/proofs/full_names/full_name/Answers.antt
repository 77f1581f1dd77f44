use Rattle.std.proofs.Common.{◌≡◌, if◌then◌else◌, Bool, Option, Some, None, ap, sym, ◌∙◌}
use Rattle.std.specs.Prelude.{find}
use Rattle.expression_trees.specs.declared.tree.Expr.{Expr}
use Rattle.expression_trees.specs.declared.tree.Expr.TheVariants as e
use Rattle.ksql_scopes.specs.declared.scope.ScopeColumn.{ScopeColumn}
use Rattle.ksql_scopes.specs.Resolved.{full_name, is_row_time}
use Rattle.ksql_scopes.specs.Scope.{is_known_as}
use Rattle.expression_trees.proofs.Becoming.{moved}
use Rattle.ksql_scopes.proofs.Resolving.{written_by, written-found}
use Rattle.ksql_scopes.proofs.full_names.full_name.Goals as goal

pub returns-in-Some : goal.returns-in-Some
returns-in-Some c = moved _ _ _
    (written-found c.args.scope.now c.args.qualifier.now c.args.name.now (is_known_as c.args.qualifier.now c.args.name.now) c.args.scope.now.columns
    ∙ ap (λ cs. written_by c.args.scope.now c.args.qualifier.now c.args.name.now (find (is_known_as c.args.qualifier.now c.args.name.now) cs)) (sym c.items.ensures)
    ∙ ap (written_by c.args.scope.now c.args.qualifier.now c.args.name.now) (sym c.in-Some.ensures)) c.written.ensures

pub returns-then-is_row_time : goal.returns-then-is_row_time
returns-then-is_row_time c = moved _ _ _
    (written-found c.args.scope.now c.args.qualifier.now c.args.name.now (is_known_as c.args.qualifier.now c.args.name.now) c.args.scope.now.columns
    ∙ ap (λ cs. written_by c.args.scope.now c.args.qualifier.now c.args.name.now (find (is_known_as c.args.qualifier.now c.args.name.now) cs)) (sym c.items.ensures)
    ∙ ap (written_by c.args.scope.now c.args.qualifier.now c.args.name.now) (sym c.in-None.ensures)
    ∙ ap (λ b. let w : Expr = if b then e.Name None c.args.name.now else e.Name c.args.qualifier.now c.args.name.now in w) (sym c.if-is_row_time.ensures))
    c.written-then-is_row_time.ensures

pub returns-else-is_row_time : goal.returns-else-is_row_time
returns-else-is_row_time c = moved _ _ _
    (written-found c.args.scope.now c.args.qualifier.now c.args.name.now (is_known_as c.args.qualifier.now c.args.name.now) c.args.scope.now.columns
    ∙ ap (λ cs. written_by c.args.scope.now c.args.qualifier.now c.args.name.now (find (is_known_as c.args.qualifier.now c.args.name.now) cs)) (sym c.items.ensures)
    ∙ ap (written_by c.args.scope.now c.args.qualifier.now c.args.name.now) (sym c.in-None.ensures)
    ∙ ap (λ b. let w : Expr = if b then e.Name None c.args.name.now else e.Name c.args.qualifier.now c.args.name.now in w) (sym c.if-is_row_time.ensures))
    c.written-in-None.ensures
