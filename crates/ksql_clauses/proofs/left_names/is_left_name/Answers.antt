use Rattle.std.proofs.Common.{◌≡◌, Some, None, ap, sym, ◌∙◌}
use Rattle.std.specs.Prelude.{find}
use Rattle.ksql_scopes.specs.Scope.{is_known_as}
use Rattle.ksql_clauses.specs.Sought.{use_of}
use Rattle.ksql_clauses.proofs.LeftNames.{left-none, left-alone, left-of}
use Rattle.ksql_clauses.proofs.left_names.is_left_name.Goals as goal

pub returns-in-None : goal.returns-in-None
returns-in-None c =
    let found : find (is_known_as c.args.qualifier.now c.args.name.now) c.args.scope.now.columns ≡ None =
    ap (find (is_known_as c.args.qualifier.now c.args.name.now)) (sym c.items.ensures) ∙ sym c.in-None.ensures in
    c.is_row_time.ensures ∙ sym (left-none c.args.scope.now c.args.left.now (use_of c.args.qualifier.now c.args.name.now) found)

pub returns-in-None-alias : goal.returns-in-None-alias
returns-in-None-alias c =
    let found : find (is_known_as c.args.qualifier.now c.args.name.now) c.args.scope.now.columns ≡ Some c.in-Some.column.now =
    ap (find (is_known_as c.args.qualifier.now c.args.name.now)) (sym c.items.ensures) ∙ sym c.in-Some.ensures in
    sym (left-alone c.args.scope.now c.args.left.now (use_of c.args.qualifier.now c.args.name.now) c.in-Some.column.now found c.in-None-alias.is)

pub returns-in-Some-alias : goal.returns-in-Some-alias
returns-in-Some-alias c =
    let found : find (is_known_as c.args.qualifier.now c.args.name.now) c.args.scope.now.columns ≡ Some c.in-Some.column.now =
    ap (find (is_known_as c.args.qualifier.now c.args.name.now)) (sym c.items.ensures) ∙ sym c.in-Some.ensures in
    c.eq.ensures
    ∙ sym (left-of c.args.scope.now c.args.left.now (use_of c.args.qualifier.now c.args.name.now) c.in-Some.column.now c.in-Some-alias.alias found c.in-Some-alias.is)
