use Rattle.std.proofs.Common.{sym, ap, ◌∙◌, subst}
use Rattle.std.proofs.lemmas.Result.{err_from_is_err_and}
use Rattle.ksql_grammar.specs.Grammar.{Spells, at, expr}
use Rattle.ksql_parser.proofs.Only.{both}
use Rattle.ksql_parser.proofs.statement.clauses.boxed_expression.Goals as goal

pub returns-in_err-expr-clause-only : goal.returns-in_err-expr-clause-only
returns-in_err-expr-clause-only c = λ e rest d ends.
    let p = err_from_is_err_and c.from_residual.result c.from_residual.ensures.1 in
    rw (p.1, p.2) (c.in_err-expr.ensures.only e rest d ends)

pub returns-clause-found : goal.returns-clause-found
returns-clause-found c = subst (λ e. Spells (at expr e) c.args.symbols.now c.in_ok-expr.rest.now) (sym c.in_ok-of.ensures) c.in_ok-expr.ensures.found

pub returns-clause-only : goal.returns-clause-only
returns-clause-only c = λ e rest d ends.
    c.in_ok-expr.ensures.only e rest d ends ∙ ap (λ x. both x c.in_ok-expr.rest.now) (sym c.in_ok-of.ensures)
