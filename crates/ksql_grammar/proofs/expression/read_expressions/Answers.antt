use Rattle.std.proofs.Common.{◌≡◌, ◌+◌, length, List, Some, sym, ap, ◌∙◌, subst, add-one}
use Rattle.std.proofs.lemmas.Result.{err_from_is_err_and}
use Rattle.ksql_grammar.specs.declared.symbol.Symbol.{Symbol}
use Rattle.expression_trees.specs.declared.tree.Expr.{Expr}
use Rattle.ksql_grammar.specs.Grammar.{Spells, exprs}
use Rattle.ksql_grammar.specs.Reading.{with_rest, with_items, EndsExprs}
use Rattle.ksql_grammar.specs.Expressions.{within}
use Rattle.ksql_grammar.specs.Expressions as read
use Rattle.ksql_grammar.proofs.Steps.{if_some}
use Rattle.ksql_grammar.proofs.Found.{exprs_found, within_found}
use Rattle.ksql_grammar.proofs.Whole.{expressions_only}
use Rattle.ksql_grammar.proofs.Errors.{gives_err}
use Rattle.ksql_grammar.proofs.expression.read_expressions.Goals as goal

whole : (es : List Expr) (ts rest : List Symbol) → Spells (exprs es) ts rest → EndsExprs rest → read.exprs (within (length ts + 1)) ts ≡ Some (es, rest)
whole es ts rest d ends = ap (λ n. read.exprs (within n) ts) (add-one (length ts)) ∙ expressions_only es ts rest d ends

pub returns-in_err-exprs-clause-only : goal.returns-in_err-exprs-clause-only
returns-in_err-exprs-clause-only c = λ es rest d ends.
    let ts = c.args.symbols.now in
    let p = err_from_is_err_and c.from_residual.result c.from_residual.ensures.1 in
    rw (p.1, p.2) (gives_err with_items with_rest c.in_err-exprs.field-0.0 (read.exprs (within (length ts + 1)) ts) (Some (es, rest)) c.in_err-exprs.ensures
    (λ none. sym (whole es ts rest d ends) ∙ none))

pub returns-clause-found : goal.returns-clause-found
returns-clause-found c =
    let ts = c.args.symbols.now in
    let n = length ts + 1 in
    subst (λ es. Spells (exprs es) ts c.in_ok-exprs.rest.now) (sym c.of.ensures)
    (if_some (read.exprs (within n) ts) (λ x. Spells (exprs x.0) ts x.1) (c.in_ok-exprs.exprs.items, c.in_ok-exprs.rest.now) (exprs_found (within n) (within_found n) ts) c.in_ok-exprs.ensures)

pub returns-clause-only : goal.returns-clause-only
returns-clause-only c = λ es rest d ends.
    sym (whole es c.args.symbols.now rest d ends) ∙ c.in_ok-exprs.ensures ∙ ap (λ xs. Some (xs, c.in_ok-exprs.rest.now)) (sym c.of.ensures)
