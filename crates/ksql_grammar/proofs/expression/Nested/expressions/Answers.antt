use Rattle.std.proofs.Common.{suc, sym, ap, ◌∙◌, length, Some, arith}
use Rattle.std.proofs.lemmas.Result.{err_from_is_err_and}
use Rattle.ksql_lexer.specs.declared.token.Mark.TheVariants.{Comma}
use Rattle.ksql_grammar.specs.Reading.{with_rest, with_items}
use Rattle.ksql_grammar.specs.Expressions.{within, exprs, after_sign, list_of}
use Rattle.ksql_grammar.proofs.Chains.{with_front, list_fails, list_last, list_goes}
use Rattle.ksql_grammar.proofs.Whole.{within_takes, sign_fewer}
use Rattle.ksql_grammar.proofs.Errors.{gives_err}
use Rattle.ksql_grammar.proofs.expression.Nested.expressions.Goals as goal

pub returns-in_err-expr : goal.returns-in_err-expr
returns-in_err-expr g c =
    let inner = within c.args.self.now.room in
    let rest = c.loop-exprs.rest.now in
    let p = err_from_is_err_and c.from_residual.result c.from_residual.ensures.1 in
    rw (p.1, p.2) (gives_err with_rest with_items c.in_err-expr.field-0.0 (inner rest) (exprs inner c.args.symbols.now) c.in_err-expr.ensures
    (λ none. sym c.loop-exprs.invariant ∙ list_fails inner (after_sign Comma) c.loop-exprs.exprs.items (length rest) rest none))

pub loop-exprs-smaller : goal.loop-exprs-smaller
loop-exprs-smaller g c =
    let taken = within_takes c.args.self.now.room c.loop-exprs.rest.now (c.in_ok-expr.expr, c.in_ok-expr.behind.now) c.in_ok-expr.ensures in
    let comma = sign_fewer Comma c.in_ok-expr.behind.now c.in-Some.after.now (sym c.in-Some.ensures) in
    omega arith

pub loop-exprs-preserved : goal.loop-exprs-preserved
loop-exprs-preserved g c =
    let inner = within c.args.self.now.room in
    let after = c.in-Some.after.now in
    ap (λ front. with_front front (list_of inner (after_sign Comma) (suc (length after)) after)) c.in_ok-push.ensures.items
    ∙ sym (list_goes inner (after_sign Comma) (within_takes c.args.self.now.room) (sign_fewer Comma) c.loop-exprs.exprs.items c.loop-exprs.rest.now
    (c.in_ok-expr.expr, c.in_ok-expr.behind.now) after c.in_ok-expr.ensures (sym c.in-Some.ensures))
    ∙ c.loop-exprs.invariant

pub returns-in-None : goal.returns-in-None
returns-in-None g c =
    let inner = within c.args.self.now.room in
    let rest = c.loop-exprs.rest.now in
    sym c.loop-exprs.invariant
    ∙ list_last inner (after_sign Comma) c.loop-exprs.exprs.items (length rest) rest (c.in_ok-expr.expr, c.in_ok-expr.behind.now) c.in_ok-expr.ensures (sym c.in-None.ensures)
    ∙ ap (λ xs. Some (xs, c.in_ok-expr.behind.now)) (sym c.in_ok-push.ensures.items)
