use Rattle.std.proofs.Common.{◌∷◌, suc, refl, sym, ap, ◌∙◌, length, Some, arith}
use Rattle.std.proofs.lemmas.Result.{err_from_is_err_and}
use Rattle.ksql_lexer.specs.declared.token.Mark.TheVariants.{Comma, Close}
use Rattle.ksql_grammar.specs.declared.symbol.Symbol.TheVariants.{Sign}
use Rattle.ksql_parser.specs.Grammar as g
use Rattle.ksql_parser.specs.Grammar.{Spells}
use Rattle.ksql_grammar.specs.Reading.{with_rest}
use Rattle.ksql_grammar.specs.Expressions.{after_sign, list_of}
use Rattle.ksql_grammar.proofs.Chains.{with_front, list_fails, list_last, list_goes}
use Rattle.ksql_grammar.proofs.Errors.{gives_err}
use Rattle.ksql_grammar.proofs.Whole.{sign_fewer}
use Rattle.ksql_parser.specs.Statements.{column}
use Rattle.ksql_grammar.proofs.Steps.{if_some}
use Rattle.ksql_parser.proofs.Declared.{column_takes, columns_found, columns_only}
use Rattle.ksql_parser.proofs.statement.declaration.read_columns.Goals as goal

pub loop-columns-smaller : goal.loop-columns-smaller
loop-columns-smaller c =
    let taken = column_takes c.loop-columns.rest.now (c.in_ok-column.column, c.in_ok-column.behind.now) c.in_ok-column.ensures in
    let comma = sign_fewer Comma c.in_ok-column.behind.now c.in-Some.after.now (sym c.in-Some.ensures) in
    omega arith

pub loop-columns-preserved : goal.loop-columns-preserved
loop-columns-preserved c =
    let after = c.in-Some.after.now in
    ap (λ front. with_front front (list_of column (after_sign Comma) (suc (length after)) after)) c.in_ok-push.ensures.items
    ∙ sym (list_goes column (after_sign Comma) column_takes (sign_fewer Comma) c.loop-columns.columns.items c.loop-columns.rest.now
    (c.in_ok-column.column, c.in_ok-column.behind.now) after c.in_ok-column.ensures (sym c.in-Some.ensures))
    ∙ c.loop-columns.invariant

pub returns-in_err-column-clause-only : goal.returns-in_err-column-clause-only
returns-in_err-column-clause-only c = λ cs rest d.
    let ts = c.args.symbols.now in
    let us = c.loop-columns.rest.now in
    let p = err_from_is_err_and c.from_residual.result c.from_residual.ensures.1 in
    rw (p.1, p.2) (gives_err with_rest with_rest c.in_err-column.field-0.0 (column us) (Some (cs, Sign Close ∷ rest)) c.in_err-column.ensures
    (λ none. sym (columns_only cs ts (Sign Close ∷ rest) (suc (length ts)) (omega arith) (rest, refl) d)
    ∙ sym c.loop-columns.invariant ∙ list_fails column (after_sign Comma) c.loop-columns.columns.items (length us) us none))

pub returns-in-None-clause-found : goal.returns-in-None-clause-found
returns-in-None-clause-found c =
    let ts = c.args.symbols.now in
    let us = c.loop-columns.rest.now in
    let behind = c.in_ok-column.behind.now in
    if_some (list_of column (after_sign Comma) (suc (length ts)) ts) (λ x. Spells (g.columns x.0) ts x.1) (c.of.result, behind) (columns_found (suc (length ts)) ts)
    (sym c.loop-columns.invariant
    ∙ list_last column (after_sign Comma) c.loop-columns.columns.items (length us) us (c.in_ok-column.column, behind) c.in_ok-column.ensures (sym c.in-None.ensures)
    ∙ ap (λ xs. Some (xs, behind)) (sym c.in_ok-push.ensures.items ∙ sym c.of.ensures))

pub returns-in-None-clause-only : goal.returns-in-None-clause-only
returns-in-None-clause-only c = λ cs rest d.
    let ts = c.args.symbols.now in
    let us = c.loop-columns.rest.now in
    let behind = c.in_ok-column.behind.now in
    sym (columns_only cs ts (Sign Close ∷ rest) (suc (length ts)) (omega arith) (rest, refl) d)
    ∙ sym c.loop-columns.invariant
    ∙ list_last column (after_sign Comma) c.loop-columns.columns.items (length us) us (c.in_ok-column.column, behind) c.in_ok-column.ensures (sym c.in-None.ensures)
    ∙ ap (λ xs. Some (xs, behind)) (sym c.in_ok-push.ensures.items ∙ sym c.of.ensures)
