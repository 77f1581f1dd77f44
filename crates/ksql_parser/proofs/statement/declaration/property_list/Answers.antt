use Rattle.std.proofs.Common.{◌∷◌, suc, refl, sym, ap, ◌∙◌, length, Some, arith}
use Rattle.std.proofs.lemmas.Result.{err_from_is_err_and}
use Rattle.ksql_lexer.specs.declared.token.Mark.TheVariants.{Comma, Close}
use Rattle.ksql_grammar.specs.declared.symbol.Symbol.TheVariants.{Sign}
use Rattle.ksql_parser.specs.Grammar as g
use Rattle.ksql_parser.specs.Grammar.{Spells}
use Rattle.ksql_grammar.specs.Reading.{with_rest}
use Rattle.ksql_grammar.specs.Expressions.{after_sign, list_of}
use Rattle.ksql_grammar.proofs.Chains.{with_front, list_fails, list_last, list_goes}
use Rattle.ksql_grammar.proofs.Errors.{gives_err}
use Rattle.ksql_grammar.proofs.Whole.{sign_fewer}
use Rattle.ksql_parser.specs.Statements.{property}
use Rattle.ksql_grammar.proofs.Steps.{if_some}
use Rattle.ksql_parser.proofs.Declared.{property_takes, properties_found, properties_only}
use Rattle.ksql_parser.proofs.statement.declaration.property_list.Goals as goal

pub loop-properties-smaller : goal.loop-properties-smaller
loop-properties-smaller c =
    let taken = property_takes c.loop-properties.rest.now (c.in_ok-property.property, c.in_ok-property.behind.now) c.in_ok-property.ensures in
    let comma = sign_fewer Comma c.in_ok-property.behind.now c.in-Some.after.now (sym c.in-Some.ensures) in
    omega arith

pub loop-properties-preserved : goal.loop-properties-preserved
loop-properties-preserved c =
    let after = c.in-Some.after.now in
    ap (λ front. with_front front (list_of property (after_sign Comma) (suc (length after)) after)) c.in_ok-push.ensures.items
    ∙ sym (list_goes property (after_sign Comma) property_takes (sign_fewer Comma) c.loop-properties.properties.items c.loop-properties.rest.now
    (c.in_ok-property.property, c.in_ok-property.behind.now) after c.in_ok-property.ensures (sym c.in-Some.ensures))
    ∙ c.loop-properties.invariant

pub returns-in_err-property-clause-only : goal.returns-in_err-property-clause-only
returns-in_err-property-clause-only c = λ ps rest d.
    let ts = c.args.symbols.now in
    let us = c.loop-properties.rest.now in
    let p = err_from_is_err_and c.from_residual.result c.from_residual.ensures.1 in
    rw (p.1, p.2) (gives_err with_rest with_rest c.in_err-property.field-0.0 (property us) (Some (ps, Sign Close ∷ rest)) c.in_err-property.ensures
    (λ none. sym (properties_only ps ts (Sign Close ∷ rest) (suc (length ts)) (omega arith) (rest, refl) d)
    ∙ sym c.loop-properties.invariant ∙ list_fails property (after_sign Comma) c.loop-properties.properties.items (length us) us none))

pub returns-in-None-clause-found : goal.returns-in-None-clause-found
returns-in-None-clause-found c =
    let ts = c.args.symbols.now in
    let us = c.loop-properties.rest.now in
    let behind = c.in_ok-property.behind.now in
    if_some (list_of property (after_sign Comma) (suc (length ts)) ts) (λ x. Spells (g.prop_list x.0) ts x.1) (c.of.result, behind) (properties_found (suc (length ts)) ts)
    (sym c.loop-properties.invariant
    ∙ list_last property (after_sign Comma) c.loop-properties.properties.items (length us) us (c.in_ok-property.property, behind) c.in_ok-property.ensures (sym c.in-None.ensures)
    ∙ ap (λ xs. Some (xs, behind)) (sym c.in_ok-push.ensures.items ∙ sym c.of.ensures))

pub returns-in-None-clause-only : goal.returns-in-None-clause-only
returns-in-None-clause-only c = λ ps rest d.
    let ts = c.args.symbols.now in
    let us = c.loop-properties.rest.now in
    let behind = c.in_ok-property.behind.now in
    sym (properties_only ps ts (Sign Close ∷ rest) (suc (length ts)) (omega arith) (rest, refl) d)
    ∙ sym c.loop-properties.invariant
    ∙ list_last property (after_sign Comma) c.loop-properties.properties.items (length us) us (c.in_ok-property.property, behind) c.in_ok-property.ensures (sym c.in-None.ensures)
    ∙ ap (λ xs. Some (xs, behind)) (sym c.in_ok-push.ensures.items ∙ sym c.of.ensures)
