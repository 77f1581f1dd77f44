use Rattle.std.proofs.Common.{◌≡◌, ◌∷◌, Some, sym}
use Rattle.std.proofs.lemmas.Result.{err_from_is_err_and}
use Rattle.ksql_lexer.specs.declared.token.Mark.TheVariants as mark
use Rattle.ksql_grammar.specs.declared.symbol.Symbol.TheVariants.{Sign}
use Rattle.ksql_parser.specs.Grammar.{all_props}
use Rattle.ksql_grammar.specs.Reading.{with_rest}
use Rattle.ksql_grammar.specs.Expressions.{after_sign}
use Rattle.ksql_parser.proofs.Steps.{behind, along, failed, same_read}
use Rattle.ksql_grammar.proofs.Steps.{if_some, sign_found}
use Rattle.ksql_parser.proofs.Readings.{sign_read, sign_unread}
use Rattle.ksql_parser.proofs.Bodies.{props_parts}
use Rattle.ksql_parser.proofs.statement.declaration.read_properties.Goals as goal

pub returns-clause-found : goal.returns-clause-found
returns-clause-found c =
    let ts = c.args.symbols.now in
    let us = c.in_ok-properties.rest.now in
    behind (if_some (after_sign mark.Open ts) (λ us. ts ≡ Sign mark.Open ∷ us) c.in_ok-rest.rest.now (sign_found mark.Open ts) c.in_ok-rest.ensures)
    (all_props (along c.in_ok-properties.ensures.found (if_some (after_sign mark.Close us) (λ vs. us ≡ Sign mark.Close ∷ vs) c.in_ok-rest-2.rest.now (sign_found mark.Close us) c.in_ok-rest-2.ensures)))

pub returns-clause-only : goal.returns-clause-only
returns-clause-only c = λ ps rest d.
    let ts = c.args.symbols.now in
    let h = props_parts ps ts rest d in
    let e = sign_read mark.Open ts h.0 c.in_ok-rest.rest.now h.1 c.in_ok-rest.ensures in
    let p = same_read (c.in_ok-properties.properties, c.in_ok-properties.rest) ps (Sign mark.Close ∷ rest) (c.in_ok-properties.ensures.only ps rest (behind (sym e) h.2)) in
    let f = sign_read mark.Close c.in_ok-properties.rest.now rest c.in_ok-rest-2.rest.now (sym p.1) c.in_ok-rest-2.ensures in
    λ i. Some (p.0 i, f i)

pub returns-in_err-rest-clause-only : goal.returns-in_err-rest-clause-only
returns-in_err-rest-clause-only c = λ ps rest d.
    let ts = c.args.symbols.now in
    let h = props_parts ps ts rest d in
    let p = err_from_is_err_and c.from_residual.result c.from_residual.ensures.1 in
    rw (p.1, p.2) (sign_unread with_rest c.in_err-rest.field-0.0 mark.Open ts h.0 (ps, rest) h.1 c.in_err-rest.ensures)

pub returns-in_err-properties-clause-only : goal.returns-in_err-properties-clause-only
returns-in_err-properties-clause-only c = λ ps rest d.
    let ts = c.args.symbols.now in
    let h = props_parts ps ts rest d in
    let e = sign_read mark.Open ts h.0 c.in_ok-rest.rest.now h.1 c.in_ok-rest.ensures in
    let p = err_from_is_err_and c.from_residual-in_err-properties.result c.from_residual-in_err-properties.ensures.1 in
    rw (p.1, p.2) (failed with_rest with_rest c.in_err-properties.field-0.0 (ps, Sign mark.Close ∷ rest) (ps, rest) (c.in_err-properties.ensures.only ps rest (behind (sym e) h.2)))

pub returns-in_err-rest-2-clause-only : goal.returns-in_err-rest-2-clause-only
returns-in_err-rest-2-clause-only c = λ ps rest d.
    let ts = c.args.symbols.now in
    let h = props_parts ps ts rest d in
    let e = sign_read mark.Open ts h.0 c.in_ok-rest.rest.now h.1 c.in_ok-rest.ensures in
    let q = same_read (c.in_ok-properties.properties, c.in_ok-properties.rest) ps (Sign mark.Close ∷ rest) (c.in_ok-properties.ensures.only ps rest (behind (sym e) h.2)) in
    let p = err_from_is_err_and c.from_residual-in_err-rest-2.result c.from_residual-in_err-rest-2.ensures.1 in
    rw (p.1, p.2) (sign_unread with_rest c.in_err-rest-2.field-0.0 mark.Close c.in_ok-properties.rest.now rest (ps, rest) (sym q.1) c.in_err-rest-2.ensures)
