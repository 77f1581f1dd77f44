use Rattle.std.proofs.Common.{◌≡◌, ◌∷◌, Some, sym, ap, ◌∙◌}
use Rattle.std.proofs.lemmas.Result.{err_from_is_err_and}
use Rattle.ksql_lexer.specs.declared.token.Mark.TheVariants as mark
use Rattle.ksql_grammar.specs.declared.symbol.Keyword.TheVariants as key
use Rattle.ksql_grammar.specs.declared.symbol.Symbol.TheVariants.{Key, Sign}
use Rattle.statement_trees.specs.declared.tree.StatementBody.TheVariants.{Declared}
use Rattle.ksql_grammar.specs.Reading.{with_rest}
use Rattle.ksql_grammar.specs.Expressions.{after_key, after_sign}
use Rattle.ksql_parser.proofs.Steps.{behind, along, failed, same_read}
use Rattle.ksql_grammar.proofs.Steps.{if_some, key_found, sign_found}
use Rattle.ksql_parser.proofs.Readings.{sign_read, key_read, sign_unread, key_unread}
use Rattle.ksql_parser.proofs.Bodies.{declared_parts}
use Rattle.ksql_parser.proofs.statement.declared.Goals as goal

pub returns-clause-found : goal.returns-clause-found
returns-clause-found c =
    let us = c.in_ok-columns.rest.now in
    let vs = c.in_ok-rest.rest.now in
    let e = if_some (after_sign mark.Close us) (λ xs. us ≡ Sign mark.Close ∷ xs) vs (sign_found mark.Close us) c.in_ok-rest.ensures in
    let f = if_some (after_key key.With vs) (λ xs. vs ≡ Key key.With ∷ xs) c.in_ok-rest-2.rest.now (key_found key.With vs) c.in_ok-rest-2.ensures in
    (c.in_ok-rest-2.rest.now, along c.in_ok-columns.ensures.found (e ∙ ap (λ xs. Sign mark.Close ∷ xs) f), c.in_ok-props.ensures.found)

pub returns-in_err-columns-clause-only : goal.returns-in_err-columns-clause-only
returns-in_err-columns-clause-only c = λ b rest d.
    let h = declared_parts b c.args.symbols.now rest d in
    let p = err_from_is_err_and c.from_residual.result c.from_residual.ensures.1 in
    rw (p.1, p.2) (failed with_rest with_rest c.in_err-columns.field-0.0 (h.0, Sign mark.Close ∷ Key key.With ∷ h.2) (b, rest) (c.in_err-columns.ensures.only h.0 (Key key.With ∷ h.2) h.4))

pub returns-in_err-rest-clause-only : goal.returns-in_err-rest-clause-only
returns-in_err-rest-clause-only c = λ b rest d.
    let h = declared_parts b c.args.symbols.now rest d in
    let q = same_read (c.in_ok-columns.columns, c.in_ok-columns.rest) h.0 (Sign mark.Close ∷ Key key.With ∷ h.2) (c.in_ok-columns.ensures.only h.0 (Key key.With ∷ h.2) h.4) in
    let p = err_from_is_err_and c.from_residual-in_err-rest.result c.from_residual-in_err-rest.ensures.1 in
    rw (p.1, p.2) (sign_unread with_rest c.in_err-rest.field-0.0 mark.Close c.in_ok-columns.rest.now (Key key.With ∷ h.2) (b, rest) (sym q.1) c.in_err-rest.ensures)

pub returns-in_err-rest-2-clause-only : goal.returns-in_err-rest-2-clause-only
returns-in_err-rest-2-clause-only c = λ b rest d.
    let h = declared_parts b c.args.symbols.now rest d in
    let q = same_read (c.in_ok-columns.columns, c.in_ok-columns.rest) h.0 (Sign mark.Close ∷ Key key.With ∷ h.2) (c.in_ok-columns.ensures.only h.0 (Key key.With ∷ h.2) h.4) in
    let e = sign_read mark.Close c.in_ok-columns.rest.now (Key key.With ∷ h.2) c.in_ok-rest.rest.now (sym q.1) c.in_ok-rest.ensures in
    let p = err_from_is_err_and c.from_residual-in_err-rest-2.result c.from_residual-in_err-rest-2.ensures.1 in
    rw (p.1, p.2) (key_unread with_rest c.in_err-rest-2.field-0.0 key.With c.in_ok-rest.rest.now h.2 (b, rest) (sym e) c.in_err-rest-2.ensures)

pub returns-in_err-props-clause-only : goal.returns-in_err-props-clause-only
returns-in_err-props-clause-only c = λ b rest d.
    let h = declared_parts b c.args.symbols.now rest d in
    let q = same_read (c.in_ok-columns.columns, c.in_ok-columns.rest) h.0 (Sign mark.Close ∷ Key key.With ∷ h.2) (c.in_ok-columns.ensures.only h.0 (Key key.With ∷ h.2) h.4) in
    let e = sign_read mark.Close c.in_ok-columns.rest.now (Key key.With ∷ h.2) c.in_ok-rest.rest.now (sym q.1) c.in_ok-rest.ensures in
    let f = key_read key.With c.in_ok-rest.rest.now h.2 c.in_ok-rest-2.rest.now (sym e) c.in_ok-rest-2.ensures in
    let p = err_from_is_err_and c.from_residual-in_err-props.result c.from_residual-in_err-props.ensures.1 in
    rw (p.1, p.2) (failed with_rest with_rest c.in_err-props.field-0.0 (h.1, rest) (b, rest) (c.in_err-props.ensures.only h.1 rest (behind (sym f) h.5)))

pub returns-clause-only : goal.returns-clause-only
returns-clause-only c = λ b rest d.
    let h = declared_parts b c.args.symbols.now rest d in
    let q = same_read (c.in_ok-columns.columns, c.in_ok-columns.rest) h.0 (Sign mark.Close ∷ Key key.With ∷ h.2) (c.in_ok-columns.ensures.only h.0 (Key key.With ∷ h.2) h.4) in
    let e = sign_read mark.Close c.in_ok-columns.rest.now (Key key.With ∷ h.2) c.in_ok-rest.rest.now (sym q.1) c.in_ok-rest.ensures in
    let f = key_read key.With c.in_ok-rest.rest.now h.2 c.in_ok-rest-2.rest.now (sym e) c.in_ok-rest-2.ensures in
    let r = same_read (c.in_ok-props.props, c.in_ok-props.rest) h.1 rest (c.in_ok-props.ensures.only h.1 rest (behind (sym f) h.5)) in
    ap (λ x. Some (x, rest)) h.3 ∙ (λ i. Some (Declared (q.0 i) (r.0 i), r.1 i))
