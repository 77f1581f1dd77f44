use Rattle.std.proofs.Common.{◌≡◌, List, [], ◌∷◌, Option, Some, sym}
use Rattle.std.specs.Borrow.{Bor}
use Rattle.std.proofs.lemmas.Result.{err_from_is_err_and}
use Rattle.ksql_grammar.specs.declared.symbol.Keyword.TheVariants as key
use Rattle.ksql_grammar.specs.declared.symbol.Symbol.{Symbol}
use Rattle.ksql_grammar.specs.declared.symbol.Symbol.TheVariants.{Key}
use Rattle.statement_trees.specs.declared.tree.Property.{Property}
use Rattle.statement_trees.specs.declared.tree.Select.{Select}
use Rattle.statement_trees.specs.declared.tree.StatementBody.{StatementBody}
use Rattle.ksql_grammar.specs.Reading.{with_rest}
use Rattle.ksql_grammar.specs.Expressions.{after_key}
use Rattle.ksql_parser.proofs.Steps.{behind, along, failed, same_read}
use Rattle.ksql_grammar.proofs.Steps.{if_some, key_found}
use Rattle.ksql_parser.proofs.Calls.{failed_at}
use Rattle.ksql_parser.proofs.Selects.{key_is, same_key}
use Rattle.ksql_parser.proofs.Wholes.{query_parts, query_read}
use Rattle.ksql_parser.proofs.statement.query.Goals as goal

pub returns-clause-found : goal.returns-clause-found
returns-clause-found c =
    let us = c.in_ok-props.rest.now in
    let vs = c.in_ok-rest.rest.now in
    (vs, along c.in_ok-props.ensures.found (if_some (after_key key.As us) (λ vs. us ≡ Key key.As ∷ vs) vs (key_found key.As us) c.in_ok-rest.ensures), c.in_ok-select.ensures.found)

pub returns-in_err-props-clause-only : goal.returns-in_err-props-clause-only
returns-in_err-props-clause-only c = λ b d.
    let h = query_parts b c.args.symbols.now [] d in
    let p = err_from_is_err_and c.from_residual.result c.from_residual.ensures.1 in
    rw (p.1, p.2) (failed (with_rest {A = List Property}) (with_rest {A = StatementBody}) c.in_err-props.field-0.0 (h.0, Key key.As ∷ h.2) (b, []) (c.in_err-props.ensures.only h.0 h.2 h.4))

pub returns-in_err-rest-clause-only : goal.returns-in_err-rest-clause-only
returns-in_err-rest-clause-only c = λ b d.
    let us = c.in_ok-props.rest.now in
    let h = query_parts b c.args.symbols.now [] d in
    let x = same_read (c.in_ok-props.props, c.in_ok-props.rest) h.0 (Key key.As ∷ h.2) (c.in_ok-props.ensures.only h.0 h.2 h.4) in
    let p = err_from_is_err_and c.from_residual-in_err-rest.result c.from_residual-in_err-rest.ensures.1 in
    rw (p.1, p.2) (failed_at (λ (x : Bor (List Symbol)). x.now) (with_rest {A = StatementBody}) c.in_err-rest.field-0.0 (after_key key.As us) h.2 (b, []) (key_is key.As us h.2 (sym x.1)) c.in_err-rest.ensures)

pub returns-in_err-select-clause-only : goal.returns-in_err-select-clause-only
returns-in_err-select-clause-only c = λ b d.
    let us = c.in_ok-props.rest.now in
    let h = query_parts b c.args.symbols.now [] d in
    let x = same_read (c.in_ok-props.props, c.in_ok-props.rest) h.0 (Key key.As ∷ h.2) (c.in_ok-props.ensures.only h.0 h.2 h.4) in
    let k = same_key key.As us h.2 c.in_ok-rest.rest.now (sym x.1) c.in_ok-rest.ensures in
    let p = err_from_is_err_and c.from_residual-in_err-select.result c.from_residual-in_err-select.ensures.1 in
    rw (p.1, p.2) (failed (with_rest {A = Select}) (with_rest {A = StatementBody}) c.in_err-select.field-0.0 (h.1, []) (b, []) (c.in_err-select.ensures.only h.1 (behind (sym k) h.5)))

pub returns-clause-only : goal.returns-clause-only
returns-clause-only c = λ b d.
    let us = c.in_ok-props.rest.now in
    let h = query_parts b c.args.symbols.now [] d in
    let x = same_read (c.in_ok-props.props, c.in_ok-props.rest) h.0 (Key key.As ∷ h.2) (c.in_ok-props.ensures.only h.0 h.2 h.4) in
    let k = same_key key.As us h.2 c.in_ok-rest.rest.now (sym x.1) c.in_ok-rest.ensures in
    let y = same_read (c.in_ok-select.select, c.in_ok-select.rest) h.1 [] (c.in_ok-select.ensures.only h.1 (behind (sym k) h.5)) in
    query_read b h.0 c.in_ok-props.props h.1 c.in_ok-select.select [] c.in_ok-select.rest.now h.3 x.0 y.0 y.1
