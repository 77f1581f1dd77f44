use Rattle.std.proofs.Common.{◌≡◌, List, [], ◌∷◌, sym}
use Rattle.std.proofs.lemmas.Result.{IfOk-weaker}
use Rattle.ksql_lexer.specs.declared.token.Mark.TheVariants as mark
use Rattle.ksql_grammar.specs.declared.symbol.Symbol.TheVariants.{Sign}
use Rattle.ksql_grammar.specs.Expressions.{after_sign}
use Rattle.ksql_parser.specs.Statements.{SpellsDeclared, SpellsQuery, SpellsBody}
use Rattle.ksql_grammar.proofs.Steps.{if_some, sign_found}
use Rattle.ksql_parser.proofs.Wholes.{declared_body, query_body, body_declared, body_query}
use Rattle.ksql_parser.proofs.statement.body.Goals as goal

pub returns-in-Some-clause-found : goal.returns-in-Some-clause-found
returns-in-Some-clause-found c =
    let ts = c.args.symbols.now in
    let us = c.in-Some.rest.now in
    let e = if_some (after_sign mark.Open ts) (λ us. ts ≡ Sign mark.Open ∷ us) us (sign_found mark.Open ts) (sym c.in-Some.ensures) in
    IfOk-weaker c.declared.result (λ x. SpellsDeclared x.0 us x.1.now) (λ x. SpellsBody x.0 ts x.1.now) (λ x d. declared_body x.0 ts us x.1.now e d) c.declared.ensures.found

pub returns-in-Some-clause-only : goal.returns-in-Some-clause-only
returns-in-Some-clause-only c = λ b d.
    let ts = c.args.symbols.now in
    let us = c.in-Some.rest.now in
    let e = if_some (after_sign mark.Open ts) (λ us. ts ≡ Sign mark.Open ∷ us) us (sign_found mark.Open ts) (sym c.in-Some.ensures) in
    c.declared.ensures.only b [] (body_declared b ts us [] e d)

pub returns-in-None-clause-found : goal.returns-in-None-clause-found
returns-in-None-clause-found c =
    let ts = c.args.symbols.now in
    IfOk-weaker c.query.result (λ x. SpellsQuery x.0 ts x.1.now) (λ x. SpellsBody x.0 ts x.1.now) (λ x d. query_body x.0 ts x.1.now d) c.query.ensures.found

pub returns-in-None-clause-only : goal.returns-in-None-clause-only
returns-in-None-clause-only c = λ b d. c.query.ensures.only b (body_query b c.args.symbols.now [] (sym c.in-None.ensures) d)
