use Rattle.std.proofs.Common.{◌≡◌, ◌∷◌, refl, rules}
use Rattle.std.proofs.lemmas.Result.{IfOk-weaker}
use Rattle.ksql_grammar.specs.declared.symbol.Keyword.TheVariants as key
use Rattle.ksql_grammar.specs.declared.symbol.Symbol.TheVariants.{Key}
use Rattle.ksql_parser.specs.Grammar.{Spells, props, with_props, some_props}
use Rattle.ksql_grammar.specs.Expressions.{after_key}
use Rattle.ksql_parser.proofs.Steps.{behind, copied_of}
use Rattle.ksql_grammar.proofs.Steps.{key_found}
use Rattle.ksql_parser.proofs.Bodies.{no_with, with_there, with_absent}
use Rattle.ksql_parser.proofs.statement.declaration.optional_properties.Goals as goal

pub returns-in-Some-clause-found : goal.returns-in-Some-clause-found
returns-in-Some-clause-found c =
    let ts = c.args.symbols.now in
    let us = c.in-Some.rest.now in
    let e = copied_of c.after_key.result (after_key key.With ts) (λ us. ts ≡ Key key.With ∷ us) c.in-Some.rest (key_found key.With ts) c.after_key.ensures c.in-Some.is in
    IfOk-weaker c.read_properties.result (λ x. Spells (props x.0) us x.1.now) (λ x. Spells (with_props x.0) ts x.1.now) (λ x d. behind e (some_props d)) c.read_properties.ensures.found

pub returns-in-Some-clause-only : goal.returns-in-Some-clause-only
returns-in-Some-clause-only c = λ ps rest d.
    let ts = c.args.symbols.now in
    let e = copied_of c.after_key.result (after_key key.With ts) (λ us. ts ≡ Key key.With ∷ us) c.in-Some.rest (key_found key.With ts) c.after_key.ensures c.in-Some.is in
    c.read_properties.ensures.only ps (Key key.As ∷ rest) (with_there ps ts c.in-Some.rest.now rest (Key key.As ∷ rest) e refl d)

pub returns-in-None-clause-found : goal.returns-in-None-clause-found
returns-in-None-clause-found c = no_with c.of.result c.args.symbols.now (search rules)

pub returns-in-None-clause-only : goal.returns-in-None-clause-only
returns-in-None-clause-only c = λ ps rest d. with_absent ps c.of.result c.args.symbols.now (Key key.As ∷ rest) (search rules) c.in-None.ensures d
