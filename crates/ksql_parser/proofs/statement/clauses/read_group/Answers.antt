use Rattle.std.proofs.Common.{◌≡◌, List, [], ◌∷◌, sym, rules}
use Rattle.std.proofs.lemmas.Result.{IfOk-weaker}
use Rattle.ksql_grammar.specs.declared.symbol.Keyword.TheVariants as key
use Rattle.ksql_grammar.specs.declared.symbol.Symbol.TheVariants.{Key}
use Rattle.ksql_grammar.specs.Grammar.{Spells as SpellsExpr, exprs}
use Rattle.ksql_parser.specs.Grammar.{Spells, group, no_group, a_group}
use Rattle.ksql_parser.specs.Statements.{after_by}
use Rattle.ksql_parser.proofs.Steps.{behind, copied_of, by_found}
use Rattle.ksql_parser.proofs.Only.{empty_group, group_absent, group_there}
use Rattle.ksql_parser.proofs.statement.clauses.read_group.Goals as goal

pub returns-in-Some-clause-found : goal.returns-in-Some-clause-found
returns-in-Some-clause-found c =
    let ts = c.args.symbols.now in
    let us = c.in-Some.rest.now in
    let e = copied_of c.after_by.result (after_by key.Group ts) (λ us. ts ≡ Key key.Group ∷ Key key.By ∷ us) c.in-Some.rest (by_found key.Group ts) c.after_by.ensures c.in-Some.is in
    IfOk-weaker c.read_expressions.result (λ x. SpellsExpr (exprs x.0) us x.1.now) (λ x. Spells (group x.0) ts x.1.now) (λ x d. behind e (a_group d)) c.read_expressions.ensures.found

pub returns-in-Some-clause-only : goal.returns-in-Some-clause-only
returns-in-Some-clause-only c = λ es rest d b.
    let ts = c.args.symbols.now in
    let e = copied_of c.after_by.result (after_by key.Group ts) (λ us. ts ≡ Key key.Group ∷ Key key.By ∷ us) c.in-Some.rest (by_found key.Group ts) c.after_by.ensures c.in-Some.is in
    let h = group_there ts c.in-Some.rest.now rest es e b d in
    c.read_expressions.ensures.only es rest h.0 h.1

pub returns-in-None-clause-found : goal.returns-in-None-clause-found
returns-in-None-clause-found c = empty_group c.of.result c.args.symbols.now (search rules)

pub returns-in-None-clause-only : goal.returns-in-None-clause-only
returns-in-None-clause-only c = λ es rest d b. group_absent c.args.symbols.now rest es c.of.result (search rules) c.in-None.ensures d
