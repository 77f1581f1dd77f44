use Rattle.std.proofs.Common.{◌≡◌, List, [], ◌∷◌, sym}
use Rattle.std.proofs.lemmas.Result.{err_from_is_err_and}
use Rattle.ksql_grammar.specs.declared.symbol.Keyword.TheVariants as key
use Rattle.ksql_grammar.specs.declared.symbol.Symbol.TheVariants.{Key}
use Rattle.ksql_parser.specs.Grammar.{no_having, a_having}
use Rattle.ksql_grammar.specs.Expressions.{after_key}
use Rattle.ksql_parser.proofs.Steps.{behind, copied_of}
use Rattle.ksql_grammar.proofs.Steps.{key_found}
use Rattle.ksql_parser.proofs.Only.{having_absent, having_there, clause_read, clause_failed}
use Rattle.ksql_parser.proofs.statement.clauses.read_having.Goals as goal

pub returns-in_default-clause-found : goal.returns-in_default-clause-found
returns-in_default-clause-found c = no_having

pub returns-in_default-clause-only : goal.returns-in_default-clause-only
returns-in_default-clause-only c = λ f rest d b. having_absent c.args.symbols.now rest f c.in_default.ensures d

pub returns-in_err-condition-clause-only : goal.returns-in_err-condition-clause-only
returns-in_err-condition-clause-only c = λ f rest d b.
    let ts = c.args.symbols.now in
    let e = copied_of c.after_key.result (after_key key.Having ts) (λ us. ts ≡ Key key.Having ∷ us) c.in-Some.rest (key_found key.Having ts) c.after_key.ensures c.in-Some.is in
    let p = err_from_is_err_and c.from_residual.result c.from_residual.ensures.1 in
    rw (p.1, p.2) (clause_failed f c.in-Some.rest.now rest c.in_err-condition.field-0.0 (having_there ts c.in-Some.rest.now rest f e b d) c.in_err-condition.ensures.only)

pub returns-clause-found : goal.returns-clause-found
returns-clause-found c =
    let ts = c.args.symbols.now in
    behind (copied_of c.after_key.result (after_key key.Having ts) (λ us. ts ≡ Key key.Having ∷ us) c.in-Some.rest (key_found key.Having ts) c.after_key.ensures c.in-Some.is)
    (a_having c.in_ok-condition.ensures.found)

pub returns-clause-only : goal.returns-clause-only
returns-clause-only c = λ f rest d b.
    let ts = c.args.symbols.now in
    let e = copied_of c.after_key.result (after_key key.Having ts) (λ us. ts ≡ Key key.Having ∷ us) c.in-Some.rest (key_found key.Having ts) c.after_key.ensures c.in-Some.is in
    clause_read f c.in-Some.rest.now rest (c.in_ok-condition.condition, c.in_ok-condition.rest) (having_there ts c.in-Some.rest.now rest f e b d) c.in_ok-condition.ensures.only
