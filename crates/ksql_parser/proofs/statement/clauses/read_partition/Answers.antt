use Rattle.std.proofs.Common.{◌≡◌, List, [], ◌∷◌, sym}
use Rattle.std.proofs.lemmas.Result.{err_from_is_err_and}
use Rattle.ksql_grammar.specs.declared.symbol.Keyword.TheVariants as key
use Rattle.ksql_grammar.specs.declared.symbol.Symbol.TheVariants.{Key}
use Rattle.ksql_parser.specs.Grammar.{no_partition, a_partition}
use Rattle.ksql_parser.specs.Statements.{after_by}
use Rattle.ksql_parser.proofs.Steps.{behind, copied_of, by_found}
use Rattle.ksql_parser.proofs.Only.{partition_absent, partition_there, clause_read, clause_failed}
use Rattle.ksql_parser.proofs.statement.clauses.read_partition.Goals as goal

pub returns-in_default-clause-found : goal.returns-in_default-clause-found
returns-in_default-clause-found c = no_partition

pub returns-in_default-clause-only : goal.returns-in_default-clause-only
returns-in_default-clause-only c = λ f rest d b. partition_absent c.args.symbols.now rest f c.in_default.ensures d

pub returns-in_err-column-clause-only : goal.returns-in_err-column-clause-only
returns-in_err-column-clause-only c = λ f rest d b.
    let ts = c.args.symbols.now in
    let e = copied_of c.after_by.result (after_by key.Partition ts) (λ us. ts ≡ Key key.Partition ∷ Key key.By ∷ us) c.in-Some.rest (by_found key.Partition ts) c.after_by.ensures c.in-Some.is in
    let p = err_from_is_err_and c.from_residual.result c.from_residual.ensures.1 in
    rw (p.1, p.2) (clause_failed f c.in-Some.rest.now rest c.in_err-column.field-0.0 (partition_there ts c.in-Some.rest.now rest f e b d) c.in_err-column.ensures.only)

pub returns-clause-found : goal.returns-clause-found
returns-clause-found c =
    let ts = c.args.symbols.now in
    behind (copied_of c.after_by.result (after_by key.Partition ts) (λ us. ts ≡ Key key.Partition ∷ Key key.By ∷ us) c.in-Some.rest (by_found key.Partition ts) c.after_by.ensures c.in-Some.is)
    (a_partition c.in_ok-column.ensures.found)

pub returns-clause-only : goal.returns-clause-only
returns-clause-only c = λ f rest d b.
    let ts = c.args.symbols.now in
    let e = copied_of c.after_by.result (after_by key.Partition ts) (λ us. ts ≡ Key key.Partition ∷ Key key.By ∷ us) c.in-Some.rest (by_found key.Partition ts) c.after_by.ensures c.in-Some.is in
    clause_read f c.in-Some.rest.now rest (c.in_ok-column.column, c.in_ok-column.rest) (partition_there ts c.in-Some.rest.now rest f e b d) c.in_ok-column.ensures.only
