use Rattle.std.proofs.Common.{◌≡◌, List, Option, Some, sym}
use Rattle.std.specs.Borrow.{Bor}
use Rattle.std.proofs.lemmas.Result.{err_from_is_err_and}
use Rattle.ksql_grammar.specs.declared.symbol.Symbol.{Symbol}
use Rattle.expression_trees.specs.declared.tree.Expr.{Expr}
use Rattle.ksql_grammar.specs.Reading.{with_rest}
use Rattle.ksql_parser.specs.declared.statement.queries.Clauses.{Clauses}
use Rattle.ksql_parser.proofs.Steps.{behind, failed, same_read}
use Rattle.ksql_parser.proofs.Selects.{clauses_begin, clauses_read}
use Rattle.ksql_parser.proofs.statement.queries.read_clauses.Goals as goal

pub returns-clause-found : goal.returns-clause-found
returns-clause-found c = (
  c.in_ok-filter.rest.now,
  c.in_ok-group.rest.now,
  c.in_ok-partition.rest.now,
  c.in_ok-filter.ensures.found,
  c.in_ok-group.ensures.found,
  c.in_ok-partition.ensures.found,
  c.in_ok-having.ensures.found,
)

pub returns-in_err-filter-clause-only : goal.returns-in_err-filter-clause-only
returns-in_err-filter-clause-only c = λ x rest d b.
    let places = clauses_begin x c.args.symbols.now rest d b in
    let p = err_from_is_err_and c.from_residual.result c.from_residual.ensures.1 in
    rw (p.1, p.2) (failed (with_rest {A = Option Expr}) (with_rest {A = Clauses}) c.in_err-filter.field-0.0 (x.filter, d.0) (x, rest) (c.in_err-filter.ensures.only x.filter d.0 d.3 places.1))

pub returns-in_err-group-clause-only : goal.returns-in_err-group-clause-only
returns-in_err-group-clause-only c = λ x rest d b.
    let places = clauses_begin x c.args.symbols.now rest d b in
    let x0 = same_read (c.in_ok-filter.filter, c.in_ok-filter.rest) x.filter d.0 (c.in_ok-filter.ensures.only x.filter d.0 d.3 places.1) in
    let p = err_from_is_err_and c.from_residual-in_err-group.result c.from_residual-in_err-group.ensures.1 in
    rw (p.1, p.2) (failed (with_rest {A = List Expr}) (with_rest {A = Clauses}) c.in_err-group.field-0.0 (x.group, d.1) (x, rest) (c.in_err-group.ensures.only x.group d.1 (behind (sym x0.1) d.4) places.2))

pub returns-in_err-partition-clause-only : goal.returns-in_err-partition-clause-only
returns-in_err-partition-clause-only c = λ x rest d b.
    let places = clauses_begin x c.args.symbols.now rest d b in
    let x0 = same_read (c.in_ok-filter.filter, c.in_ok-filter.rest) x.filter d.0 (c.in_ok-filter.ensures.only x.filter d.0 d.3 places.1) in
    let x1 = same_read (c.in_ok-group.group, c.in_ok-group.rest) x.group d.1 (c.in_ok-group.ensures.only x.group d.1 (behind (sym x0.1) d.4) places.2) in
    let p = err_from_is_err_and c.from_residual-in_err-partition.result c.from_residual-in_err-partition.ensures.1 in
    rw (p.1, p.2) (failed (with_rest {A = Option Expr}) (with_rest {A = Clauses}) c.in_err-partition.field-0.0 (x.partition, d.2) (x, rest) (c.in_err-partition.ensures.only x.partition d.2 (behind (sym x1.1) d.5) places.3))

pub returns-in_err-having-clause-only : goal.returns-in_err-having-clause-only
returns-in_err-having-clause-only c = λ x rest d b.
    let places = clauses_begin x c.args.symbols.now rest d b in
    let x0 = same_read (c.in_ok-filter.filter, c.in_ok-filter.rest) x.filter d.0 (c.in_ok-filter.ensures.only x.filter d.0 d.3 places.1) in
    let x1 = same_read (c.in_ok-group.group, c.in_ok-group.rest) x.group d.1 (c.in_ok-group.ensures.only x.group d.1 (behind (sym x0.1) d.4) places.2) in
    let x2 = same_read (c.in_ok-partition.partition, c.in_ok-partition.rest) x.partition d.2 (c.in_ok-partition.ensures.only x.partition d.2 (behind (sym x1.1) d.5) places.3) in
    let p = err_from_is_err_and c.from_residual-in_err-having.result c.from_residual-in_err-having.ensures.1 in
    rw (p.1, p.2) (failed (with_rest {A = Option Expr}) (with_rest {A = Clauses}) c.in_err-having.field-0.0 (x.having, rest) (x, rest) (c.in_err-having.ensures.only x.having rest (behind (sym x2.1) d.6) b))

pub returns-clause-only : goal.returns-clause-only
returns-clause-only c = λ x rest d b.
    let places = clauses_begin x c.args.symbols.now rest d b in
    let x0 = same_read (c.in_ok-filter.filter, c.in_ok-filter.rest) x.filter d.0 (c.in_ok-filter.ensures.only x.filter d.0 d.3 places.1) in
    let x1 = same_read (c.in_ok-group.group, c.in_ok-group.rest) x.group d.1 (c.in_ok-group.ensures.only x.group d.1 (behind (sym x0.1) d.4) places.2) in
    let x2 = same_read (c.in_ok-partition.partition, c.in_ok-partition.rest) x.partition d.2 (c.in_ok-partition.ensures.only x.partition d.2 (behind (sym x1.1) d.5) places.3) in
    let x3 = same_read (c.in_ok-having.having, c.in_ok-having.rest) x.having rest (c.in_ok-having.ensures.only x.having rest (behind (sym x2.1) d.6) b) in
    clauses_read x c.in_ok-filter.filter c.in_ok-group.group c.in_ok-partition.partition c.in_ok-having.having rest c.in_ok-having.rest.now x0.0 x1.0 x2.0 x3.0 x3.1
