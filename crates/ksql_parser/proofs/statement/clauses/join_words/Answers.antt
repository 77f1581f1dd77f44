use Rattle.std.proofs.Common.{sym}
use Rattle.ksql_grammar.specs.declared.symbol.Keyword.TheVariants as key
use Rattle.statement_trees.specs.declared.tree.JoinWord.TheVariants as how
use Rattle.ksql_parser.specs.Queries.{after_join}
use Rattle.ksql_parser.proofs.Joins.{left_at, full_at, inner_words, words_none, words_some}
use Rattle.ksql_parser.proofs.statement.clauses.join_words.Goals as goal

pub returns-in_err-after_join : goal.returns-in_err-after_join
returns-in_err-after_join c =
    let ts = c.args.symbols.now in
    let us = c.in-Some.rest.now in
    rw c.from_residual.ensures (words_none how.Left ts (after_join key.Outer us) (left_at ts us c.in-Some.ensures) c.in_err-after_join.ensures)

pub returns-in-Some : goal.returns-in-Some
returns-in-Some c =
    let ts = c.args.symbols.now in
    let us = c.in-Some.rest.now in
    words_some how.Left ts (after_join key.Outer us) (left_at ts us c.in-Some.ensures) c.in_ok-after_join.field-0.now c.in_ok-after_join.ensures

pub returns-in_err-after_join-2 : goal.returns-in_err-after_join-2
returns-in_err-after_join-2 c =
    let ts = c.args.symbols.now in
    let us = c.in-Some-after_key.rest.now in
    rw c.from_residual-in_err-after_join-2.ensures (words_none how.Full ts (after_join key.Outer us) (full_at ts us c.in-Some-after_key.ensures) c.in_err-after_join-2.ensures)

pub returns-in-Some-after_key : goal.returns-in-Some-after_key
returns-in-Some-after_key c =
    let ts = c.args.symbols.now in
    let us = c.in-Some-after_key.rest.now in
    words_some how.Full ts (after_join key.Outer us) (full_at ts us c.in-Some-after_key.ensures) c.in_ok-after_join-2.field-0.now c.in_ok-after_join-2.ensures

pub returns-in_err-after_join-3 : goal.returns-in_err-after_join-3
returns-in_err-after_join-3 c =
    let ts = c.args.symbols.now in
    rw c.from_residual-in_err-after_join-3.ensures (words_none how.Inner ts (after_join key.Inner ts) (inner_words ts (sym c.in_default.ensures) (sym c.in_default-after_key.ensures)) c.in_err-after_join-3.ensures)

pub returns : goal.returns
returns c =
    let ts = c.args.symbols.now in
    words_some how.Inner ts (after_join key.Inner ts) (inner_words ts (sym c.in_default.ensures) (sym c.in_default-after_key.ensures)) c.in_ok-after_join-3.field-0.now c.in_ok-after_join-3.ensures
