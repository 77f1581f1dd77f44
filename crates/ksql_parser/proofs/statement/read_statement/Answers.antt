use Rattle.std.proofs.Common.{◌≡◌, ℕ, Bool, List, [], ◌∷◌, length, Some, refl, sym, ap, ◌∙◌, subst, arith}
use Rattle.std.proofs.lemmas.Bool.{false≢true, eq-eqb, eqb-true}
use Rattle.std.proofs.lemmas.List.{nil_from_length}
use Rattle.std.proofs.lemmas.Result.{err_from_is_err_and}
use Rattle.ksql_grammar.specs.declared.symbol.Symbol.{Symbol}
use Rattle.statement_trees.specs.declared.tree.Statement.{Statement}
use Rattle.statement_trees.specs.declared.tree.StatementBody.{StatementBody}
use Rattle.ksql_grammar.specs.Reading.{with_rest}
use Rattle.ksql_parser.specs.Statements as r
use Rattle.ksql_parser.proofs.Steps.{failed, same_read}
use Rattle.ksql_grammar.proofs.Steps.{if_some}
use Rattle.ksql_parser.proofs.Found.{Head, head_found}
use Rattle.ksql_parser.proofs.Calls.{failed_at, same_at}
use Rattle.ksql_parser.proofs.Wholes.{body_of, statement_found, statement_read}
use Rattle.ksql_parser.proofs.statement.read_statement.Goals as goal

pub returns-in_err-table-clause-only : goal.returns-in_err-table-clause-only
returns-in_err-table-clause-only c = λ s d.
    let ts = c.args.symbols.now in
    let h = body_of s ts [] d in
    let p = err_from_is_err_and c.from_residual.result c.from_residual.ensures.1 in
    rw (p.1, p.2) (failed_at (with_rest {A = Bool × List ℕ}) (λ (x : Statement). x) c.in_err-table.field-0.0 (r.head ts) ((s.table, s.name), h.0) s h.1 c.in_err-table.ensures)

pub returns-in_err-body-clause-only : goal.returns-in_err-body-clause-only
returns-in_err-body-clause-only c = λ s d.
    let ts = c.args.symbols.now in
    let h = body_of s ts [] d in
    let x = same_at {A = Bool × List ℕ} (r.head ts) ((c.in_ok-table.table, c.in_ok-table.name), c.in_ok-table.rest) (s.table, s.name) h.0 h.1 c.in_ok-table.ensures in
    let b = subst (λ us. r.SpellsBody s.body us []) x.1 h.2 in
    let p = err_from_is_err_and c.from_residual-in_err-body.result c.from_residual-in_err-body.ensures.1 in
    rw (p.1, p.2) (failed (with_rest {A = StatementBody}) (λ (x : Statement). x) c.in_err-body.field-0.0 (s.body, []) s (c.in_err-body.ensures.only s.body b))

pub returns-then-not-is_empty-clause-only : goal.returns-then-not-is_empty-clause-only
returns-then-not-is_empty-clause-only c = λ s d.
    let ts = c.args.symbols.now in
    let h = body_of s ts [] d in
    let x = same_at {A = Bool × List ℕ} (r.head ts) ((c.in_ok-table.table, c.in_ok-table.name), c.in_ok-table.rest) (s.table, s.name) h.0 h.1 c.in_ok-table.ensures in
    let b = subst (λ us. r.SpellsBody s.body us []) x.1 h.2 in
    let y = same_read (c.in_ok-body.body, c.in_ok-body.rest) s.body [] (c.in_ok-body.ensures.only s.body b) in
    absurd (false≢true (c.if-not-is_empty.ensures ∙ eq-eqb (length c.in_ok-body.rest.now) 0 (ap length (sym y.1))))

pub returns-clause-found : goal.returns-clause-found
returns-clause-found c =
    let ts = c.args.symbols.now in
    let us = c.in_ok-table.rest.now in
    let head = if_some (r.head ts) (Head ts) ((c.in_ok-table.table, c.in_ok-table.name), us) (head_found ts) c.in_ok-table.ensures in
    let rest = c.in_ok-body.rest.now in
    let nothing = nil_from_length rest (eqb-true (length rest) 0 (sym c.if-not-is_empty.ensures)) in
    statement_found c.in_ok-table.table c.in_ok-table.name c.in_ok-body.body ts us [] head
    (subst (λ vs. r.SpellsBody c.in_ok-body.body us vs) nothing c.in_ok-body.ensures.found)

pub returns-clause-only : goal.returns-clause-only
returns-clause-only c = λ s d.
    let ts = c.args.symbols.now in
    let h = body_of s ts [] d in
    let x = same_at {A = Bool × List ℕ} (r.head ts) ((c.in_ok-table.table, c.in_ok-table.name), c.in_ok-table.rest) (s.table, s.name) h.0 h.1 c.in_ok-table.ensures in
    let b = subst (λ us. r.SpellsBody s.body us []) x.1 h.2 in
    let y = same_read (c.in_ok-body.body, c.in_ok-body.rest) s.body [] (c.in_ok-body.ensures.only s.body b) in
    statement_read s (c.in_ok-table.table, c.in_ok-table.name) c.in_ok-body.body x.0 y.0
