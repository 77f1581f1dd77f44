use Rattle.std.proofs.Common.{◌≡◌, List, [], Option, Some, refl, sym, ap, ◌∙◌, subst}
use Rattle.std.proofs.lemmas.Result.{err_from_is_err_and}
use Rattle.ksql_grammar.specs.declared.symbol.Symbol.{Symbol}
use Rattle.statement_trees.specs.declared.tree.Select.{Select}
use Rattle.ksql_grammar.specs.Reading.{with_rest}
use Rattle.ksql_parser.specs.Grammar.{Spells, select}
use Rattle.ksql_parser.specs.declared.statement.queries.Front.{Front}
use Rattle.ksql_parser.specs.declared.statement.queries.Clauses.{Clauses}
use Rattle.ksql_parser.specs.Queries.{SpellsClauses}
use Rattle.ksql_parser.proofs.Steps.{along, failed, same_read}
use Rattle.ksql_parser.proofs.Only.{both}
use Rattle.ksql_parser.proofs.Selects.{front_of, clauses_of, parts_of, select_found, select_read}
use Rattle.ksql_parser.proofs.statement.queries.read_select.Goals as goal

pub returns-clause-found : goal.returns-clause-found
returns-clause-found c =
    subst (λ q. Spells (select q) c.args.symbols.now c.after_emit.result.now) (sym c.select_of.ensures)
    (along (select_found c.in_ok-front.front c.in_ok-clauses.clauses c.args.symbols.now c.in_ok-front.rest.now c.in_ok-clauses.rest.now c.in_ok-front.ensures.found c.in_ok-clauses.ensures.found)
    (sym c.after_emit.ensures))

pub returns-in_err-front-clause-only : goal.returns-in_err-front-clause-only
returns-in_err-front-clause-only c = λ q d.
    let h = parts_of q c.args.symbols.now [] refl d in
    let p = err_from_is_err_and c.from_residual.result c.from_residual.ensures.1 in
    rw (p.1, p.2) (failed (with_rest {A = Front}) (with_rest {A = Select}) c.in_err-front.field-0.0 (front_of q, h.0) (q, []) (c.in_err-front.ensures.only (front_of q) h.0 h.2 h.4))

pub returns-in_err-clauses-clause-only : goal.returns-in_err-clauses-clause-only
returns-in_err-clauses-clause-only c = λ q d.
    let h = parts_of q c.args.symbols.now [] refl d in
    let x = same_read (c.in_ok-front.front, c.in_ok-front.rest) (front_of q) h.0 (c.in_ok-front.ensures.only (front_of q) h.0 h.2 h.4) in
    let clauses = subst (λ ts. SpellsClauses (clauses_of q) ts h.1) x.1 h.3 in
    let p = err_from_is_err_and c.from_residual-in_err-clauses.result c.from_residual-in_err-clauses.ensures.1 in
    rw (p.1, p.2) (failed (with_rest {A = Clauses}) (with_rest {A = Select}) c.in_err-clauses.field-0.0 (clauses_of q, h.1) (q, []) (c.in_err-clauses.ensures.only (clauses_of q) h.1 clauses h.5))

pub returns-clause-only : goal.returns-clause-only
returns-clause-only c = λ q d.
    let h = parts_of q c.args.symbols.now [] refl d in
    let x = same_read (c.in_ok-front.front, c.in_ok-front.rest) (front_of q) h.0 (c.in_ok-front.ensures.only (front_of q) h.0 h.2 h.4) in
    let clauses = subst (λ ts. SpellsClauses (clauses_of q) ts h.1) x.1 h.3 in
    let y = same_read (c.in_ok-clauses.clauses, c.in_ok-clauses.rest) (clauses_of q) h.1 (c.in_ok-clauses.ensures.only (clauses_of q) h.1 clauses h.5) in
    select_read q c.in_ok-front.front c.in_ok-clauses.clauses h.1 c.in_ok-clauses.rest.now c.after_emit.result.now x.0 y.0 y.1 h.6 c.after_emit.ensures
    ∙ ap (λ x. both x c.after_emit.result.now) (sym c.select_of.ensures)
