use Rattle.std.proofs.Common.{◌≡◌, ℕ, List, [], ◌∷◌, Option, None, Some, sym, ap, ◌∙◌, subst}
use Rattle.std.specs.Borrow.{Bor}
use Rattle.std.proofs.lemmas.Result.{err_from_is_err_and}
use Rattle.ksql_lexer.specs.declared.token.Mark.TheVariants as mark
use Rattle.ksql_grammar.specs.declared.symbol.Symbol.{Symbol}
use Rattle.ksql_grammar.specs.declared.symbol.Symbol.TheVariants.{Sign}
use Rattle.expression_trees.specs.declared.tree.Expr.{Expr}
use Rattle.statement_trees.specs.declared.tree.SelectItem.{SelectItem}
use Rattle.statement_trees.specs.declared.tree.SelectItem.TheVariants.{StarOf, One}
use Rattle.ksql_parser.specs.Grammar as g
use Rattle.ksql_parser.specs.Grammar.{Spells, star, one}
use Rattle.ksql_grammar.specs.Reading.{with_rest}
use Rattle.ksql_grammar.specs.Expressions.{after_sign}
use Rattle.ksql_parser.specs.Statements as r
use Rattle.ksql_parser.proofs.Steps.{behind, copied_of, failed, same_read}
use Rattle.ksql_grammar.proofs.Steps.{if_some, sign_found}
use Rattle.ksql_parser.proofs.Found.{alias_found, star_of_found}
use Rattle.ksql_parser.proofs.Only.{both}
use Rattle.ksql_parser.proofs.Calls.{failed_at, same_at}
use Rattle.ksql_parser.proofs.Items.{item_star, item_star_of, item_one, item_read}
use Rattle.ksql_parser.proofs.statement.queries.read_item.Goals as goal

pub returns-in-Some-clause-found : goal.returns-in-Some-clause-found
returns-in-Some-clause-found c =
    let ts = c.args.symbols.now in
    behind (copied_of c.after_sign.result (after_sign mark.Star ts) (λ us. ts ≡ Sign mark.Star ∷ us) c.in-Some.rest (sign_found mark.Star ts) c.after_sign.ensures c.in-Some.is) star

pub returns-in-Some-after_star_of-clause-found : goal.returns-in-Some-after_star_of-clause-found
returns-in-Some-after_star_of-clause-found c =
    let ts = c.args.symbols.now in
    let rest = c.in-Some-after_star_of.rest.now in
    subst (λ name. Spells (g.item (StarOf name)) ts rest) (sym c.in_ok-copy.ensures)
    (if_some (r.star_of ts) (λ x. Spells (g.item (StarOf x.0)) ts x.1) (c.in-Some-after_star_of.name.now, rest) (star_of_found ts) (sym c.in-Some-after_star_of.ensures))

pub returns-clause-found : goal.returns-clause-found
returns-clause-found c =
    let us = c.in_ok-expr.rest.now in
    one c.in_ok-expr.ensures.found (if_some (r.alias us) (λ x. Spells (g.alias x.0) us x.1) (c.in_ok-alias.alias, c.in_ok-alias.rest.now) (alias_found us) c.in_ok-alias.ensures)

pub returns-in-Some-clause-only : goal.returns-in-Some-clause-only
returns-in-Some-clause-only c = λ i rest d b.
    let ts = c.args.symbols.now in
    let e = copied_of c.after_sign.result (after_sign mark.Star ts) (λ us. ts ≡ Sign mark.Star ∷ us) c.in-Some.rest (sign_found mark.Star ts) c.after_sign.ensures c.in-Some.is in
    item_star i ts c.in-Some.rest.now rest e d

pub returns-in-Some-after_star_of-clause-only : goal.returns-in-Some-after_star_of-clause-only
returns-in-Some-after_star_of-clause-only c = λ i rest d b.
    let us = c.in-Some-after_star_of.rest.now in
    item_star_of i c.args.symbols.now us rest c.in-Some-after_star_of.name.now (sym c.in-Some-after_star_of.ensures) b d
    ∙ ap (λ name. both (StarOf name) us) (sym c.in_ok-copy.ensures)

pub returns-in_err-expr-clause-only : goal.returns-in_err-expr-clause-only
returns-in_err-expr-clause-only c = λ i rest d b.
    let h = item_one i c.args.symbols.now rest b (sym c.in_default.ensures) (sym c.in_default-after_star_of.ensures) d in
    let p = err_from_is_err_and c.from_residual-in_err-expr.result c.from_residual-in_err-expr.ensures.1 in
    rw (p.1, p.2) (failed (with_rest {A = Expr}) (with_rest {A = SelectItem}) c.in_err-expr.field-0.0 (h.0, h.2) (i, rest) (c.in_err-expr.ensures.only h.0 h.2 h.4 h.5))

pub returns-in_err-alias-clause-only : goal.returns-in_err-alias-clause-only
returns-in_err-alias-clause-only c = λ i rest d b.
    let h = item_one i c.args.symbols.now rest b (sym c.in_default.ensures) (sym c.in_default-after_star_of.ensures) d in
    let x = same_read (c.in_ok-expr.expr, c.in_ok-expr.rest) h.0 h.2 (c.in_ok-expr.ensures.only h.0 h.2 h.4 h.5) in
    let p = err_from_is_err_and c.from_residual-in_err-alias.result c.from_residual-in_err-alias.ensures.1 in
    rw (p.1, p.2) (failed_at (with_rest {A = Option (List ℕ)}) (with_rest {A = SelectItem}) c.in_err-alias.field-0.0 (r.alias c.in_ok-expr.rest.now) (h.1, rest) (i, rest)
    (ap r.alias (sym x.1) ∙ h.6) c.in_err-alias.ensures)

pub returns-clause-only : goal.returns-clause-only
returns-clause-only c = λ i rest d b.
    let h = item_one i c.args.symbols.now rest b (sym c.in_default.ensures) (sym c.in_default-after_star_of.ensures) d in
    let x = same_read (c.in_ok-expr.expr, c.in_ok-expr.rest) h.0 h.2 (c.in_ok-expr.ensures.only h.0 h.2 h.4 h.5) in
    let a = same_at (r.alias c.in_ok-expr.rest.now) (c.in_ok-alias.alias, c.in_ok-alias.rest) h.1 rest (ap r.alias (sym x.1) ∙ h.6) c.in_ok-alias.ensures in
    item_read i h.0 c.in_ok-expr.expr h.1 c.in_ok-alias.alias rest c.in_ok-alias.rest.now h.3 x.0 a.0 a.1
