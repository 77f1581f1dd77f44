use Rattle.std.proofs.Common.{◌≡◌, List, [], ◌∷◌, ◌++◌, Some, refl, sym, ap, ◌∙◌, subst, arith}
use Rattle.std.proofs.lemmas.Result.{err_from_is_err_and}
use Rattle.ksql_lexer.specs.declared.token.Mark.TheVariants as mark
use Rattle.ksql_grammar.specs.declared.symbol.Keyword.TheVariants as key
use Rattle.ksql_grammar.specs.declared.symbol.Symbol.{Symbol}
use Rattle.ksql_grammar.specs.declared.symbol.Symbol.TheVariants.{Key, Sign}
use Rattle.statement_trees.specs.declared.tree.SelectItem.{SelectItem}
use Rattle.ksql_parser.specs.Grammar.{Spells, items, last_item}
use Rattle.ksql_grammar.specs.Reading.{with_rest}
use Rattle.ksql_grammar.specs.Expressions.{after_sign}
use Rattle.ksql_grammar.proofs.Whole.{sign_fewer}
use Rattle.ksql_parser.proofs.Steps.{along, failed}
use Rattle.ksql_grammar.proofs.Steps.{if_some, sign_found}
use Rattle.ksql_parser.proofs.Only.{both}
use Rattle.ksql_parser.proofs.Items.{FrontSpelled, FrontOnly, OnlyItem, item_takes, spelled_more, only_more, only_last, next_item}
use Rattle.ksql_parser.proofs.statement.queries.read_items.Goals as goal

pub loop-items-smaller : goal.loop-items-smaller
loop-items-smaller c =
    let taken = item_takes c.in_ok-item.item c.loop-items.rest.now c.in_ok-item.behind.now c.in_ok-item.ensures.found in
    let comma = sign_fewer mark.Comma c.in_ok-item.behind.now c.in-Some.after.now (sym c.in-Some.ensures) in
    omega arith

pub loop-items-init : goal.loop-items-init
loop-items-init c =
    let ts = c.args.symbols.now in
    record {
      spelled = subst (λ xs. FrontSpelled xs ts ts) (sym c.new-items.ensures.items) (λ is us d. d);
      only = subst (λ xs. FrontOnly xs ts ts) (sym c.new-items.ensures.items) (λ is rest d. (is, refl, d));
    }

pub loop-items-preserved : goal.loop-items-preserved
loop-items-preserved c =
    let front = c.loop-items.items.items in
    let ts = c.loop-items.rest.now in
    let us = c.in_ok-item.behind.now in
    let vs = c.in-Some.after.now in
    let whole = c.args.symbols.now in
    let comma = if_some (after_sign mark.Comma us) (λ vs. us ≡ Sign mark.Comma ∷ vs) vs (sign_found mark.Comma us) (sym c.in-Some.ensures) in
    record {
      spelled = subst (λ xs. FrontSpelled xs vs whole) (sym c.in_ok-push.ensures.items) (spelled_more front c.in_ok-item.item ts vs whole c.loop-items.invariant.spelled (along c.in_ok-item.ensures.found comma));
      only = subst (λ xs. FrontOnly xs vs whole) (sym c.in_ok-push.ensures.items)
          (only_more front c.in_ok-item.item ts vs whole c.loop-items.invariant.only (subst (OnlyItem ts c.in_ok-item.item) comma c.in_ok-item.ensures.only));
    }

pub returns-in_err-item-clause-only : goal.returns-in_err-item-clause-only
returns-in_err-item-clause-only c = λ is rest d.
    let h = next_item c.loop-items.items.items is c.loop-items.rest.now c.args.symbols.now rest c.loop-items.invariant.only d in
    let p = err_from_is_err_and c.from_residual.result c.from_residual.ensures.1 in
    rw (p.1, p.2) (failed (with_rest {A = SelectItem}) (with_rest {A = List SelectItem}) c.in_err-item.field-0.0 (h.0, h.1) (is, Key key.From ∷ rest) (c.in_err-item.ensures.only h.0 h.1 h.2 h.3))

pub returns-in-None-clause-found : goal.returns-in-None-clause-found
returns-in-None-clause-found c =
    let ts = c.args.symbols.now in
    let us = c.in_ok-item.behind.now in
    subst (λ xs. Spells (items xs) ts us) (sym (c.of.ensures ∙ c.in_ok-push.ensures.items))
    (c.loop-items.invariant.spelled (c.in_ok-item.item ∷ []) us (last_item c.in_ok-item.ensures.found))

pub returns-in-None-clause-only : goal.returns-in-None-clause-only
returns-in-None-clause-only c = λ is rest d.
    let us = c.in_ok-item.behind.now in
    only_last c.loop-items.items.items is c.in_ok-item.item c.loop-items.rest.now us c.args.symbols.now rest c.loop-items.invariant.only (sym c.in-None.ensures) c.in_ok-item.ensures.only d
    ∙ ap (λ xs. both xs us) (sym (c.of.ensures ∙ c.in_ok-push.ensures.items))
