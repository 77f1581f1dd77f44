use Rattle.std.proofs.Common.{suc, sym, ap, ◌∙◌, length, Some, arith}
use Rattle.std.specs.Option.{option_copied}
use Rattle.std.proofs.lemmas.Result.{err_from_is_err_and}
use Rattle.ksql_grammar.specs.declared.symbol.Keyword.TheVariants.{When}
use Rattle.ksql_grammar.specs.Reading.{with_rest, with_items}
use Rattle.ksql_grammar.specs.Expressions.{within, when, whens, after_key, list_of}
use Rattle.ksql_grammar.proofs.Chains.{with_front, with_front_nil, list_fails, list_last, list_goes}
use Rattle.ksql_grammar.proofs.Whole.{when_takes, key_fewer, whens_start}
use Rattle.ksql_grammar.proofs.Errors.{gives_err}
use Rattle.ksql_grammar.proofs.expression.Nested.whens.Goals as goal

pub returns-in_err-when : goal.returns-in_err-when
returns-in_err-when g c =
    let item = when (within c.args.self.now.room) in
    let rest = c.loop-whens.rest.now in
    let p = err_from_is_err_and c.from_residual-in_err-when.result c.from_residual-in_err-when.ensures.1 in
    rw (p.1, p.2) (gives_err with_rest with_items c.in_err-when.field-0.0 (item rest) (whens (within c.args.self.now.room) c.args.symbols.now) c.in_err-when.ensures
    (λ none. sym c.loop-whens.invariant ∙ list_fails item (after_key When) c.loop-whens.whens.items (length rest) rest none))

pub loop-whens-smaller : goal.loop-whens-smaller
loop-whens-smaller g c =
    let taken = when_takes c.args.self.now.room c.loop-whens.rest.now (c.in_ok-when.when, c.in_ok-when.behind.now) c.in_ok-when.ensures in
    let next = key_fewer When c.in_ok-when.behind.now c.in-Some.after.now (sym c.in-Some.ensures) in
    omega arith

pub loop-whens-preserved : goal.loop-whens-preserved
loop-whens-preserved g c =
    let item = when (within c.args.self.now.room) in
    let after = c.in-Some.after.now in
    ap (λ front. with_front front (list_of item (after_key When) (suc (length after)) after)) c.in_ok-push.ensures.items
    ∙ sym (list_goes item (after_key When) (when_takes c.args.self.now.room) (key_fewer When) c.loop-whens.whens.items c.loop-whens.rest.now
    (c.in_ok-when.when, c.in_ok-when.behind.now) after c.in_ok-when.ensures (sym c.in-Some.ensures))
    ∙ c.loop-whens.invariant

pub returns-in-None : goal.returns-in-None
returns-in-None g c =
    let item = when (within c.args.self.now.room) in
    let rest = c.loop-whens.rest.now in
    sym c.loop-whens.invariant
    ∙ list_last item (after_key When) c.loop-whens.whens.items (length rest) rest (c.in_ok-when.when, c.in_ok-when.behind.now) c.in_ok-when.ensures (sym c.in-None.ensures)
    ∙ ap (λ xs. Some (xs, c.in_ok-when.behind.now)) (sym c.in_ok-push.ensures.items)

pub loop-whens-init : goal.loop-whens-init
loop-whens-init g c =
    let rest = c.in_ok-rest.rest.now in
    let read = list_of (when (within c.args.self.now.room)) (after_key When) (suc (length rest)) rest in
    ap (λ front. with_front front read) c.new-whens.ensures.items
    ∙ with_front_nil read
    ∙ whens_start c.args.self.now.room c.args.symbols.now rest (sym c.after_key.ensures ∙ ap option_copied c.in_ok-rest.ensures.ok_part)
