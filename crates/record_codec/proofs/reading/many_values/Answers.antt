use Rattle.std.proofs.Common.{◌≡◌, ◌∷◌, ◌++◌, ◌∙◌, List, length, length-append, ap, sym, subst, arith, []}
use Rattle.std.specs.List.{All, flat_map}
use Rattle.ksql_types.specs.declared.value.Value.{Value}
use Rattle.std.proofs.lemmas.Result.{err_from_is_err_and}
use Rattle.record_codec.specs.Spelling.{value, IsSpellableValue}
use Rattle.record_codec.proofs.Parsers.{times, value_at}
use Rattle.record_codec.proofs.Readers.{stops, reads-times, goes_on, one_more}
use Rattle.record_codec.proofs.Parts.{reads-value}
use Rattle.record_codec.proofs.Given.{unread}
use Rattle.record_codec.proofs.reading.many_values.Goals as goal

pub returns-in_err-value : goal.returns-in_err-value
returns-in_err-value c =
    let p = err_from_is_err_and c.from_residual-in_err-value.result c.from_residual-in_err-value.ensures.1 in
    let before = c.loop.invariant in
    let fewer = rw (← before.many) at c.loop-test.true in
    rw (p.1, p.2) (unread reads-value (reads-times value IsSpellableValue value_at reads-value c.args.count) _ _
    (λ n. ap (times value_at c.args.count) before.parts ∙ stops reads-value c.loop.values.items c.args.count c.loop.rest.now before.spellable fewer n) _ c.in_err-value.ensures)

pub loop-preserved : goal.loop-preserved
loop-preserved c =
    let before = c.loop.invariant in
    let items : c.push.new.self.items ≡ c.loop.values.items ++ c.in_ok-value.value ∷ [] = c.in_ok-push.ensures.items in
    record {
      parts = before.parts ∙ goes_on value c.loop.values.items c.in_ok-value.value c.loop.rest.now c.in_ok-value.after.now c.in_ok-value.ensures.parts
          ∙ ap (λ (vs : List Value). flat_map value vs ++ c.in_ok-value.after.now) (sym items);
      many = omega (arith, ap length items, length-append c.loop.values.items (c.in_ok-value.value ∷ []), before.many);
      spellable = subst (All IsSpellableValue) (sym items) (one_more IsSpellableValue c.loop.values.items c.in_ok-value.value before.spellable c.in_ok-value.ensures.fitting);
    }
