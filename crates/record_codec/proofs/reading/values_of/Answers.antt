use Rattle.std.proofs.Common.{◌∙◌, ap, sym, refl, arith, ℕ, ◌<◌, ◌≤◌, ◌^◌, List, ◌++◌, length, append_assoc, Result, Ok, Err}
use Rattle.std.specs.Global.{Vec}
use Rattle.std.specs.Borrow.{Bor}
use Rattle.std.specs.List.{flat_map}
use Rattle.std.proofs.lemmas.Bool.{le-leb, lt-leb}
use Rattle.ksql_types.specs.declared.value.Value.{Value}
use Rattle.record_codec.specs.declared.fault.ReadError.{ReadError}
use Rattle.record_codec.specs.Reading.{Begins, IsRead, with_items}
use Rattle.record_codec.specs.Spelling.{four, value, values, InFour, ThisMany, AtMost, IsSpellableValue}
use Rattle.record_codec.specs.declared.fault.ReadError.TheVariants.{Unspelled}
use Rattle.record_codec.proofs.Parsers.{list_at, value_at}
use Rattle.record_codec.proofs.Readers.{reads-four, reads-times}
use Rattle.record_codec.proofs.Parts.{reads-value, reads-list-of-values}
use Rattle.record_codec.proofs.Given.{given, unread, begins_not}
use Rattle.record_codec.proofs.reading.values_of.Goals as goal

pub returns-then-count-limit : goal.returns-then-count-limit
unfolding list_at
returns-then-count-limit c =
    let e = lt-leb _ _ c.if-count-limit.true in
    begins_not (reads-list-of-values c.args.limit (omega arith)) _ (rw (given reads-four c.in_ok-count.ensures, e) refl) Unspelled

counted_result : (limit count : ℕ) → limit < 2 ^ 32 → (bytes rest : List ℕ) (result : Result (Vec Value × Bor (List ℕ)) ReadError) → count ≤ limit → Begins four InFour bytes (count, rest)
    → IsRead (flat_map value) (ThisMany count IsSpellableValue) with_items rest result → IsRead values (AtMost limit IsSpellableValue) with_items bytes result
unfolding list_at
counted_result limit count small bytes rest (Ok r) le front h = record {
  fitting = (omega (arith, h.fitting.0, le), h.fitting.1);
  parts = front.parts ∙ ap (λ (w : List ℕ). four count ++ w) h.parts ∙ ap (λ (n : ℕ). four n ++ (flat_map value r.0.items ++ r.1.now)) (sym h.fitting.0)
      ∙ sym (append_assoc (four (length r.0.items)) (flat_map value r.0.items) r.1.now);
}
counted_result limit count small bytes rest (Err e) le front h =
    let few = le-leb _ _ le in
    unread (reads-times value IsSpellableValue value_at reads-value count) (reads-list-of-values limit small) rest bytes (λ n. rw (given reads-four front, few, n) refl) e h

pub returns : goal.returns
returns c = counted_result c.args.limit c.in_ok-count.count (omega arith) c.args.bytes.now c.in_ok-count.rest.now c.many_values.result c.if-count-limit.false c.in_ok-count.ensures c.many_values.ensures
