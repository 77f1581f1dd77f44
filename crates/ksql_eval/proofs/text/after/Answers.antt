use Rattle.std.proofs.Common.{◌≡◌, ◌∙◌, sym, ◌++◌, length, arith}
use Rattle.std.specs.Char.{encode_utf8}
use Rattle.std.specs.Str.{chars}
use Rattle.std.specs.Str.Iter.{chars_rest}
use Rattle.std.proofs.lemmas.Str.{encodes-chars}
use Rattle.ksql_eval.proofs.Texts.{next_character, next_shorter, none_first, past_the_end}
use Rattle.ksql_eval.proofs.text.after.Goals as goal

pub loop-passed-init : goal.loop-passed-init
loop-passed-init c = record { short = omega (arith, c.chars-rest.ensures.len); at = c.chars-rest.ensures.rest ∙ sym (encodes-chars c.args.text.now c.utf8.text) }

pub loop-passed-preserved : goal.loop-passed-preserved
loop-passed-preserved c =
    let None = (length (chars_rest c.loop-passed.rest) ≡ 0) × (c.next.new.self ≡ c.loop-passed.rest) in
    record {
      short = omega (arith, next_shorter c.next.result (chars_rest c.loop-passed.rest) (chars_rest c.next.new.self) None c.next.ensures.steps.0 c.if-is_none.ensures, c.loop-passed.invariant.short);
      at = next_character (chars c.args.text.now) c.loop-passed._passed c.next.result (chars_rest c.loop-passed.rest) (chars_rest c.next.new.self) None c.next.ensures.steps.0 c.if-is_none.ensures c.loop-passed.invariant.at;
    }

pub returns-then-is_none : goal.returns-then-is_none
returns-then-is_none c =
    let none : length (chars_rest c.loop-passed.rest) ≡ 0 = (none_first c.next.result ((length (chars_rest c.loop-passed.rest) ≡ 0) × (c.next.new.self ≡ c.loop-passed.rest)) (λ x. chars_rest c.loop-passed.rest ≡ encode_utf8 x ++ chars_rest c.next.new.self) c.next.ensures.steps.0 c.if-is_none.ensures).0 in
    record {
      value = past_the_end (chars c.args.text.now) (chars_rest c.loop-passed.rest) c.loop-passed._passed c.args.count c.loop-passed.invariant.at none c.loop-passed-test.true;
      bound = omega arith;
    }
