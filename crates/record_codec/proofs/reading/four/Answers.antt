use Rattle.std.proofs.Common.{◌≡◌, arith, rules, ap, sym, ◌∙◌, length, length-append}
use Rattle.std.proofs.lemmas.List.{take-append-drop}
use Rattle.std.proofs.lemmas.Nat.{be_bytes_4}
use Rattle.record_codec.specs.Spelling.{four}
use Rattle.record_codec.proofs.Readers.{length-four}
use Rattle.record_codec.proofs.reading.four.Goals as goal

pub returns-then-bytes-lt4 : goal.returns-then-bytes-lt4
returns-then-bytes-lt4 c = λ x rest lt e. omega (arith, ap length e, length-append (four x) rest, length-four x, c.if-bytes-lt4.true)

pub returns : goal.returns
unfolding four
returns c =
    let front = c.split_at.result.0.now in
    let spelled : four c.from_be_bytes-number.result ≡ front = be_bytes_4 front c.from_be_bytes-number.result (search rules) (search rules) c.from_be_bytes-number.ensures in
    record {
      fitting = omega arith;
      parts = sym (take-append-drop 4 c.args.bytes.now) ∙ (cc);
    }
