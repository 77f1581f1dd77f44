use Rattle.std.proofs.Common.{◌≡◌, arith, rules, ap, sym, ◌∙◌, length, length-append}
use Rattle.std.proofs.lemmas.List.{take-append-drop}
use Rattle.std.proofs.lemmas.Nat.{be_bytes_8}
use Rattle.record_codec.specs.Spelling.{eight}
use Rattle.record_codec.proofs.Readers.{length-eight}
use Rattle.record_codec.proofs.reading.eight.Goals as goal

pub returns-then-bytes-lt8 : goal.returns-then-bytes-lt8
returns-then-bytes-lt8 c = λ x rest lt e. omega (arith, ap length e, length-append (eight x) rest, length-eight x, c.if-bytes-lt8.true)

pub returns : goal.returns
unfolding eight
returns c =
    let front = c.split_at.result.0.now in
    let spelled : eight c.from_be_bytes-number.result ≡ front = be_bytes_8 front c.from_be_bytes-number.result (search rules) (search rules) c.from_be_bytes-number.ensures in
    record {
      fitting = omega arith;
      parts = sym (take-append-drop 8 c.args.bytes.now) ∙ (cc);
    }
