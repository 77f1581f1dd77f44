use Rattle.std.proofs.Common.{◌≡◌, ◌∙◌, ◌≤◌, ap, length, rules, arith}
use Rattle.std.specs.String.{string_bytes, string_len}
use Rattle.std.specs.Fmt.{signed_decimal}
use Rattle.std.specs.Int.{w64}
use Rattle.std.proofs.lemmas.Fmt.{length_signed_le}
use Rattle.std.proofs.lemmas.Int.{to_z-of_z}
use Rattle.ksql_types.specs.Text.{longest_text}
use Rattle.ksql_eval.proofs.text.decimal.Goals as goal

pub of-requires : goal.of-requires
unfolding longest_text
of-requires c =
    let text : string_bytes c.in_ok-to_string.field-0 ≡ signed_decimal c.args.number = c.in_ok-to_string.ensures.ok ∙ ap signed_decimal (to_z-of_z w64 c.args.number c.ranges.number) in
    let short : length (signed_decimal c.args.number) ≤ 21 = length_signed_le 20 c.args.number (omega (arith, c.ranges.number.sfits)) c.ranges.number.sfits in
    let len : string_len c.in_ok-to_string.field-0 ≡ length (string_bytes c.in_ok-to_string.field-0) = search rules in
    omega (arith, len, ap length text, short)
