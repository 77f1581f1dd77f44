-- Each digit makes the number ten times as large, and adds itself.
use Rattle.std.proofs.Common.{◌≡◌, ◌+◌, ◌-◌, ◌≤◌, ◌<◌, Some, get_or, length, take, subst, ap, sym, ◌∙◌, arith, rules}
use Rattle.std.specs.Char.{digit_value}
use Rattle.std.specs.Str.Parse.{AllDigits, digits_value}
use Rattle.std.proofs.lemmas.Int.Digits.{digits_more, digits_value_more}
use Rattle.std.proofs.lemmas.List.{take_all}
use Rattle.std.proofs.lemmas.Str.{digit_value_digit}
use Rattle.serde_json.specs.Data.{unsigned}
use Rattle.topic_files.proofs.Numbers.{few-below, few_digits-read}
use Rattle.topic_files.proofs.number.few_digits.Goals as goal

pub overflow_mul-number : goal.overflow_mul-number
overflow_mul-number c =
    omega (arith, few-below c.args.text.now c.loop-byte.byte-index c.loop-byte.number (search rules) (search rules) c.loop-byte.invariant.digits c.loop-byte.invariant.number_is)

pub overflow_add-number : goal.overflow_add-number
overflow_add-number c =
    let digit : c.from.result ≤ 9 = search rules in
    omega (arith, digit, few-below c.args.text.now c.loop-byte.byte-index c.loop-byte.number (search rules) (search rules) c.loop-byte.invariant.digits c.loop-byte.invariant.number_is)

pub loop-byte-preserved : goal.loop-byte-preserved
loop-byte-preserved c =
    let bs = c.args.text.now in
    let i = c.loop-byte.byte-index in
    let inside : i < length bs = search rules in
    let low : 48 ≤ get_or bs i 0 = search rules in
    let high : get_or bs i 0 ≤ 57 = search rules in
    let digit : digit_value (get_or bs i 0) + 48 ≡ get_or bs i 0 = digit_value_digit (get_or bs i 0) (low, high) in
    let added : c.from.result ≡ get_or bs i 0 - 48 = search rules in
    record {
      digits = digits_more 10 bs i inside c.loop-byte.invariant.digits (omega (arith, digit, high));
      number_is = omega (arith, c.loop-byte.invariant.number_is, digits_value_more 10 bs i inside, digit, added);
    }

pub returns : goal.returns
returns c =
    let bs = c.args.text.now in
    let all : take c.loop-byte.byte-index bs ≡ bs = take_all c.loop-byte.byte-index bs (search rules) in
    let digits : AllDigits 10 bs = subst (AllDigits 10) all c.loop-byte.invariant.digits in
    few_digits-read bs digits (search rules) (search rules) ∙ ap (λ n. Some (unsigned n)) (ap (digits_value 10) (sym all) ∙ sym c.loop-byte.invariant.number_is)
