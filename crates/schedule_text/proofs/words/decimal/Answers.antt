-- One digit more.
use Rattle.std.proofs.Common.{◌≡◌, ◌+◌, ◌*◌, ◌-◌, ℕ, List, take, get_or, ap, ◌∙◌, arith}
use Rattle.std.proofs.lemmas.List.{take_more}
use Rattle.schedule_text.specs.Words.{decimal}
use Rattle.schedule_text.proofs.Numbers.{decimal-push}
use Rattle.schedule_text.proofs.words.decimal.Goals as goal

pub loop-digit-preserved : goal.loop-digit-preserved
loop-digit-preserved c =
    let digits : List ℕ = c.args.digits.now in
    let i : ℕ = c.loop-digit.digit-index in
    let more : decimal (take (i + 1) digits) ≡ 10 * decimal (take i digits) + (get_or digits i 0 - 48) =
    ap decimal (take_more digits i 0 (omega arith)) ∙ decimal-push 0 (take i digits) (get_or digits i 0) in
    omega (arith, more, c.loop-digit.invariant, c.saturating_mul.ensures, c.saturating_sub.ensures, c.from.ensures, c.saturating_add-number.ensures)
