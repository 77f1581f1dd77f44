use Rattle.std.proofs.Common.{◌≡◌, min, take, ◌-◌, ◌^◌}
use Rattle.schedule_text.specs.Words.{decimal}
use Rattle.schedule_text.proofs.words.decimal.Given as goal

-- the number of the digits so far
abbrev pub invariant-loop-digit : goal.invariant-loop-digit
invariant-loop-digit l = l.number ≡ min (decimal (take l.digit-index l.digits)) (2 ^ 64 - 1)
