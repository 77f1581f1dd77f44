use Rattle.std.proofs.Common.{take, All}
use Rattle.record_codec.specs.Spelling.{IsShort}
use Rattle.operator.proofs.keys.is_short.Given as goal

abbrev pub invariant-loop-value : goal.invariant-loop-value
invariant-loop-value l = All IsShort (take l.value-index l.value-items)
