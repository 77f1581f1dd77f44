use Rattle.std.proofs.Common.{◌≡◌, length}
use Rattle.run_text.specs.Printed.{AreStarts}
use Rattle.run_text.proofs.printed.starts_of.Given as goal

-- the starts so far
abbrev pub invariant-loop-part : goal.invariant-loop-part
invariant-loop-part l = record {
  len : length l.starts.items ≡ l.part;
  starts : AreStarts l.starts.items;
}
