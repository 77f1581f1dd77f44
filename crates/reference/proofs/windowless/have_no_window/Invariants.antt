use Rattle.std.proofs.Common.{◌≡◌, drop}
use Rattle.reference.specs.Windowless.{have_no_window}
use Rattle.reference.proofs.windowless.have_no_window.Given as goal

-- the items that are left decide
abbrev pub invariant-loop-item : goal.invariant-loop-item
invariant-loop-item l = have_no_window (drop l.item-index l.item-items) ≡ have_no_window l.program.items
