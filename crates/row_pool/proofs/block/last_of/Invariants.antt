use Rattle.std.proofs.Common.{◌≡◌, ◌-◌}
use Rattle.row_pool.specs.Layout.{after}
use Rattle.row_pool.proofs.block.last_of.Given as goal

-- each step moves one block further
abbrev pub invariant-loop : goal.invariant-loop
invariant-loop l = l.at ≡ after l.blocks l.first (l.counter - 1)
