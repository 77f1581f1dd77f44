use Rattle.std.proofs.Common.{◌≡◌, take}
use Rattle.ksql_types.proofs.items.ItemsCopyOf.copy.Given as goal

-- the copies so far are a prefix of the list
abbrev pub invariant-loop-item : goal.invariant-loop-item
invariant-loop-item g l = l.copied.items ≡ take l.item-index l.item-items
