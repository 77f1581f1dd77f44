use Rattle.std.proofs.Common.{◌≡◌, map, take}
use Rattle.reference.specs.Steps.{entry_of}
use Rattle.reference.specs.Grouping.{view_held, lent_standing}
use Rattle.reference.proofs.table_groups.held.Given as goal

abbrev pub invariant-loop-stands : goal.invariant-loop-stands
invariant-loop-stands l = map entry_of l.mine.items ≡ view_held l.group (map lent_standing (take l.stands-index l.standing))
