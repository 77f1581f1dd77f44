use Rattle.std.proofs.Common.{◌≡◌, map, take}
use Rattle.reference.specs.Steps.{entry_of}
use Rattle.reference.specs.Grouping.{lent, view_touching}
use Rattle.reference.proofs.table_groups.touching.Given as goal

abbrev pub invariant-loop-entry : goal.invariant-loop-entry
invariant-loop-entry l = map entry_of l.mine.items ≡ view_touching l.group (map lent (take l.entry-index l.entries))
