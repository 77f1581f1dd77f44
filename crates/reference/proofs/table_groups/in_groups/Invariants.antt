use Rattle.std.proofs.Common.{◌≡◌, map, take}
use Rattle.reference.specs.Steps.{entry_of}
use Rattle.reference.specs.Grouping.{entries_of, in_groups, lent}
use Rattle.reference.proofs.table_groups.in_groups.Given as goal

abbrev pub invariant-loop-entry : goal.invariant-loop-entry
invariant-loop-entry l =
    let before = map entry_of (take l.entry-index l.entries) in
    record { entries : entries_of l.made.items ≡ before; groups : map lent l.made.items ≡ map (in_groups l.keys) before }
