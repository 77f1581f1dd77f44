use Rattle.std.proofs.Common.{◌≡◌, ◌++◌, map, take}
use Rattle.ksql_nodes.specs.Entries.{from_side}
use Rattle.reference.specs.Steps.{entry_of}
use Rattle.reference.proofs.steps.push_entries.Given as goal

abbrev pub invariant-loop-change : goal.invariant-loop-change
invariant-loop-change l = map entry_of l.entries.items ≡ map entry_of l.fn.entries.items ++ from_side l.side (take l.change-index l.changes)
