use Rattle.std.proofs.Common.{◌≡◌, map, take}
use Rattle.ksql_nodes.specs.Aggregates.{arguments, gone}
use Rattle.reference.specs.Steps.{entry_of}
use Rattle.reference.proofs.group_changes.gone.Given as goal

abbrev pub invariant-loop-entry : goal.invariant-loop-entry
invariant-loop-entry l = l.values.items ≡ arguments l.arg (gone (map entry_of (take l.entry-index l.entries)))
