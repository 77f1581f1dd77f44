use Rattle.std.proofs.Common.{◌≡◌, map, take}
use Rattle.ksql_nodes.specs.Entries.{of_key}
use Rattle.reference.specs.Steps.{entry_of}
use Rattle.reference.proofs.entries.of_key.Given as goal

abbrev pub invariant-loop-entry : goal.invariant-loop-entry
invariant-loop-entry l = map entry_of l.mine.items ≡ of_key l.key (map entry_of (take l.entry-index l.entries))
