use Rattle.std.proofs.Common.{◌≡◌, map, drop}
use Rattle.std.specs.Prelude.{max}
use Rattle.ksql_nodes.specs.Entries.{latest_time}
use Rattle.reference.specs.Steps.{entry_of}
use Rattle.reference.proofs.entries.latest_time.Given as goal

-- the latest time so far and the times that are left
abbrev pub invariant-loop-entry : goal.invariant-loop-entry
invariant-loop-entry l = max l.latest (latest_time (map entry_of (drop l.entry-index l.entries))) ≡ latest_time (map entry_of l.entries)
