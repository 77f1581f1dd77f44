use Rattle.std.proofs.Common.{◌≡◌, ℕ, [], map, take}
use Rattle.ksql_nodes.specs.Entries.{results}
use Rattle.ksql_nodes.specs.Nodes.{gives}
use Rattle.reference.specs.Steps.{entry_of}
use Rattle.reference.proofs.joins.join_results.Given as goal

abbrev pub invariant-loop-index : goal.invariant-loop-index
invariant-loop-index l = (lanes : ℕ) → l.changes.items ≡ results (gives lanes l.node) [] (map entry_of (take l.index l.entries))
