use Rattle.std.proofs.Common.{◌≡◌, [], map, take}
use Rattle.ksql_nodes.specs.Entries.{results}
use Rattle.ksql_nodes.specs.Nodes.{gives}
use Rattle.reference.specs.Steps.{entry_of}
use Rattle.reference.proofs.nodes.results.Given as goal

abbrev pub invariant-loop-index : goal.invariant-loop-index
invariant-loop-index l = l.changes.items ≡ results (gives l.lanes l.node) [] (map entry_of (take l.index l.entries))
