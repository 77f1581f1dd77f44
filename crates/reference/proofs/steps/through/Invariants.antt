use Rattle.std.proofs.Common.{◌≡◌, drop, map}
use Rattle.ksql_nodes.specs.Entries.{from_side, through}
use Rattle.ksql_nodes.specs.Nodes.{gives}
use Rattle.reference.proofs.steps.through.Given as goal

-- the nodes that are left make the result of the changes so far
abbrev pub invariant-loop-node : goal.invariant-loop-node
invariant-loop-node l =
    through (map (gives l.lanes) (drop l.node-index l.nodes)) (from_side 0 l.changes.items)
    ≡ through (map (gives l.lanes) l.nodes) (from_side 0 l.fn.changes.items)
