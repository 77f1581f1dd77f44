use Rattle.std.proofs.Common.{◌≡◌, ◌++◌, flat_map, take, string_bytes}
use Rattle.topology_build.specs.Text.{node_lines}
use Rattle.topology_build.proofs.text.push_nodes.Given as goal

-- the lines of the nodes so far are written
abbrev pub invariant-loop-node : goal.invariant-loop-node
invariant-loop-node l = string_bytes l.out ≡ string_bytes l.initial.out ++ flat_map (node_lines l.query) (take l.node-index l.nodes)
