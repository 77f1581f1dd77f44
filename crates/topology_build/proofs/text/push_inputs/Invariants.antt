use Rattle.std.proofs.Common.{◌≡◌, ◌++◌, flat_map, take, string_bytes}
use Rattle.topology_build.specs.Text.{read_line}
use Rattle.topology_build.proofs.text.push_inputs.Given as goal

-- the lines of the inputs so far are written
abbrev pub invariant-loop-input : goal.invariant-loop-input
invariant-loop-input l = string_bytes l.out ≡ string_bytes l.initial.out ++ flat_map (read_line l.topics) (take l.input-index l.inputs)
