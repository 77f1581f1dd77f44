use Rattle.std.proofs.Common.{◌≡◌, ◌++◌, flat_map, take, string_bytes}
use Rattle.topology_build.specs.Text.{sub_text}
use Rattle.topology_build.proofs.text.push_subs.Given as goal

-- the lines of the sub-topologies so far are written
abbrev pub invariant-loop-sub : goal.invariant-loop-sub
invariant-loop-sub l = string_bytes l.out ≡ string_bytes l.initial.out ++ flat_map (sub_text l.items l.topics) (take l.sub-index l.subs)
