use Rattle.std.proofs.Common.{◌≡◌, ◌+◌, ◌*◌, ◌≤◌, ◌++◌, length, drop}
use Rattle.topology.specs.Topologies.{cut_topics, subs, subs_of}
use Rattle.topology_build.proofs.building.parts_of.Given as goal

-- what is built so far, and what remains, is what is built in all
abbrev pub invariant-loop-number : goal.invariant-loop-number
invariant-loop-number l =
    let items = l.program.items in
    record {
      subs : l.parts.subs.items ++ subs_of items l.number (length items + length l.parts.cuts.items) (length l.parts.subs.items) (drop l.number items) ≡ subs items;
      cuts : l.parts.cuts.items ++ cut_topics items (length items + length l.parts.cuts.items) (length l.parts.subs.items) (drop l.number items) ≡ cut_topics items (length items) 0 items;
      few_subs : length l.parts.subs.items ≤ 3 * l.number;
      few_cuts : length l.parts.cuts.items ≤ 2 * l.number;
    }
