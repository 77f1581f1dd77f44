use Rattle.std.proofs.Common.{◌≡◌, ◌+◌, ◌≤◌, ◌++◌, List, length}
use Rattle.std.specs.Vec.Iter.{into_iter_items}
use Rattle.topology.specs.declared.stage.Stage.{Stage}
use Rattle.topology.specs.Topologies.{subs_from, topics_from}
use Rattle.topology_build.proofs.building.Parts.push_stages.Given as goal

-- what is appended so far, and what remains, is what is appended in all
abbrev pub invariant-loop-stage : goal.invariant-loop-stage
invariant-loop-stage l =
    let n = l.numbering in
    let items = n.program.now.items in
    let left : List Stage = into_iter_items l.stage-iterator in
    record {
      subs : l.self.subs.items ++ subs_from items n.query n.first n.cuts.now (length l.self.subs.items) left
          ≡ l.fn.self.subs.items ++ subs_from items n.query n.first n.cuts.now (length l.fn.self.subs.items) l.fn.stages;
      cuts : l.self.cuts.items ++ topics_from (length items + length l.self.cuts.items) (length l.self.subs.items) n.out.now.name left
          ≡ l.fn.self.cuts.items ++ topics_from (length items + length l.fn.self.cuts.items) (length l.fn.self.subs.items) n.out.now.name l.fn.stages;
      few_subs : length l.self.subs.items + length left ≤ length l.fn.self.subs.items + length l.fn.stages;
      few_cuts : length l.self.cuts.items + length left ≤ length l.fn.self.cuts.items + length l.fn.stages;
    }
