use Rattle.std.proofs.Common.{◌∙◌, ap, ap₂, sym, ℕ}
use Rattle.std.specs.BTreeMap.{get}
use Rattle.std.specs.Ordering.{nat_cmp}
use Rattle.std.specs.Prelude.{max, unwrap_or}
use Rattle.topology.specs.declared.topology.Sub.{Sub}
use Rattle.topology.proofs.Depths.{greatest-more}
use Rattle.topology.proofs.tasks.longest.Goals as goal

pub loop-sub-preserved : goal.loop-sub-preserved
loop-sub-preserved c =
    let sub : Sub = c.sub-item.result in
    let depth : Sub → ℕ = λ s. unwrap_or (get nat_cmp c.args.depths.now s.output) 0 in
    c.max-longest.ensures
    ∙ ap₂ max c.loop-sub.invariant (c.depth_of.ensures ∙ ap depth c.sub-item.is)
    ∙ sym (greatest-more depth c.args.subs.now c.loop-sub.sub-index sub c.loop-sub-test.true)
