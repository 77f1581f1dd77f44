use Rattle.std.proofs.Common.{◌∙◌, ap₂, sym, ℕ}
use Rattle.std.specs.BTreeMap.{get}
use Rattle.std.specs.Ordering.{nat_cmp}
use Rattle.std.specs.Prelude.{max, unwrap_or}
use Rattle.topology.specs.declared.topology.SubInput.{SubInput}
use Rattle.topology.proofs.Depths.{greatest-more}
use Rattle.topology.proofs.tasks.deepest.Goals as goal

pub loop-input-preserved : goal.loop-input-preserved
loop-input-preserved c =
    let none : SubInput = record { topic = 0; relation = 0; keys = 0 } in
    let depth : SubInput → ℕ = λ input. unwrap_or (get nat_cmp c.args.depths.now input.topic) 0 in
    c.max-deepest.ensures
    ∙ ap₂ max c.loop-input.invariant c.depth_of.ensures
    ∙ sym (greatest-more depth c.args.inputs.now c.loop-input.input-index none c.loop-input-test.true)
