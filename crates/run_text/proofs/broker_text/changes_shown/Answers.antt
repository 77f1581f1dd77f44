use Rattle.std.proofs.Common.{◌∙◌, ◌++◌, List, ap, ap₂, sym}
use Rattle.run_text.specs.Shown.{changes_in, standing_at, Standing}
use Rattle.run_text.specs.Standings.{standing_in}
use Rattle.run_text.proofs.ShownLemmas.{changes_in-entries, parts-more, topic-inside}
use Rattle.run_text.proofs.broker_text.changes_shown.Goals as goal

pub partitions-part-end-requires : goal.partitions-part-end-requires
partitions-part-end-requires c = topic-inside c.args.broker.now c.args.relation.now c.requires

pub visible-requires : goal.visible-requires
visible-requires c = c.partitions-part-end.ensures.parts c.loop-part.part c.loop-part-test.true

pub loop-part-preserved : goal.loop-part-preserved
loop-part-preserved c =
    c.in_ok-push_changes.ensures
    ∙ ap₂ (λ (ss more : List Standing). ss ++ more) c.loop-part.invariant
    (ap (standing_in c.loop-part.part) (sym (changes_in-entries c.visible.result.fed.now c.visible.result.said.now) ∙ ap changes_in c.visible.ensures.value))
    ∙ sym (parts-more (standing_at c.args.broker.now c.args.relation.now) c.loop-part.part)
