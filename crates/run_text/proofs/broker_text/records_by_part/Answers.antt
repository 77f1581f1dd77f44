use Rattle.std.proofs.Common.{◌∙◌, ◌++◌, List, ap, ap₂, sym}
use Rattle.ksql_place.specs.declared.change.SourceRecord.{SourceRecord}
use Rattle.run_text.specs.Shown.{entries_at, records_in}
use Rattle.run_text.proofs.ShownLemmas.{parts-more, records_in-entries, topic-inside}
use Rattle.run_text.proofs.broker_text.records_by_part.Goals as goal

pub partitions-part-end-requires : goal.partitions-part-end-requires
partitions-part-end-requires c = topic-inside c.args.broker.now c.args.relation.now c.requires

pub visible-requires : goal.visible-requires
visible-requires c = c.partitions-part-end.ensures.parts c.loop-part.part c.loop-part-test.true

pub loop-part-preserved : goal.loop-part-preserved
loop-part-preserved c =
    c.in_ok-push_records.ensures
    ∙ ap₂ (λ (rs more : List SourceRecord). rs ++ more) c.loop-part.invariant
    (sym (records_in-entries c.visible.result.fed.now c.visible.result.said.now) ∙ ap records_in c.visible.ensures.value)
    ∙ sym (parts-more (λ q. records_in (entries_at c.args.broker.now c.args.relation.now q)) c.loop-part.part)
