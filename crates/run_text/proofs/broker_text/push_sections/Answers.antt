use Rattle.std.proofs.Common.{◌≡◌, ◌∙◌, Bor, List, ap, arith, length, map}
use Rattle.ksql_place.specs.declared.change.SourceRecord.{SourceRecord}
use Rattle.run_text.specs.Shown.{declared_records}
use Rattle.run_text.specs.Standings.{records_lent}
use Rattle.run_text.proofs.ShownLemmas.{alike-at, alike-long, topic-at}
use Rattle.run_text.proofs.broker_text.push_sections.Goals as goal

pub push_item_section-requires-clause-topic : goal.push_item_section-requires-clause-topic
push_item_section-requires-clause-topic c =
    topic-at c.args.broker.now c.args.items.now c.loop-number.number c.index-items-number.result c.requires.topics c.loop-number-test.true c.index-items-number.is

pub push_item_section-requires-clause-records : goal.push_item_section-requires-clause-records
push_item_section-requires-clause-records c =
    let long : length c.args.records.now ≡ length c.args.items.now =
    alike-long records_lent (declared_records c.args.broker.now) c.args.records.now c.args.items.now c.requires.records in
    ap (λ (rs : List (Bor SourceRecord)). map (λ (r : Bor SourceRecord). r.now) rs) c.as_slice-of_topic.ensures.value
    ∙ alike-at records_lent (declared_records c.args.broker.now) c.args.records.now c.args.items.now c.loop-number.number
    c.index-records-number.result c.index-items-number.result (omega (arith, long, c.loop-number-test.true)) c.loop-number-test.true
    c.index-records-number.is c.index-items-number.is c.requires.records
