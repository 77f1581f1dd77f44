use Rattle.std.proofs.Common.{◌≡◌, ◌∙◌, ◌+◌, ℕ, List, take, refl, subst, arith}
use Rattle.std.specs.Prelude.{IfSome, slice_get}
use Rattle.std.specs.Global.{Vec}
use Rattle.std.specs.Vec.{with_item}
use Rattle.std.proofs.lemmas.List.{length-set, take_all}
use Rattle.ksql_place.specs.declared.change.SourceRecord.{SourceRecord}
use Rattle.topic_log.specs.Feeding.{IsCounted, count_in}
use Rattle.topic_log.specs.Views.{EachAt}
use Rattle.topic_log.proofs.Counted.{count-small, counted-next, counts-there}
use Rattle.topic_log.proofs.feeds.counts_of.Goals as goal

pub index_mut-requires : goal.index_mut-requires
index_mut-requires c =
    let ns = c.index_mut-of_topic.result.now in
    let next = counts-there c.args.topics.now c.args.records.now c.loop-record.record-index c.record-item.result c.loop-record.counts.items ns c.requires (omega arith) c.record-item.is c.loop-record.invariant.len
    c.index_mut-of_topic.ensures.value c.loop-record.invariant.counts in
    omega (arith, next.inside, ns.ok.0)

pub overflow_add-index_mut : goal.overflow_add-index_mut
overflow_add-index_mut c =
    let records : List SourceRecord = c.args.records.now in
    let i = c.loop-record.record-index in
    let r : SourceRecord = c.record-item.result in
    let ns = c.index_mut-of_topic.result.now in
    let next = counts-there c.args.topics.now c.args.records.now c.loop-record.record-index c.record-item.result c.loop-record.counts.items ns c.requires (omega arith) c.record-item.is c.loop-record.invariant.len
    c.index_mut-of_topic.ensures.value c.loop-record.invariant.counts in
    let count : ℕ = c.index_mut.result.now in
    let is : count ≡ count_in r.stamp.topic r.stamp.part (take i records) = c.index_mut.ensures.value ∙ next.each r.stamp.part count next.inside in
    omega (arith, is, count-small records i r.stamp.topic r.stamp.part (omega arith))

pub loop-record-preserved : goal.loop-record-preserved
loop-record-preserved c =
    let records : List SourceRecord = c.args.records.now in
    let r : SourceRecord = c.record-item.result in
    let counts : List (Vec ℕ) = c.loop-record.counts.items in
    let ns = c.index_mut-of_topic.result.now in
    let next = counts-there c.args.topics.now c.args.records.now c.loop-record.record-index c.record-item.result c.loop-record.counts.items ns c.requires (omega arith) c.record-item.is c.loop-record.invariant.len
    c.index_mut-of_topic.ensures.value c.loop-record.invariant.counts in
    let count : ℕ = c.index_mut.result.now in
    let put : Vec ℕ = with_item ns r.stamp.part (count + 1) in
    record {
      len = length-set counts r.stamp.topic put ∙ c.loop-record.invariant.len;
      counts = counted-next records c.loop-record.record-index r (omega arith) c.record-item.is c.args.topics.now counts ns put count next.within c.index_mut-of_topic.ensures.value next.inside
          c.index_mut.ensures.value refl c.loop-record.invariant.counts;
    }

pub returns-clause-counts : goal.returns-clause-counts
returns-clause-counts c =
    subst (λ (rs : List SourceRecord). EachAt (λ topic of. IfSome (slice_get c.args.topics.now topic) (λ t. IsCounted topic rs t of.items)) c.loop-record.counts.items)
    (take_all c.loop-record.record-index c.args.records.now (omega arith)) c.loop-record.invariant.counts
