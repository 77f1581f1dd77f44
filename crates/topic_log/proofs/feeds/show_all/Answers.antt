use Rattle.std.proofs.Common.{◌∷◌, List, refl, subst, arith}
use Rattle.std.specs.List.{All}
use Rattle.std.specs.Vec.{with_item}
use Rattle.std.specs.Vec.Iter.{into_iter_items}
use Rattle.std.proofs.lemmas.List.Elements.{All-head, All-tail}
use Rattle.ksql_place.specs.declared.change.SourceRecord.{SourceRecord}
use Rattle.topic_log.specs.declared.shelves.PartShelf.{PartShelf}
use Rattle.topic_log.specs.declared.shelves.TopicShelf.{TopicShelf}
use Rattle.topic_log.specs.Feeding.{IsThere, WillShowAll}
use Rattle.topic_log.proofs.Counted.{there}
use Rattle.topic_log.proofs.Shown.{count-first, part-inside, part-room, show-next, topic-inside}
use Rattle.topic_log.proofs.feeds.show_all.Goals as goal

pub index_mut-part-requires : goal.index_mut-part-requires
index_mut-part-requires c =
    let r : SourceRecord = c.in-Some.record in
    let rest : List SourceRecord = into_iter_items c.next.new.self in
    let was : List TopicShelf = c.args.topics.now.items in
    let now : List TopicShelf = c.loop-record.topics.items in
    let all : List SourceRecord = c.args.records.items in
    let left : All (IsThere was) (r ∷ rest) = subst (All (IsThere was)) c.in-Some.ensures.steps.0 c.loop-record.invariant.there in
    let shows : WillShowAll all (r ∷ rest) was now = subst (λ (rs : List SourceRecord). WillShowAll all rs was now) c.in-Some.ensures.steps.0 c.loop-record.invariant.shows in
    let here = there was r (All-head (IsThere was) r rest left) in
    let t = c.index_mut-topic.result.now in
    let inside = part-inside all (r ∷ rest) was now r.stamp.topic r.stamp.part here shows t c.index_mut-topic.ensures.value in
    omega (arith, t.parts.ok.0)

pub push_reserved-requires : goal.push_reserved-requires
push_reserved-requires c =
    let r : SourceRecord = c.in-Some.record in
    let rest : List SourceRecord = into_iter_items c.next.new.self in
    let was : List TopicShelf = c.args.topics.now.items in
    let now : List TopicShelf = c.loop-record.topics.items in
    let all : List SourceRecord = c.args.records.items in
    let left : All (IsThere was) (r ∷ rest) = subst (All (IsThere was)) c.in-Some.ensures.steps.0 c.loop-record.invariant.there in
    let shows : WillShowAll all (r ∷ rest) was now = subst (λ (rs : List SourceRecord). WillShowAll all rs was now) c.in-Some.ensures.steps.0 c.loop-record.invariant.shows in
    let here = there was r (All-head (IsThere was) r rest left) in
    let part = c.index_mut-part.result.now in
    let room = part-room all (r ∷ rest) was now r.stamp.topic r.stamp.part here shows c.index_mut-topic.result.now c.index_mut-topic.ensures.value part c.index_mut-part.ensures.value in
    omega (arith, room, count-first r rest, part.fed.ok.0)

pub loop-record-preserved : goal.loop-record-preserved
loop-record-preserved c =
    let r : SourceRecord = c.in-Some.record in
    let rest : List SourceRecord = into_iter_items c.next.new.self in
    let was : List TopicShelf = c.args.topics.now.items in
    let now : List TopicShelf = c.loop-record.topics.items in
    let all : List SourceRecord = c.args.records.items in
    let left : All (IsThere was) (r ∷ rest) = subst (All (IsThere was)) c.in-Some.ensures.steps.0 c.loop-record.invariant.there in
    let shows : WillShowAll all (r ∷ rest) was now = subst (λ (rs : List SourceRecord). WillShowAll all rs was now) c.in-Some.ensures.steps.0 c.loop-record.invariant.shows in
    let here = there was r (All-head (IsThere was) r rest left) in
    let t = c.index_mut-topic.result.now in
    let part = c.index_mut-part.result.now in
    let put : PartShelf = record { fed = c.push_reserved.new.self; said = part.said; waiting = part.waiting } in
    let next : TopicShelf = record { spec = t.spec; parts = with_item t.parts r.stamp.part put; tasks = t.tasks } in
    record {
      there = All-tail (IsThere was) r rest left;
      shows = show-next all r rest was now t next part put (topic-inside all (r ∷ rest) was now r.stamp.topic r.stamp.part here shows) c.index_mut-topic.ensures.value
          (part-inside all (r ∷ rest) was now r.stamp.topic r.stamp.part here shows t c.index_mut-topic.ensures.value) c.index_mut-part.ensures.value
          c.push_reserved.ensures.items c.push_reserved.ensures.capacity refl refl refl refl refl shows;
    }
