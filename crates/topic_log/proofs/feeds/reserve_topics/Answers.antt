use Rattle.std.proofs.Common.{◌≡◌, ◌∙◌, ◌<◌, ℕ, List, length, get_or, refl, subst, sym, arith}
use Rattle.std.specs.Prelude.{IfSome, slice_get}
use Rattle.std.specs.Global.{Vec}
use Rattle.topic_log.specs.declared.shelves.TopicShelf.{TopicShelf}
use Rattle.topic_log.specs.Feeding.{HasShownRoom}
use Rattle.topic_log.specs.Views.{EachAt, topic_view}
use Rattle.topic_log.proofs.Counted.{parts-same}
use Rattle.topic_log.proofs.EachPlace.{EachAt-all, EachAt-next, IfSome-read, map-written}
use Rattle.topic_log.proofs.ViewLemmas.{same_length, topic_view-same}
use Rattle.topic_log.proofs.feeds.reserve_topics.Goals as goal

pub reserve_parts-requires : goal.reserve_parts-requires
reserve_parts-requires c =
    let topics : List TopicShelf = c.loop-index.topics.items in
    let i = c.loop-index.index in
    let t = c.index_mut-topic.result.now in
    let ns : Vec ℕ = c.index-counts-index.result in
    let len = same_length topic_view topics c.args.topics.now.items c.loop-index.invariant.views in
    parts-same topics c.args.topics.now.items i t c.loop-index.invariant.views (omega (arith, c.requires.len)) c.index_mut-topic.ensures.value (length ns.items)
    (subst (λ (v : Vec ℕ). IfSome (slice_get c.args.topics.now.items i) (λ t. length v.items ≡ length t.parts.items)) (sym c.index-counts-index.is) (c.requires.parts i ns (omega arith)))
    ∙ sym (c.as_slice.ensures.len ∙ ns.ok.0)

pub returns-in_err-reserve_parts-clause-views : goal.returns-in_err-reserve_parts-clause-views
returns-in_err-reserve_parts-clause-views c =
    let topics : List TopicShelf = c.loop-index.topics.items in
    let t = c.index_mut-topic.result.now in
    let put : TopicShelf = record { spec = t.spec; parts = c.reserve_parts.new.parts; tasks = t.tasks } in
    let len = same_length topic_view topics c.args.topics.now.items c.loop-index.invariant.views in
    map-written topic_view topics c.loop-index.index t put (omega (arith, c.requires.len)) c.index_mut-topic.ensures.value (topic_view-same put t refl c.reserve_parts.ensures.views refl)
    ∙ c.loop-index.invariant.views

pub loop-index-preserved : goal.loop-index-preserved
loop-index-preserved c =
    let topics : List TopicShelf = c.loop-index.topics.items in
    let i = c.loop-index.index in
    let t = c.index_mut-topic.result.now in
    let ns : Vec ℕ = c.index-counts-index.result in
    let put : TopicShelf = record { spec = t.spec; parts = c.reserve_parts.new.parts; tasks = t.tasks } in
    let len = same_length topic_view topics c.args.topics.now.items c.loop-index.invariant.views in
    let inside : i < length topics = omega (arith, c.requires.len) in
    let room : EachAt (λ q part. HasShownRoom (get_or ns.items q 0) part) put.parts.items =
    subst (λ (xs : List ℕ). EachAt (λ q part. HasShownRoom (get_or xs q 0) part) put.parts.items) c.as_slice.ensures.value c.in_ok-reserve_parts.ensures.rooms in
    record {
      views = map-written topic_view topics i t put inside c.index_mut-topic.ensures.value (topic_view-same put t refl c.reserve_parts.ensures.views refl) ∙ c.loop-index.invariant.views;
      rooms = EachAt-next (λ topic t. IfSome (slice_get c.args.counts.now topic) (λ of_topic. EachAt (λ q part. HasShownRoom (get_or of_topic.items q 0) part) t.parts.items)) topics i put inside
          c.loop-index.invariant.rooms
          (IfSome-read (λ (of_topic : Vec ℕ). EachAt (λ q part. HasShownRoom (get_or of_topic.items q 0) part) put.parts.items) c.args.counts.now i ns (omega arith) c.index-counts-index.is room);
    }

pub returns-clause-rooms : goal.returns-clause-rooms
returns-clause-rooms c =
    EachAt-all (λ topic t. IfSome (slice_get c.args.counts.now topic) (λ of_topic. EachAt (λ q part. HasShownRoom (get_or of_topic.items q 0) part) t.parts.items)) c.loop-index.topics.items c.loop-index.index
    (same_length topic_view c.loop-index.topics.items c.args.topics.now.items c.loop-index.invariant.views ∙ c.requires.len ∙ omega arith) c.loop-index.invariant.rooms
