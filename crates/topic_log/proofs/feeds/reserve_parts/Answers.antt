use Rattle.std.proofs.Common.{◌∙◌, ◌<◌, length, get_or, refl, arith}
use Rattle.topic_log.specs.declared.shelves.PartShelf.{PartShelf}
use Rattle.topic_log.specs.Feeding.{HasShownRoom}
use Rattle.topic_log.specs.Views.{part_view}
use Rattle.topic_log.proofs.EachPlace.{EachAt-all, EachAt-next, map-written}
use Rattle.topic_log.proofs.ViewLemmas.{part_view-same, same_length}
use Rattle.topic_log.proofs.feeds.reserve_parts.Goals as goal

pub returns-in_err-reserve-clause-views : goal.returns-in_err-reserve-clause-views
returns-in_err-reserve-clause-views c =
    let parts = c.loop-index.parts.items in
    let part = c.index_mut-part.result.now in
    let put : PartShelf = record { fed = c.reserve.new.self; said = part.said; waiting = part.waiting } in
    let len = same_length part_view parts c.args.parts.now.items c.loop-index.invariant.views in
    map-written part_view parts c.loop-index.index part put (omega (arith, c.loop-index.parts.ok.0)) c.index_mut-part.ensures.value (part_view-same put part c.reserve.ensures.items refl refl)
    ∙ c.loop-index.invariant.views

pub loop-index-preserved : goal.loop-index-preserved
loop-index-preserved c =
    let parts = c.loop-index.parts.items in
    let i = c.loop-index.index in
    let part = c.index_mut-part.result.now in
    let put : PartShelf = record { fed = c.reserve.new.self; said = part.said; waiting = part.waiting } in
    let len = same_length part_view parts c.args.parts.now.items c.loop-index.invariant.views in
    let inside : i < length parts = omega (arith, c.loop-index.parts.ok.0) in
    record {
      views = map-written part_view parts i part put inside c.index_mut-part.ensures.value (part_view-same put part c.reserve.ensures.items refl refl) ∙ c.loop-index.invariant.views;
      rooms = EachAt-next (λ q part. HasShownRoom (get_or c.args.counts.now q 0) part) parts i put inside c.loop-index.invariant.rooms
          (omega (arith, c.in_ok-reserve.ensures.ok, c.reserve.new.self.ok.0));
    }

pub returns-clause-rooms : goal.returns-clause-rooms
returns-clause-rooms c =
    EachAt-all (λ q part. HasShownRoom (get_or c.args.counts.now q 0) part) c.loop-index.parts.items c.loop-index.index
    (same_length part_view c.loop-index.parts.items c.args.parts.now.items c.loop-index.invariant.views ∙ c.requires ∙ omega arith) c.loop-index.invariant.rooms
