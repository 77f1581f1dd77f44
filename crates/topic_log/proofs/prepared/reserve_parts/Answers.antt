use Rattle.std.proofs.Common.{◌∙◌, ◌<◌, length, get_or, refl, arith}
use Rattle.topic_log.specs.Ready.{HasRoom}
use Rattle.topic_log.specs.Taking.{KeepsRoom}
use Rattle.topic_log.specs.Views.{part_view}
use Rattle.topic_log.proofs.EachPlace.{EachAt-all, EachAt-next, map-written}
use Rattle.topic_log.proofs.KeptRoom.{rooms-along, rooms-same, zip-same, zip-written}
use Rattle.topic_log.proofs.ViewLemmas.{same_length}
use Rattle.topic_log.proofs.prepared.reserve_parts.Goals as goal

pub loop-index-init : goal.loop-index-init
loop-index-init c = record { views = refl; rooms = λ k d below. absurd (omega (arith, below)); kept = zip-same KeepsRoom rooms-same c.args.parts.now.items }

pub returns-in_err-reserve_part-clause-views : goal.returns-in_err-reserve_part-clause-views
returns-in_err-reserve_part-clause-views c =
    let len = same_length part_view c.loop-index.parts.items c.args.parts.now.items c.loop-index.invariant.views in
    map-written part_view c.loop-index.parts.items c.loop-index.index c.index_mut.result.now c.reserve_part.new.part (omega (arith, c.loop-index.parts.ok.0)) c.index_mut.ensures.value c.reserve_part.ensures.view
    ∙ c.loop-index.invariant.views

pub loop-index-preserved : goal.loop-index-preserved
loop-index-preserved c =
    let parts = c.loop-index.parts.items in
    let i = c.loop-index.index in
    let len = same_length part_view parts c.args.parts.now.items c.loop-index.invariant.views in
    let inside : i < length parts = omega (arith, c.loop-index.parts.ok.0) in
    record {
      views = map-written part_view parts i c.index_mut.result.now c.reserve_part.new.part inside c.index_mut.ensures.value c.reserve_part.ensures.view ∙ c.loop-index.invariant.views;
      rooms = EachAt-next (λ q part. HasRoom c.args.writer (get_or c.args.counts.now q 0) part) parts i c.reserve_part.new.part inside c.loop-index.invariant.rooms c.in_ok-reserve_part.ensures.room;
      kept = zip-written KeepsRoom rooms-along c.args.parts.now.items parts i c.index_mut.result.now c.reserve_part.new.part inside c.index_mut.ensures.value c.reserve_part.ensures.kept c.loop-index.invariant.kept;
    }

pub returns-clause-rooms : goal.returns-clause-rooms
returns-clause-rooms c =
    EachAt-all (λ q part. HasRoom c.args.writer (get_or c.args.counts.now q 0) part) c.loop-index.parts.items c.loop-index.index
    (same_length part_view c.loop-index.parts.items c.args.parts.now.items c.loop-index.invariant.views ∙ c.requires ∙ omega arith) c.loop-index.invariant.rooms

pub returns-in_err-reserve_part-clause-kept : goal.returns-in_err-reserve_part-clause-kept
returns-in_err-reserve_part-clause-kept c =
    let len = same_length part_view c.loop-index.parts.items c.args.parts.now.items c.loop-index.invariant.views in
    zip-written KeepsRoom rooms-along c.args.parts.now.items c.loop-index.parts.items c.loop-index.index c.index_mut.result.now c.reserve_part.new.part (omega (arith, c.loop-index.parts.ok.0))
    c.index_mut.ensures.value c.reserve_part.ensures.kept c.loop-index.invariant.kept

pub returns-clause-kept : goal.returns-clause-kept
returns-clause-kept c = c.loop-index.invariant.kept
