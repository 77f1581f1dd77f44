use Rattle.std.proofs.Common.{refl, ◌≡◌, ◌∙◌, ◌+◌, ◌<◌, arith, Some, None, get_or, [], ◌∷◌}
use Rattle.std.specs.Vec.{with_item}
use Rattle.std.proofs.lemmas.List.{map-set}
use Rattle.topic_log.specs.Commits.{waiting_lists}
use Rattle.topic_log.specs.Ready.{waiting_len}
use Rattle.topic_log.specs.declared.shelves.PartShelf.{PartShelf}
use Rattle.topic_log.proofs.Showing.{IsShowing, next_at, next_has, next_waits, show_all, show_more, show_none}
use Rattle.topic_log.proofs.commits.show_each.Goals as goal

pub loop-writer-init : goal.loop-writer-init
loop-writer-init c = show_none c.args.closed c.args.part.now c.requires.ascends c.requires.room

pub take_first-change-requires : goal.take_first-change-requires
take_first-change-requires c =
    let part = c.loop-writer.part in
    let writer = c.in-Some.writer in
    let next = next_at c.args.closed part c.as_slice.result.now (Some writer) c.as_slice.ensures.value c.in-Some.ensures in
    (next_has c.args.closed part writer c.index_mut.result.now next c.index_mut.ensures.value).1

pub push_reserved-requires : goal.push_reserved-requires
push_reserved-requires c =
    let part = c.loop-writer.part in
    let writer = c.in-Some.writer in
    let next = next_at c.args.closed part c.as_slice.result.now (Some writer) c.as_slice.ensures.value c.in-Some.ensures in
    let has = next_has c.args.closed part writer c.index_mut.result.now next c.index_mut.ensures.value in
    let rest = c.take_first-change.new.waiting.items in
    let at : get_or (waiting_lists part) writer [] ≡ c.take_first-change.result ∷ rest = has.0 ∙ c.take_first-change.ensures in
    let some : 0 < waiting_len part = next_waits part writer c.take_first-change.result rest at in
    omega (arith, some, c.loop-writer.invariant.room, part.said.ok.0)

-- the partition after a step
abbrev moved : goal.After-push_reserved → PartShelf
moved c = record { fed = c.loop-writer.part.fed; said = c.push_reserved.new.self; waiting = with_item c.loop-writer.part.waiting c.in-Some.writer c.take_first-change.new.waiting }

moves : (c : goal.After-push_reserved) → IsShowing c.args.closed c.args.part.now (moved c) × (waiting_len (moved c) + 1 ≡ waiting_len c.loop-writer.part)
moves c =
    let part = c.loop-writer.part in
    let writer = c.in-Some.writer in
    let next = next_at c.args.closed part c.as_slice.result.now (Some writer) c.as_slice.ensures.value c.in-Some.ensures in
    let has = next_has c.args.closed part writer c.index_mut.result.now next c.index_mut.ensures.value in
    let rest = c.take_first-change.new.waiting.items in
    let at : get_or (waiting_lists part) writer [] ≡ c.take_first-change.result ∷ rest = has.0 ∙ c.take_first-change.ensures in
    show_more c.args.closed c.args.part.now part (moved c) writer c.take_first-change.result rest c.loop-writer.invariant next at
    (map-set (λ w. w.items) part.waiting.items writer c.take_first-change.new.waiting) refl c.push_reserved.ensures.items c.push_reserved.ensures.capacity

pub loop-writer-smaller : goal.loop-writer-smaller
loop-writer-smaller c = let fewer = (moves c).1 in omega (arith, fewer)

pub loop-writer-preserved : goal.loop-writer-preserved
loop-writer-preserved c = (moves c).0

pub returns-clause-fed : goal.returns-clause-fed
returns-clause-fed c = c.loop-writer.invariant.fed

pub returns-clause-said : goal.returns-clause-said
returns-clause-said c =
    (show_all c.args.closed c.args.part.now c.loop-writer.part c.loop-writer.invariant
    (next_at c.args.closed c.loop-writer.part c.as_slice.result.now None c.as_slice.ensures.value c.in_default.ensures)).0

pub returns-clause-waiting : goal.returns-clause-waiting
returns-clause-waiting c =
    (show_all c.args.closed c.args.part.now c.loop-writer.part c.loop-writer.invariant
    (next_at c.args.closed c.loop-writer.part c.as_slice.result.now None c.as_slice.ensures.value c.in_default.ensures)).1
