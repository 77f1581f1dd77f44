use Rattle.std.proofs.Common.{Global, ◌≡◌, ◌∙◌, ◌+◌, ap, sum, map, length, List, arith}
use Rattle.std.specs.declared.collections.VecDeque.{VecDeque}
use Rattle.std.proofs.lemmas.Result.{on_ok_weaker}
use Rattle.ksql_place.specs.declared.change.Change.{Change}
use Rattle.topic_log.proofs.prepared.reserve_part.Goals as goal

pub returns-clause-room : goal.returns-clause-room
returns-clause-room c = on_ok_weaker c.reserve_shown.result (λ room.
    let coming : c.in_ok-coming.coming ≡ sum (map (λ w. length w.items) c.reserve_waiting.new.waiting.items) + c.args.more =
    c.in_ok-coming.ensures ∙ ap (λ (ws : List (VecDeque Change Global)). sum (map (λ w. length w.items) ws) + c.args.more) c.as_slice.ensures.value in
    record { shown = omega (arith, room, coming); waiting = c.in_ok-reserve_waiting.ensures.room }) c.reserve_shown.ensures.room
