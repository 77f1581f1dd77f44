use Rattle.std.proofs.Common.{◌≡◌, ◌∙◌, ℕ, List, length, ap, subst, sym, arith}
use Rattle.ksql_place.specs.declared.change.Change.{Change}
use Rattle.topic_log.specs.Taking.{AreRooms, KeepsLogRoom, count_to}
use Rattle.topic_log.specs.Views.{EachAt}
use Rattle.topic_log.proofs.KeptRoom.{topic-rooms-same, zip-same}
use Rattle.topic_log.proofs.Rooms.{rooms-counted}
use Rattle.topic_log.proofs.prepared.take_room.Goals as goal

pub returns-clause-rooms : goal.returns-clause-rooms
returns-clause-rooms c =
    let n = c.args.topic.now.spec.partitions in
    let outputs : List Change = c.items-outputs.result.now in
    let counts : List ℕ = c.as_slice.result.now in
    let rooms = c.in_ok-rooms.rooms in
    let lent : counts ≡ c.in_ok-counts.counts.items = c.as_slice.ensures.value in
    let counted : EachAt (λ q count. count ≡ count_to n outputs q) counts =
    subst (EachAt (λ q count. count ≡ count_to n outputs q)) (sym lent) c.in_ok-counts.ensures.counts in
    subst (λ (xs : List Change). AreRooms n xs rooms) c.items-outputs.ensures
    (rooms-counted n outputs counts rooms (ap length lent ∙ c.in_ok-counts.ensures.len) counted c.in_ok-rooms.ensures.len c.in_ok-rooms.ensures.whole c.in_ok-rooms.ensures.lists)

pub returns-in_err-counts-clause-kept : goal.returns-in_err-counts-clause-kept
returns-in_err-counts-clause-kept c = topic-rooms-same c.args.topic.now

pub returns-in_err-rooms-clause-kept : goal.returns-in_err-rooms-clause-kept
returns-in_err-rooms-clause-kept c = topic-rooms-same c.args.topic.now

pub returns-in_err-reserve_parts-clause-kept : goal.returns-in_err-reserve_parts-clause-kept
returns-in_err-reserve_parts-clause-kept c = record { parts = c.reserve_parts.ensures.kept; logs = zip-same KeepsLogRoom (λ k. omega arith) c.args.topic.now.tasks.items }
