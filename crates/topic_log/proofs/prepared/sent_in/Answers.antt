use Rattle.std.proofs.Common.{◌<◌, ◌≡◌, length, arith}
use Rattle.topic_log.specs.Taking.{count_to}
use Rattle.topic_log.proofs.OneTopic.{IfSome-at}
use Rattle.topic_log.proofs.Rooms.{put-whole}
use Rattle.topic_log.proofs.prepared.sent_in.Goals as goal

pub returns-in-Some-clause-sent : goal.returns-in-Some-clause-sent
returns-in-Some-clause-sent c =
    let n = c.args.parts in
    let rooms = c.args.rooms in
    let part = c.in-Some.part in
    let whole = IfSome-at (λ part. (part < n) × (count_to n c.args.outputs.items part ≡ length c.args.outputs.items)) rooms.whole part c.in-Some.is c.requires.rooms.whole in
    put-whole n c.args.outputs rooms.lists.items part (omega (arith, whole.0, c.requires.rooms.len)) whole.1 (λ k d below. (c.requires.rooms.lists k d below).0)
