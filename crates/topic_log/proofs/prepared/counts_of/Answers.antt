use Rattle.std.proofs.Common.{◌≡◌, ◌∙◌, take, arith}
use Rattle.topic_log.specs.Taking.{count_to}
use Rattle.topic_log.proofs.Rooms.{count-front}
use Rattle.topic_log.proofs.prepared.counts_of.Goals as goal

pub overflow_add-index_mut : goal.overflow_add-index_mut
overflow_add-index_mut c =
    let n = c.args.parts in
    let i = c.loop-output.output-index in
    let part = c.lane-part.result in
    let count = c.index_mut.result.now in
    let is : count ≡ count_to n (take i c.args.outputs.now) part = c.index_mut.ensures.value ∙ c.loop-output.invariant.counts part count (omega arith) in
    omega (arith, count-front n c.args.outputs.now i part (omega arith))
