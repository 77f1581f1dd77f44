use Rattle.std.proofs.Common.{◌∙◌, ◌<◌, List, length, subst, arith}
use Rattle.std.specs.Global.{Vec}
use Rattle.std.specs.Vec.Iter.{into_iter_items}
use Rattle.std.proofs.lemmas.List.{length-set}
use Rattle.ksql_place.specs.declared.change.Change.{Change}
use Rattle.topic_log.specs.Views.{EachAt}
use Rattle.topic_log.proofs.Rooms.{WillHave, put-next}
use Rattle.topic_log.proofs.prepared.sort_outputs.Goals as goal

pub loop-output-preserved : goal.loop-output-preserved
loop-output-preserved c =
    let n = c.args.parts in
    let x : Change = c.in-Some.output in
    let rest : List Change = into_iter_items c.next.new.self in
    let all : List Change = c.args.outputs.items in
    let rooms : List (Vec Change) = c.loop-output.rooms.items in
    let part = c.lane-part.result in
    let room : Vec Change = c.index_mut-room.result.now in
    let put : Vec Change = c.push_reserved.new.self in
    let within : part < length rooms = omega (arith, c.loop-output.invariant.len, c.lane-part.ensures.within) in
    record {
      len = length-set rooms part put ∙ c.loop-output.invariant.len;
      rooms = put-next n all x rest rooms part room put c.lane-part.ensures.value within c.index_mut-room.ensures.value c.push_reserved.ensures.items c.push_reserved.ensures.capacity
          (subst (λ (left : List Change). EachAt (WillHave n all left) rooms) c.in-Some.ensures.steps.0 c.loop-output.invariant.rooms);
    }
