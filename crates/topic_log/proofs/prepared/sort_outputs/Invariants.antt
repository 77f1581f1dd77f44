use Rattle.std.proofs.Common.{◌≡◌, length}
use Rattle.std.specs.Vec.Iter.{into_iter_items}
use Rattle.topic_log.specs.Views.{EachAt}
use Rattle.topic_log.proofs.Rooms.{WillHave}
use Rattle.topic_log.proofs.prepared.sort_outputs.Given as goal

-- with the outputs that are left each list becomes what goes there
abbrev pub invariant-loop-output : goal.invariant-loop-output
invariant-loop-output l = record {
  len : length l.rooms.items ≡ l.parts;
  rooms : EachAt (WillHave l.parts l.fn.outputs.items (into_iter_items l.output-iterator)) l.rooms.items;
}
