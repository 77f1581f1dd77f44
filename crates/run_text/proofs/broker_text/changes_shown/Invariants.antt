use Rattle.std.proofs.Common.{◌≡◌, flat_map, map}
use Rattle.std.specs.List.{range_with_len}
use Rattle.run_text.specs.Shown.{standing_at}
use Rattle.run_text.specs.Standings.{standing_of}
use Rattle.run_text.proofs.broker_text.changes_shown.Given as goal

-- the changes of the partitions so far are there
abbrev pub invariant-loop-part : goal.invariant-loop-part
invariant-loop-part l = map standing_of l.changes.items ≡ flat_map (standing_at l.broker l.relation) (range_with_len 0 l.part)
