use Rattle.std.proofs.Common.{◌≡◌, flat_map, map}
use Rattle.std.specs.List.{range_with_len}
use Rattle.run_text.specs.Shown.{entries_at, records_in}
use Rattle.run_text.proofs.broker_text.records_by_part.Given as goal

-- the records of the partitions so far are there
abbrev pub invariant-loop-part : goal.invariant-loop-part
invariant-loop-part l = map (λ r. r.now) l.records.items ≡ flat_map (λ q. records_in (entries_at l.broker l.relation q)) (range_with_len 0 l.part)
