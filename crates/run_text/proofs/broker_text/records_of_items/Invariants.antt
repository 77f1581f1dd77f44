use Rattle.std.proofs.Common.{◌≡◌, map, take}
use Rattle.run_text.specs.Shown.{declared_records}
use Rattle.run_text.specs.Standings.{records_lent}
use Rattle.run_text.proofs.broker_text.records_of_items.Given as goal

-- the records of the items so far are there
abbrev pub invariant-loop-item : goal.invariant-loop-item
invariant-loop-item l = map records_lent l.records.items ≡ map (declared_records l.broker) (take l.item-index l.items)
