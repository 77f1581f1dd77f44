use Rattle.std.proofs.Common.{◌≡◌, flat_map, map, take}
use Rattle.run_text.specs.Standings.{records_lent}
use Rattle.run_text.proofs.broker_text.order_of.Given as goal

-- the records of the topics so far are there
abbrev pub invariant-loop-of_topic : goal.invariant-loop-of_topic
invariant-loop-of_topic l = map (λ r. r.now) l.order.items ≡ flat_map records_lent (take l.of_topic-index l.records)
