use Rattle.std.proofs.Common.{◌≡◌, drop}
use Rattle.schedule_text.specs.Steps.{topic_number}
use Rattle.schedule_text.proofs.standing.topic_number.Given as goal

-- the relations so far aren't of the topic
abbrev pub invariant-loop-item : goal.invariant-loop-item
invariant-loop-item l = topic_number l.items l.topic ≡ topic_number (drop l.item-index l.items) l.topic
