use Rattle.std.proofs.Common.{◌≡◌, ℕ, ◌≤◌, drop, length}
use Rattle.std.specs.BTreeMap.{get}
use Rattle.std.specs.Ordering.{nat_cmp}
use Rattle.std.specs.Prelude.{unwrap_or}
use Rattle.core_state.specs.Routes.{topic_from}
use Rattle.topic_log.proofs.opening.written_topics.Given as goal

-- what is noted is what the topics from there on are written by
abbrev pub invariant-loop-after : goal.invariant-loop-after
invariant-loop-after l = record {
  within : l.after ≤ length l.topics;
  noted : (sub : ℕ) → unwrap_or (get nat_cmp l.written sub) (length l.topics) ≡ topic_from l.after (drop l.after l.topics) sub;
}

abbrev pub decreases-loop-after : goal.decreases-loop-after
decreases-loop-after l = l.after
