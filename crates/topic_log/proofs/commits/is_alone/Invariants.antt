use Rattle.std.proofs.Common.{◌≡◌, ◌⊎◌, ◌<◌, ℕ, [], map, get_or}
use Rattle.topic_log.proofs.commits.is_alone.Given as goal

abbrev pub invariant-loop-number : goal.invariant-loop-number
invariant-loop-number l = (k : ℕ) → k < l.number → (k ≡ l.writer) ⊎ (get_or (map (λ w. w.items) l.waiting) k [] ≡ [])
