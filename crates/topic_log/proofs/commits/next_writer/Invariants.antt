use Rattle.std.proofs.Common.{map, option_map}
use Rattle.topic_log.proofs.Choice.{IsBest, dues}
use Rattle.topic_log.proofs.commits.next_writer.Given as goal

abbrev pub invariant-loop-writer : goal.invariant-loop-writer
invariant-loop-writer l = IsBest (dues l.closed (map (λ w. w.items) l.waiting)) l.writer l.next (option_map (λ x. x.now) l.best)
