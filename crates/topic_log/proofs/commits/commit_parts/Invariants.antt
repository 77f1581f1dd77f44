use Rattle.std.proofs.Common.{vec_len}
use Rattle.topic_log.proofs.Parts.{IsCommitting}
use Rattle.topic_log.proofs.commits.commit_parts.Given as goal

abbrev pub invariant-loop-changes : goal.invariant-loop-changes
invariant-loop-changes l = IsCommitting l.closed l.writer (vec_len l.sent) l.fn.sent.items l.sent.items l.fn.parts l.parts

abbrev pub decreases-loop-changes : goal.decreases-loop-changes
decreases-loop-changes l = vec_len l.sent
