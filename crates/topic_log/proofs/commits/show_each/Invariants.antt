use Rattle.topic_log.proofs.Showing.{IsShowing}
use Rattle.topic_log.specs.Ready.{waiting_len}
use Rattle.topic_log.proofs.commits.show_each.Given as goal

abbrev pub invariant-loop-writer : goal.invariant-loop-writer
invariant-loop-writer l = IsShowing l.closed l.fn.part l.part

abbrev pub decreases-loop-writer : goal.decreases-loop-writer
decreases-loop-writer l = waiting_len l.part
