use Rattle.std.proofs.Common.{length, ◌-◌, ◌≡◌, ◌≤◌, take}
use Rattle.ksql_outside.specs.Outside.{followed_by}
use Rattle.ksql_outside.proofs.sink.write_whole.Given as goal

-- the first `done` bytes of the piece were written, and the count didn't fall
abbrev pub invariant-loop-done : goal.invariant-loop-done
invariant-loop-done g l = (l.done ≤ length l.piece)
    × (g.K.Sink.written l.out ≡ followed_by (g.K.Sink.written l.fn.out) (take l.done l.piece))
    × (g.K.Sink.faults l.fn.out ≤ g.K.Sink.faults l.out)

abbrev pub decreases-loop-done : goal.decreases-loop-done
decreases-loop-done g l = length l.piece - l.done
