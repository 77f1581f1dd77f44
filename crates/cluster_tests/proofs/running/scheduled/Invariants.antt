use Rattle.std.proofs.Common.{◌≡◌, length}
use Rattle.cluster_tests.specs.Runs.{numbered}
use Rattle.cluster_tests.proofs.running.scheduled.Given as goal

-- the steps so far; the last one has this line
abbrev pub invariant-loop-step : goal.invariant-loop-step
invariant-loop-step l = record { line : l.line ≡ length l.yielded; lined : l.lined.items ≡ numbered 1 l.yielded }
