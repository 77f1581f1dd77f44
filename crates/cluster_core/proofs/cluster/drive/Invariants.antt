use Rattle.cluster_core.proofs.Driving.{IsDriven}
use Rattle.cluster_core.proofs.cluster.drive.Given as goal

-- the cluster has come through the first lines
abbrev pub invariant-loop-step : goal.invariant-loop-step
invariant-loop-step l = IsDriven l.program.items l.fn.files.items l.fn.workers l.step-items l.step-index l.cluster
