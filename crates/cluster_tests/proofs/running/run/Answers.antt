use Rattle.std.proofs.Common.{subst, sym}
use Rattle.std.specs.Prelude.{All}
use Rattle.topology.specs.declared.schedule.Lined.{Lined}
use Rattle.cluster_core.specs.Cluster.{IsBuilt}
use Rattle.cluster_tests.proofs.Numbering.{built-numbered}
use Rattle.cluster_tests.proofs.running.run.Goals as goal

pub drive-requires-clause-built : goal.drive-requires-clause-built
drive-requires-clause-built c =
    subst (All (λ (l : Lined). IsBuilt l.step)) (sym c.in_ok-schedule.ensures) (built-numbered 1 c.args.steps.items c.requires)
