-- The schedules of commands that run one script.
use Rattle.std.specs.Prelude.{◌≡◌, ℕ, List, Option, true}
use Rattle.ksql_program.specs.declared.program.Program.{Program}
use Rattle.topology.specs.declared.schedule.Lined.{Lined}
use Rattle.topology.specs.declared.schedule.Step.{Step}
use Rattle.ksql_cli.specs.Command.{Files, IsScheduled}
use Rattle.schedule_laws.specs.Drained.{feeds_of, is_drained}

-- a schedule, read with this number of workers, has these feeds and ends drained
pub record HasFeeds (schedule : Option (List ℕ)) (workers : ℕ) (all : Files) (program : Program) (feeds : List Step) : Type 0 where
  pub steps : List Lined
  pub read : IsScheduled schedule workers all program steps
  pub fed : feeds_of steps ≡ feeds
  pub drained : is_drained steps ≡ true
