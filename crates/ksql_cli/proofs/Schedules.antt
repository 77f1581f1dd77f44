-- A cluster takes the steps of a schedule that is read.
use Rattle.std.proofs.Common.{◌≡◌, ℕ, List}
use Rattle.std.specs.Prelude.{All, Ok, None, Some}
use Rattle.std.proofs.lemmas.List.Elements.{All-weaker}
use Rattle.ksql_program.specs.declared.program.Item.{Item}
use Rattle.topology.specs.declared.schedule.Lined.{Lined}
use Rattle.topology.specs.declared.schedule.Step.{Step}
use Rattle.topology.specs.declared.schedule.Step.TheVariants as step
use Rattle.topology.specs.declared.topology.Topology.{Topology}
use Rattle.schedule_text.specs.Schedules.{IsSteady, schedule_of}
use Rattle.schedule_text.proofs.Taken.{schedule-steady}
use Rattle.cluster_core.specs.Cluster.{IsBuilt}

steady-built : (taken : Step) → IsSteady taken → IsBuilt taken
steady-built step.FeedAll h = tt
steady-built (step.Feed counts) h = tt
steady-built (step.Round lost None) h = tt
steady-built (step.Round lost (Some stalled)) h = absurd h
steady-built (step.Start worker) h = tt
steady-built (step.Stop worker) h = tt
steady-built (step.Lose task) h = tt
steady-built (step.Wake worker) h = absurd h
steady-built step.Drain h = tt

pub schedule-built : (items : List Item) (t : Topology) (workers : ℕ) (text : List ℕ) (steps : List Lined) → schedule_of items t workers text ≡ Ok steps → All (λ l. IsBuilt l.step) steps
schedule-built items t workers text steps is =
    All-weaker (λ (l : Lined). IsSteady l.step) (λ (l : Lined). IsBuilt l.step) (λ l h. steady-built l.step h) steps (schedule-steady items t workers text steps is)
