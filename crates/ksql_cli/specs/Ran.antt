-- The cluster that a command leaves.
use Rattle.std.specs.Prelude.{◌≡◌, ℕ, List, Option, None, Some}
use Rattle.std.specs.Option.{IsSomeAnd}
use Rattle.cluster_core.specs.Cluster.{HasCome}
use Rattle.cluster_core.specs.declared.cluster.Cluster.{Cluster}
use Rattle.command_line.specs.Words.{command_of}
use Rattle.command_line.specs.declared.asked.Command.{Command}
use Rattle.command_line.specs.declared.asked.Command.TheVariants.{Run as run_words, Demo}
use Rattle.ksql_cli.specs.declared.status.Status.{Status}
use Rattle.ksql_cli.specs.declared.status.Status.TheVariants as ended
use Rattle.ksql_cli.specs.Command.{Files, Runs, demo_asked, demo_files}
use Rattle.ksql_cli.specs.Run.{Run, progress_of}

-- the cluster of the run's program has taken all its steps: it has the broker, the tasks and the journal of the whole
-- run, and its state is good
abbrev pub HasRun : Run → Cluster → Type 0
HasRun run cluster = HasCome run.program.items (progress_of run) cluster

-- what a command leaves if its own text was begun: for a run and a demo the cluster that ran, else none
abbrev pub LeavesCluster : Option Command → Files → Option Cluster → Type 0
LeavesCluster (Some (run_words script topics workers schedule trace)) all ran =
    (run : Run) × Runs (record { script = script; topics = topics; workers = workers; schedule = schedule; trace = trace }) all run × IsSomeAnd ran (HasRun run)
LeavesCluster (Some (Demo records workers)) all ran = (run : Run) × Runs (demo_asked workers) (demo_files records) run × IsSomeAnd ran (HasRun run)
LeavesCluster _ all ran = ran ≡ None

abbrev pub Leaves : List (List ℕ) → Files → Status → Option Cluster → Type 0
Leaves words all ended.Done ran = LeavesCluster (command_of words) all ran
Leaves words all ended.WriteFault ran = LeavesCluster (command_of words) all ran
Leaves words all _ ran = ran ≡ None
