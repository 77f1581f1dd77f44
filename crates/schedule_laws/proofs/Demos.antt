-- The demo's summary is the same for each number of workers.
use Rattle.std.proofs.Common.{◌≡◌, ◌∙◌, ap, sym, subst, ℕ, ◌≤◌, true, false, List, codes, length}
use Rattle.std.specs.Prelude.{Option, Some}
use Rattle.command_line.proofs.Limits.{within_limits}
use Rattle.command_line.specs.Words.{command_of}
use Rattle.command_line.specs.declared.asked.Command.{Command}
use Rattle.command_line.specs.declared.asked.Command.TheVariants.{Demo}
use Rattle.ksql_program.specs.declared.program.Program.{Program}
use Rattle.topic_files.specs.Lines.{lines_of}
use Rattle.topology.specs.Topologies.{topology_of}
use Rattle.demo_files.specs.Demo.{demo_schedule}
use Rattle.schedule_text.specs.Schedules.{lined_steps}
use Rattle.schedule_text.proofs.Taken.{schedule-accepted}
use Rattle.ksql_cli.specs.Command.{Files, HasText, HasTextFor, IsScheduled, Runs, demo_asked, demo_files}
use Rattle.ksql_cli.specs.Run.{Run, summary_of}
use Rattle.schedule_laws.specs.Drained.{feeds_of, is_drained}
use Rattle.schedule_laws.specs.Reports.{EndsDrained}
use Rattle.schedule_laws.proofs.Alike.{same-summary}
use Rattle.schedule_laws.proofs.Commands.{one-bytes, one-files, one-program, other-workers, runs-ends, runs-sound}
use Rattle.schedule_laws.proofs.Demo.{demo-drains, demo-read}

module _ (records : ℕ) (few : records ≤ 100000) where
  -- the steps of a demo end drained
  drains : (workers : ℕ) (run : Run) → Runs (demo_asked workers) (demo_files records) run → is_drained run.steps ≡ true
  drains workers run runs =
      let bytes : runs.steps.0 ≡ demo_schedule records = one-bytes (codes "schedule") (demo_files records) runs.steps.0 (demo_schedule records) runs.steps.1 (demo-read records few) in
      ap is_drained (schedule-accepted run.program.items (topology_of run.program.items) workers runs.steps.0 run.steps runs.steps.2).1
      ∙ ap (λ (text : List ℕ). is_drained (lined_steps run.program.items 0 (lines_of text))) bytes
      ∙ demo-drains run.program.items records

  module _ (workers more : ℕ) (some : 1 ≤ workers) (others : 1 ≤ more) (a b : Run) (first : Runs (demo_asked workers) (demo_files records) a)
      (second : Runs (demo_asked more) (demo_files records) b) where
    program : a.program ≡ b.program
    program = one-program (demo_files records) (codes "script.sql") (codes ".") workers more (Some (codes "schedule")) (Some (codes "schedule")) false false a b first second

    steps : a.steps ≡ b.steps
    steps =
        other-workers (Some (codes "schedule")) workers more (demo_files records) b.program a.steps b.steps
        (subst (λ (p : Program). IsScheduled (Some (codes "schedule")) workers (demo_files records) p a.steps) program first.steps) second.steps

    ends : (n : ℕ) → 1 ≤ n → (run : Run) → Runs (demo_asked n) (demo_files records) run → EndsDrained run
    ends n live run runs = runs-ends (codes "script.sql") (codes ".") n (Some (codes "schedule")) false (demo_files records) run runs live (drains n run runs)

    pub demos : summary_of a ≡ summary_of b
    demos =
        same-summary a b (runs-sound (codes "script.sql") (codes ".") workers (Some (codes "schedule")) false (demo_files records) a first) program
        (one-files (demo_files records) (codes "script.sql") (codes ".") workers more (Some (codes "schedule")) (Some (codes "schedule")) false false a b first second)
        (ap feeds_of steps) (ends workers some a first) (ends more others b second)

pub same-demo : (words others : List (List ℕ)) (all : Files) (records workers more : ℕ) (text same : List ℕ) →
    command_of words ≡ Some (Demo records workers) → command_of others ≡ Some (Demo records more) → HasText words all text → HasText others all same → text ≡ same
same-demo words others all records workers more text same first second has have =
    let one = within_limits words (Demo records workers) first in
    let other = within_limits others (Demo records more) second in
    let a : HasTextFor (Some (Demo records workers)) all text = subst (λ (o : Option Command). HasTextFor o all text) first has in
    let b : HasTextFor (Some (Demo records more)) all same = subst (λ (o : Option Command). HasTextFor o all same) second have in
    a.2 ∙ demos records one.0.1 workers more one.1.0 other.1.0 a.0 b.0 a.1 b.1 ∙ sym b.2
