use Rattle.std.proofs.Common.{◌∙◌, ap, refl, subst, sym, ℕ, Global, Vec}
use Rattle.std.specs.Prelude.{All}
use Rattle.ksql_program.specs.Program.{relations}
use Rattle.topic_log.specs.declared.broker.Broker.{Broker}
use Rattle.run_text.specs.Shown.{HasTopicOf, shown_summary}
use Rattle.run_text.proofs.Printable.{printable}
use Rattle.ksql_cli.specs.declared.asked.Asked.{Asked}
use Rattle.ksql_cli.specs.Command.{Runs, demo_asked, demo_files}
use Rattle.ksql_cli.specs.Run.{Run}
use Rattle.ksql_cli.specs.Stages.{ReadsInputs, run_of}
use Rattle.ksql_cli.proofs.Reports.{run-topics, summary-run}
use Rattle.ksql_cli.proofs.Runs.{runs-inputs}
use Rattle.ksql_cli.proofs.texts.demonstrated.Goals as goal
use Rattle.ksql_cli.proofs.texts.demonstrated.Goals.{After-broker}

-- the run of the demo
abbrev demo : (c : After-broker) → Run
demo c = run_of (demo_asked c.args.workers) c.in_ok-ran.ran c.in_ok-inputs.inputs.files.items

runs : (c : After-broker) → Runs (demo_asked c.args.workers) (demo_files c.args.records) (demo c)
runs c =
    runs-inputs (demo_asked c.args.workers) (demo_files c.args.records) c.in_ok-inputs.inputs c.in_ok-ran.ran c.in_ok-ran.ensures.program c.in_ok-ran.ensures.schedule
    (subst (λ (a : Asked). ReadsInputs a (demo_files c.args.records) c.in_ok-inputs.inputs) c.in_ok-asked.ensures c.in_ok-inputs.ensures.read)

pub broker_summary-requires-clause-printable : goal.broker_summary-requires-clause-printable
broker_summary-requires-clause-printable c = printable c.in_ok-ran.ran.program.items c.in_ok-ran.ensures.sound

pub broker_summary-requires-clause-topics : goal.broker_summary-requires-clause-topics
broker_summary-requires-clause-topics c =
    subst (λ (b : Broker). All (HasTopicOf b) (relations c.in_ok-ran.ran.program.items)) (sym c.broker.ensures)
    (run-topics (demo c) c.in_ok-ran.ran.program c.in_ok-ran.ran.cluster refl c.in_ok-ran.ensures.sound c.in_ok-ran.ensures.cluster)

pub returns-clause-text : goal.returns-clause-text
returns-clause-text c =
    let ran = c.in_ok-ran.ran in
    let at = (goal.at.returns-clause-text c).After-broker in (
      demo at,
      runs at,
      ap (λ (bytes : Vec ℕ Global). bytes.items) c.into_bytes.ensures.value ∙ c.in_ok-text.ensures
          ∙ ap (λ (b : Broker). shown_summary ran.program.items b) c.broker.ensures
          ∙ summary-run (demo at) ran.program ran.cluster refl c.in_ok-ran.ensures.sound c.in_ok-ran.ensures.cluster,
    )

pub returns-clause-ran : goal.returns-clause-ran
returns-clause-ran c =
    let at = (goal.at.returns-clause-ran c).After-broker in
    (demo at, runs at, c.in_ok-ran.ensures.cluster)
