use Rattle.std.proofs.Common.{◌≡◌, ◌∙◌, ◌++◌, ap, ap₂, refl, subst, sym, List, ℕ, Global, Vec}
use Rattle.std.specs.String.{string_bytes}
use Rattle.std.specs.Prelude.{All}
use Rattle.ksql_program.specs.Program.{relations}
use Rattle.topic_log.specs.declared.broker.Broker.{Broker}
use Rattle.run_text.specs.Shown.{shown_report, HasTopicOf}
use Rattle.run_text.proofs.Printable.{printable}
use Rattle.trace_text.specs.Trace.{trace_of}
use Rattle.ksql_cli.specs.Ran.{HasRun}
use Rattle.ksql_cli.specs.Run.{Run, trace_in}
use Rattle.ksql_cli.proofs.Reports.{no-trace, report-run, run-topics, trace-run}
use Rattle.ksql_cli.proofs.texts.report.Goals.{then-trace+in_ok-push_trace, else-trace}
use Rattle.ksql_cli.proofs.texts.report.Goals as goal

pub broker_report-requires-clause-printable : goal.broker_report-requires-clause-printable
broker_report-requires-clause-printable c = printable c.args.ran.now.program.items c.requires.sound

pub broker_report-requires-clause-topics : goal.broker_report-requires-clause-topics
broker_report-requires-clause-topics c =
    subst (λ (b : Broker). All (HasTopicOf b) (relations c.args.ran.now.program.items)) (sym c.broker.ensures)
    (run-topics c.requires.came.0 c.args.ran.now.program c.args.ran.now.cluster c.requires.came.1 c.requires.sound c.requires.came.2)

-- the lines after the sections are the trace, if it is printed
lines-are : (c : goal.After-drop-lines-2) (run : Run) → run.steps ≡ c.args.ran.now.schedule.steps → run.trace ≡ c.args.trace → HasRun run c.args.ran.now.cluster →
    string_bytes c.if-trace.lines ≡ trace_in run
lines-are c run of-steps of-trace come = elim c.if-trace.branch [
  | then-trace+in_ok-push_trace w ↦
      ap string_bytes w.lines-is ∙ w.in_ok-push_trace.ensures
      ∙ ap (λ (before : List ℕ). before ++ trace_of w.journal.result.now w.items.result.now) c.new-lines.ensures.bytes
      ∙ ap₂ trace_of w.journal.ensures w.items.ensures
      ∙ trace-run run c.args.ran.now.cluster c.args.ran.now.schedule.steps of-steps come (of-trace ∙ w.if-trace.true)
  | else-trace w ↦ ap string_bytes w.lines-is ∙ c.new-lines.ensures.bytes ∙ no-trace run (of-trace ∙ w.if-trace.false)
]

pub returns : goal.returns
returns c = λ run of-program of-steps of-trace come.
    let ran = c.args.ran.now in
    ap (λ (bytes : Vec ℕ Global). bytes.items) c.into_bytes.ensures.value ∙ c.in_ok-text.ensures
    ∙ ap₂ (λ (b : Broker) (trace : List ℕ). shown_report ran.program.items b trace) c.broker.ensures (c.as_str.ensures.value ∙ lines-are c run of-steps of-trace come)
    ∙ report-run run ran.program ran.cluster of-program c.requires.sound come (trace_in run) refl
