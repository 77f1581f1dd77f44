use Rattle.std.proofs.Common.{◌≡◌, ◌∙◌, [], ap, ap₂, subst, sym, List, map}
use Rattle.std.specs.Prelude.{All}
use Rattle.ksql_types.specs.declared.relation.TaskName.{TaskName}
use Rattle.ksql_program.specs.Program.{relations}
use Rattle.ksql_program.specs.declared.program.Item.{Item}
use Rattle.topology.specs.Tasks.{tasks_of}
use Rattle.topology.specs.Topologies.{subs}
use Rattle.topology.specs.declared.topology.Topology.{Topology}
use Rattle.core_state.specs.Routes.{IsWriter}
use Rattle.topic_log.specs.Shelves.{routes_in}
use Rattle.topic_log.specs.declared.shelves.Shelves.{Shelves}
use Rattle.run_text.specs.Shown.{HasTopicOf, shown_report}
use Rattle.cluster_tests.specs.Runs.{closed_at, standing_at}
use Rattle.run_text.proofs.Printable.{printable}
use Rattle.cluster_tests.proofs.Shown.{has-topics, has-writers}
use Rattle.cluster_tests.proofs.running.told.Goals as goal

pub closed_of-requires : goal.closed_of-requires
closed_of-requires c =
    subst (λ (b : Shelves). All (HasTopicOf b) (relations c.items.result.now)) (sym c.broker.ensures)
    (subst (λ (is : List Item). All (HasTopicOf c.args.cluster.broker) (relations is)) (sym c.items.ensures)
    (has-topics c.args.program.now.items c.requires.sound c.args.cluster.broker c.requires.topics))

pub standings_of-requires : goal.standings_of-requires
standings_of-requires c =
    let names : c.as_slice.result.now ≡ tasks_of (subs c.args.program.now.items) =
    c.as_slice.ensures.value ∙ c.in_ok-names.ensures.value ∙ ap (λ (t : Topology). tasks_of t.subs) (c.topology.ensures ∙ c.requires.topology) in
    subst (λ (b : Shelves). All (IsWriter (routes_in b)) c.as_slice.result.now) (sym c.broker-2.ensures)
    (subst (All (IsWriter (routes_in c.args.cluster.broker))) (sym names)
    (has-writers c.args.program.now.items c.requires.sound c.args.cluster.broker c.requires.topics))

pub broker_report-requires-clause-printable : goal.broker_report-requires-clause-printable
broker_report-requires-clause-printable c = printable c.args.program.now.items c.requires.sound

pub broker_report-requires-clause-topics : goal.broker_report-requires-clause-topics
broker_report-requires-clause-topics c =
    subst (λ (b : Shelves). All (HasTopicOf b) (relations c.args.program.now.items)) (sym c.broker-3.ensures)
    (has-topics c.args.program.now.items c.requires.sound c.args.cluster.broker c.requires.topics)

pub returns-clause-told : goal.returns-clause-told
returns-clause-told c =
    let names : c.as_slice.result.now ≡ tasks_of (subs c.args.program.now.items) =
    c.as_slice.ensures.value ∙ c.in_ok-names.ensures.value ∙ ap (λ (t : Topology). tasks_of t.subs) (c.topology.ensures ∙ c.requires.topology) in
    record {
      closed = c.in_ok-closed.ensures ∙ ap₂ (λ (b : Shelves) (is : List Item). map (closed_at b) (relations is)) c.broker.ensures c.items.ensures;
      tasks = c.in_ok-tasks.ensures ∙ ap₂ (λ (b : Shelves) (us : List TaskName). map (standing_at b) us) c.broker-2.ensures names;
      report = c.in_ok-report.ensures ∙ ap (λ (b : Shelves). shown_report c.args.program.now.items b []) c.broker-3.ensures;
    }
