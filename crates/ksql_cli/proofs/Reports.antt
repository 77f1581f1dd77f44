-- The report of a run, as the cluster that ran shows it.
use Rattle.std.proofs.Common.{◌≡◌, ◌∙◌, ap, ap₂, refl, sym, subst, Bool, true, false, cond, ℕ, zero, suc, List, [], ◌∷◌, ◌++◌, length, map}
use Rattle.std.proofs.lemmas.List.Elements.{All-from_recursion, All-weaker}
use Rattle.std.specs.Prelude.{All, Option, Some, slice_get}
use Rattle.std.specs.List.{AllByRecursion}
use Rattle.std.specs.Option.{IsSomeAnd}
use Rattle.ksql_types.specs.declared.relation.Relation.{Relation}
use Rattle.ksql_types.specs.declared.topic.TopicSpec.{TopicSpec}
use Rattle.ksql_place.specs.declared.change.SourceRecord.{SourceRecord}
use Rattle.ksql_program.specs.declared.program.Item.{Item}
use Rattle.ksql_program.specs.declared.program.Program.{Program}
use Rattle.ksql_program.specs.Program.{relation_of, relations}
use Rattle.ksql_program.specs.Sound.{IsSound}
use Rattle.query_meaning.specs.Meaning.{meaning, up_to}
use Rattle.query_meaning.specs.Queries.{changes_at}
use Rattle.topology.specs.Topologies.{cut_topics, relation_topic, subs}
use Rattle.topic_log.specs.Shelves.{shelf_of}
use Rattle.wiring_laws.proofs.Writers.{numbered}
use Rattle.feed_laws.specs.Fitting.{IsOfDeclared as IsFedTo}
use Rattle.run_text.specs.Report.{Section, meant, report, section_of, summary}
use Rattle.run_text.specs.Shown.{HasTopicOf, shown_report, shown_summary}
use Rattle.report_laws.specs.Reported.{IsGoodBroker, IsOfDeclared, section_known}
use Rattle.report_laws.proofs.Reporting.{reports-meaning, summarizes-meaning}
use Rattle.report_laws.proofs.ShownRecords.{declaration-at}
use Rattle.cluster_core.specs.Cluster.{HasCome}
use Rattle.cluster_laws.specs.Tasks.{idle}
use Rattle.cluster_laws.specs.Progress.{Progress}
use Rattle.core_state.specs.declared.journal.JournalEntry.{JournalEntry}
use Rattle.core_state.specs.declared.log.LogEntry.{LogEntry}
use Rattle.topology.specs.declared.schedule.Lined.{Lined}
use Rattle.trace_text.specs.Trace.{trace_of}
use Rattle.cluster_core.specs.declared.cluster.Cluster.{Cluster}
use Rattle.cluster_laws.specs.declared.seats.Seat.{Seat}
use Rattle.cluster_core.proofs.Coming.{running-of}
use Rattle.cluster_laws.proofs.Running.{parts_of}
use Rattle.ksql_cli.proofs.Closed.{closed-come, topics-come}
use Rattle.ksql_cli.specs.Ran.{HasRun}
use Rattle.ksql_cli.specs.Run.{Run, progress_of, report_of, section_at, summary_of, trace_in}

-- ---- the topics of a cluster

each-relation : (P : Relation → Type 0) (items : List Item) → ((k : ℕ) (i : Item) → slice_get items k ≡ Some i → P (relation_of i)) → AllByRecursion P (relations items)
each-relation P [] by = tt
each-relation P (i ∷ items) by = (by 0 i refl, each-relation P items (λ k j at. by (suc k) j at))

topic-at : (f : Relation → TopicSpec) (items : List Item) (rest : List TopicSpec) (k : ℕ) (i : Item) → slice_get items k ≡ Some i →
    slice_get (map f (relations items) ++ rest) k ≡ Some (f (relation_of i))
topic-at f [] rest k i at = cc (at)
topic-at f (j ∷ items) rest zero i at = cc (at)
topic-at f (j ∷ items) rest (suc k) i at = topic-at f items rest k i at

-- a cluster has the topic of each relation
pub has-topics : (items : List Item) (p : Progress) (c : Cluster) → IsSound items → HasCome items p c → All (HasTopicOf c.broker) (relations items)
has-topics items p c sound come =
    All-from_recursion (HasTopicOf c.broker) (relations items) (each-relation (HasTopicOf c.broker) items has)
  where
    has : (k : ℕ) (i : Item) → slice_get items k ≡ Some i → HasTopicOf c.broker (relation_of i)
    has k i at =
        subst (λ (o : Option TopicSpec). IsSomeAnd o (λ t. t.partitions ≡ (relation_of i).partitions))
        (sym (ap₂ (λ (ts : List TopicSpec) (n : ℕ). slice_get ts n) (topics-come items p c sound come) (numbered items sound k i at).0
        ∙ topic-at (relation_topic (subs items)) items (cut_topics items (length items) 0 items) k i at))
        refl

-- ---- what it shows

-- what is shown of a relation up to a feed
abbrev shown_at : List Item → Relation → ℕ → List SourceRecord → Section
shown_at items r closed order = let records = up_to closed order in section_of closed r records (meant r (changes_at (meaning items records) r.number))

module _ (run : Run) (sound : IsSound run.program.items) (c : Cluster) (come : HasCome run.program.items (progress_of run) c) where
  abbrev items : List Item
  items = run.program.items

  abbrev order : List SourceRecord
  order = (progress_of run).order

  good : IsGoodBroker items order c.broker
  good = record {
    topics = topics-come items (progress_of run) c sound come;
    parts = parts_of (shelf_of c.broker) (map (λ (s : Seat). idle s.task) c.seats.items);
    fed = refl;
    done = refl;
    shown = λ topic q below. refl;
    good = (running-of items (progress_of run) (map (λ (s : Seat). idle s.task) c.seats.items) c come).good;
  }

  of-declared : All (IsOfDeclared items) order
  of-declared =
      All-weaker (IsFedTo items) (IsOfDeclared items) (λ x fed. (fed.0, declaration-at items sound x.stamp.topic fed.0 fed.1 fed.2)) order come.progress.order.declared

  section-shown : (item : Item) → section_known items c.broker order item ≡ section_at run item
  section-shown item =
      ap (λ (closed : ℕ). shown_at items (relation_of item) closed order) (closed-come items (progress_of run) c sound come (relation_of item).number)

  sections-shown : (is : List Item) → map (section_known items c.broker order) is ≡ map (section_at run) is
  sections-shown [] = refl
  sections-shown (i ∷ is) = ap₂ (λ (s : Section) (ss : List Section). s ∷ ss) (section-shown i) (sections-shown is)

  -- with any trace, the text that the broker shows is the report of what the queries mean
  pub report-shown : (trace : List ℕ) → shown_report items c.broker trace ≡ report (relations items) order (map (section_at run) items) trace
  report-shown trace =
      reports-meaning items order c.broker sound come.progress.order.fed come.progress.order.counted of-declared good trace
      ∙ ap (λ (ss : List Section). report (relations items) order ss trace) (sections-shown items)

  -- the summary that the broker shows is that of what the queries mean
  pub summary-shown : shown_summary items c.broker ≡ summary_of run
  summary-shown =
      summarizes-meaning items order c.broker sound come.progress.order.fed come.progress.order.counted of-declared good
      ∙ ap summary (sections-shown items)

-- the cluster of a run has the topic of each relation of its program
pub run-topics : (run : Run) (program : Program) (c : Cluster) → run.program ≡ program → IsSound program.items → HasRun run c → All (HasTopicOf c.broker) (relations program.items)
run-topics run program c is sound come =
    subst (λ (p : Program). All (HasTopicOf c.broker) (relations p.items)) is
    (has-topics run.program.items (progress_of run) c (subst (λ (p : Program). IsSound p.items) (sym is) sound) come)

-- what the broker of a run shows of its program, with the trace that is asked for, is its report
pub report-run : (run : Run) (program : Program) (c : Cluster) → run.program ≡ program → IsSound program.items → HasRun run c → (trace : List ℕ) → trace ≡ trace_in run →
    shown_report program.items c.broker trace ≡ report_of run
report-run run program c is sound come trace traced =
    subst (λ (p : Program). shown_report p.items c.broker trace ≡ report_of run) is
    (ap (shown_report run.program.items c.broker) traced ∙ report-shown run (subst (λ (p : Program). IsSound p.items) (sym is) sound) c come (trace_in run))

-- what it shows in short is its summary
pub summary-run : (run : Run) (program : Program) (c : Cluster) → run.program ≡ program → IsSound program.items → HasRun run c → shown_summary program.items c.broker ≡ summary_of run
summary-run run program c is sound come =
    subst (λ (p : Program). shown_summary p.items c.broker ≡ summary_of run) is
    (summary-shown run (subst (λ (p : Program). IsSound p.items) (sym is) sound) c come)

-- the trace of a cluster that ran, if it is printed
pub trace-run : (run : Run) (c : Cluster) (steps : List Lined) → run.steps ≡ steps → HasRun run c → run.trace ≡ true → trace_of c.journal.items steps ≡ trace_in run
trace-run run c steps of-steps come asked =
    ap₂ (λ (j : List JournalEntry) (ss : List Lined). trace_of j ss) come.journal (sym of-steps)
    ∙ ap (λ (b : Bool). cond b (trace_of (progress_of run).journal run.steps) []) (sym asked)

-- otherwise there is none
pub no-trace : (run : Run) → run.trace ≡ false → [] ≡ trace_in run
no-trace run none = ap (λ (b : Bool). cond b (trace_of (progress_of run).journal run.steps) []) (sym none)
