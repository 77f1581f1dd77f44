-- The reports of runs that end drained.
use Rattle.std.specs.Prelude.{◌≡◌, ℕ, List, [], ◌∷◌, ◌++◌, codes, length, map, true}
use Rattle.ksql_types.specs.declared.relation.Relation.{Relation}
use Rattle.ksql_place.specs.declared.change.SourceRecord.{SourceRecord}
use Rattle.ksql_program.specs.declared.program.Item.{Item}
use Rattle.ksql_program.specs.Program.{relation_of, relations}
use Rattle.topic_files.specs.declared.topic.Fed.{Fed}
use Rattle.topic_feeds.specs.Feeding.{order_of}
use Rattle.query_meaning.specs.Meaning.{meaning}
use Rattle.query_meaning.specs.Queries.{changes_at}
use Rattle.topology.specs.Topologies.{topology_of}
use Rattle.run_text.specs.Report.{meant, report, section_of, Section}
use Rattle.cluster_laws.specs.Progress.{opening}
use Rattle.ksql_cli.specs.Run.{Run, declared_of, progress_of, report_of, trace_in}
use Rattle.schedule_laws.specs.Drained.{DrainsHaveWorkers, feeds_of, is_drained}

-- a run ends drained: a worker is live at each drain, and the last drain comes after the last feed
pub record EndsDrained (run : Run) : Type 0 where
  pub have_workers : DrainsHaveWorkers (topology_of run.program.items) (opening (topology_of run.program.items) run.program.items run.files run.workers) run.steps
  pub drained : is_drained run.steps ≡ true

-- the section of a relation that shows its whole meaning on these records, up to this feed
abbrev pub whole_section : List Item → ℕ → List SourceRecord → Item → Section
whole_section items feed order item = let r = relation_of item in section_of feed r order (meant r (changes_at (meaning items order) r.number))

-- the report of a run shows each relation up to the last feed of its schedule, and its whole meaning on the records that were fed
abbrev pub ShowsTheWhole : Run → Type 0
ShowsTheWhole run =
    let items = run.program.items in
    let order = (progress_of run).order in
    report_of run ≡ report (relations items) order (map (whole_section items (length (feeds_of run.steps)) order) items) (trace_in run)

-- one feed that takes the whole file: the numbers of records that feeds take
abbrev pub at_once : Relation → List Fed → List ℕ
at_once relation feds = length feds ∷ []

-- the report of a run shows each relation up to feed 1, and its whole meaning on all records of the topic files, fed at once
abbrev pub ShowsAllAtOnce : Run → Type 0
ShowsAllAtOnce run =
    let items = run.program.items in
    let order = order_of at_once (declared_of items) run.files in
    report_of run ≡ report (relations items) order (map (whole_section items 1 order) items) (trace_in run)

-- the reports of two runs are one text, up to their traces and the last line
abbrev pub AreAlike : Run → Run → Type 0
AreAlike a b = (text : List ℕ) × (report_of a ≡ text ++ (trace_in a ++ codes "end\n")) × (report_of b ≡ text ++ (trace_in b ++ codes "end\n"))
