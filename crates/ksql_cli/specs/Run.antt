-- A run, and its report.
use Rattle.std.specs.Prelude.{ℕ, Bool, if◌then◌else◌, List, [], ◌∷◌, map}
use Rattle.ksql_types.specs.declared.relation.Relation.{Relation}
use Rattle.ksql_program.specs.declared.program.Item.{Item}
use Rattle.ksql_program.specs.declared.program.Item.TheVariants.{Declared, Started}
use Rattle.ksql_program.specs.declared.program.Program.{Program}
use Rattle.ksql_program.specs.Program.{relation_of, relations}
use Rattle.topic_files.specs.declared.topic.TopicLines.{TopicLines}
use Rattle.query_meaning.specs.Meaning.{meaning, up_to}
use Rattle.query_meaning.specs.Queries.{changes_at}
use Rattle.topology.specs.Topologies.{topology_of}
use Rattle.topology.specs.declared.schedule.Lined.{Lined}
use Rattle.cluster_laws.specs.Progress.{Progress, after_steps, closed, opening}
use Rattle.run_text.specs.Report.{meant, report, section_of, summary, Section}
use Rattle.trace_text.specs.Trace.{trace_of}

-- a run: a program, the records of its topic files, the number of workers that are live at first, the steps of its
-- schedule, and whether its trace is printed
pub record Run : Type 0 where
  pub program : Program
  pub files : List TopicLines
  pub workers : ℕ
  pub steps : List Lined
  pub trace : Bool

-- the declared relations of a program, in order
abbrev pub declared_of : List Item → List Relation
declared_of [] = []
declared_of (Declared relation ∷ items) = relation ∷ declared_of items
declared_of (Started query ∷ items) = declared_of items

-- the progress of a program's cluster after some steps, in numbers
abbrev pub progress : List Item → List TopicLines → ℕ → List Lined → Progress
progress items files workers steps = let t = topology_of items in after_steps t (opening t items files workers) steps

-- the progress of a run
abbrev pub progress_of : Run → Progress
progress_of run = progress run.program.items run.files run.workers run.steps

-- what is shown of an item: its meaning for the records that were fed, up to the feed up to which its topic is closed
abbrev pub section_at : Run → Item → Section
section_at run item =
    let r = relation_of item in
    let shown = closed (topology_of run.program.items) (progress_of run) r.number in
    let order = up_to shown (progress_of run).order in
    section_of shown r order (meant r (changes_at (meaning run.program.items order) r.number))

-- the trace, if it is printed
abbrev pub trace_in : Run → List ℕ
trace_in run = if run.trace then trace_of (progress_of run).journal run.steps else []

-- the report of a run: the order of consumption, what is shown of each relation, and the trace
abbrev pub report_of : Run → List ℕ
report_of run = report (relations run.program.items) (progress_of run).order (map (section_at run) run.program.items) (trace_in run)

-- the summary of a run: the head line of each relation, and the rows of each table without windows
abbrev pub summary_of : Run → List ℕ
summary_of run = summary (map (section_at run) run.program.items)
