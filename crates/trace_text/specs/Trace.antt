-- The trace of a run: what happened in each step.
use Rattle.std.specs.Prelude.{◌≡◌, ℕ, List, [], ◌∷◌, ◌++◌, map, All, codes, decimal, flat_map, Bool, true, false, IsFalse, ◌==◌, ◌&&◌, if◌then◌else◌, Option, None, Some}
use Rattle.std.specs.Option.{option_map_or}
use Rattle.std.specs.List.{before_first, list_any}
use Rattle.ksql_types.specs.declared.relation.TaskName.{TaskName}
use Rattle.core_state.specs.declared.journal.JournalEntry.{JournalEntry}
use Rattle.core_state.specs.declared.journal.JournalEntry.TheVariants as entry
use Rattle.topology.specs.declared.schedule.Lined.{Lined}
use Rattle.topology.specs.declared.schedule.Step.{Step}
use Rattle.topology.specs.declared.schedule.Step.TheVariants as step

-- ---- lines

-- the name of a task: the numbers of its sub-topology and of its partition
unfoldable pub task_text : TaskName → List ℕ
task_text task = decimal task.sub ++ (codes "_" ++ decimal task.part)

-- the line of a feed, a round or a commit; none for other entries
unfoldable pub progress_line : JournalEntry → List ℕ
progress_line (entry.Fed feed records) = codes "feed " ++ (decimal feed ++ (codes " records " ++ (decimal records ++ codes "\n")))
progress_line (entry.Round number) = codes "round " ++ (decimal number ++ codes "\n")
progress_line (entry.Committed task from to) =
    codes "commit " ++ (task_text task ++ (codes " " ++ (decimal from ++ (codes " " ++ (decimal to ++ codes "\n")))))
progress_line _ = []

-- the line of a refused commit or of a restored task; none for other entries
unfoldable pub moved_line : JournalEntry → List ℕ
moved_line (entry.Fenced task held newest) =
    codes "fenced " ++ (task_text task ++ (codes " held " ++ (decimal held ++ (codes " newest " ++ (decimal newest ++ codes "\n")))))
moved_line (entry.Restored task worker generation done) =
    codes "restore " ++ (task_text task
    ++ (codes " worker " ++ (decimal worker
    ++ (codes " generation " ++ (decimal generation
    ++ (codes " at " ++ (decimal done ++ codes "\n")))))))
moved_line _ = []

-- the line about what became of a worker
unfoldable pub worker_line : List ℕ → ℕ → List ℕ
worker_line word worker = word ++ (codes " " ++ (decimal worker ++ codes "\n"))

-- whether an entry records that a task left its owner
abbrev pub is_leaving : TaskName → JournalEntry → Bool
is_leaving task (entry.Left left generation) = (left.sub == task.sub) && (left.part == task.part)
is_leaving task _ = false

-- what a step of the schedule itself did, given what happened in it: a task is lost only if it left an owner
unfoldable pub own_lines : Step → List JournalEntry → List ℕ
own_lines (step.Round lost stalled) happened =
    option_map_or (worker_line (codes "gone")) lost [] ++ option_map_or (worker_line (codes "stall")) stalled []
own_lines (step.Start worker) happened = worker_line (codes "start") worker
own_lines (step.Stop worker) happened = worker_line (codes "stop") worker
own_lines (step.Wake worker) happened = worker_line (codes "wake") worker
own_lines (step.Lose task) happened = if list_any (is_leaving task) happened then codes "lose " ++ (task_text task ++ codes "\n") else []
own_lines _ happened = []

-- ---- blocks

-- whether an entry begins a step
abbrev pub is_step : JournalEntry → Bool
is_step (entry.Step line) = true
is_step _ = false

-- a step: its feeds, rounds and commits, what the step of the schedule itself did, then refused commits and restored
-- tasks
unfoldable pub step_text : ℕ → Option Step → List JournalEntry → List ℕ
step_text line planned happened =
    codes "step " ++ (decimal line ++ (codes "\n"
    ++ (flat_map progress_line happened
    ++ (option_map_or (λ s. own_lines s happened) planned []
    ++ flat_map moved_line happened))))

-- a block of a journal: a step, and what happened in it
pub record Block : Type 0 where
  -- the line of the entry that begins it
  pub line : ℕ
  -- the entries after it
  pub happened : List JournalEntry

-- the entries of a block
abbrev pub entries_of : Block → List JournalEntry
entries_of block = entry.Step block.line ∷ block.happened

-- a journal is these blocks, one after another
pub record IsCut (journal : List JournalEntry) (blocks : List Block) : Type 0 where
  -- before them are only entries that begin no step, if any
  pub whole : (before : List JournalEntry) × IsFalse (list_any is_step before) × (journal ≡ before ++ flat_map entries_of blocks)
  -- in none of them another step begins
  pub within : All (λ block. IsFalse (list_any is_step block.happened)) blocks

-- the blocks of a journal: each entry that begins a step, with the entries up to the next one. They are the only cut
-- (`IsCut`): the law `one_cut` says so
unfoldable pub blocks_of : List JournalEntry → List Block
blocks_of [] = []
blocks_of (entry.Step line ∷ later) = record { line = line; happened = before_first is_step later } ∷ blocks_of later
blocks_of (_ ∷ later) = blocks_of later

-- the steps of the schedule, as the blocks come: none for the first assignment, and then that of each line
abbrev pub planned_steps : List Lined → List (Option Step)
planned_steps lines = None ∷ map (λ lined. Some lined.step) lines

-- the texts of blocks side by side with steps of the schedule, as far as there are any
unfoldable pub blocks_text : List Block → List (Option Step) → List ℕ
blocks_text [] steps = []
blocks_text (block ∷ blocks) [] = step_text block.line None block.happened ++ blocks_text blocks []
blocks_text (block ∷ blocks) (step ∷ steps) = step_text block.line step block.happened ++ blocks_text blocks steps

-- the trace of a run with this journal and schedule: the first block is the first assignment, and each later one is of the
-- next line
unfoldable pub trace_of : List JournalEntry → List Lined → List ℕ
trace_of journal lines = codes "trace\n" ++ blocks_text (blocks_of journal) (planned_steps lines)
