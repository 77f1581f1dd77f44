-- Why a line is refused, given the lines before it.
use Rattle.std.specs.Prelude.{ℕ, List, [], ◌∷◌, ◌++◌, length, min, Bool, not, ◌==◌, ◌&&◌, nat_le, nat_lt, if◌then◌else◌, Option, Some, None, is_some}
use Rattle.std.specs.List.{list_any}
use Rattle.std.specs.Option.{option_or}
use Rattle.ksql_types.specs.declared.relation.TaskName.{TaskName}
use Rattle.ksql_program.specs.declared.program.Item.{Item}
use Rattle.topology.specs.Tasks.{tasks_of}
use Rattle.topology.specs.declared.topology.Sub.{Sub}
use Rattle.topic_files.specs.File.{bytes_of}
use Rattle.schedule_text.specs.declared.fault.StepWhy.{StepWhy}
use Rattle.schedule_text.specs.declared.fault.StepWhy.TheVariants.{BadStep, UnknownTopic, UnknownWorker, WorkerTaken, UnknownTask, NoWorker, TooLarge}
use Rattle.schedule_text.specs.Forms.{Form, form_of_line}
use Rattle.schedule_text.specs.Forms as form
use Rattle.schedule_text.specs.Lines.{is_skipped}
use Rattle.schedule_text.specs.Steps.{all_rounds, counts_of, live_after, steps_of}

-- the most bytes of a schedule
abbrev pub most_bytes : ℕ
most_bytes = 1048576

-- the most steps of a schedule
abbrev pub most_steps : ℕ
most_steps = 10000

-- the most rounds of a schedule
abbrev pub most_rounds : ℕ
most_rounds = 100000

-- the most live workers
abbrev pub most_workers : ℕ
most_workers = 32

-- what a schedule is read for: relations, sub-topologies and their chain, and the size of the text
pub record Setting : Type 0 where
  pub items : List Item
  pub subs : List Sub
  pub chain : ℕ
  pub size : ℕ

-- whether a worker is live
abbrev pub is_live : List ℕ → ℕ → Bool
is_live live worker = list_any (λ other. other == worker) live

-- whether the topology has a task
abbrev pub is_task : List Sub → TaskName → Bool
is_task subs task = list_any (λ other. (other.sub == task.sub) && (other.part == task.part)) (tasks_of subs)

-- this refusal if a test holds
abbrev pub refused_if : Bool → StepWhy → Option StepWhy
refused_if holds why = if holds then Some why else None

-- why the start of a worker is refused while these workers are live, if it is
abbrev pub start_refusal : List ℕ → ℕ → Option StepWhy
start_refusal live worker = if is_live live worker then Some WorkerTaken else refused_if (nat_le most_workers (length live)) TooLarge

-- why a form is refused while these workers are live, if it is
abbrev pub form_refusal : Setting → List ℕ → Option Form → Option StepWhy
form_refusal setting live None = Some BadStep
form_refusal setting live (Some form.feed_all) = None
form_refusal setting live (Some (form.feed pairs)) = refused_if (not (is_some (counts_of setting.items pairs))) UnknownTopic
form_refusal setting live (Some (form.round None)) = None
form_refusal setting live (Some (form.round (Some worker))) = refused_if (not (is_live live worker)) UnknownWorker
form_refusal setting live (Some (form.start worker)) = start_refusal live worker
form_refusal setting live (Some (form.stop worker)) = refused_if (not (is_live live worker)) UnknownWorker
form_refusal setting live (Some (form.lose task)) = refused_if (not (is_task setting.subs task)) UnknownTask
form_refusal setting live (Some form.drain) = refused_if (length live == 0) NoWorker

-- why a line that isn't skipped is refused after these lines, if it is: too many steps, then what it describes, last too many rounds
abbrev pub step_refusal : Setting → ℕ → List (List ℕ) → List ℕ → Option StepWhy
step_refusal setting workers before line =
    if nat_le most_steps (length (steps_of setting.items before)) then Some TooLarge
    else option_or (form_refusal setting (live_after workers (steps_of setting.items before)) (form_of_line line))
    (refused_if (nat_lt most_rounds (all_rounds setting.chain (steps_of setting.items (before ++ line ∷ [])))) TooLarge)

-- why a line is refused after these lines, if it is: too many bytes come first; the last line of a text may lack its line feed
abbrev pub refusal_of : Setting → ℕ → List (List ℕ) → List ℕ → Option StepWhy
refusal_of setting workers before line =
    if nat_lt most_bytes (min (bytes_of (before ++ line ∷ [])) setting.size) then Some TooLarge
    else (if is_skipped line then None else step_refusal setting workers before line)
