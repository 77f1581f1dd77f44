-- What the reader of a schedule knows after some lines.
use Rattle.std.specs.Prelude.{◌≡◌, ℕ, List, length, Option, Some, None, Result, Ok, Err, if◌then◌else◌}
use Rattle.std.specs.List.{range_with_len}
use Rattle.ksql_types.specs.declared.relation.TaskName.{TaskName}
use Rattle.topology.specs.declared.topology.Sub.{Sub}
use Rattle.topic_files.specs.File.{bytes_of}
use Rattle.schedule_text.specs.declared.fault.LineFault.{LineFault}
use Rattle.schedule_text.specs.declared.fault.LineFault.TheVariants.{Refused, OutOfMemory}
use Rattle.schedule_text.specs.declared.fault.StepWhy.{StepWhy}
use Rattle.schedule_text.specs.declared.standing.Setting.{Setting as Lent}
use Rattle.schedule_text.specs.declared.standing.Standing.{Standing}
use Rattle.schedule_text.specs.Refusals.{Setting, is_task}
use Rattle.schedule_text.specs.Steps.{all_rounds, live_after, steps_of}

-- a setting with borrowed lists
abbrev pub setting_view : Lent → Setting
setting_view setting = record { items = setting.items.now; subs = setting.subs.now; chain = setting.chain; size = setting.size }

-- the numbers of these lines, of their bytes, steps and rounds, and the workers that are live after them
abbrev pub standing_after : Setting → ℕ → List (List ℕ) → Standing
standing_after setting workers before = record {
  lines = length before;
  bytes = bytes_of before;
  steps = length (steps_of setting.items before);
  rounds = all_rounds setting.chain (steps_of setting.items before);
  live = live_after workers (steps_of setting.items before);
}

-- before the first line: the workers 1 to n are live
abbrev pub first : ℕ → Standing
first workers = record { lines = 0; bytes = 0; steps = 0; rounds = 0; live = range_with_len 1 workers }

-- the task, None if the topology doesn't have it
abbrev pub task_in : List Sub → TaskName → Option TaskName
task_in subs task = if is_task subs task then Some task else None

-- a result is this refusal if there is one, and else a value whose view is the wanted one, unless memory ran out
abbrev pub Answers : {T U : Type 0} → (T → U) → Result T LineFault → Option StepWhy → U → Type 0
Answers view (Ok value) refusal wanted = (refusal ≡ None) × (wanted ≡ view value)
Answers view (Err (Refused why)) refusal wanted = refusal ≡ Some why
Answers view (Err OutOfMemory) refusal wanted = Unit {0}
