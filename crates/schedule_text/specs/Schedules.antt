-- The content of a schedule: its steps, or its first refused line.
use Rattle.std.specs.Prelude.{ℕ, ◌+◌, List, [], ◌∷◌, ◌++◌, length, Option, Some, None, option_map, Result, Ok, Err}
use Rattle.std.specs.Option.{option_or}
use Rattle.ksql_program.specs.declared.program.Item.{Item}
use Rattle.topology.specs.Tasks.{chain_of}
use Rattle.topology.specs.declared.schedule.Lined.{Lined}
use Rattle.topology.specs.declared.schedule.Step.{Step}
use Rattle.topology.specs.declared.schedule.Step.TheVariants as step
use Rattle.topology.specs.declared.topology.Topology.{Topology}
use Rattle.schedule_text.specs.declared.fault.StepWhy.{StepWhy}
use Rattle.topic_files.specs.Lines.{lines_of}
use Rattle.schedule_text.specs.Refusals.{Setting, refusal_of}
use Rattle.schedule_text.specs.Steps.{step_of_line}

-- the step of a line, if it is one
abbrev pub lined : ℕ → Option Step → List Lined
lined line None = []
lined line (Some step) = record { line = line; step = step } ∷ []

-- the steps of lines that come after n others, each with the number of its line
abbrev pub lined_steps : List Item → ℕ → List (List ℕ) → List Lined
lined_steps items n [] = []
lined_steps items n (line ∷ more) = lined (n + 1) (step_of_line items line) ++ lined_steps items (n + 1) more

-- the number of the first refused one of these lines, which come after earlier ones, and why it is refused
abbrev pub first_refused : Setting → ℕ → List (List ℕ) → List (List ℕ) → Option (ℕ × StepWhy)
first_refused setting workers before [] = None
first_refused setting workers before (line ∷ more) =
    option_or (option_map (λ why. (length before + 1, why)) (refusal_of setting workers before line)) (first_refused setting workers (before ++ line ∷ []) more)

-- these steps, unless a line is refused
abbrev pub unless_refused : Option (ℕ × StepWhy) → List Lined → Result (List Lined) (ℕ × StepWhy)
unless_refused None steps = Ok steps
unless_refused (Some refused) steps = Err refused

-- the setting of a text with this many bytes
abbrev pub setting_of : List Item → Topology → ℕ → Setting
setting_of items topology size = record { items = items; subs = topology.subs; chain = chain_of topology.subs; size = size }

-- the steps of a schedule, or its first refused line, counted from 1, and why
abbrev pub schedule_of : List Item → Topology → ℕ → List ℕ → Result (List Lined) (ℕ × StepWhy)
schedule_of items topology workers text =
    unless_refused (first_refused (setting_of items topology (length text)) workers [] (lines_of text)) (lined_steps items 0 (lines_of text))

-- a step in which no worker stalls or wakes
abbrev pub IsSteady : Step → Type 0
IsSteady (step.Round lost (Some stalled)) = ⊥
IsSteady (step.Wake worker) = ⊥
IsSteady _ = Unit {0}
