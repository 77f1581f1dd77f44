-- A schedule that is accepted has the steps of its lines, and no line of it is refused.
use Rattle.std.proofs.Common.{◌≡◌, refl, sym, subst, ℕ, ◌+◌, List, [], ◌∷◌, ◌++◌, length}
use Rattle.std.specs.Prelude.{All, Bool, true, false, cond, IfSome, Option, None, Some, option_and_then, option_map, Result, Ok, Err}
use Rattle.std.specs.List.{AllByRecursion}
use Rattle.std.proofs.lemmas.List.Elements.{All-from_recursion}
use Rattle.ksql_program.specs.declared.program.Item.{Item}
use Rattle.topology.specs.declared.schedule.Count.{Count}
use Rattle.topology.specs.declared.schedule.Lined.{Lined}
use Rattle.topology.specs.declared.schedule.Step.{Step}
use Rattle.topology.specs.declared.schedule.Step.TheVariants as step
use Rattle.topology.specs.declared.topology.Topology.{Topology}
use Rattle.topic_files.specs.Lines.{lines_of}
use Rattle.schedule_text.specs.declared.fault.StepWhy.{StepWhy}
use Rattle.schedule_text.specs.Forms.{Form, form_of_line}
use Rattle.schedule_text.specs.Forms as form
use Rattle.schedule_text.specs.Lines.{is_skipped}
use Rattle.schedule_text.specs.Schedules.{IsSteady, first_refused, lined, lined_steps, schedule_of, setting_of, unless_refused}
use Rattle.schedule_text.specs.Steps.{counts_of, step_of, step_of_line}

-- ---- no line is refused

unrefused : (refused : Option (ℕ × StepWhy)) (all steps : List Lined) → unless_refused refused all ≡ Ok steps → (refused ≡ None) × (steps ≡ all)
unrefused None all steps is = (refl, cc)
unrefused (Some refused) all steps is = absurd cc

pub schedule-accepted : (items : List Item) (t : Topology) (workers : ℕ) (text : List ℕ) (steps : List Lined) → schedule_of items t workers text ≡ Ok steps →
    (first_refused (setting_of items t (length text)) workers [] (lines_of text) ≡ None) × (steps ≡ lined_steps items 0 (lines_of text))
schedule-accepted items t workers text steps is = unrefused (first_refused (setting_of items t (length text)) workers [] (lines_of text)) (lined_steps items 0 (lines_of text)) steps is

-- ---- no worker stalls or wakes in a step of a line

fed-steady : (counts : Option (List Count)) → IfSome (option_map step.Feed counts) IsSteady
fed-steady None = tt
fed-steady (Some counts) = tt

form-steady : (items : List Item) (o : Option Form) → IfSome (option_and_then (step_of items) o) IsSteady
form-steady items None = tt
form-steady items (Some form.feed_all) = tt
form-steady items (Some (form.feed pairs)) = fed-steady (counts_of items pairs)
form-steady items (Some (form.round lost)) = tt
form-steady items (Some (form.start worker)) = tt
form-steady items (Some (form.stop worker)) = tt
form-steady items (Some (form.lose task)) = tt
form-steady items (Some form.drain) = tt

line-steady : (items : List Item) (line : List ℕ) → IfSome (step_of_line items line) IsSteady
line-steady items line = by (is_skipped line)
  where
    by : (b : Bool) → IfSome (cond b None (option_and_then (step_of items) (form_of_line line))) IsSteady
    by true = tt
    by false = form-steady items (form_of_line line)

abbrev AreSteady : List Lined → Type 0
AreSteady steps = AllByRecursion (λ l. IsSteady l.step) steps

next-steady : (n : ℕ) (o : Option Step) (more : List Lined) → IfSome o IsSteady → AreSteady more → AreSteady (lined n o ++ more)
next-steady n None more h then = then
next-steady n (Some taken) more h then = (h, then)

lines-steady : (items : List Item) (n : ℕ) (lines : List (List ℕ)) → AreSteady (lined_steps items n lines)
lines-steady items n [] = tt
lines-steady items n (line ∷ more) = next-steady (n + 1) (step_of_line items line) (lined_steps items (n + 1) more) (line-steady items line) (lines-steady items (n + 1) more)

pub schedule-steady : (items : List Item) (t : Topology) (workers : ℕ) (text : List ℕ) (steps : List Lined) → schedule_of items t workers text ≡ Ok steps → All (λ l. IsSteady l.step) steps
schedule-steady items t workers text steps is =
    All-from_recursion (λ (l : Lined). IsSteady l.step) steps (subst AreSteady (sym (schedule-accepted items t workers text steps is).1) (lines-steady items 0 (lines_of text)))
