-- What is known of a schedule when some of its lines were read.
use Rattle.std.proofs.Common.{◌≡◌, ℕ, ◌+◌, ◌≤◌, min, List, [], ◌∷◌, ◌++◌, length, Option, None, option_map, Result, Ok, Err, refl, sym, ap, ap₂, subst, subst₂, ◌∙◌, arith, append_assoc, length-append}
use Rattle.std.specs.Option.{option_or}
use Rattle.ksql_program.specs.declared.program.Item.{Item}
use Rattle.topology.specs.Tasks.{chain_of}
use Rattle.topology.specs.declared.schedule.Lined.{Lined}
use Rattle.topology.specs.declared.schedule.Step.{Step}
use Rattle.topology.specs.declared.topology.Topology.{Topology}
use Rattle.schedule_text.specs.declared.fault.StepWhy.{StepWhy}
use Rattle.schedule_text.specs.declared.standing.Standing.{Standing}
use Rattle.topic_files.specs.Lines.{lines_of}
use Rattle.topic_files.specs.File.{bytes_of}
use Rattle.topic_files.proofs.FileLemmas.{bytes_of-lines_of}
use Rattle.schedule_text.specs.Refusals.{Setting, most_bytes, most_rounds, refusal_of}
use Rattle.schedule_text.specs.Schedules.{first_refused, lined, lined_steps, schedule_of, setting_of, unless_refused}
use Rattle.schedule_text.specs.Standing.{first, standing_after}
use Rattle.schedule_text.specs.Steps.{step_of_line}

-- after these lines, none of which is refused, the steps are these, and this is known; `wanted` is the result for all lines
pub record Reached (wanted : Result (List Lined) (ℕ × StepWhy)) (setting : Setting) (workers : ℕ) (left : List (List ℕ)) (s : Standing) (steps : List Lined) : Type 0 where
  pub before : List (List ℕ)
  pub stands : s ≡ standing_after setting workers before
  pub read : wanted ≡ unless_refused (first_refused setting workers before left) (steps ++ lined_steps setting.items (length before) left)
  pub bytes : s.bytes + bytes_of left ≤ setting.size + 1
  pub lines : s.lines ≤ s.bytes
  pub short : min s.bytes setting.size ≤ most_bytes
  pub rounds : s.rounds ≤ most_rounds

module _ {wanted : Result (List Lined) (ℕ × StepWhy)} {setting : Setting} {workers : ℕ} (line : List ℕ) {more : List (List ℕ)} {s : Standing} {steps : List Lined}
    (reached : Reached wanted setting workers (line ∷ more) s steps) where
  -- the next line is read
  pub go_on : (o : Option Step) (next : Standing) → refusal_of setting workers reached.before line ≡ None → step_of_line setting.items line ≡ o
      → next ≡ standing_after setting workers (reached.before ++ line ∷ []) → next.lines ≡ s.lines + 1 → next.bytes ≡ s.bytes + (length line + 1)
      → min next.bytes setting.size ≤ most_bytes → next.rounds ≤ most_rounds → Reached wanted setting workers more next (steps ++ lined next.lines o)
  go_on o next fits is stands lines bytes short rounds = record {
    before = reached.before ++ line ∷ [];
    stands = stands;
    read =
        let place : next.lines ≡ length reached.before + 1 = lines ∙ ap (λ (t : Standing). t.lines + 1) reached.stands in
        let number : length reached.before + 1 ≡ length (reached.before ++ line ∷ []) = sym (length-append reached.before (line ∷ [])) in
        reached.read
        ∙ ap (λ w. unless_refused (option_or (option_map (λ why. (length reached.before + 1, why)) w) (first_refused setting workers (reached.before ++ line ∷ []) more))
        (steps ++ lined_steps setting.items (length reached.before) (line ∷ more))) fits
        ∙ ap₂ (λ (p : Option Step) (n : ℕ). unless_refused (first_refused setting workers (reached.before ++ line ∷ []) more)
        (steps ++ (lined (length reached.before + 1) p ++ lined_steps setting.items n more))) is number
        ∙ ap (λ ls. unless_refused (first_refused setting workers (reached.before ++ line ∷ []) more) ls)
        (sym (append_assoc steps (lined (length reached.before + 1) o) (lined_steps setting.items (length (reached.before ++ line ∷ [])) more)))
        ∙ ap (λ n. unless_refused (first_refused setting workers (reached.before ++ line ∷ []) more) ((steps ++ lined n o) ++ lined_steps setting.items (length (reached.before ++ line ∷ [])) more)) (sym place);
    bytes = omega (arith, reached.bytes, bytes);
    lines = omega (arith, reached.lines, lines, bytes);
    short = short;
    rounds = rounds;
  }

-- no line was read yet
at-first : (items : List Item) (topology : Topology) (workers : ℕ) (text : List ℕ)
    → Reached (schedule_of items topology workers text) (setting_of items topology (length text)) workers (lines_of text) (first workers) []
at-first items topology workers text = record {
  before = [];
  stands = refl;
  read = refl;
  bytes = omega (arith, bytes_of-lines_of text);
  lines = omega arith;
  short = omega arith;
  rounds = omega arith;
}

pub start : (items : List Item) (topology : Topology) (workers : ℕ) (text : List ℕ) (setting : Setting) (left : List (List ℕ)) (s : Standing) (steps : List Lined)
    → setting.items ≡ items → setting.subs ≡ topology.subs → setting.chain ≡ chain_of topology.subs → setting.size ≡ length text → left ≡ lines_of text → s ≡ first workers → steps ≡ []
    → Reached (schedule_of items topology workers text) setting workers left s steps
start items topology workers text setting left s steps is subs chain size lines stands none =
    let same : setting_of items topology (length text) ≡ setting = λ i. record { items = sym is i; subs = sym subs i; chain = sym chain i; size = sym size i } in
    subst (λ st. Reached (schedule_of items topology workers text) st workers left s steps) same
    (subst (λ l. Reached (schedule_of items topology workers text) (setting_of items topology (length text)) workers l s steps) (sym lines)
    (subst₂ (λ (t : Standing) (ls : List Lined). Reached (schedule_of items topology workers text) (setting_of items topology (length text)) workers (lines_of text) t ls) (sym stands) (sym none)
    (at-first items topology workers text)))

-- the same, with lists that are equal
pub moved : {wanted : Result (List Lined) (ℕ × StepWhy)} {setting : Setting} {workers : ℕ} {left more : List (List ℕ)} {s : Standing} {steps taken : List Lined}
    → left ≡ more → steps ≡ taken → Reached wanted setting workers left s steps → Reached wanted setting workers more s taken
moved {wanted = wanted} {setting = setting} {workers = workers} {s = s} lefts taken reached =
    subst₂ (λ (l : List (List ℕ)) (ls : List Lined). Reached wanted setting workers l s ls) lefts taken reached
