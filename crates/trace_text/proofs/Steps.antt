-- Lemmas on the steps of a journal.
use Rattle.std.proofs.Common.{◌≡◌, ◌∙◌, ℕ, ◌+◌, ◌-◌, ◌<◌, ◌≤◌, List, [], ◌∷◌, ◌++◌, length, get_or, take, drop, map, refl, ap, sym, add-one, arith, length-drop}
use Rattle.std.specs.Prelude.{Option, None, Some, option_map, slice_get}
use Rattle.std.specs.List.{before_first}
use Rattle.std.proofs.Math.Seq.{drop-cons}
use Rattle.std.proofs.lemmas.List.{drop_all, take_all}
use Rattle.core_state.specs.declared.journal.JournalEntry.{JournalEntry}
use Rattle.core_state.specs.declared.journal.JournalEntry.TheVariants as entry
use Rattle.topology.specs.declared.schedule.Lined.{Lined}
use Rattle.topology.specs.declared.schedule.Step.{Step}
use Rattle.trace_text.specs.Trace.{blocks_of, blocks_text, is_step, step_text}

-- the text of a journal's blocks, whose first is this step of the schedule, and each later one that of the next of these lines
abbrev pub steps_text : List JournalEntry → Option Step → List Lined → List ℕ
steps_text journal step lines = blocks_text (blocks_of journal) (step ∷ map (λ l. Some l.step) lines)

-- the entries from a place on are the one at the place and the later ones
from_place : (journal : List JournalEntry) (i : ℕ) (d : JournalEntry) → i < length journal → drop i journal ≡ get_or journal i d ∷ drop (i + 1) journal
from_place journal i d below = rw add-one (drop-cons journal i d below)

-- no step of the schedule, or none left
none_left : (journal : List JournalEntry) → blocks_text (blocks_of journal) [] ≡ steps_text journal None []
unfolding blocks_text
none_left journal = elim (blocks_of journal) as (λ blocks. blocks_text blocks [] ≡ blocks_text blocks (None ∷ [])) [ [] ↦ refl | block ∷ blocks ↦ refl ]

-- the steps from one that begins
step_first : (number : ℕ) (later : List JournalEntry) (step : Option Step) (lines : List Lined)
    → steps_text (entry.Step number ∷ later) step lines
    ≡ step_text number step (before_first is_step later) ++ steps_text later (option_map (λ l. l.step) (slice_get lines 0)) (drop 1 lines)
unfolding blocks_of blocks_text
step_first number later step [] = ap (λ more. step_text number step (before_first is_step later) ++ more) (none_left later)
step_first number later step (next ∷ lines) = refl

-- another entry has no lines of its own
other_first : (e : JournalEntry) (later : List JournalEntry) (step : Option Step) (lines : List Lined)
    → ((number : ℕ) → e ≡ entry.Step number → ⊥) → steps_text (e ∷ later) step lines ≡ steps_text later step lines
unfolding blocks_of
other_first (entry.Step number) later step lines none = absurd (none number refl)
other_first _ later step lines none = refl

-- the steps from a place on where a step begins there
pub steps_text-step : (journal : List JournalEntry) (i number : ℕ) (step : Option Step) (lines : List Lined)
    → i < length journal → get_or journal i (entry.Step 0) ≡ entry.Step number
    → steps_text (drop i journal) step lines
    ≡ step_text number step (before_first is_step (take (length journal - (i + 1)) (drop (i + 1) journal)))
    ++ steps_text (drop (i + 1) journal) (option_map (λ l. l.step) (slice_get lines 0)) (drop 1 lines)
steps_text-step journal i number step lines below is =
    let later = drop (i + 1) journal in
    let whole : take (length journal - (i + 1)) later ≡ later = take_all _ _ (simp length-drop (omega arith)) in
    ap (λ entries. steps_text entries step lines) (from_place journal i (entry.Step 0) below)
    ∙ ap (λ e. steps_text (e ∷ later) step lines) is
    ∙ step_first number later step lines
    ∙ ap (λ happened. step_text number step (before_first is_step happened) ++ steps_text later (option_map (λ l. l.step) (slice_get lines 0)) (drop 1 lines)) (sym whole)

-- and if another entry comes there
pub steps_text-other : (journal : List JournalEntry) (i : ℕ) (step : Option Step) (lines : List Lined)
    → i < length journal → ((number : ℕ) → get_or journal i (entry.Step 0) ≡ entry.Step number → ⊥)
    → steps_text (drop i journal) step lines ≡ steps_text (drop (i + 1) journal) step lines
steps_text-other journal i step lines below none =
    ap (λ entries. steps_text entries step lines) (from_place journal i (entry.Step 0) below)
    ∙ other_first (get_or journal i (entry.Step 0)) (drop (i + 1) journal) step lines none

-- there are no steps after the last place
pub steps_text-end : (journal : List JournalEntry) (i : ℕ) (step : Option Step) (lines : List Lined)
    → length journal ≤ i → steps_text (drop i journal) step lines ≡ []
unfolding blocks_of blocks_text
steps_text-end journal i step lines past = ap (λ entries. steps_text entries step lines) (drop_all i journal past)
