-- A journal is blocks in one way.
use Rattle.std.proofs.Common.{◌≡◌, ◌∙◌, ap, ap₂, sym, refl, subst, ℕ, suc, ◌+◌, ◌⊎◌, inl, inr, List, [], ◌∷◌, ◌++◌, take, Bool, true, false, arith}
use Rattle.std.specs.Prelude.{All, IsFalse, flat_map, ◌||◌, if◌then◌else◌, not}
use Rattle.std.specs.List.{before_first, list_any, position_or_len}
use Rattle.std.proofs.lemmas.List.Elements.{All-cons, All-head, All-nil, All-tail}
use Rattle.core_state.specs.declared.journal.JournalEntry.{JournalEntry}
use Rattle.core_state.specs.declared.journal.JournalEntry.TheVariants as entry
use Rattle.trace_text.specs.Trace.{blocks_of, entries_of, is_step, Block, IsCut}

bool_cases : (b : Bool) → (b ≡ true) ⊎ (b ≡ false)
bool_cases true = inl refl
bool_cases false = inr refl

either_false : (a b : Bool) → (a || b) ≡ false → (a ≡ false) × (b ≡ false)
either_false true b e = absurd (cc (e))
either_false false b e = (refl, e)

-- what stands before the first that passes, if the first element doesn't
before_first-other : {X : Type 0} (p : X → Bool) (x : X) (xs : List X) → p x ≡ false → before_first p (x ∷ xs) ≡ x ∷ before_first p xs
before_first-other p x xs other =
    let next : 1 + position_or_len p xs ≡ suc (position_or_len p xs) = omega arith in
    ap (λ (b : Bool). take (if not b then 1 + position_or_len p xs else 0) (x ∷ xs)) other ∙ ap (λ (n : ℕ). take n (x ∷ xs)) next

before_first-here : {X : Type 0} (p : X → Bool) (x : X) (xs : List X) → p x ≡ true → before_first p (x ∷ xs) ≡ []
before_first-here p x xs here = ap (λ (b : Bool). take (if not b then 1 + position_or_len p xs else 0) (x ∷ xs)) here

none-before : {X : Type 0} (p : X → Bool) (xs : List X) → list_any p (before_first p xs) ≡ false
none-before p [] = refl
none-before p (x ∷ xs) = elim (bool_cases (p x)) [
  | inl here ↦ ap (list_any p) (before_first-here p x xs here)
  | inr other ↦ ap (list_any p) (before_first-other p x xs other) ∙ ap₂ (λ (a b : Bool). a || b) other (none-before p xs)
]

-- an entry that begins a step
step-is : (e : JournalEntry) → is_step e ≡ true → (line : ℕ) × (e ≡ entry.Step line)
step-is (entry.Step line) begins = (line, refl)
step-is _ begins = absurd (cc (begins))

-- and another one
skipped : (e : JournalEntry) (later : List JournalEntry) → is_step e ≡ false → blocks_of (e ∷ later) ≡ blocks_of later
unfolding blocks_of
skipped (entry.Step line) later other = absurd (cc (other))
skipped _ later other = refl

-- the entries before the first step, and the blocks from it on
whole-cut : (journal : List JournalEntry) → journal ≡ before_first is_step journal ++ flat_map entries_of (blocks_of journal)
unfolding blocks_of
whole-cut [] = refl
whole-cut (e ∷ later) = elim (bool_cases (is_step e)) [
  | inl step ↦
      (let is = step-is e step in
      ap (λ (first : JournalEntry). first ∷ later) is.1
      ∙ ap (λ (es : List JournalEntry). entry.Step is.0 ∷ es) (whole-cut later)
      ∙ sym (ap (λ (first : JournalEntry). before_first is_step (first ∷ later) ++ flat_map entries_of (blocks_of (first ∷ later))) is.1))
  | inr other ↦ ap (λ (es : List JournalEntry). e ∷ es) (whole-cut later)
      ∙ sym (ap₂ (λ (es : List JournalEntry) (blocks : List Block). es ++ flat_map entries_of blocks)
      (before_first-other is_step e later other) (skipped e later other))
]

-- in a block no other step begins
abbrev NoStepIn : Block → Type 0
NoStepIn block = IsFalse (list_any is_step block.happened)

within-cut : (journal : List JournalEntry) → All NoStepIn (blocks_of journal)
unfolding blocks_of
within-cut [] = All-nil NoStepIn
within-cut (e ∷ later) = elim (bool_cases (is_step e)) [
  | inl step ↦
      (let is = step-is e step in
      let block : Block = record { line = is.0; happened = before_first is_step later } in
      subst (λ (first : JournalEntry). All NoStepIn (blocks_of (first ∷ later))) (sym is.1)
      (All-cons NoStepIn block (blocks_of later) (none-before is_step later) (within-cut later)))
  | inr other ↦ subst (All NoStepIn) (sym (skipped e later other)) (within-cut later)
]

pub is-cut : (journal : List JournalEntry) → IsCut journal (blocks_of journal)
is-cut journal = record {
  whole = (before_first is_step journal, none-before is_step journal, whole-cut journal);
  within =
      within-cut journal;
}

-- entries that begin no step are in no block of their own
blocks-front : (front rest : List JournalEntry) → list_any is_step front ≡ false → blocks_of (front ++ rest) ≡ blocks_of rest
blocks-front [] rest none = refl
blocks-front (e ∷ front) rest none = let parts = either_false (is_step e) (list_any is_step front) none in
    skipped e (front ++ rest) parts.0 ∙ blocks-front front rest parts.1

before-front : (front rest : List JournalEntry) → list_any is_step front ≡ false → before_first is_step rest ≡ [] →
    before_first is_step (front ++ rest) ≡ front
before-front [] rest none starts = starts
before-front (e ∷ front) rest none starts = let parts = either_false (is_step e) (list_any is_step front) none in
    before_first-other is_step e (front ++ rest) parts.0 ∙ ap (λ (es : List JournalEntry). e ∷ es) (before-front front rest parts.1 starts)

starts-step : (blocks : List Block) → before_first is_step (flat_map entries_of blocks) ≡ []
starts-step [] = refl
starts-step (block ∷ blocks) = refl

-- the blocks of blocks one after another
blocks-again : (blocks : List Block) → All NoStepIn blocks → blocks_of (flat_map entries_of blocks) ≡ blocks
unfolding blocks_of
blocks-again [] within = refl
blocks-again (block ∷ blocks) within =
    let rest : List JournalEntry = flat_map entries_of blocks in
    let none = All-head NoStepIn block blocks within in
    ap₂ (λ (happened : List JournalEntry) (more : List Block). record { line = block.line; happened = happened } ∷ more)
    (before-front block.happened rest none (starts-step blocks))
    (blocks-front block.happened rest none ∙ blocks-again blocks (All-tail NoStepIn block blocks within))

cut-blocks : (journal : List JournalEntry) (blocks : List Block) → IsCut journal blocks → blocks_of journal ≡ blocks
cut-blocks journal blocks cut =
    let before = cut.whole in
    ap blocks_of before.2 ∙ blocks-front before.0 (flat_map entries_of blocks) before.1 ∙ blocks-again blocks cut.within

pub only-cut : (journal : List JournalEntry) (blocks others : List Block) → IsCut journal blocks → IsCut journal others → blocks ≡ others
only-cut journal blocks others one other = sym (cut-blocks journal blocks one) ∙ cut-blocks journal others other
