-- A line after others: why it is refused, and what the reader knows after it, by what the reader knows before it.
use Rattle.std.proofs.Common.{◌≡◌, ℕ, ◌+◌, ◌<◌, ◌≤◌, min, List, [], ◌∷◌, ◌++◌, length, Bool, true, false, cond, nat_le, nat_lt, Option, Some, None, option_and_then, Result, Err, refl, subst, sym, ap, ap₂, ◌∙◌, arith, append-nil, length-append}
use Rattle.std.specs.List.{cons_option, fold, range_with_len}
use Rattle.std.specs.Option.{option_or}
use Rattle.std.proofs.lemmas.Bool.Decides.{nat_tests}
use Rattle.std.proofs.lemmas.List.Elements.{filter_map-append}
use Rattle.std.proofs.lemmas.List.Sums.{fold-append, sum_by-append}
use Rattle.topic_files.specs.File.{bytes_of}
use Rattle.topic_files.proofs.FileLemmas.{bytes_of-append}
use Rattle.ksql_program.specs.declared.program.Item.{Item}
use Rattle.topology.specs.declared.schedule.Step.{Step}
use Rattle.schedule_text.specs.declared.fault.LineFault.{LineFault}
use Rattle.schedule_text.specs.declared.fault.LineFault.TheVariants.{Refused, OutOfMemory}
use Rattle.schedule_text.specs.declared.fault.StepWhy.{StepWhy}
use Rattle.schedule_text.specs.declared.fault.StepWhy.TheVariants.{BadStep, TooLarge}
use Rattle.schedule_text.specs.declared.standing.Standing.{Standing}
use Rattle.schedule_text.specs.Forms.{Form, form_of_line}
use Rattle.schedule_text.specs.Lines.{is_skipped}
use Rattle.schedule_text.specs.Refusals.{Setting, form_refusal, most_bytes, most_rounds, most_steps, refusal_of, refused_if}
use Rattle.schedule_text.specs.Standing.{Answers, standing_after}
use Rattle.schedule_text.specs.Steps.{all_rounds, live_after, live_after_one, rounds_of, step_of, step_of_line, steps_of}

-- the rounds of a step, if there is one
abbrev pub rounds_if : ℕ → Option Step → ℕ
rounds_if chain None = 0
rounds_if chain (Some taken) = rounds_of chain taken

-- the steps of one more line
pub steps-more : (items : List Item) (before : List (List ℕ)) (line : List ℕ) → steps_of items (before ++ line ∷ []) ≡ steps_of items before ++ cons_option (step_of_line items line) []
steps-more items before line = filter_map-append (step_of_line items) before (line ∷ [])

rounds-more : (chain : ℕ) (steps : List Step) (o : Option Step) → all_rounds chain (steps ++ cons_option o []) ≡ all_rounds chain steps + rounds_if chain o
rounds-more chain steps None = let same : all_rounds chain (steps ++ []) ≡ all_rounds chain steps = ap (all_rounds chain) (append-nil steps) in omega (arith, same)
rounds-more chain steps (Some taken) =
    let more : all_rounds chain (steps ++ taken ∷ []) ≡ all_rounds chain steps + (0 + rounds_of chain taken) = sum_by-append (rounds_of chain) steps (taken ∷ []) in omega (arith, more)

bytes-more : (before : List (List ℕ)) (line : List ℕ) → bytes_of (before ++ line ∷ []) ≡ bytes_of before + (length line + 1)
bytes-more before line = let more : bytes_of (before ++ line ∷ []) ≡ bytes_of before + bytes_of (line ∷ []) = bytes_of-append before (line ∷ []) in omega (arith, more)

-- why a line that isn't skipped is refused, by what is known before it
abbrev pub step_refusal_at : Setting → Standing → List ℕ → Option StepWhy
step_refusal_at setting s line = cond (nat_le most_steps s.steps) (Some TooLarge)
    (option_or (form_refusal setting s.live (form_of_line line)) (refused_if (nat_lt most_rounds (s.rounds + rounds_if setting.chain (step_of_line setting.items line))) TooLarge))

-- why a line is refused, by what is known before it
abbrev pub refusal_at : Setting → Standing → List ℕ → Option StepWhy
refusal_at setting s line = cond (nat_lt most_bytes (min (s.bytes + (length line + 1)) setting.size)) (Some TooLarge) (cond (is_skipped line) None (step_refusal_at setting s line))

refusal-after : (setting : Setting) (workers : ℕ) (before : List (List ℕ)) (line : List ℕ) → refusal_of setting workers before line ≡ refusal_at setting (standing_after setting workers before) line
refusal-after setting workers before line =
    ap₂ (λ (bytes rounds : ℕ). cond (nat_lt most_bytes (min bytes setting.size)) (Some TooLarge) (cond (is_skipped line) None
    (cond (nat_le most_steps (length (steps_of setting.items before))) (Some TooLarge)
    (option_or (form_refusal setting (live_after workers (steps_of setting.items before)) (form_of_line line)) (refused_if (nat_lt most_rounds rounds) TooLarge)))))
    (bytes-more before line)
    (ap (all_rounds setting.chain) (steps-more setting.items before line) ∙ rounds-more setting.chain (steps_of setting.items before) (step_of_line setting.items line))

-- the step of a line is that of its form
pub step-is : (items : List Item) (line : List ℕ) (f : Form) (taken : Step) → is_skipped line ≡ false → form_of_line line ≡ Some f → step_of items f ≡ Some taken → step_of_line items line ≡ Some taken
step-is items line f taken none described is =
    ap₂ (λ (b : Bool) (o : Option Form). cond b None (option_and_then (step_of items) o)) none described ∙ is

-- a fault of a part is the fault of the whole, if its refusal is the whole's
pub fault-answers : {T U V W : Type 0} (v : T → U) (w : V → W) (fault : LineFault) (r : Result V LineFault) (part whole : Option StepWhy) (x : U) (y : W) → r ≡ Err fault
    → ((why : StepWhy) → part ≡ Some why → whole ≡ Some why) → Answers v (Err fault) part x → Answers w r whole y
fault-answers v w fault r part whole x y is f h = subst (λ q. Answers w q whole y) (sym is) (by fault h)
  where
    by : (e : LineFault) → Answers v (Err e) part x → Answers w (Err e) whole y
    by (Refused why) h = f why h
    by OutOfMemory h = tt

module _ (setting : Setting) (workers : ℕ) (before : List (List ℕ)) (line : List ℕ) (s : Standing) (stands : s ≡ standing_after setting workers before) where
  at : refusal_of setting workers before line ≡ refusal_at setting s line
  at = refusal-after setting workers before line ∙ ap (λ (t : Standing). refusal_at setting t line) (sym stands)

  -- there are too many bytes with it
  pub long-refused : most_bytes < min (s.bytes + (length line + 1)) setting.size → refusal_of setting workers before line ≡ Some TooLarge
  long-refused long =
      let is : nat_lt most_bytes (min (s.bytes + (length line + 1)) setting.size) ≡ true = grind (arith, nat_tests, long) in
      at ∙ ap (λ (b : Bool). cond b (Some TooLarge) (cond (is_skipped line) None (step_refusal_at setting s line))) is

  module _ (short : min (s.bytes + (length line + 1)) setting.size ≤ most_bytes) where
    short-at : refusal_of setting workers before line ≡ cond (is_skipped line) None (step_refusal_at setting s line)
    short-at =
        let is : nat_lt most_bytes (min (s.bytes + (length line + 1)) setting.size) ≡ false = grind (arith, nat_tests, short) in
        at ∙ ap (λ (b : Bool). cond b (Some TooLarge) (cond (is_skipped line) None (step_refusal_at setting s line))) is

    pub skipped-refusal : is_skipped line ≡ true → refusal_of setting workers before line ≡ None
    skipped-refusal is = short-at ∙ ap (λ (b : Bool). cond b None (step_refusal_at setting s line)) is

    module _ (none : is_skipped line ≡ false) where
      step-at : refusal_of setting workers before line ≡ step_refusal_at setting s line
      step-at = short-at ∙ ap (λ (b : Bool). cond b None (step_refusal_at setting s line)) none

      module _ (few : s.steps < most_steps) where
        -- its form is refused, or else it has too many rounds
        pub form-at : refusal_of setting workers before line
            ≡ option_or (form_refusal setting s.live (form_of_line line)) (refused_if (nat_lt most_rounds (s.rounds + rounds_if setting.chain (step_of_line setting.items line))) TooLarge)
        form-at =
            let is : nat_le most_steps s.steps ≡ false = grind (arith, nat_tests, few) in
            step-at
            ∙ ap (λ (b : Bool). cond b (Some TooLarge)
            (option_or (form_refusal setting s.live (form_of_line line)) (refused_if (nat_lt most_rounds (s.rounds + rounds_if setting.chain (step_of_line setting.items line))) TooLarge))) is

        pub form-refused : (why : StepWhy) → form_refusal setting s.live (form_of_line line) ≡ Some why → refusal_of setting workers before line ≡ Some why
        form-refused why is = form-at ∙ ap (λ o. option_or o (refused_if (nat_lt most_rounds (s.rounds + rounds_if setting.chain (step_of_line setting.items line))) TooLarge)) is

        -- it has this step, whose rounds alone can refuse it
        pub rounds-at : (taken : Step) → form_refusal setting s.live (form_of_line line) ≡ None → step_of_line setting.items line ≡ Some taken
            → refusal_of setting workers before line ≡ refused_if (nat_lt most_rounds (s.rounds + rounds_of setting.chain taken)) TooLarge
        rounds-at taken fits is = form-at
            ∙ ap₂ (λ (o : Option StepWhy) (p : Option Step). option_or o (refused_if (nat_lt most_rounds (s.rounds + rounds_if setting.chain p)) TooLarge)) fits is

  -- what is known after it, if this is its step
  pub stands-after : (o : Option Step) (next : Standing) → step_of_line setting.items line ≡ o → next.lines ≡ s.lines + 1 → next.bytes ≡ s.bytes + (length line + 1)
      → next.steps ≡ s.steps + length (cons_option o []) → next.rounds ≡ s.rounds + rounds_if setting.chain o → next.live ≡ fold live_after_one s.live (cons_option o [])
      → next ≡ standing_after setting workers (before ++ line ∷ [])
  stands-after o next is lines bytes steps rounds live =
      let more : steps_of setting.items (before ++ line ∷ []) ≡ steps_of setting.items before ++ cons_option o [] =
      steps-more setting.items before line ∙ ap (λ p. steps_of setting.items before ++ cons_option p []) is in
      let ls : next.lines ≡ length (before ++ line ∷ []) = lines ∙ ap (λ (t : Standing). t.lines + 1) stands ∙ sym (length-append before (line ∷ [])) in
      let bs : next.bytes ≡ bytes_of (before ++ line ∷ []) = bytes ∙ ap (λ (t : Standing). t.bytes + (length line + 1)) stands ∙ sym (bytes-more before line) in
      let ss : next.steps ≡ length (steps_of setting.items (before ++ line ∷ [])) =
      steps ∙ ap (λ (t : Standing). t.steps + length (cons_option o [])) stands ∙ sym (ap length more ∙ length-append (steps_of setting.items before) (cons_option o [])) in
      let rs : next.rounds ≡ all_rounds setting.chain (steps_of setting.items (before ++ line ∷ [])) =
      rounds ∙ ap (λ (t : Standing). t.rounds + rounds_if setting.chain o) stands ∙ sym (ap (all_rounds setting.chain) more ∙ rounds-more setting.chain (steps_of setting.items before) o) in
      let vs : next.live ≡ live_after workers (steps_of setting.items (before ++ line ∷ [])) =
      live ∙ ap (λ (t : Standing). fold live_after_one t.live (cons_option o [])) stands
      ∙ sym (ap (live_after workers) more ∙ fold-append live_after_one (range_with_len 1 workers) (steps_of setting.items before) (cons_option o [])) in
      λ i. record { lines = ls i; bytes = bs i; steps = ss i; rounds = rs i; live = vs i }
