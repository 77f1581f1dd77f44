-- The schedule of a demo is lawful.
use Rattle.std.proofs.Common.{◌≡◌, ◌∙◌, ap, refl, sym, subst, ℕ, zero, suc, ◌+◌, ◌-◌, ◌<◌, ◌≤◌, ◌*◌, ◌^◌, true, false, cond, not, List, [], ◌∷◌, ◌++◌, append_assoc, codes, length, length-append, ne_eqb, lt-ltb, arith, Result, Ok}
use Rattle.std.proofs.lemmas.Bool.{le-leb, le-ltb, lt-leb}
use Rattle.std.proofs.lemmas.Fmt.{decimal_is_IsNumeral, decimal_nonempty, digits_value-decimal}
use Rattle.std.proofs.lemmas.List.FromFn.{length-range_with_len}
use Rattle.std.proofs.lemmas.Str.{is_utf8-from_IsUtf8}
use Rattle.std.proofs.lemmas.Str.Parse.{IsNumeralModel, numerals_by_fold, tells_all_ascii_digits, digit_at}
use Rattle.std.proofs.Math.Nat.{min-le_right}
use Rattle.std.specs.Int.{div_ceil, IsInRange}
use Rattle.std.specs.List.{cons_option, list_any, onto_first, range_with_len, slice_split}
use Rattle.std.specs.Prelude.{◌==◌, Bool, filter, min, nat_le, nat_lt, decimal, flat_map, Option, None, Some, option_map}
use Rattle.std.specs.Option.{option_or}
use Rattle.std.specs.Str.{all_ascii_digits}
use Rattle.std.proofs.lemmas.List.Sums.{fold-append, sum_by-append}
use Rattle.std.proofs.lemmas.List.Splits.{slice_split-cons_no}
use Rattle.std.specs.Str.Parse.{AllDigits}
use Rattle.demo_files.specs.Demo.{demo_schedule, feed_lines, feeds_of}
use Rattle.topic_files.specs.File.{bytes_of}
use Rattle.topic_files.specs.Lines.{is_line_feed, lines_of, without_empty_end}
use Rattle.ksql_program.specs.declared.program.Item.{Item}
use Rattle.topology.specs.Tasks.{chain_of}
use Rattle.topology.specs.Topologies.{topology_of}
use Rattle.topology.specs.declared.schedule.Lined.{Lined}
use Rattle.topology.specs.declared.schedule.Step.{Step}
use Rattle.topology.specs.declared.schedule.Step.TheVariants as step
use Rattle.schedule_text.specs.declared.fault.StepWhy.{StepWhy}
use Rattle.schedule_text.specs.declared.fault.StepWhy.TheVariants.{TooLarge}
use Rattle.schedule_text.specs.Forms.{Form, Pair, form_of, form_of_line}
use Rattle.schedule_text.specs.Forms as form
use Rattle.schedule_text.specs.Lines.{is_skipped}
use Rattle.schedule_text.specs.Refusals.{Setting, form_refusal, is_live, refusal_of, refused_if}
use Rattle.schedule_text.specs.Schedules.{first_refused, lined_steps, schedule_of, setting_of, unless_refused}
use Rattle.schedule_text.specs.Standing.{standing_after}
use Rattle.schedule_text.specs.Steps.{all_rounds, live_after, live_after_one, rounds_of, step_of, step_of_line, steps_of, topic_number, with_worker, without_worker}
use Rattle.schedule_text.proofs.OneLine.{rounds-at, step-is, steps-more}
use Rattle.schedule_text.specs.Words.{count_of, decimal_after, is_blank, is_empty, number_of, words_of}
use Rattle.schedule_laws.proofs.Demo.{ceil-few, no-empty-end, schedule-short}
use Rattle.schedule_laws.proofs.DemoFile.{AreSeen, decimal-seen, no-line-feed, seen-both, seen-utf8, split-seen}

-- ---- the number of a feed

read-number : IsNumeralModel (λ ds. all_ascii_digits ds ≡ true) (decimal_after 0)
read-number =
    numerals_by_fold (λ ds. all_ascii_digits ds ≡ true) tells_all_ascii_digits decimal_after
    (record { empty = λ n. refl; more = λ n c cs k. let same : 10 * n + (c - 48) ≡ n * 10 + (c - 48) = omega arith in ap (λ m. decimal_after m cs) same })

decimal-number : (n : ℕ) → n < 2 ^ 64 → number_of (decimal n) ≡ Some n
decimal-number n small = by (decimal n) (decimal_nonempty n small) (read-number.from (decimal n) (decimal_is_IsNumeral n small).0.1) (digits_value-decimal read-number n small)
  where
    by : (ds : List ℕ) → 0 < length ds → all_ascii_digits ds ≡ true → decimal_after 0 ds ≡ n → number_of ds ≡ Some n
    by [] some all is = absurd (omega (arith, some))
    by (d ∷ ds) some all is = rw (all, is) refl

-- ---- a line

module _ (setting : Setting) (workers : ℕ) (short : setting.size ≤ 1048576) where
  -- none of these lines, which come after others, is refused
  abbrev IsFine : List (List ℕ) → List (List ℕ) → Type 0
  IsFine before lines = first_refused setting workers before lines ≡ None

  -- after some lines these workers are live, and they have fewer steps and at most so many rounds
  record IsAfter (before : List (List ℕ)) (live : List ℕ) (steps rounds : ℕ) : Type 0 where
    alive : live_after workers (steps_of setting.items before) ≡ live
    taken : length (steps_of setting.items before) ≡ steps
    passed : all_rounds setting.chain (steps_of setting.items before) ≡ rounds

  fine-step : (line : List ℕ) (more : List (List ℕ)) (f : Form) (s : Step) → is_skipped line ≡ false → form_of_line line ≡ Some f → step_of setting.items f ≡ Some s →
      (before : List (List ℕ)) (live : List ℕ) (steps rounds : ℕ) → IsAfter before live steps rounds → form_refusal setting live (Some f) ≡ None → steps < 10000 →
      rounds + rounds_of setting.chain s ≤ 100000 →
      (IsAfter (before ++ line ∷ []) (live_after_one live s) (steps + 1) (rounds + rounds_of setting.chain s) → IsFine (before ++ line ∷ []) more) → IsFine before (line ∷ more)
  fine-step line more f s kept described step before live steps rounds after fits few low then =
      let all : List Step = steps_of setting.items before in
      let long : ℕ = bytes_of before + (length line + 1) in
      let size : min long setting.size ≤ setting.size = min-le_right long setting.size in
      let is : step_of_line setting.items line ≡ Some s = step-is setting.items line f s kept described step in
      let next : steps_of setting.items (before ++ line ∷ []) ≡ all ++ s ∷ [] =
      steps-more setting.items before line ∙ ap (λ (o : Option Step). all ++ cons_option o []) is in
      let sum : all_rounds setting.chain (all ++ s ∷ []) ≡ all_rounds setting.chain all + (0 + rounds_of setting.chain s) = sum_by-append (rounds_of setting.chain) all (s ∷ []) in
      let passed = after.passed in
      let taken = after.taken in
      let refusal : refusal_of setting workers before line ≡ None =
      rounds-at setting workers before line (standing_after setting workers before) refl (omega (arith, size, short)) kept (omega (arith, few, taken)) s
      (ap (form_refusal setting (live_after workers all)) described ∙ ap (λ (ws : List ℕ). form_refusal setting ws (Some f)) after.alive ∙ fits) is
      ∙ ap (λ (b : Bool). refused_if b TooLarge) (le-ltb 100000 (all_rounds setting.chain all + rounds_of setting.chain s) (omega (arith, low, passed))) in
      ap (λ (o : Option StepWhy). option_or (option_map (λ why. (length before + 1, why)) o) (first_refused setting workers (before ++ line ∷ []) more)) refusal
      ∙ then (record {
        alive = ap (live_after workers) next ∙ fold-append live_after_one (range_with_len 1 workers) all (s ∷ []) ∙ ap (λ (ws : List ℕ). live_after_one ws s) after.alive;
        taken = ap length next ∙ length-append all (s ∷ []) ∙ ap (λ (n : ℕ). n + 1) taken;
        passed = ap (all_rounds setting.chain) next ∙ omega (arith, sum, passed);
      })

-- ---- the workers, without the first one and with it

-- the workers after the first one
abbrev others : ℕ → List ℕ
others n = range_with_len 2 n

none-lower : (n a : ℕ) → 2 ≤ a → filter (λ w. nat_lt w 1) (range_with_len a n) ≡ []
none-lower zero a high = refl
none-lower (suc n) a high = rw (le-ltb a 1 (omega (arith, high))) (none-lower n (a + 1) (omega (arith, high)))

all-higher : (n a : ℕ) → 2 ≤ a → filter (λ w. nat_lt 1 w) (range_with_len a n) ≡ range_with_len a n
all-higher zero a high = refl
all-higher (suc n) a high = rw (lt-ltb 1 a (omega (arith, high))) (ap (λ (ws : List ℕ). a ∷ ws) (all-higher n (a + 1) (omega (arith, high))))

first-lost : (n a : ℕ) → 2 ≤ a → is_live (range_with_len a n) 1 ≡ false
first-lost zero a high = refl
first-lost (suc n) a high = rw (ne_eqb a 1 (λ same. omega (arith, high, same))) (first-lost n (a + 1) (omega (arith, high)))

without-first : (n : ℕ) → without_worker 1 (1 ∷ others n) ≡ others n
without-first n = rw (none-lower n 2 (omega arith), all-higher n 2 (omega arith)) refl

with-first : (n : ℕ) → with_worker 1 (others n) ≡ 1 ∷ others n
with-first n = rw (none-lower n 2 (omega arith), all-higher n 2 (omega arith)) refl

-- ---- the lines of a feed

-- the first line of a feed without its line feed
abbrev feed_text : ℕ → List ℕ
feed_text n = codes "feed hits " ++ decimal n

-- the lines of a feed
abbrev three_lines : ℕ → List (List ℕ)
three_lines n = feed_text n ∷ codes "round lose 1" ∷ codes "start 1" ∷ []

digits-whole : (ds : List ℕ) → AllDigits 10 ds → slice_split is_blank ds ≡ ds ∷ []
digits-whole [] all = refl
digits-whole (d ∷ ds) all =
    let seen : IsInRange 48 57 d = digit_at (d ∷ ds) 0 all (omega arith) in
    let no_space : (d == 32) ≡ false = ne_eqb d 32 (λ same. omega (arith, seen.0, same)) in
    let no_tab : (d == 9) ≡ false = ne_eqb d 9 (λ same. omega (arith, seen.0, same)) in
    slice_split-cons_no is_blank d ds (rw (no_space, no_tab) refl) ∙ ap (onto_first d) (digits-whole ds all.1)

feed-words : (n : ℕ) → n < 2 ^ 64 → words_of (feed_text n) ≡ codes "feed" ∷ codes "hits" ∷ decimal n ∷ []
feed-words n small = rw (digits-whole (decimal n) (decimal_is_IsNumeral n small).0.1) refl

feed-seen : (n : ℕ) → n < 2 ^ 64 → AreSeen (feed_text n)
feed-seen n small = seen-both (codes "feed hits ") (decimal n) refl (decimal-seen n small)

-- what the first one feeds
abbrev fed_pairs : ℕ → List Pair
fed_pairs n = record { topic = codes "hits"; n = n } ∷ []

feed-count : (n : ℕ) → n ≤ 200000 → count_of (decimal n) ≡ Some n
feed-count n few = rw (decimal-number n (omega (arith, few)), le-leb 0 n (omega arith), le-leb n 200000 (omega (arith, few))) refl

feed-form : (n : ℕ) → n ≤ 200000 → form_of_line (feed_text n) ≡ Some (form.feed (fed_pairs n))
feed-form n few =
    let some : 0 < length (decimal n) = decimal_nonempty n (omega (arith, few)) in
    let full : (length (decimal n) == 0) ≡ false = ne_eqb (length (decimal n)) 0 (λ none. omega (arith, some, none)) in
    rw (is_utf8-from_IsUtf8 (feed_text n) (seen-utf8 (feed_text n) (feed-seen n (omega (arith, few)))))
    (ap (λ (words : List (List ℕ)). cond (not (list_any is_empty words)) (form_of words) None) (feed-words n (omega (arith, few))) ∙ rw (full, feed-count n few) refl)

plain-form : (line : List ℕ) (f : Form) → AreSeen line → cond (not (list_any is_empty (words_of line))) (form_of (words_of line)) None ≡ Some f → form_of_line line ≡ Some f
plain-form line f seen is = rw (is_utf8-from_IsUtf8 line (seen-utf8 line seen)) is

round-form : form_of_line (codes "round lose 1") ≡ Some (form.round (Some 1))
round-form = plain-form (codes "round lose 1") (form.round (Some 1)) refl refl

start-form : form_of_line (codes "start 1") ≡ Some (form.start 1)
start-form = plain-form (codes "start 1") (form.start 1) refl refl

drain-form : form_of_line (codes "drain") ≡ Some form.drain
drain-form = plain-form (codes "drain") form.drain refl refl

-- ---- a feed, a round without the first worker, and its start

module _ (setting : Setting) (workers : ℕ) (short : setting.size ≤ 1048576) (topic : ℕ) (known : topic_number setting.items (codes "hits") ≡ Some topic) (n w : ℕ) (few-records : n ≤ 200000) (fit : w < 32) where
  feed-step : step_of setting.items (form.feed (fed_pairs n)) ≡ Some (step.Feed (record { topic = topic; n = n } ∷ []))
  feed-step = rw known refl

  feed-fits : (live : List ℕ) → form_refusal setting live (Some (form.feed (fed_pairs n))) ≡ None
  feed-fits live = rw known refl

  round-fits : (live : List ℕ) → live ≡ 1 ∷ others w → form_refusal setting live (Some (form.round (Some 1))) ≡ None
  round-fits live is = ap (λ (ws : List ℕ). form_refusal setting ws (Some (form.round (Some 1)))) is

  start-fits : (live : List ℕ) → live ≡ others w → form_refusal setting live (Some (form.start 1)) ≡ None
  start-fits live is =
      ap (λ (ws : List ℕ). form_refusal setting ws (Some (form.start 1))) is
      ∙ rw (first-lost w 2 (omega arith), lt-leb 32 (length (others w)) (let long : length (others w) ≡ w = length-range_with_len 2 w in omega (arith, long, fit))) refl

  drain-fits : (live : List ℕ) → live ≡ 1 ∷ others w → form_refusal setting live (Some form.drain) ≡ None
  drain-fits live is = ap (λ (ws : List ℕ). form_refusal setting ws (Some form.drain)) is ∙ rw (ne_eqb (length (1 ∷ others w)) 0 (λ none. omega (arith, none))) refl

  feed-fine : (more before : List (List ℕ)) (steps rounds : ℕ) → IsAfter setting workers short before (1 ∷ others w) steps rounds → steps + 3 < 10000 → rounds < 100000 →
      ((after : List (List ℕ)) → IsAfter setting workers short after (1 ∷ others w) (steps + 3) (rounds + 1) → IsFine setting workers short after more) →
      IsFine setting workers short before (three_lines n ++ more)
  feed-fine more before steps rounds after few low then =
      let fed : List (List ℕ) = before ++ feed_text n ∷ [] in
      let lost : List (List ℕ) = fed ++ codes "round lose 1" ∷ [] in
      fine-step setting workers short (feed_text n) (codes "round lose 1" ∷ codes "start 1" ∷ more) (form.feed (fed_pairs n)) (step.Feed (record { topic = topic; n = n } ∷ [])) refl (feed-form n few-records)
      feed-step before (1 ∷ others w) steps rounds after (feed-fits (1 ∷ others w)) (omega (arith, few)) (omega (arith, low))
      (λ first.
      fine-step setting workers short (codes "round lose 1") (codes "start 1" ∷ more) (form.round (Some 1)) (step.Round (Some 1) None) refl round-form
      refl fed (1 ∷ others w) (steps + 1) (rounds + 0) first (round-fits (1 ∷ others w) refl) (omega (arith, few)) (omega (arith, low))
      (λ second.
      fine-step setting workers short (codes "start 1") more (form.start 1) (step.Start 1) refl start-form
      refl lost (without_worker 1 (1 ∷ others w)) (steps + 1 + 1) (rounds + 0 + 1) second (start-fits (without_worker 1 (1 ∷ others w)) (without-first w)) (omega (arith, few)) (omega (arith, low))
      (λ third.
      let passed = third.passed in
      let taken = third.taken in
      then (lost ++ codes "start 1" ∷ []) (record {
        alive = third.alive ∙ ap (with_worker 1) (without-first w) ∙ with-first w;
        taken = taken ∙ omega arith;
        passed = passed ∙ omega arith;
      }))))

  -- several feeds, and a drain
  schedule-fine : (ks : List ℕ) (before : List (List ℕ)) (steps rounds : ℕ) → IsAfter setting workers short before (1 ∷ others w) steps rounds → steps + 3 * length ks < 9999 →
      rounds + length ks + setting.chain ≤ 100000 → IsFine setting workers short before (flat_map (λ _. three_lines n) ks ++ codes "drain" ∷ [])
  schedule-fine [] before steps rounds after few low =
      fine-step setting workers short (codes "drain") [] form.drain step.Drain refl drain-form refl before (1 ∷ others w) steps rounds after (drain-fits (1 ∷ others w) refl)
      (omega (arith, few)) (omega (arith, low)) (λ last. refl)
  schedule-fine (k ∷ ks) before steps rounds after few low =
      feed-fine (flat_map (λ _. three_lines n) ks ++ codes "drain" ∷ []) before steps rounds after (omega (arith, few)) (omega (arith, low))
      (λ lines next. schedule-fine ks lines (steps + 3) (rounds + 1) next (omega (arith, few)) (omega (arith, low)))

-- ---- the lines of the schedule

feed-lines : (n : ℕ) (ys : List ℕ) → feed_lines n ++ ys ≡ feed_text (div_ceil n 10) ++ 10 ∷ (codes "round lose 1\nstart 1\n" ++ ys)
unfolding feed_lines
feed-lines n ys = simp append_assoc refl

feed-pieces : (n : ℕ) (ys : List ℕ) → n ≤ 100000 → slice_split is_line_feed (feed_lines n ++ ys) ≡ three_lines (div_ceil n 10) ++ slice_split is_line_feed ys
feed-pieces n ys few =
    let ceil : div_ceil n 10 ≤ 10000 = ceil-few n few in
    ap (slice_split is_line_feed) (feed-lines n ys)
    ∙ split-seen is_line_feed (feed_text (div_ceil n 10)) 10 (codes "round lose 1\nstart 1\n" ++ ys) no-line-feed (feed-seen (div_ceil n 10) (omega (arith, ceil))) refl

pieces : (n : ℕ) (ks : List ℕ) → n ≤ 100000 →
    slice_split is_line_feed (flat_map (λ _. feed_lines n) ks ++ codes "drain\n") ≡ flat_map (λ _. three_lines (div_ceil n 10)) ks ++ codes "drain" ∷ [] ∷ []
pieces n [] few = refl
pieces n (k ∷ ks) few =
    ap (slice_split is_line_feed) (append_assoc (feed_lines n) (flat_map (λ _. feed_lines n) ks) (codes "drain\n"))
    ∙ feed-pieces n (flat_map (λ _. feed_lines n) ks ++ codes "drain\n") few
    ∙ ap (λ (lines : List (List ℕ)). three_lines (div_ceil n 10) ++ lines) (pieces n ks few)
    ∙ sym (append_assoc (three_lines (div_ceil n 10)) (flat_map (λ _. three_lines (div_ceil n 10)) ks) (codes "drain" ∷ [] ∷ []))

schedule-lines : (n : ℕ) → n ≤ 100000 → lines_of (demo_schedule n) ≡ flat_map (λ _. three_lines (div_ceil n 10)) (range_with_len 0 10) ++ codes "drain" ∷ []
unfolding demo_schedule feeds_of
schedule-lines n few = ap without_empty_end (pieces n (range_with_len 0 10) few) ∙ no-empty-end (flat_map (λ _. three_lines (div_ceil n 10)) (range_with_len 0 10))

-- the schedule of a demo is read without a fault, if its topic is declared
pub demo-steps : (items : List Item) (topic n workers : ℕ) → topic_number items (codes "hits") ≡ Some topic → chain_of (topology_of items).subs ≤ 1000 → n ≤ 100000 → 1 ≤ workers → workers ≤ 32 →
    (steps : List Lined) × (schedule_of items (topology_of items) workers (demo_schedule n) ≡ Ok steps)
demo-steps items topic n zero known low few some fit = absurd (omega (arith, some))
demo-steps items topic n (suc w) known low few some fit =
    let ceil : div_ceil n 10 ≤ 10000 = ceil-few n few in
    let size : length (demo_schedule n) ≤ 101006 = schedule-short n few in
    let setting : Setting = setting_of items (topology_of items) (length (demo_schedule n)) in
    let fine : first_refused setting (suc w) [] (lines_of (demo_schedule n)) ≡ None =
    subst (λ (lines : List (List ℕ)). first_refused setting (suc w) [] lines ≡ None) (sym (schedule-lines n few))
    (schedule-fine setting (suc w) (omega (arith, size)) topic known (div_ceil n 10) w (omega (arith, ceil)) (omega (arith, fit))
    (range_with_len 0 10) [] 0 0 (record { alive = refl; taken = refl; passed = refl }) (omega arith) (omega (arith, low))) in
    (lined_steps items 0 (lines_of (demo_schedule n)), ap (λ o. unless_refused o (lined_steps items 0 (lines_of (demo_schedule n)))) fine)
