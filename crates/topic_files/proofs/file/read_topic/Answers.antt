-- Each line takes what is reached one line further, or has the first fault.
use Rattle.std.proofs.Common.{◌≡◌, ℕ, ◌+◌, ◌≤◌, Bool, cond, true, false, not, ◌||◌, nat_lt, arith, refl, sym, ap, ◌∙◌}
use mir.Val.{bool_byte}
use Rattle.topic_files.specs.declared.topic.LineWhy.TheVariants.{BadLine, TooLarge}
use Rattle.topic_files.proofs.FileLemmas.{before-push, moved, refused_is, refused_answers, is_over, taken_fits, number_fits, records_fit, is_large, is_bad, blank_passed, record_passed}
use Rattle.topic_files.proofs.file.read_topic.Goals as goal

-- a truth value counts as one or as nothing
bool_byte-small : (b : Bool) → bool_byte b ≤ 1
bool_byte-small true = omega arith
bool_byte-small false = omega arith

counted : (blank : Bool) (one : ℕ) → one ≡ bool_byte (not blank) → one ≡ cond (not blank) 1 0
counted true one e = e
counted false one e = e

pub overflow_add-number : goal.overflow_add-number
overflow_add-number c =
    let reached = moved c.loop-line.invariant.reached _ _ _ refl (sym c.in-Some.ensures.steps) refl in
    omega (arith, number_fits _ _ _ _ _ _ _ _ _ _ reached)

pub overflow_add-records : goal.overflow_add-records
overflow_add-records c =
    let reached = moved c.loop-line.invariant.reached _ _ _ refl (sym c.in-Some.ensures.steps) refl in
    omega (arith, number_fits _ _ _ _ _ _ _ _ _ _ reached, records_fit _ _ _ _ _ _ _ _ _ _ reached, bool_byte-small (not c.is_blank-blank.result), c.from-records.ensures)

pub overflow_add-taken-in-loop-line : goal.overflow_add-taken-in-loop-line
overflow_add-taken-in-loop-line c =
    let reached = moved c.loop-line.invariant.reached _ _ _ refl (sym c.in-Some.ensures.steps) refl in
    omega (arith, taken_fits _ _ _ _ _ _ _ _ _ _ reached)

pub refused-requires : goal.refused-requires
refused-requires c =
    let reached = moved c.loop-line.invariant.reached _ _ _ refl (sym c.in-Some.ensures.steps) refl in
    omega (arith, number_fits _ _ _ _ _ _ _ _ _ _ reached)

pub returns-then-is_passed-clause-refused : goal.returns-then-is_passed-clause-refused
returns-then-is_passed-clause-refused c =
    let reached = moved c.loop-line.invariant.reached _ _ _ refl (sym c.in-Some.ensures.steps) refl in
    let over : is_over _ _ _ _ _ _ _ _ _ _ reached c.from-records.result ≡ true =
    ap (λ m. nat_lt c.args.room.records (c.loop-line.records + c.from-records.result) || nat_lt c.args.room.bytes m) (sym c.min.ensures) ∙ sym c.is_passed.ensures ∙ c.if-is_passed.true in
    refused_is c.refused.result (c.loop-line.number + 1) TooLarge _ c.refused.ensures
    (is_large _ _ _ _ _ _ _ _ _ _ reached c.is_blank-blank.result c.from-records.result (sym c.is_blank-blank.ensures) (counted c.is_blank-blank.result c.from-records.result c.from-records.ensures) over)

pub returns-then-is_passed-clause-answered : goal.returns-then-is_passed-clause-answered
returns-then-is_passed-clause-answered c _ =
    let reached = moved c.loop-line.invariant.reached _ _ _ refl (sym c.in-Some.ensures.steps) refl in
    let over : is_over _ _ _ _ _ _ _ _ _ _ reached c.from-records.result ≡ true =
    ap (λ m. nat_lt c.args.room.records (c.loop-line.records + c.from-records.result) || nat_lt c.args.room.bytes m) (sym c.min.ensures) ∙ sym c.is_passed.ensures ∙ c.if-is_passed.true in
    refused_answers c.refused.result (c.loop-line.number + 1) TooLarge _ _ c.refused.ensures
    (is_large _ _ _ _ _ _ _ _ _ _ reached c.is_blank-blank.result c.from-records.result (sym c.is_blank-blank.ensures) (counted c.is_blank-blank.result c.from-records.result c.from-records.ensures) over)

pub loop-line-preserved-then-blank : goal.loop-line-preserved-then-blank
loop-line-preserved-then-blank c =
    let reached = moved c.loop-line.invariant.reached _ _ _ refl (sym c.in-Some.ensures.steps) refl in
    let over : is_over _ _ _ _ _ _ _ _ _ _ reached c.from-records.result ≡ false =
    ap (λ m. nat_lt c.args.room.records (c.loop-line.records + c.from-records.result) || nat_lt c.args.room.bytes m) (sym c.min.ensures) ∙ sym c.is_passed.ensures ∙ c.if-is_passed.false in
    let passed = blank_passed _ _ _ _ _ _ _ _ _ _ reached c.from-records.result (sym c.is_blank-blank.ensures ∙ c.if-blank.true)
    (c.from-records.ensures ∙ ap (λ b. bool_byte (not b)) c.if-blank.true) over in
    record { can_next = tt; is_finite = tt; reached = moved passed _ _ _ (before-push c.loop-line.yielded c.in-Some.line) refl refl }

pub loop-line-preserved : goal.loop-line-preserved
loop-line-preserved c =
    let reached = moved c.loop-line.invariant.reached _ _ _ refl (sym c.in-Some.ensures.steps) refl in
    let over : is_over _ _ _ _ _ _ _ _ _ _ reached c.from-records.result ≡ false =
    ap (λ m. nat_lt c.args.room.records (c.loop-line.records + c.from-records.result) || nat_lt c.args.room.bytes m) (sym c.min.ensures) ∙ sym c.is_passed.ensures ∙ c.if-is_passed.false in
    let passed = record_passed _ _ _ _ _ _ _ _ _ _ reached c.from-records.result c.in-Some-2.fed (sym c.is_blank-blank.ensures ∙ c.if-blank.false)
    (c.from-records.ensures ∙ ap (λ b. bool_byte (not b)) c.if-blank.false) over (sym c.in_ok-fed.ensures ∙ c.in-Some-2.is) in
    record { can_next = tt; is_finite = tt; reached = moved passed _ _ _ (before-push c.loop-line.yielded c.in-Some.line) refl c.in_ok-push-in-Some-2.ensures.items }

pub refused-requires-in-None-2 : goal.refused-requires-in-None-2
refused-requires-in-None-2 c =
    let reached = moved c.loop-line.invariant.reached _ _ _ refl (sym c.in-Some.ensures.steps) refl in
    omega (arith, number_fits _ _ _ _ _ _ _ _ _ _ reached)

pub returns-in-None-2-clause-refused : goal.returns-in-None-2-clause-refused
returns-in-None-2-clause-refused c =
    let reached = moved c.loop-line.invariant.reached _ _ _ refl (sym c.in-Some.ensures.steps) refl in
    let over : is_over _ _ _ _ _ _ _ _ _ _ reached c.from-records.result ≡ false =
    ap (λ m. nat_lt c.args.room.records (c.loop-line.records + c.from-records.result) || nat_lt c.args.room.bytes m) (sym c.min.ensures) ∙ sym c.is_passed.ensures ∙ c.if-is_passed.false in
    refused_is c.refused-in-None-2.result (c.loop-line.number + 1) BadLine _ c.refused-in-None-2.ensures
    (is_bad _ _ _ _ _ _ _ _ _ _ reached c.from-records.result (sym c.is_blank-blank.ensures ∙ c.if-blank.false)
    (c.from-records.ensures ∙ ap (λ b. bool_byte (not b)) c.if-blank.false) over (sym c.in_ok-fed.ensures ∙ c.in-None-2.is))

pub returns-in-None-2-clause-answered : goal.returns-in-None-2-clause-answered
returns-in-None-2-clause-answered c _ =
    let reached = moved c.loop-line.invariant.reached _ _ _ refl (sym c.in-Some.ensures.steps) refl in
    let over : is_over _ _ _ _ _ _ _ _ _ _ reached c.from-records.result ≡ false =
    ap (λ m. nat_lt c.args.room.records (c.loop-line.records + c.from-records.result) || nat_lt c.args.room.bytes m) (sym c.min.ensures) ∙ sym c.is_passed.ensures ∙ c.if-is_passed.false in
    refused_answers c.refused-in-None-2.result (c.loop-line.number + 1) BadLine _ _ c.refused-in-None-2.ensures
    (is_bad _ _ _ _ _ _ _ _ _ _ reached c.from-records.result (sym c.is_blank-blank.ensures ∙ c.if-blank.false)
    (c.from-records.ensures ∙ ap (λ b. bool_byte (not b)) c.if-blank.false) over (sym c.in_ok-fed.ensures ∙ c.in-None-2.is))
