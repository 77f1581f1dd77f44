-- What is known before a line says why it is refused, and what is known after it.
use Rattle.std.proofs.Common.{◌≡◌, Bool, false, true, ap, ap₂, cond, sym, refl, ◌∙◌, None, Option, Some, rules, tests, arith, option_and_then, option_map}
use Rattle.topology.specs.declared.schedule.Step.{Step}
use Rattle.schedule_text.specs.Forms.{Form, form_of_line, form_view}
use Rattle.schedule_text.specs.Lines.{is_skipped}
use Rattle.schedule_text.specs.Refusals.{form_refusal}
use Rattle.schedule_text.specs.Standing.{setting_view}
use Rattle.schedule_text.specs.Steps.{step_of, step_of_line}
use Rattle.schedule_text.proofs.OneLine.{fault-answers, form-refused, long-refused, rounds-at, skipped-refusal, stands-after, step-is}
use Rattle.schedule_text.proofs.standing.Standing.read_line.Goals as goal

pub returns-then-min-gt-MOST_BYTES-clause-read : goal.returns-then-min-gt-MOST_BYTES-clause-read
returns-then-min-gt-MOST_BYTES-clause-read c workers before stands =
    long-refused (setting_view c.args.setting.now) workers before c.args.line.now _ stands (omega (arith, c.min.ensures, c.if-min-gt-MOST_BYTES.true))

pub returns-then-is_skipped-clause-read : goal.returns-then-is_skipped-clause-read
returns-then-is_skipped-clause-read c workers before stands =
    let is : is_skipped c.args.line.now ≡ true = sym c.is_skipped.ensures ∙ c.if-is_skipped.true in (
      skipped-refusal (setting_view c.args.setting.now) workers before c.args.line.now _ stands (omega (arith, c.min.ensures, c.if-min-gt-MOST_BYTES.false)) is,
      ap (λ (b : Bool). cond b None (option_and_then (step_of c.args.setting.now.items.now) (form_of_line c.args.line.now))) is,
    )

pub returns-then-is_skipped-clause-stands : goal.returns-then-is_skipped-clause-stands
returns-then-is_skipped-clause-stands c workers before stands =
    let is : is_skipped c.args.line.now ≡ true = sym c.is_skipped.ensures ∙ c.if-is_skipped.true in
    stands-after (setting_view c.args.setting.now) workers before c.args.line.now _ stands None _
    (ap (λ (b : Bool). cond b None (option_and_then (step_of c.args.setting.now.items.now) (form_of_line c.args.line.now))) is) refl refl (omega arith) (omega arith) refl

pub returns-in_default-clause-read : goal.returns-in_default-clause-read
returns-in_default-clause-read c workers before stands =
    form-refused (setting_view c.args.setting.now) workers before c.args.line.now _ stands (omega (arith, c.min.ensures, c.if-min-gt-MOST_BYTES.false))
    (sym c.is_skipped.ensures ∙ c.if-is_skipped.false) (omega (arith, c.if-self-ge-MOST_STEPS.false)) _
    (ap (form_refusal (setting_view c.args.setting.now) c.args.self.now.live) (sym c.in_ok-form.ensures ∙ ap (option_map form_view) c.in_default.is))

pub returns-in_err-step-clause-read : goal.returns-in_err-step-clause-read
returns-in_err-step-clause-read c workers before stands =
    fault-answers Some (λ (o : Option Step). o) c.in_err-step.field-0.0 _ _ _ _ _ (search rules)
    (λ why h. form-refused (setting_view c.args.setting.now) workers before c.args.line.now _ stands (omega (arith, c.min.ensures, c.if-min-gt-MOST_BYTES.false))
    (sym c.is_skipped.ensures ∙ c.if-is_skipped.false) (omega (arith, c.if-self-ge-MOST_STEPS.false)) why
    (ap₂ (form_refusal (setting_view c.args.setting.now)) (sym c.items.ensures) (sym c.in_ok-form.ensures ∙ ap (option_map form_view) c.in-Some.is) ∙ h))
    c.in_err-step.ensures

pub returns-in_err-take-clause-read : goal.returns-in_err-take-clause-read
returns-in_err-take-clause-read c workers before stands =
    let described : form_of_line c.args.line.now ≡ Some (form_view c.in-Some.form) = sym c.in_ok-form.ensures ∙ ap (option_map form_view) c.in-Some.is in
    fault-answers (λ (_ : Unit {0}). c.in_ok-step.step) (λ (o : Option Step). o) c.in_err-take.field-0.0 _ _ _ _ _ (search rules)
    (λ why h. rounds-at (setting_view c.args.setting.now) workers before c.args.line.now _ stands (omega (arith, c.min.ensures, c.if-min-gt-MOST_BYTES.false))
    (sym c.is_skipped.ensures ∙ c.if-is_skipped.false) (omega (arith, c.if-self-ge-MOST_STEPS.false)) c.in_ok-step.step
    (ap₂ (form_refusal (setting_view c.args.setting.now)) (sym c.items.ensures) described ∙ c.in_ok-step.ensures.0)
    (step-is c.args.setting.now.items.now c.args.line.now (form_view c.in-Some.form) c.in_ok-step.step (sym c.is_skipped.ensures ∙ c.if-is_skipped.false) described c.in_ok-step.ensures.1) ∙ h)
    c.in_err-take.ensures.answer

pub returns-clause-read : goal.returns-clause-read
returns-clause-read c workers before stands =
    let described : form_of_line c.args.line.now ≡ Some (form_view c.in-Some.form) = sym c.in_ok-form.ensures ∙ ap (option_map form_view) c.in-Some.is in
    let taken : step_of_line c.args.setting.now.items.now c.args.line.now ≡ Some c.in_ok-step.step =
    step-is c.args.setting.now.items.now c.args.line.now (form_view c.in-Some.form) c.in_ok-step.step (sym c.is_skipped.ensures ∙ c.if-is_skipped.false) described c.in_ok-step.ensures.1 in (
      rounds-at (setting_view c.args.setting.now) workers before c.args.line.now _ stands (omega (arith, c.min.ensures, c.if-min-gt-MOST_BYTES.false))
          (sym c.is_skipped.ensures ∙ c.if-is_skipped.false) (omega (arith, c.if-self-ge-MOST_STEPS.false)) c.in_ok-step.step
          (ap₂ (form_refusal (setting_view c.args.setting.now)) (sym c.items.ensures) described ∙ c.in_ok-step.ensures.0) taken ∙ c.in_ok-take.ensures.answer.0,
      taken,
    )

pub returns-clause-stands : goal.returns-clause-stands
returns-clause-stands c workers before stands =
    let described : form_of_line c.args.line.now ≡ Some (form_view c.in-Some.form) = sym c.in_ok-form.ensures ∙ ap (option_map form_view) c.in-Some.is in
    stands-after (setting_view c.args.setting.now) workers before c.args.line.now _ stands (Some c.in_ok-step.step) _
    (step-is c.args.setting.now.items.now c.args.line.now (form_view c.in-Some.form) c.in_ok-step.step (sym c.is_skipped.ensures ∙ c.if-is_skipped.false) described c.in_ok-step.ensures.1)
    c.take.ensures.lines c.take.ensures.bytes c.in_ok-take.ensures.steps c.in_ok-take.ensures.taken c.in_ok-take.ensures.live
