use Rattle.std.proofs.Common.{◌∙◌, ◌++◌, ap, arith, sym, append_assoc, string_bytes}
use Rattle.std.proofs.lemmas.List.{append-nil}
use Rattle.std.specs.Prelude.{option_map}
use Rattle.trace_text.proofs.Steps.{steps_text-end, steps_text-other, steps_text-step}
use Rattle.trace_text.proofs.trace.push_steps.Goals as goal
use Rattle.trace_text.proofs.trace.push_steps.Goals.{in-Step+in_ok-push_step, in_default}

pub loop-index-preserved : goal.loop-index-preserved
loop-index-preserved c =
    let journal = c.args.journal.now in
    let i = c.loop-index.index in
    let step = option_map (λ s. s.now) c.loop-index.step in
    elim c.match-entry.branch [
      | in-Step+in_ok-push_step w ↦
          let more = steps_text-step journal i w.in-Step.line step c.loop-index.steps.now c.loop-index-test.true w.in-Step.is in
          let lines = ap (λ s. s.now) w.steps-is in
          grind (arith, append_assoc, more, lines, w.in_ok-push_step.ensures)
      | in_default w ↦
          let same = steps_text-other journal i step c.loop-index.steps.now c.loop-index-test.true w.in_default.not-Step in
          let lines = ap (λ s. s.now) w.steps-is in
          cc
    ]

pub returns : goal.returns
returns c =
    let none = steps_text-end c.args.journal.now c.loop-index.index (option_map (λ s. s.now) c.loop-index.step) c.loop-index.steps.now c.loop-index-test.false in
    sym (append-nil _) ∙ ap (λ more. string_bytes c.loop-index.out ++ more) (sym none) ∙ c.loop-index.invariant
