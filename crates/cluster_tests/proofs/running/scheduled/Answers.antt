use Rattle.std.proofs.Common.{◌≡◌, ◌∙◌, ◌+◌, ap, sym, [], ◌∷◌, ◌++◌, List, length, arith}
use Rattle.std.proofs.lemmas.Grind.{common_steps}
use Rattle.topology.specs.declared.schedule.Lined.{Lined}
use Rattle.cluster_tests.proofs.Numbering.{numbered-next}
use Rattle.cluster_tests.proofs.running.scheduled.Goals as goal

pub loop-step-preserved : goal.loop-step-preserved
loop-step-preserved c =
    let next : c.in_ok-line.line ≡ 1 + length c.loop-step.yielded = grind (arith, common_steps) in
    record {
      line = grind (arith, common_steps);
      lined = c.in_ok-push.ensures.items
          ∙ ap (λ (ls : List Lined). ls ++ record { line = c.in_ok-line.line; step = c.in-Some.step } ∷ []) c.loop-step.invariant.lined
          ∙ sym (numbered-next 1 c.in_ok-line.line c.loop-step.yielded c.in-Some.step next);
    }
