use Rattle.std.proofs.Common.{◌≡◌, ◌++◌, drop, string_bytes}
use Rattle.std.specs.Prelude.{None, option_map}
use Rattle.trace_text.proofs.Steps.{steps_text}
use Rattle.trace_text.proofs.trace.push_steps.Given as goal

-- what is written and the steps that are left are all steps
abbrev pub invariant-loop-index : goal.invariant-loop-index
invariant-loop-index l =
    string_bytes l.out ++ steps_text (drop l.index l.journal) (option_map (λ s. s.now) l.step) l.steps
    ≡ string_bytes l.fn.out ++ steps_text l.fn.journal None l.fn.steps
