-- Steps with their lines.
use Rattle.std.proofs.Common.{◌≡◌, ap, ℕ, ◌+◌, List, [], ◌∷◌, ◌++◌, length, arith}
use Rattle.std.specs.Prelude.{All}
use Rattle.std.proofs.lemmas.List.Elements.{All-cons, All-head, All-nil, All-tail}
use Rattle.topology.specs.declared.schedule.Lined.{Lined}
use Rattle.topology.specs.declared.schedule.Step.{Step}
use Rattle.cluster_core.specs.Cluster.{IsBuilt}
use Rattle.cluster_tests.specs.Runs.{numbered}

-- one more step has the next line
pub numbered-next : (line next : ℕ) (steps : List Step) (step : Step) → next ≡ line + length steps →
    numbered line (steps ++ step ∷ []) ≡ numbered line steps ++ record { line = next; step = step } ∷ []
numbered-next line next [] step is = ap (λ n. record { line = n; step = step } ∷ []) (omega (arith, is))
numbered-next line next (s ∷ steps) step is = ap (λ ls. record { line = line; step = s } ∷ ls) (numbered-next (line + 1) next steps step (omega (arith, is)))

-- numbered steps are built where the steps are
pub built-numbered : (line : ℕ) (steps : List Step) → All IsBuilt steps → All (λ (l : Lined). IsBuilt l.step) (numbered line steps)
built-numbered line [] built = All-nil (λ (l : Lined). IsBuilt l.step)
built-numbered line (s ∷ steps) built =
    All-cons (λ (l : Lined). IsBuilt l.step) (record { line = line; step = s }) (numbered (line + 1) steps) (All-head IsBuilt s steps built)
    (built-numbered (line + 1) steps (All-tail IsBuilt s steps built))
