use Rattle.std.proofs.Common.{◌≡◌, map, take, Some}
use Rattle.ksql_analyse.proofs.result.columns_of.Given as goal

abbrev pub invariant-loop-index : goal.invariant-loop-index
invariant-loop-index l =
    (map (λ c. c.name) l.columns.items ≡ map (λ c. c.now.name) (take l.index l.named))
    × (map (λ c. Some c.ty) l.columns.items ≡ map (λ x. x.ty) (take l.index l.trees))
