use Rattle.std.proofs.Common.{◌≡◌, map, take}
use Rattle.ksql_typing.proofs.form.conds_of.Given as goal

abbrev pub invariant-loop-when : goal.invariant-loop-when
invariant-loop-when l = l.found.items ≡ map (λ w. w.cond.ty) (take l.when-index l.whens)
