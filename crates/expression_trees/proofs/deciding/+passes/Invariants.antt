use Rattle.std.proofs.Common.{◌≡◌, ◌||◌, drop, map}
use Rattle.expression_trees.specs.Parts.{any_of, passes}
use Rattle.expression_trees.proofs.deciding.+passes.Given as goal

-- the rest decides
abbrev pub invariant-one_passes-loop-expr : goal.invariant-one_passes-loop-expr
invariant-one_passes-loop-expr g l =
    any_of (map (passes (g.D.Decides.decide l.decides)) (drop l.expr-index l.expr-items)) ≡ any_of (map (passes (g.D.Decides.decide l.decides)) l.expr-items)

abbrev pub invariant-when_passes-loop-when : goal.invariant-when_passes-loop-when
invariant-when_passes-loop-when g l =
    any_of (map (λ w. passes (g.D.Decides.decide l.decides) w.cond || passes (g.D.Decides.decide l.decides) w.result) (drop l.when-index l.when-items))
    ≡ any_of (map (λ w. passes (g.D.Decides.decide l.decides) w.cond || passes (g.D.Decides.decide l.decides) w.result) l.when-items)
