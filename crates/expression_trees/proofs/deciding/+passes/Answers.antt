use Rattle.std.proofs.Common.{◌∙◌, ◌||◌, ap₂, sym}
use Rattle.expression_trees.proofs.Passing.{passes-decided, passes-Case}
use Rattle.expression_trees.proofs.deciding.+passes.Goals as goal

pub passes-returns-in-Some : goal.passes-returns-in-Some
passes-returns-in-Some g t c =
    sym (passes-decided (g.D.Decides.decide c.args.decides.now) c.args.expr.now c.in-Some.passed (sym c.decision.ensures ∙ c.in-Some.is))

pub passes-returns-in-Case : goal.passes-returns-in-Case
passes-returns-in-Case g t c =
    c.either-in-Case-2.ensures
    ∙ ap₂ (λ a b. a || b) (c.either-in-Case.ensures ∙ ap₂ (λ a b. a || b) c.part_passes-arg.ensures c.when_passes-whens.ensures) c.part_passes-otherwise.ensures
    ∙ sym (passes-Case (g.D.Decides.decide c.args.decides.now) c.args.expr.now c.in-Case.arg c.in-Case.whens c.in-Case.otherwise c.in-Case.is (sym c.decision.ensures ∙ c.in_default.is))
