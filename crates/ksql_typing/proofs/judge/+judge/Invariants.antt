use Rattle.std.proofs.Common.{◌+◌, take}
use Rattle.std.specs.List.{sum_by}
use Rattle.std.specs.Prelude.{map}
use Rattle.ksql_scopes.specs.Scope.{seen}
use Rattle.ksql_typing.specs.Judged.{AreOf, AreOfWhens, judged, judged_when}
use Rattle.ksql_typing.proofs.Weights.{weight, weight_when, weight_perhaps}
use Rattle.ksql_typing.proofs.judge.+judge.Given as goal

abbrev pub decreases-judge : goal.decreases-judge
decreases-judge l = weight l.expr.now

abbrev pub decreases-judge_binary : goal.decreases-judge_binary
decreases-judge_binary l = weight l.left.now + weight l.right.now + 1

abbrev pub decreases-judge_between : goal.decreases-judge_between
decreases-judge_between l = weight l.arg.now + weight l.low.now + weight l.high.now + 1

abbrev pub decreases-judge_one_of : goal.decreases-judge_one_of
decreases-judge_one_of l = weight l.arg.now + sum_by weight l.choices.now + 2

abbrev pub decreases-judge_case : goal.decreases-judge_case
decreases-judge_case l = weight_perhaps l.arg.now + sum_by weight_when l.whens.now + weight_perhaps l.otherwise.now + 2

abbrev pub decreases-judge_call : goal.decreases-judge_call
decreases-judge_call l = sum_by weight l.args.now + 2

abbrev pub decreases-judge_each : goal.decreases-judge_each
decreases-judge_each l = sum_by weight l.exprs.now + 1

abbrev pub decreases-judge_perhaps : goal.decreases-judge_perhaps
decreases-judge_perhaps l = weight_perhaps l.expr.now + 1

abbrev pub decreases-judge_whens : goal.decreases-judge_whens
decreases-judge_whens l = sum_by weight_when l.whens.now + 1

abbrev pub invariant-judge_each-loop-expr : goal.invariant-judge_each-loop-expr
invariant-judge_each-loop-expr l = AreOf l.parts (map (λ a. judged a (seen l.windowed l.scope)) (take l.expr-index l.exprs))

abbrev pub invariant-judge_whens-loop-when : goal.invariant-judge_whens-loop-when
invariant-judge_whens-loop-when l = AreOfWhens l.parts (map (judged_when (seen l.windowed l.scope)) (take l.when-index l.whens))
