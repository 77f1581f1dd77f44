use Rattle.std.proofs.Common.{take}
use Rattle.ksql_analyse.specs.Judgement.{AreAggs}
use Rattle.ksql_analyse.proofs.grouped.aggs_of.Given as goal

abbrev pub invariant-loop-expr : goal.invariant-loop-expr
invariant-loop-expr l = AreAggs l.scope (take l.expr-index l.exprs) l.aggs.items
