use Rattle.std.proofs.Common.{◌≡◌, length}
use Rattle.ksql_grammar.specs.Expressions.{after_prefixes}
use Rattle.ksql_grammar.proofs.expression.after_all.Given as goal

-- what follows the remaining prefixes
abbrev pub invariant-loop-last : goal.invariant-loop-last
invariant-loop-last l = after_prefixes l.left l.whole ≡ after_prefixes l.fn.prefixes l.fn.arg

abbrev pub decreases-loop-last : goal.decreases-loop-last
decreases-loop-last l = length l.left
