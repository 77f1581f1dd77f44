use Rattle.std.proofs.Common.{◌≡◌, suc, length}
use Rattle.ksql_grammar.specs.declared.symbol.Keyword.TheVariants.{When}
use Rattle.ksql_grammar.specs.Expressions.{within, after_key, list_of, when, whens}
use Rattle.ksql_grammar.proofs.Chains.{with_front}
use Rattle.ksql_grammar.proofs.expression.Nested.whens.Given as goal

-- what was read so far, and what is read from here on
abbrev pub invariant-loop-whens : goal.invariant-loop-whens
invariant-loop-whens g l = with_front l.whens.items (list_of (when (within l.self.room)) (after_key When) (suc (length l.rest)) l.rest) ≡ whens (within l.self.room) l.symbols

abbrev pub decreases-loop-whens : goal.decreases-loop-whens
decreases-loop-whens g l = length l.rest
