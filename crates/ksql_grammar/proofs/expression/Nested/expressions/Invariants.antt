use Rattle.std.proofs.Common.{◌≡◌, suc, length}
use Rattle.ksql_lexer.specs.declared.token.Mark.TheVariants.{Comma}
use Rattle.ksql_grammar.specs.Expressions.{within, after_sign, list_of, exprs}
use Rattle.ksql_grammar.proofs.Chains.{with_front}
use Rattle.ksql_grammar.proofs.expression.Nested.expressions.Given as goal

-- what was read so far, and what is read from here on
abbrev pub invariant-loop-exprs : goal.invariant-loop-exprs
invariant-loop-exprs g l = with_front l.exprs.items (list_of (within l.self.room) (after_sign Comma) (suc (length l.rest)) l.rest) ≡ exprs (within l.self.room) l.symbols

abbrev pub decreases-loop-exprs : goal.decreases-loop-exprs
decreases-loop-exprs g l = length l.rest
