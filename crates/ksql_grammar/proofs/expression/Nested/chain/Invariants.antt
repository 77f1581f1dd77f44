use Rattle.std.proofs.Common.{◌≡◌, suc, length}
use Rattle.ksql_grammar.specs.Expressions.{within, chain, chain_with, operator_at, operand_of}
use Rattle.ksql_grammar.proofs.expression.Nested.chain.Given as goal

-- going on from what was read so far
abbrev pub invariant-loop-op : goal.invariant-loop-op
invariant-loop-op g l =
    let op = operator_at l.level in
    let operand = operand_of (within l.self.room) l.level in
    chain_with op operand (suc (length l.rest)) l.left l.rest ≡ chain op operand l.symbols

abbrev pub decreases-loop-op : goal.decreases-loop-op
decreases-loop-op g l = length l.rest
