use Rattle.std.proofs.Common.{◌≡◌, suc, length}
use Rattle.ksql_lexer.specs.declared.token.Mark.TheVariants.{Comma}
use Rattle.ksql_grammar.specs.Expressions.{after_sign, list_of}
use Rattle.ksql_grammar.proofs.Chains.{with_front}
use Rattle.ksql_parser.specs.Statements.{column}
use Rattle.ksql_parser.proofs.statement.declaration.read_columns.Given as goal

-- what was read so far, and what is read from here on
abbrev pub invariant-loop-columns : goal.invariant-loop-columns
invariant-loop-columns l = with_front l.columns.items (list_of column (after_sign Comma) (suc (length l.rest)) l.rest) ≡ list_of column (after_sign Comma) (suc (length l.symbols)) l.symbols

abbrev pub decreases-loop-columns : goal.decreases-loop-columns
decreases-loop-columns l = length l.rest
