use Rattle.std.proofs.Common.{◌≡◌, suc, length}
use Rattle.ksql_lexer.specs.declared.token.Mark.TheVariants.{Comma}
use Rattle.ksql_grammar.specs.Expressions.{after_sign, list_of}
use Rattle.ksql_grammar.proofs.Chains.{with_front}
use Rattle.ksql_parser.specs.Statements.{property}
use Rattle.ksql_parser.proofs.statement.declaration.property_list.Given as goal

-- what was read so far, and what is read from here on
abbrev pub invariant-loop-properties : goal.invariant-loop-properties
invariant-loop-properties l = with_front l.properties.items (list_of property (after_sign Comma) (suc (length l.rest)) l.rest) ≡ list_of property (after_sign Comma) (suc (length l.symbols)) l.symbols

abbrev pub decreases-loop-properties : goal.decreases-loop-properties
decreases-loop-properties l = length l.rest
