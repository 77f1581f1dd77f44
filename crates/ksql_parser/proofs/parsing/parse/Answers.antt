use Rattle.std.proofs.Common.{arith}
use Rattle.ksql_types.specs.Text.{longest_text}
use Rattle.ksql_lexer.specs.Script.{kinds}
use Rattle.ksql_parser.specs.Script.{statements}
use Rattle.ksql_parser.proofs.Settling.{answers_trees, answers_refusal}
use Rattle.ksql_parser.proofs.Texts.{few_tokens, all_written}
use Rattle.ksql_parser.proofs.parsing.parse.Goals as goal

pub trees_of-requires-clause-few : goal.trees_of-requires-clause-few
unfolding longest_text
trees_of-requires-clause-few c = let few = few_tokens c.requires.0 c.args.tokens.now c.requires.2 in let short = c.requires.1 in omega arith

pub trees_of-requires-clause-written : goal.trees_of-requires-clause-written
trees_of-requires-clause-written c = all_written c.requires.0 c.args.tokens.now c.requires.2

pub returns-clause-only : goal.returns-clause-only
returns-clause-only c = answers_trees (statements (kinds c.args.tokens.now)) c.trees_of.result c.trees_of.ensures

pub returns-clause-refused : goal.returns-clause-refused
returns-clause-refused c = answers_refusal (statements (kinds c.args.tokens.now)) c.trees_of.result c.trees_of.ensures
