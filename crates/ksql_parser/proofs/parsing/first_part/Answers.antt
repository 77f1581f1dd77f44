use Rattle.std.proofs.Common.{sym, ◌∙◌}
use Rattle.ksql_lexer.specs.Script.{kinds}
use Rattle.ksql_parser.proofs.Parts.{first_of_tokens, last_statement, position-kinds, unplaced, written_tokens}
use Rattle.ksql_parser.proofs.parsing.first_part.Goals as goal

pub returns-in-Some-clause-parts : goal.returns-in-Some-clause-parts
returns-in-Some-clause-parts c = first_of_tokens c.args.tokens.now c.in-Some.end (sym (position-kinds c.args.tokens.now) ∙ sym c.first_semicolon.ensures ∙ c.in-Some.is)

pub returns-in-Some-clause-written : goal.returns-in-Some-clause-written
returns-in-Some-clause-written c = written_tokens c.args.tokens.now c.in-Some.end

pub returns-in-None-clause-parts : goal.returns-in-None-clause-parts
returns-in-None-clause-parts c = last_statement (kinds c.args.tokens.now) (unplaced (kinds c.args.tokens.now) (sym (position-kinds c.args.tokens.now) ∙ sym c.first_semicolon.ensures ∙ c.in-None.is))
