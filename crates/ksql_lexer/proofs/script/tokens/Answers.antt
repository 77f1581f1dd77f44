use Rattle.ksql_lexer.proofs.Readings.{answers_list, answers_fault}
use Rattle.ksql_lexer.proofs.script.tokens.Goals as goal

pub returns-clause-only : goal.returns-clause-only
returns-clause-only c ts h = answers_list _ _ ts c.read_script.ensures h

pub returns-clause-bad : goal.returns-clause-bad
returns-clause-bad c s h = answers_fault _ _ s c.read_script.ensures h
