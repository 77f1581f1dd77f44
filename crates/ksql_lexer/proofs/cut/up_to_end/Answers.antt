use Rattle.ksql_lexer.proofs.Cuts.{up_to_end_split}
use Rattle.ksql_lexer.proofs.cut.up_to_end.Goals as goal

pub returns : goal.returns
returns c = up_to_end_split _ _ c.split_once.ensures.cases
