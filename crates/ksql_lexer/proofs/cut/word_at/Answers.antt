use Rattle.ksql_lexer.proofs.Cuts.{run_at, word_boundary}
use Rattle.ksql_lexer.proofs.cut.word_at.Goals as goal

pub split_at-requires : goal.split_at-requires
split_at-requires c = word_boundary _ _ c.word_len.ensures c.utf8.text

pub returns : goal.returns
returns c = run_at _ _ _ _ _ c.word_len.ensures c.split_at.ensures.front c.split_at.ensures.back
