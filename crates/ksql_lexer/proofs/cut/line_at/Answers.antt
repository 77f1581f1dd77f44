use Rattle.ksql_lexer.proofs.Cuts.{run_at, line_boundary}
use Rattle.ksql_lexer.proofs.cut.line_at.Goals as goal

pub split_at-requires : goal.split_at-requires
split_at-requires c = line_boundary _ _ c.line_len.ensures

pub returns : goal.returns
returns c = run_at _ _ _ _ _ c.line_len.ensures c.split_at.ensures.front c.split_at.ensures.back
