use Rattle.ksql_lexer.proofs.Places.{blank_boundary, blank_longest}
use Rattle.ksql_lexer.proofs.place.read_blank.Goals as goal

pub split_at-requires : goal.split_at-requires
split_at-requires c = blank_boundary _ c.requires c.utf8.text

pub returns : goal.returns
returns c = blank_longest _ _ c.requires c.split_at.ensures.back
