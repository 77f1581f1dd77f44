use Rattle.std.proofs.Common.{ap, ◌∙◌}
use Rattle.std.specs.Prelude.{map}
use Rattle.std.specs.Char.{to_ascii_uppercase}
use Rattle.ksql_lexer.proofs.Places.{word_longest}
use Rattle.ksql_lexer.proofs.place.read_word.Goals as goal

pub returns : goal.returns
returns c = word_longest _ _ _ _ c.requires.class c.word_at.ensures (c.in_ok-of.ensures ∙ c.make_ascii_uppercase.ensures.bytes ∙ ap (map to_ascii_uppercase) c.in_ok-name.ensures.ok)
