use Rattle.std.proofs.Common.{sym, ◌∙◌}
use Rattle.ksql_lexer.proofs.Places.{digits_longest, digits_nothing}
use Rattle.ksql_lexer.proofs.place.read_digits.Goals as goal

pub returns-then-not-are_digits : goal.returns-then-not-are_digits
returns-then-not-are_digits c = digits_nothing _ _ _ c.requires.class c.word_at.ensures (sym c.are_digits.ensures ∙ c.if-not-are_digits.true)

pub returns : goal.returns
returns c = digits_longest _ _ _ _ c.requires.class c.word_at.ensures (sym c.are_digits.ensures ∙ c.if-not-are_digits.false) (c.in_ok-of.ensures ∙ c.in_ok-from_str.ensures.ok)
