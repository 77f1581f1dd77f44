use Rattle.std.proofs.Common.{◌≡◌, ◌∷◌, ◌++◌, length, string_bytes}
use denote.Text.{Utf8}
use denote.Shadow.{shadow}
use Rattle.ksql_lexer.specs.Piece.{doubled}
use Rattle.ksql_lexer.proofs.place.read_text.Given as goal

-- the text is its content so far, with its quotes doubled, between quotes, and then the rest
abbrev pub invariant-loop-inside : goal.invariant-loop-inside
invariant-loop-inside l = record {
  utf8 : shadow (Utf8 l.rest);
  split : l.text ≡ 39 ∷ (doubled (string_bytes l.content) ++ 39 ∷ l.rest);
}

abbrev pub decreases-loop-inside : goal.decreases-loop-inside
decreases-loop-inside l = length l.rest
