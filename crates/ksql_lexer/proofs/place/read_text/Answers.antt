use Rattle.std.proofs.Common.{rules, ◌∙◌, arith, ap, length, length-append, string_bytes, ◌++◌, ◌∷◌}
use Rattle.std.proofs.lemmas.Str.{encode_ascii}
use Rattle.ksql_lexer.specs.Piece.{doubled}
use Rattle.ksql_lexer.proofs.Doubled.{length-le-doubled}
use Rattle.ksql_lexer.proofs.Places.{text_first, text_more, text_longest, text_open}
use Rattle.ksql_lexer.proofs.place.read_text.Goals as goal

pub returns-in_default : goal.returns-in_default
returns-in_default c = text_open _ c.requires.class (λ inside rest. c.in_default.ensures inside rest)

pub loop-inside-init : goal.loop-inside-init
loop-inside-init c = record { utf8 = search rules; split = text_first _ _ _ _ c.in-Some.ensures c.in_ok-content.ensures.ok }

pub loop-inside-preserved : goal.loop-inside-preserved
loop-inside-preserved c = record {
  utf8 = search rules;
  split = text_more _ _ _ _ _ _ c.loop-inside.invariant.split c.in-Some-between.ensures
      (c.in_ok-push_str.ensures.bytes ∙ ap (λ l. l ++ c.in-Some-between.inside.now) (c.in_ok-push.ensures.bytes ∙ ap (λ l. string_bytes c.loop-inside.content ++ l) (encode_ascii 39 (omega arith))));
}

pub of-requires : goal.of-requires
of-requires c = omega (
  arith,
  c.requires.short,
  ap length c.loop-inside.invariant.split,
  length-append (doubled (string_bytes c.loop-inside.content)) (39 ∷ c.loop-inside.rest.now),
  length-le-doubled (string_bytes c.loop-inside.content),
)

pub returns : goal.returns
returns c = text_longest _ _ _ _ c.requires.class c.loop-inside.invariant.split (λ inside rest. c.in_default-between.ensures inside rest) c.in_ok-of.ensures
