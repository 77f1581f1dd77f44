use Rattle.std.proofs.Common.{rules, true, false, sym, refl, subst, subst₂, arith}
use Rattle.ksql_types.specs.Text.{longest_text}
use Rattle.ksql_lexer.specs.Piece.{Longest}
use Rattle.ksql_lexer.specs.Place.{Stands}
use Rattle.ksql_lexer.proofs.Steps.{Reached, reached_start, reached_skip, reached_next}
use Rattle.ksql_lexer.proofs.script.read_script.Goals as goal

pub loop-rest-init : goal.loop-rest-init
loop-rest-init c = record {
  utf8 = search rules;
  reached = subst (λ ts. Reached c.args.text.now c.args.text.now ts (record { statement = 1; begun = false }) true) (sym c.new-tokens.ensures.items) (reached_start _ _ _ refl refl refl);
}

pub after-at-requires : goal.after-at-requires
unfolding longest_text
after-at-requires c = omega (arith, c.loop-rest.invariant.reached.bound, c.requires)

-- a token is taken
pub loop-rest-preserved : goal.loop-rest-preserved
loop-rest-preserved c = record {
  utf8 = search rules;
  reached = subst₂ (λ ts at. Reached c.args.text.now c.in-Ok-Some.found.rest.now ts at c.read_place.new.closes)
      (sym c.in_ok-push.ensures.items) (sym c.after-at.ensures)
      (reached_next c.args.text.now c.loop-rest.rest.now _ c.loop-rest.tokens.items c.loop-rest.at c.loop-rest.closes c.read_place.new.closes c.in-Some.kind
      (record { kind = c.in-Some.kind; statement = c.loop-rest.at.statement })
      c.loop-rest.invariant.reached c.read_place.ensures.closes
      (subst (λ p. Longest c.loop-rest.rest.now p c.in-Ok-Some.found.rest.now) c.in-Some.is (subst (Stands c.loop-rest.rest.now) c.in-Ok-Some.field-0-is c.in-Ok-Some.ensures.found)) refl refl);
}

-- a blank or a comment is passed over
pub loop-rest-preserved-in_default : goal.loop-rest-preserved-in_default
loop-rest-preserved-in_default c = record {
  utf8 = search rules;
  reached = reached_skip c.args.text.now c.loop-rest.rest.now _ _ _ c.loop-rest.closes _
      c.loop-rest.invariant.reached c.read_place.ensures.closes
      (subst (λ p. Longest c.loop-rest.rest.now p c.in-Ok-Some.found.rest.now) c.in_default.is (subst (Stands c.loop-rest.rest.now) c.in-Ok-Some.field-0-is c.in-Ok-Some.ensures.found));
}
