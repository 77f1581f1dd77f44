use Rattle.std.proofs.Common.{MatchOption, sym, ◌∙◌, subst}
use Rattle.ksql_lexer.specs.Place.{NoMark, IsLongestMark}
use Rattle.ksql_lexer.proofs.Signs.{no_mark, single_longest, pair_longest, pair_boundary, single_boundary}
use Rattle.ksql_lexer.proofs.sign.mark_at.Goals as goal

pub split_at-requires : goal.split_at-requires
split_at-requires c = pair_boundary _ _ (sym c.pair_at.ensures ∙ c.in-Some.is) c.utf8.text

pub returns-in-Some : goal.returns-in-Some
returns-in-Some c = pair_longest _ _ _ (sym c.pair_at.ensures ∙ c.in-Some.is) c.split_at.ensures.back

pub split_at-requires-2 : goal.split_at-requires-2
split_at-requires-2 c = single_boundary _ _ (sym c.single_at.ensures ∙ c.in_ok-mark.was) c.utf8.text

pub returns : goal.returns
returns c = single_longest _ _ _ (sym c.pair_at.ensures ∙ c.in_default.is) (sym c.single_at.ensures ∙ c.in_ok-mark.was) c.split_at-2.ensures.back

pub returns-in_err-mark : goal.returns-in_err-mark
returns-in_err-mark c =
    subst (λ r. MatchOption r (NoMark c.args.text.now) (λ x. IsLongestMark c.args.text.now x.0 x.1.now)) (sym c.from_residual.ensures)
    (no_mark _ (sym c.pair_at.ensures ∙ c.in_default.is) (sym c.single_at.ensures ∙ c.in_err-mark.was))
