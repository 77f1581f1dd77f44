use Rattle.std.proofs.Common.{◌≡◌, ◌∙◌, ◌∷◌, ◌||◌, ◌==◌, ap, sym, length, true, false, rules, arith}
use Rattle.std.specs.Str.{chars}
use Rattle.ksql_expr.specs.Value.{is_like, some_tail}
use Rattle.ksql_eval.proofs.Like.{begins_again, goes_on, reach_goes_on, later, later_is_some}
use Rattle.ksql_eval.proofs.pattern.ends_like.Goals as goal

pub loop-wanted-preserved-then-wanted-eq37 : goal.loop-wanted-preserved-then-wanted-eq37
loop-wanted-preserved-then-wanted-eq37 c =
    let holds = c.loop-wanted.invariant in
    let after = chars c.in-Some-default.after.now in
    let left = chars c.loop-wanted.left.now in
    let is : chars c.loop-wanted.ahead.now ≡ 37 ∷ after = c.in-Some-default.ensures.first ∙ ap (λ p. p ∷ after) c.if-wanted-eq37.true in
    record {
      ahead = c.in-Some-default.ensures.utf8;
      left = holds.left;
      again = c.in-Some-default.ensures.utf8;
      begun = holds.left;
      value = begins_again (chars c.loop-wanted.ahead.now) after left (later (is_like (chars c.loop-wanted.again.now)) (chars c.loop-wanted.begun.now)) (some_tail (is_like (chars c.args.pattern.now)) (chars c.args.text.now)) is holds.value holds.reach;
      reach = later_is_some (is_like after) left;
      ahead_short = omega (arith, ap length is, holds.ahead_short);
      again_short = omega (arith, ap length is, holds.ahead_short);
      left_short = omega arith;
    }

pub loop-wanted-preserved-then-stands_for : goal.loop-wanted-preserved-then-stands_for
loop-wanted-preserved-then-stands_for c =
    let holds = c.loop-wanted.invariant in
    let ahead = chars c.loop-wanted.ahead.now in
    let after = chars c.in-Some-default.after.now in
    let left = chars c.loop-wanted.left.now in
    let behind = chars c.in-Some-Some.behind.now in
    let is : ahead ≡ c.in-Some-default.wanted ∷ after = c.in-Some-default.ensures.first in
    let is_left : left ≡ c.in-Some-Some.found ∷ behind = c.in-Some-Some.ensures.first in
    let plain : (c.in-Some-default.wanted == 37) ≡ false = search rules in
    let stands : ((c.in-Some-default.wanted == 95) || (c.in-Some-Some.found == c.in-Some-default.wanted)) ≡ true = sym c.stands_for.ensures ∙ c.if-stands_for.true in
    record {
      ahead = c.in-Some-default.ensures.utf8;
      left = c.in-Some-Some.ensures.utf8;
      again = holds.again;
      begun = holds.begun;
      value = ap (λ b. b || later (is_like (chars c.loop-wanted.again.now)) (chars c.loop-wanted.begun.now)) (goes_on ahead after left behind c.in-Some-default.wanted c.in-Some-Some.found is is_left plain stands) ∙ holds.value;
      reach = λ b. reach_goes_on ahead after left behind c.in-Some-default.wanted c.in-Some-Some.found is is_left plain (holds.reach b);
      ahead_short = omega (arith, ap length is, holds.ahead_short);
      again_short = holds.again_short;
      left_short = omega (arith, ap length is_left, holds.left_short);
    }
