use Rattle.std.proofs.Common.{◌≡◌, ◌<◌, ◌&&◌, true, nat_le, IfOk, length, map, take, not, ap, ap₂, sym, ◌∙◌, subst, arith}
use Rattle.std.proofs.lemmas.Bool.Decides.{nat_tests}
use Rattle.std.specs.List.{sum_by}
use Rattle.expression_trees.specs.declared.tree.Expr.TheVariants as ex
use Rattle.ksql_scopes.specs.Functions.{is_aggregate}
use Rattle.ksql_scopes.specs.Scope.{seen}
use Rattle.ksql_scopes.specs.Uses.{is_small, are_small, are_whens_small}
use Rattle.ksql_scopes.proofs.Small.{small-Digits, small-Sign, small-Binary, small-Not, small-IsNull, small-Between, small-OneOf, small-Like, small-Cast, small-Case, small-Call}
use Rattle.ksql_typing.specs.Judged as j
use Rattle.ksql_typing.specs.Judged.{AreOf, AreOfWhens, judged, judged_when}
use Rattle.ksql_typing.proofs.Judging.{judged-Digits, judged-Text, judged-Truth, judged-Null, judged-Name, judged-Sign, judged-Binary, judged-Not, judged-IsNull, judged-Between, judged-OneOf, judged-Like, judged-Cast, judged-Case, judged-Call}
use Rattle.ksql_typing.proofs.Judges.{of_form, moved, one_more, small_when_at}
use Rattle.ksql_typing.proofs.Weights.{weight, weight_when, weight-Sign, weight-Binary, weight-Not, weight-IsNull, weight-Between, weight-OneOf, weight-Like, weight-Cast, weight-Case, weight-Call, one_below, two_below, one_and_more_below, three_below, case_below, call_below, when_below}
use Rattle.ksql_typing.proofs.judge.+judge.Goals as goal

pub judge-digits-requires : goal.judge-digits-requires
judge-digits-requires t c =
    let h : nat_le c.in-Digits.number 9223372036854775807 ≡ true = small-Digits c.args.expr.now c.requires.small c.in-Digits.number c.in-Digits.is in
    grind (arith, nat_tests)

pub judge-returns-in-Digits : goal.judge-returns-in-Digits
judge-returns-in-Digits t c =
    let s = seen c.args.windowed c.args.scope.now in
    moved c.digits.result (of_form c.args.expr.now (ex.Digits c.in-Digits.number) s c.in-Digits.is (judged-Digits c.in-Digits.number s)) c.digits.ensures

pub judge-returns-in-Text : goal.judge-returns-in-Text
judge-returns-in-Text t c =
    let s = seen c.args.windowed c.args.scope.now in
    moved c.text.result (of_form c.args.expr.now (ex.Text c.in-Text.content) s c.in-Text.is (judged-Text c.in-Text.content s)) c.text.ensures

pub judge-returns-in-Truth : goal.judge-returns-in-Truth
judge-returns-in-Truth t c =
    let s = seen c.args.windowed c.args.scope.now in
    moved c.truth.result (of_form c.args.expr.now (ex.Truth c.in-Truth.truth) s c.in-Truth.is (judged-Truth c.in-Truth.truth s)) c.truth.ensures

pub judge-returns-in-Null : goal.judge-returns-in-Null
judge-returns-in-Null t c =
    let s = seen c.args.windowed c.args.scope.now in
    moved c.null.result (of_form c.args.expr.now ex.Null s c.in-Null.is (judged-Null s)) c.null.ensures

pub judge-returns-in-Name : goal.judge-returns-in-Name
judge-returns-in-Name t c =
    let s = seen c.args.windowed c.args.scope.now in
    moved c.name.result (of_form c.args.expr.now (ex.Name c.in-Name.qualifier c.in-Name.name) s c.in-Name.is (judged-Name c.in-Name.qualifier c.in-Name.name s)) c.name.ensures

pub judge-judge-requires : goal.judge-judge-requires
judge-judge-requires t c =
    (one_below _ _ _ _ c.decreases (weight-Sign c.args.expr.now c.in-Sign.minus c.in-Sign.arg c.in-Sign.is) (ap weight c.get.ensures), (ap is_small c.get.ensures ∙ small-Sign c.args.expr.now c.requires.small c.in-Sign.minus c.in-Sign.arg c.in-Sign.is, c.requires.columns))

pub judge-returns-in-Sign : goal.judge-returns-in-Sign
judge-returns-in-Sign t c =
    let s = seen c.args.windowed c.args.scope.now in
    let arg = moved c.judge.result (ap (λ a. judged a s) c.get.ensures) c.judge.ensures in
    moved c.sign.result (of_form c.args.expr.now (ex.Sign c.in-Sign.minus c.in-Sign.arg) s c.in-Sign.is (judged-Sign c.in-Sign.minus c.in-Sign.arg s)) (c.sign.ensures (judged c.in-Sign.arg s) arg)

pub judge-judge-requires-in-Not : goal.judge-judge-requires-in-Not
judge-judge-requires-in-Not t c =
    (one_below _ _ _ _ c.decreases (weight-Not c.args.expr.now c.in-Not.arg c.in-Not.is) (ap weight c.get-in-Not.ensures), (ap is_small c.get-in-Not.ensures ∙ small-Not c.args.expr.now c.requires.small c.in-Not.arg c.in-Not.is, c.requires.columns))

pub judge-returns-in-Not : goal.judge-returns-in-Not
judge-returns-in-Not t c =
    let s = seen c.args.windowed c.args.scope.now in
    let arg = moved c.judge-in-Not.result (ap (λ a. judged a s) c.get-in-Not.ensures) c.judge-in-Not.ensures in
    moved c.negation.result (of_form c.args.expr.now (ex.Not c.in-Not.arg) s c.in-Not.is (judged-Not c.in-Not.arg s)) (c.negation.ensures (judged c.in-Not.arg s) arg)

pub judge-judge-requires-in-IsNull : goal.judge-judge-requires-in-IsNull
judge-judge-requires-in-IsNull t c =
    (one_below _ _ _ _ c.decreases (weight-IsNull c.args.expr.now c.in-IsNull.negated c.in-IsNull.arg c.in-IsNull.is) (ap weight c.get-in-IsNull.ensures), (ap is_small c.get-in-IsNull.ensures ∙ small-IsNull c.args.expr.now c.requires.small c.in-IsNull.negated c.in-IsNull.arg c.in-IsNull.is, c.requires.columns))

pub judge-returns-in-IsNull : goal.judge-returns-in-IsNull
judge-returns-in-IsNull t c =
    let s = seen c.args.windowed c.args.scope.now in
    let arg = moved c.judge-in-IsNull.result (ap (λ a. judged a s) c.get-in-IsNull.ensures) c.judge-in-IsNull.ensures in
    moved c.is_null.result (of_form c.args.expr.now (ex.IsNull c.in-IsNull.negated c.in-IsNull.arg) s c.in-IsNull.is (judged-IsNull c.in-IsNull.negated c.in-IsNull.arg s)) (c.is_null.ensures (judged c.in-IsNull.arg s) arg)

pub judge-judge-requires-in-Like : goal.judge-judge-requires-in-Like
judge-judge-requires-in-Like t c =
    (one_below _ _ _ _ c.decreases (weight-Like c.args.expr.now c.in-Like.negated c.in-Like.arg c.in-Like.pattern c.in-Like.is) (ap weight c.get-in-Like.ensures), (ap is_small c.get-in-Like.ensures ∙ small-Like c.args.expr.now c.requires.small c.in-Like.negated c.in-Like.arg c.in-Like.pattern c.in-Like.is, c.requires.columns))

pub judge-returns-in-Like : goal.judge-returns-in-Like
judge-returns-in-Like t c =
    let s = seen c.args.windowed c.args.scope.now in
    let arg = moved c.judge-in-Like.result (ap (λ a. judged a s) c.get-in-Like.ensures) c.judge-in-Like.ensures in
    moved c.like.result (of_form c.args.expr.now (ex.Like c.in-Like.negated c.in-Like.arg c.in-Like.pattern) s c.in-Like.is (judged-Like c.in-Like.negated c.in-Like.arg c.in-Like.pattern s)) (c.like.ensures (judged c.in-Like.arg s) arg)

pub judge-judge-requires-in-Cast : goal.judge-judge-requires-in-Cast
judge-judge-requires-in-Cast t c =
    (one_below _ _ _ _ c.decreases (weight-Cast c.args.expr.now c.in-Cast.arg c.in-Cast.to c.in-Cast.is) (ap weight c.get-in-Cast.ensures), (ap is_small c.get-in-Cast.ensures ∙ small-Cast c.args.expr.now c.requires.small c.in-Cast.arg c.in-Cast.to c.in-Cast.is, c.requires.columns))

pub judge-returns-in-Cast : goal.judge-returns-in-Cast
judge-returns-in-Cast t c =
    let s = seen c.args.windowed c.args.scope.now in
    let arg = moved c.judge-in-Cast.result (ap (λ a. judged a s) c.get-in-Cast.ensures) c.judge-in-Cast.ensures in
    moved c.cast.result (of_form c.args.expr.now (ex.Cast c.in-Cast.arg c.in-Cast.to) s c.in-Cast.is (judged-Cast c.in-Cast.arg c.in-Cast.to s)) (c.cast.ensures (judged c.in-Cast.arg s) arg)

pub judge-judge_binary-requires : goal.judge-judge_binary-requires
judge-judge_binary-requires t c =
    let k = small-Binary c.args.expr.now c.requires.small c.in-Binary.op c.in-Binary.left c.in-Binary.right c.in-Binary.is in (
      two_below _ _ _ _ _ _ c.decreases (weight-Binary c.args.expr.now c.in-Binary.op c.in-Binary.left c.in-Binary.right c.in-Binary.is) (ap weight c.get-in-Binary.ensures) (ap weight c.get-in-Binary-2.ensures),
      (ap is_small c.get-in-Binary.ensures ∙ k.0, (ap is_small c.get-in-Binary-2.ensures ∙ k.1, c.requires.columns)),
    )

pub judge-returns-in-Binary : goal.judge-returns-in-Binary
judge-returns-in-Binary t c =
    let s = seen c.args.windowed c.args.scope.now in
    moved c.judge_binary.result (ap₂ (λ a b. j.binary c.in-Binary.op (judged a s) (judged b s)) c.get-in-Binary.ensures c.get-in-Binary-2.ensures
    ∙ of_form c.args.expr.now (ex.Binary c.in-Binary.op c.in-Binary.left c.in-Binary.right) s c.in-Binary.is (judged-Binary c.in-Binary.op c.in-Binary.left c.in-Binary.right s)) c.judge_binary.ensures

pub judge-judge_between-requires : goal.judge-judge_between-requires
judge-judge_between-requires t c =
    let k = small-Between c.args.expr.now c.requires.small c.in-Between.negated c.in-Between.arg c.in-Between.low c.in-Between.high c.in-Between.is in (
      three_below _ _ _ _ _ _ _ _ c.decreases (weight-Between c.args.expr.now c.in-Between.negated c.in-Between.arg c.in-Between.low c.in-Between.high c.in-Between.is) (ap weight c.get-in-Between.ensures) (ap weight c.get-in-Between-2.ensures) (ap weight c.get-in-Between-3.ensures),
      (ap is_small c.get-in-Between.ensures ∙ k.0, (ap is_small c.get-in-Between-2.ensures ∙ k.1, (ap is_small c.get-in-Between-3.ensures ∙ k.2, c.requires.columns))),
    )

pub judge-returns-in-Between : goal.judge-returns-in-Between
judge-returns-in-Between t c =
    let s = seen c.args.windowed c.args.scope.now in
    moved c.judge_between.result (ap (λ a. j.between c.in-Between.negated (judged a s) (judged c.get-in-Between-2.result.now s) (judged c.get-in-Between-3.result.now s)) c.get-in-Between.ensures
    ∙ ap₂ (λ a b. j.between c.in-Between.negated (judged c.in-Between.arg s) (judged a s) (judged b s)) c.get-in-Between-2.ensures c.get-in-Between-3.ensures
    ∙ of_form c.args.expr.now (ex.Between c.in-Between.negated c.in-Between.arg c.in-Between.low c.in-Between.high) s c.in-Between.is (judged-Between c.in-Between.negated c.in-Between.arg c.in-Between.low c.in-Between.high s)) c.judge_between.ensures

pub judge-judge_one_of-requires : goal.judge-judge_one_of-requires
judge-judge_one_of-requires t c =
    let k = small-OneOf c.args.expr.now c.requires.small c.in-OneOf.negated c.in-OneOf.arg c.in-OneOf.choices c.in-OneOf.is in (
      one_and_more_below _ _ _ _ _ _ c.decreases (weight-OneOf c.args.expr.now c.in-OneOf.negated c.in-OneOf.arg c.in-OneOf.choices c.in-OneOf.is) (ap weight c.get-in-OneOf.ensures) (ap (sum_by weight) c.items.ensures),
      (ap is_small c.get-in-OneOf.ensures ∙ k.0, (ap are_small c.items.ensures ∙ k.1, c.requires.columns)),
    )

pub judge-returns-in-OneOf : goal.judge-returns-in-OneOf
judge-returns-in-OneOf t c =
    let s = seen c.args.windowed c.args.scope.now in
    moved c.judge_one_of.result (ap₂ (λ a es. j.one_of c.in-OneOf.negated (judged a s) (map (λ b. judged b s) es)) c.get-in-OneOf.ensures c.items.ensures
    ∙ of_form c.args.expr.now (ex.OneOf c.in-OneOf.negated c.in-OneOf.arg c.in-OneOf.choices) s c.in-OneOf.is (judged-OneOf c.in-OneOf.negated c.in-OneOf.arg c.in-OneOf.choices s)) c.judge_one_of.ensures

pub judge-judge_case-requires : goal.judge-judge_case-requires
judge-judge_case-requires t c =
    let k = small-Case c.args.expr.now c.requires.small c.in-Case.arg c.in-Case.whens c.in-Case.otherwise c.in-Case.is in (
      case_below _ _ _ _ _ _ c.decreases (weight-Case c.args.expr.now c.in-Case.arg c.in-Case.whens c.in-Case.otherwise c.in-Case.is) (ap (sum_by weight_when) c.items-in-Case.ensures),
      (k.0, (ap are_whens_small c.items-in-Case.ensures ∙ k.1, (k.2, c.requires.columns))),
    )

pub judge-returns-in-Case : goal.judge-returns-in-Case
judge-returns-in-Case t c =
    let s = seen c.args.windowed c.args.scope.now in
    moved c.judge_case.result (ap (λ ws. j.case (j.perhaps s c.in-Case.arg) (map (judged_when s) ws) (j.perhaps s c.in-Case.otherwise)) c.items-in-Case.ensures
    ∙ of_form c.args.expr.now (ex.Case c.in-Case.arg c.in-Case.whens c.in-Case.otherwise) s c.in-Case.is (judged-Case c.in-Case.arg c.in-Case.whens c.in-Case.otherwise s)) c.judge_case.ensures

pub judge-judge_call-requires : goal.judge-judge_call-requires
judge-judge_call-requires t c = (
  call_below _ _ _ _ c.decreases (weight-Call c.args.expr.now c.in-Call.name c.in-Call.star c.in-Call.args c.in-Call.is) (ap (sum_by weight) c.items-in-Call-2.ensures),
  (ap are_small c.items-in-Call-2.ensures ∙ small-Call c.args.expr.now c.requires.small c.in-Call.name c.in-Call.star c.in-Call.args c.in-Call.is, c.requires.columns),
)

pub judge-returns-in-Call : goal.judge-returns-in-Call
judge-returns-in-Call t c =
    let s = seen c.args.windowed c.args.scope.now in
    moved c.judge_call.result (ap₂ (λ f es. j.call f c.in-Call.star (map (λ a. judged a (seen (not (is_aggregate f) && c.args.windowed) c.args.scope.now)) es)) c.items-in-Call.ensures.value c.items-in-Call-2.ensures
    ∙ of_form c.args.expr.now (ex.Call c.in-Call.name c.in-Call.star c.in-Call.args) s c.in-Call.is (judged-Call c.in-Call.name c.in-Call.star c.in-Call.args s)) c.judge_call.ensures

pub judge_binary-returns : goal.judge_binary-returns
judge_binary-returns t c =
    let s = seen c.args.windowed c.args.scope.now in
    c.binary.ensures (judged c.args.left.now s) (judged c.args.right.now s) c.judge.ensures c.judge-2.ensures

pub judge_between-returns : goal.judge_between-returns
judge_between-returns t c =
    let s = seen c.args.windowed c.args.scope.now in
    c.between.ensures (judged c.args.arg.now s) (judged c.args.low.now s) (judged c.args.high.now s) c.judge.ensures c.judge-2.ensures c.judge-3.ensures

pub judge_one_of-returns : goal.judge_one_of-returns
judge_one_of-returns t c =
    let s = seen c.args.windowed c.args.scope.now in
    c.one_of.ensures (judged c.args.arg.now s) (map (λ a. judged a s) c.args.choices.now) c.judge.ensures c.judge_each.ensures

pub judge_case-returns : goal.judge_case-returns
judge_case-returns t c =
    let s = seen c.args.windowed c.args.scope.now in
    c.case.ensures (j.perhaps s c.args.arg.now) (j.perhaps s c.args.otherwise.now) (map (judged_when s) c.args.whens.now) c.judge_perhaps.ensures c.judge_whens.ensures c.judge_perhaps-2.ensures

pub judge_call-returns : goal.judge_call-returns
judge_call-returns t c =
    c.call.ensures (map (λ a. judged a (seen (not (is_aggregate c.args.name.now) && c.args.windowed) c.args.scope.now)) c.args.args.now)
    (subst (λ b. IfOk c.judge_each.result (λ p. AreOf p (map (λ a. judged a (seen b c.args.scope.now)) c.args.args.now))) c.within-windowed.ensures c.judge_each.ensures)

pub judge_perhaps-returns-in-Some : goal.judge_perhaps-returns-in-Some
judge_perhaps-returns-in-Some t c =
    let s = seen c.args.windowed c.args.scope.now in
    moved c.there.result (ap (λ a. j.there (judged a s)) c.get.ensures ∙ sym (ap (j.perhaps s) c.in-Some.is)) (c.there.ensures (judged c.get.result.now s) c.judge.ensures)

pub judge_whens-judge-cond-requires : goal.judge_whens-judge-cond-requires
judge_whens-judge-cond-requires t c =
    let ws = c.args.whens.now in
    let i = c.loop-when.when-index in
    let below : i < length ws = c.loop-when-test.true in
    ((when_below t ws i c.when-item.result c.decreases below c.when-item.is).0, ((small_when_at ws i c.when-item.result c.requires.small below c.when-item.is).0, c.requires.columns))

pub judge_whens-judge-then-requires : goal.judge_whens-judge-then-requires
judge_whens-judge-then-requires t c =
    let ws = c.args.whens.now in
    let i = c.loop-when.when-index in
    let below : i < length ws = c.loop-when-test.true in
    ((when_below t ws i c.when-item.result c.decreases below c.when-item.is).1, ((small_when_at ws i c.when-item.result c.requires.small below c.when-item.is).1, c.requires.columns))

pub judge_whens-loop-when-preserved : goal.judge_whens-loop-when-preserved
judge_whens-loop-when-preserved t c =
    let s = seen c.args.windowed c.args.scope.now in
    let ws = c.args.whens.now in
    let i = c.loop-when.when-index in
    let below : i < length ws = c.loop-when-test.true in
    let w = c.when-item.result in
    subst (AreOfWhens c.in_ok-parts.parts) (one_more (judged_when s) ws i w below c.when-item.is)
    (c.in_ok-parts.ensures (judged w.cond s) (judged w.result s) (map (judged_when s) (take i ws)) c.judge-cond.ensures c.judge-then.ensures c.loop-when.invariant)
