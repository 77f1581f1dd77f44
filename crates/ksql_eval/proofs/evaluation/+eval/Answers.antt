use Rattle.std.proofs.Common.{◌≡◌, ◌∙◌, ap, ap₂, sym, subst, ◌+◌, ◌<◌, ◌^◌, ◌&&◌, length, drop, rules, arith}
use Rattle.std.specs.Prelude.{FitsSigned, Result, map, option_map, unwrap_or, not}
use Rattle.std.specs.List.{list_any}
use Rattle.std.specs.Int.{w64}
use Rattle.std.specs.Ordering.{is_eq, is_ge, is_le}
use Rattle.std.specs.declared.alloc.AllocError.{AllocError}
use Rattle.std.proofs.lemmas.Int.{to_z-of_z}
use Rattle.ksql_types.specs.Text.{longest_text}
use Rattle.ksql_types.specs.Key.{is_null}
use Rattle.ksql_types.specs.declared.value.Value.{Value}
use Rattle.ksql_types.specs.declared.value.Value.TheVariants as value
use Rattle.ksql_eval.specs.declared.operand.Operand.{Operand}
use Rattle.ksql_eval.specs.Operand.{IsWorth, worth, whens_of}
use Rattle.ksql_eval.specs.View.{cells, value_on}
use Rattle.ksql_expr.specs.Value.{applied, signed, cast, with_not, compare_so, is_true_value, is_value_like, is_taken, chosen, first_taken, first_value, fun_value, widened}
use Rattle.ksql_eval.proofs.Loops.{item_and_rest, value_found, any_found, when_found}
use Rattle.ksql_eval.proofs.Values.{value_of-Literal, value_of-Column, value_of-RowTime, value_of-Sign, value_of-Binary, value_of-Not, value_of-IsNull, value_of-Between, value_of-OneOf, value_of-Like, value_of-Cast, value_of-Case, value_of-Call, value_of-Aggregate, few_is_fun, time_as_number}
use Rattle.ksql_eval.proofs.evaluation.+eval.Goals as goal

-- what is worth a value is worth an equal one
worth_too : (made : Result Operand AllocError) {v w : Value} → v ≡ w → IsWorth made v → IsWorth made w
worth_too made same = subst (IsWorth made) same

pub coalesced-returns-then-not-is_null : goal.coalesced-returns-then-not-is_null
coalesced-returns-then-not-is_null t c =
    let f = value_on c.args.view.now in
    let xs = c.args.args.now in
    let i = c.loop-arg.arg-index in
    let below : i < length xs = omega arith in
    c.widened.ensures ∙ ap (widened c.args.ty)
    (value_found f (drop i xs) (drop (i + 1) xs) c.arg-item.result (item_and_rest xs i c.arg-item.result below c.arg-item.is) (worth c.in_ok-arg.arg) c.in_ok-arg.ensures
    (first_value (map f xs)) (sym (c.is_null.ensures ∙ ap is_null c.get.ensures) ∙ c.if-not-is_null.true) c.loop-arg.invariant)

pub one_of-returns-then-found : goal.one_of-returns-then-found
one_of-returns-then-found t c =
    let f = value_on c.args.view.now in
    let xs = c.args.choices.now in
    let i = c.loop-choice.choice-index in
    let below : i < length xs = omega arith in
    let test = compare_so is_eq (f c.args.arg.now) in
    c.with_not.ensures ∙ ap (with_not c.args.negated)
    (any_found f (drop i xs) (drop (i + 1) xs) c.choice-item.result (item_and_rest xs i c.choice-item.result below c.choice-item.is)
    test (list_any test (map f xs)) (sym (c.in_ok-found.ensures (f c.choice-item.result) c.operand_of-in-loop-choice.ensures ∙ ap (λ v. compare_so is_eq v (f c.choice-item.result)) c.loop-choice.invariant.kept) ∙ c.if-found.true) c.loop-choice.invariant.same)

pub case_of-returns-then-taken : goal.case_of-returns-then-taken
case_of-returns-then-taken t c =
    let v = c.args.view.now in
    let f = value_on v in
    let xs = c.args.whens.now in
    let i = c.loop-when.when-index in
    let below : i < length xs = omega arith in
    let operand = option_map f c.args.arg.now in
    let w = c.when-item.result in
    worth_too c.widened.result (ap (λ found. widened c.args.ty (unwrap_or found (unwrap_or (option_map f c.args.otherwise.now) value.Null)))
    (when_found (cells v) v.time operand (drop i xs) (drop (i + 1) xs) w (item_and_rest xs i w below c.when-item.is) (first_taken operand (whens_of (cells v) v.time xs))
    (sym (c.in_ok-taken.ensures (f w.cond) c.operand_of.ensures ∙ ap (λ o. is_taken o (f w.cond)) c.loop-when.invariant.kept) ∙ c.if-taken.true) c.loop-when.invariant.same))
    (c.widened.ensures (f w.result) c.operand_of-then-taken.ensures)

pub operand_of-returns-in-Literal : goal.operand_of-returns-in-Literal
operand_of-returns-in-Literal t c =
    let v = c.args.view.now in
    let e = c.args.typed.now in
    value_of-Literal (cells v) v.time e c.in-Literal.value c.in-Literal.is

pub operand_of-returns-in-Column : goal.operand_of-returns-in-Column
operand_of-returns-in-Column t c =
    let v = c.args.view.now in
    let e = c.args.typed.now in
    c.cell.ensures ∙ value_of-Column (cells v) v.time e c.in-Column.column c.in-Column.is

pub operand_of-returns-in-RowTime : goal.operand_of-returns-in-RowTime
operand_of-returns-in-RowTime t c =
    let v = c.args.view.now in
    let e = c.args.typed.now in
    let fits : FitsSigned w64 c.cast_signed.result = search rules in
    let below : v.time < 2 ^ 64 = omega arith in
    ap value.Big (to_z-of_z w64 c.cast_signed.result fits ∙ c.cast_signed.ensures ∙ time_as_number v.time below) ∙ value_of-RowTime (cells v) v.time e c.in-RowTime.is

pub operand_of-returns-in-Aggregate : goal.operand_of-returns-in-Aggregate
operand_of-returns-in-Aggregate t c =
    let v = c.args.view.now in
    let e = c.args.typed.now in
    value_of-Aggregate (cells v) v.time e c.in-Aggregate.fun c.in-Aggregate.arg c.in-Aggregate.is

pub operand_of-returns-in-Sign : goal.operand_of-returns-in-Sign
operand_of-returns-in-Sign t c =
    let v = c.args.view.now in
    let e = c.args.typed.now in
    let f = value_on v in
    worth_too c.sign_of.result (ap (λ a. signed e.ty c.in-Sign.minus (f a)) c.get.ensures ∙ value_of-Sign (cells v) v.time e c.in-Sign.minus c.in-Sign.arg c.in-Sign.is) c.sign_of.ensures

pub operand_of-returns-in-Binary : goal.operand_of-returns-in-Binary
operand_of-returns-in-Binary t c =
    let v = c.args.view.now in
    let e = c.args.typed.now in
    let f = value_on v in
    worth_too c.binary_of.result (ap₂ (λ a b. applied e.ty c.in-Binary.op (f a) (f b)) c.get-in-Binary.ensures c.get-in-Binary-2.ensures ∙ value_of-Binary (cells v) v.time e c.in-Binary.op c.in-Binary.left c.in-Binary.right c.in-Binary.is) c.binary_of.ensures

pub operand_of-returns-in-Not : goal.operand_of-returns-in-Not
operand_of-returns-in-Not t c =
    let v = c.args.view.now in
    let e = c.args.typed.now in
    let f = value_on v in
    worth_too c.not_of.result (ap (λ a. value.Bool (not (is_true_value (f a)))) c.get-in-Not.ensures ∙ value_of-Not (cells v) v.time e c.in-Not.arg c.in-Not.is) c.not_of.ensures

pub operand_of-returns-in-IsNull : goal.operand_of-returns-in-IsNull
operand_of-returns-in-IsNull t c =
    let v = c.args.view.now in
    let e = c.args.typed.now in
    let f = value_on v in
    worth_too c.is_null_of.result (ap (λ a. with_not c.in-IsNull.negated (is_null (f a))) c.get-in-IsNull.ensures ∙ value_of-IsNull (cells v) v.time e c.in-IsNull.negated c.in-IsNull.arg c.in-IsNull.is) c.is_null_of.ensures

pub operand_of-returns-in-Between : goal.operand_of-returns-in-Between
operand_of-returns-in-Between t c =
    let v = c.args.view.now in
    let e = c.args.typed.now in
    let f = value_on v in
    worth_too c.between_of.result (ap (λ a. with_not c.in-Between.negated (compare_so is_ge (f a) (f c.get-in-Between-2.result.now) && compare_so is_le (f a) (f c.get-in-Between-3.result.now))) c.get-in-Between.ensures
    ∙ ap₂ (λ l h. with_not c.in-Between.negated (compare_so is_ge (f c.in-Between.arg) (f l) && compare_so is_le (f c.in-Between.arg) (f h))) c.get-in-Between-2.ensures c.get-in-Between-3.ensures ∙ value_of-Between (cells v) v.time e c.in-Between.negated c.in-Between.arg c.in-Between.low c.in-Between.high c.in-Between.is) c.between_of.ensures

pub operand_of-returns-in-OneOf : goal.operand_of-returns-in-OneOf
operand_of-returns-in-OneOf t c =
    let v = c.args.view.now in
    let e = c.args.typed.now in
    let f = value_on v in
    worth_too c.one_of.result (ap₂ (λ a l. with_not c.in-OneOf.negated (list_any (compare_so is_eq (f a)) (map f l))) c.get-in-OneOf.ensures c.items.ensures ∙ value_of-OneOf (cells v) v.time e c.in-OneOf.negated c.in-OneOf.arg c.in-OneOf.choices c.in-OneOf.is) c.one_of.ensures

pub operand_of-returns-in-Like : goal.operand_of-returns-in-Like
operand_of-returns-in-Like t c =
    let v = c.args.view.now in
    let e = c.args.typed.now in
    let f = value_on v in
    worth_too c.like_of.result (ap (λ a. with_not c.in-Like.negated (is_value_like c.in-Like.pattern (f a))) c.get-in-Like.ensures ∙ value_of-Like (cells v) v.time e c.in-Like.negated c.in-Like.arg c.in-Like.pattern c.in-Like.is) c.like_of.ensures

pub operand_of-returns-in-Cast : goal.operand_of-returns-in-Cast
operand_of-returns-in-Cast t c =
    let v = c.args.view.now in
    let e = c.args.typed.now in
    let f = value_on v in
    worth_too c.cast_of.result (ap (λ a. cast c.in-Cast.to (f a)) c.get-in-Cast.ensures ∙ value_of-Cast (cells v) v.time e c.in-Cast.arg c.in-Cast.to c.in-Cast.is) c.cast_of.ensures

pub operand_of-returns-in-Case : goal.operand_of-returns-in-Case
operand_of-returns-in-Case t c =
    let v = c.args.view.now in
    let e = c.args.typed.now in
    let f = value_on v in
    worth_too c.case_of.result (ap (λ ws. widened e.ty (chosen (option_map f c.in-Case.arg) (whens_of (cells v) v.time ws) (option_map f c.in-Case.otherwise))) c.items-in-Case.ensures ∙ value_of-Case (cells v) v.time e c.in-Case.arg c.in-Case.whens c.in-Case.otherwise c.in-Case.is) c.case_of.ensures

pub operand_of-returns-in-Call : goal.operand_of-returns-in-Call
operand_of-returns-in-Call t c =
    let v = c.args.view.now in
    let e = c.args.typed.now in
    let f = value_on v in
    worth_too c.call_of.result (ap (λ l. fun_value e.ty c.in-Call.fun (map f l)) c.items-in-Call.ensures ∙ value_of-Call (cells v) v.time e c.in-Call.fun c.in-Call.args c.in-Call.is) c.call_of.ensures

pub concatenated-of-requires : goal.concatenated-of-requires
unfolding longest_text
concatenated-of-requires t c = omega (arith, c.loop-arg.invariant.short)

pub call_of-returns-in_default : goal.call_of-returns-in_default
call_of-returns-in_default t c =
    worth_too c.of_few.result (few_is_fun c.args.ty c.args.fun (map (value_on c.args.view.now) c.args.args.now) c.in_default.not-Concat c.in_default.not-Coalesce c.in_default.not-IfNull) c.of_few.ensures

pub binary_of-returns : goal.binary_of-returns
binary_of-returns t c =
    let f = value_on c.args.view.now in
    c.binary.ensures (f c.args.left.now) (f c.args.right.now) c.operand_of.ensures c.operand_of-2.ensures

pub between_of-returns : goal.between_of-returns
between_of-returns t c =
    let f = value_on c.args.view.now in
    c.between.ensures (f c.args.arg.now) (f c.args.low.now) (f c.args.high.now) c.operand_of.ensures c.operand_of-2.ensures c.operand_of-3.ensures

pub of_two-returns : goal.of_two-returns
of_two-returns t c =
    let f = value_on c.args.view.now in
    c.of_two.ensures (f c.args.first.now) (f c.args.second.now) c.operand_of.ensures c.operand_of-2.ensures

pub of_three-returns : goal.of_three-returns
of_three-returns t c =
    let f = value_on c.args.view.now in
    c.of_three.ensures (f c.args.first.now) (f c.args.second.now) (f c.args.third.now) c.operand_of.ensures c.operand_of-2.ensures c.operand_of-3.ensures
