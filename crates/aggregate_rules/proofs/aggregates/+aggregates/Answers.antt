use Rattle.std.proofs.Common.{◌≡◌, ◌∙◌, ◌++◌, ◌∷◌, [], ap, sym}
use Rattle.aggregate_rules.specs.Grouping.{whole_aggregate, gives}
use Rattle.aggregate_rules.proofs.Appended.{is_whole, is_not_whole, behind-nothing, two-behind, three-behind}
use Rattle.aggregate_rules.proofs.Gives.{gives-decided, gives-Digits, gives-Text, gives-Truth, gives-Null, gives-Name, gives-Binary, gives-Between, gives-OneOf, gives-Case}
use Rattle.aggregate_rules.proofs.aggregates.+aggregates.Goals as goal

pub add_aggregates-returns-then-is_aggregate_call : goal.add_aggregates-returns-then-is_aggregate_call
add_aggregates-returns-then-is_aggregate_call t c =
    c.in_ok-push.ensures.items ∙ ap (λ a. c.args.found.now.items ++ a ∷ []) c.in_ok-copy.ensures
    ∙ ap (λ g. c.args.found.now.items ++ g)
    (sym (gives-decided whole_aggregate c.args.expr.now (c.args.expr.now ∷ []) (is_whole c.args.expr.now c.is_aggregate_call.result c.is_aggregate_call.ensures c.if-is_aggregate_call.true)))

pub add_aggregates-returns-in-Digits : goal.add_aggregates-returns-in-Digits
add_aggregates-returns-in-Digits t c =
    behind-nothing c.args.found.now.items _
    (gives-Digits whole_aggregate c.args.expr.now c.in-Digits.field-0 c.in-Digits.is (is_not_whole c.args.expr.now c.is_aggregate_call.result c.is_aggregate_call.ensures c.if-is_aggregate_call.false))

pub add_aggregates-returns-in-Text : goal.add_aggregates-returns-in-Text
add_aggregates-returns-in-Text t c =
    behind-nothing c.args.found.now.items _
    (gives-Text whole_aggregate c.args.expr.now c.in-Text.field-0 c.in-Text.is (is_not_whole c.args.expr.now c.is_aggregate_call.result c.is_aggregate_call.ensures c.if-is_aggregate_call.false))

pub add_aggregates-returns-in-Truth : goal.add_aggregates-returns-in-Truth
add_aggregates-returns-in-Truth t c =
    behind-nothing c.args.found.now.items _
    (gives-Truth whole_aggregate c.args.expr.now c.in-Truth.field-0 c.in-Truth.is (is_not_whole c.args.expr.now c.is_aggregate_call.result c.is_aggregate_call.ensures c.if-is_aggregate_call.false))

pub add_aggregates-returns-in-Null : goal.add_aggregates-returns-in-Null
add_aggregates-returns-in-Null t c =
    behind-nothing c.args.found.now.items _
    (gives-Null whole_aggregate c.args.expr.now c.in-Null.is (is_not_whole c.args.expr.now c.is_aggregate_call.result c.is_aggregate_call.ensures c.if-is_aggregate_call.false))

pub add_aggregates-returns-in-Name : goal.add_aggregates-returns-in-Name
add_aggregates-returns-in-Name t c =
    behind-nothing c.args.found.now.items _
    (gives-Name whole_aggregate c.args.expr.now c.in-Name.qualifier c.in-Name.name c.in-Name.is (is_not_whole c.args.expr.now c.is_aggregate_call.result c.is_aggregate_call.ensures c.if-is_aggregate_call.false))

pub add_aggregates-returns-in_ok-add_aggregates-in-Binary-2 : goal.add_aggregates-returns-in_ok-add_aggregates-in-Binary-2
add_aggregates-returns-in_ok-add_aggregates-in-Binary-2 t c =
    let left : c.add_aggregates-in-Binary.new.found.items ≡ c.args.found.now.items ++ gives whole_aggregate c.in-Binary.left = rw c.get-in-Binary.ensures at c.in_ok-add_aggregates-in-Binary.ensures in
    let right : c.add_aggregates-in-Binary-2.new.found.items ≡ c.add_aggregates-in-Binary.new.found.items ++ gives whole_aggregate c.in-Binary.right = rw c.get-in-Binary-2.ensures at c.in_ok-add_aggregates-in-Binary-2.ensures in
    two-behind _ _ _ _ _ _ left right
    (gives-Binary whole_aggregate c.args.expr.now c.in-Binary.op c.in-Binary.left c.in-Binary.right c.in-Binary.is (is_not_whole c.args.expr.now c.is_aggregate_call.result c.is_aggregate_call.ensures c.if-is_aggregate_call.false))

pub add_aggregates-returns-in_ok-add_aggregates-in-Between-3 : goal.add_aggregates-returns-in_ok-add_aggregates-in-Between-3
add_aggregates-returns-in_ok-add_aggregates-in-Between-3 t c =
    let arg : c.add_aggregates-in-Between.new.found.items ≡ c.args.found.now.items ++ gives whole_aggregate c.in-Between.arg = rw c.get-in-Between.ensures at c.in_ok-add_aggregates-in-Between.ensures in
    let low : c.add_aggregates-in-Between-2.new.found.items ≡ c.add_aggregates-in-Between.new.found.items ++ gives whole_aggregate c.in-Between.low = rw c.get-in-Between-2.ensures at c.in_ok-add_aggregates-in-Between-2.ensures in
    let high : c.add_aggregates-in-Between-3.new.found.items ≡ c.add_aggregates-in-Between-2.new.found.items ++ gives whole_aggregate c.in-Between.high = rw c.get-in-Between-3.ensures at c.in_ok-add_aggregates-in-Between-3.ensures in
    three-behind _ _ _ _ _ _ _ _ arg low high
    (gives-Between whole_aggregate c.args.expr.now c.in-Between.negated c.in-Between.arg c.in-Between.low c.in-Between.high c.in-Between.is (is_not_whole c.args.expr.now c.is_aggregate_call.result c.is_aggregate_call.ensures c.if-is_aggregate_call.false))

pub add_aggregates-returns-in_ok-add_all-in-OneOf : goal.add_aggregates-returns-in_ok-add_all-in-OneOf
add_aggregates-returns-in_ok-add_all-in-OneOf t c =
    let arg : c.add_aggregates-in-OneOf.new.found.items ≡ c.args.found.now.items ++ gives whole_aggregate c.in-OneOf.arg = rw c.get-in-OneOf.ensures at c.in_ok-add_aggregates-in-OneOf.ensures in
    two-behind _ _ _ _ _ _ arg c.in_ok-add_all-in-OneOf.ensures
    (gives-OneOf whole_aggregate c.args.expr.now c.in-OneOf.negated c.in-OneOf.arg c.in-OneOf.choices c.in-OneOf.is (is_not_whole c.args.expr.now c.is_aggregate_call.result c.is_aggregate_call.ensures c.if-is_aggregate_call.false))

pub add_aggregates-returns-in_ok-add_part-in-Case-2 : goal.add_aggregates-returns-in_ok-add_part-in-Case-2
add_aggregates-returns-in_ok-add_part-in-Case-2 t c =
    three-behind _ _ _ _ _ _ _ _ c.in_ok-add_part-in-Case.ensures c.in_ok-add_whens-in-Case.ensures c.in_ok-add_part-in-Case-2.ensures
    (gives-Case whole_aggregate c.args.expr.now c.in-Case.arg c.in-Case.whens c.in-Case.otherwise c.in-Case.is (is_not_whole c.args.expr.now c.is_aggregate_call.result c.is_aggregate_call.ensures c.if-is_aggregate_call.false))
