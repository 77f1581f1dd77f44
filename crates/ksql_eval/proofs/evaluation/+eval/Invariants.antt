use Rattle.std.proofs.Common.{◌≡◌, ◌≤◌, ◌+◌, ◌*◌, ◌++◌, max, drop}
use Rattle.std.specs.Prelude.{map, option_map, string_bytes, string_len}
use Rattle.std.specs.List.{list_any, flat_map}
use Rattle.std.specs.Ordering.{is_eq}
use Rattle.ksql_expr.specs.declared.typed.Typed.{size-Typed}
use Rattle.ksql_expr.specs.Value.{compare_so, first_value, first_taken, bytes_of}
use Rattle.ksql_eval.specs.Operand.{worth, whens_of}
use Rattle.ksql_eval.specs.View.{cells, value_on}
use Rattle.ksql_eval.proofs.evaluation.+eval.Given as goal

-- four for each level of an expression, and one for each function in which what is left is as deep

abbrev pub decreases-operand_of : goal.decreases-operand_of
decreases-operand_of l = 4 * goal.size-operand_of l

abbrev pub decreases-sign_of : goal.decreases-sign_of
decreases-sign_of l = 4 * goal.size-sign_of l + 1

abbrev pub decreases-not_of : goal.decreases-not_of
decreases-not_of l = 4 * goal.size-not_of l + 1

abbrev pub decreases-is_null_of : goal.decreases-is_null_of
decreases-is_null_of l = 4 * goal.size-is_null_of l + 1

abbrev pub decreases-like_of : goal.decreases-like_of
decreases-like_of l = 4 * goal.size-like_of l + 1

abbrev pub decreases-cast_of : goal.decreases-cast_of
decreases-cast_of l = 4 * goal.size-cast_of l + 1

abbrev pub decreases-perhaps : goal.decreases-perhaps
decreases-perhaps l = 4 * goal.size-perhaps l + 1

abbrev pub decreases-of_one : goal.decreases-of_one
decreases-of_one l = 4 * goal.size-of_one l + 1

abbrev pub decreases-concatenated : goal.decreases-concatenated
decreases-concatenated l = 4 * goal.size-concatenated l + 1

abbrev pub decreases-coalesced : goal.decreases-coalesced
decreases-coalesced l = 4 * goal.size-coalesced l + 1

abbrev pub decreases-binary_of : goal.decreases-binary_of
decreases-binary_of l = 4 * max (size-Typed l.left.now) (size-Typed l.right.now) + 1

abbrev pub decreases-between_of : goal.decreases-between_of
decreases-between_of l = 4 * max (size-Typed l.arg.now) (max (size-Typed l.low.now) (size-Typed l.high.now)) + 1

abbrev pub decreases-of_two : goal.decreases-of_two
decreases-of_two l = 4 * max (size-Typed l.first.now) (size-Typed l.second.now) + 1

abbrev pub decreases-of_three : goal.decreases-of_three
decreases-of_three l = 4 * max (size-Typed l.first.now) (max (size-Typed l.second.now) (size-Typed l.third.now)) + 1

abbrev pub decreases-one_of : goal.decreases-one_of
decreases-one_of l = 4 * max (size-Typed l.arg.now) (goal.size-one_of l) + 1

abbrev pub decreases-case_of : goal.decreases-case_of
decreases-case_of l = 4 * max (goal.size-case_of l) (max (goal.size-perhaps (record { the-lifetimes = l.the-lifetimes; alloc = l.alloc; typed = l.arg; view = l.view })) (goal.size-perhaps (record { the-lifetimes = l.the-lifetimes; alloc = l.alloc; typed = l.otherwise; view = l.view }))) + 2

abbrev pub decreases-of_few : goal.decreases-of_few
decreases-of_few l = 4 * goal.size-of_few l + 2

abbrev pub decreases-call_of : goal.decreases-call_of
decreases-call_of l = 4 * goal.size-call_of l + 3

abbrev pub invariant-concatenated-loop-arg : goal.invariant-concatenated-loop-arg
invariant-concatenated-loop-arg l = record {
  short : string_len l.whole ≤ 65536;
  same : string_bytes l.whole ++ flat_map bytes_of (map (value_on l.view) (drop l.arg-index l.args)) ≡ flat_map bytes_of (map (value_on l.view) l.args);
}

abbrev pub invariant-coalesced-loop-arg : goal.invariant-coalesced-loop-arg
invariant-coalesced-loop-arg l = first_value (map (value_on l.view) (drop l.arg-index l.args)) ≡ first_value (map (value_on l.view) l.args)

abbrev pub invariant-one_of-loop-choice : goal.invariant-one_of-loop-choice
invariant-one_of-loop-choice l = record {
  kept : worth l.value ≡ value_on l.view l.arg;
  same : list_any (compare_so is_eq (value_on l.view l.arg)) (map (value_on l.view) (drop l.choice-index l.choices)) ≡ list_any (compare_so is_eq (value_on l.view l.arg)) (map (value_on l.view) l.choices);
}

abbrev pub invariant-case_of-loop-when : goal.invariant-case_of-loop-when
invariant-case_of-loop-when l = record {
  kept : option_map worth l.operand ≡ option_map (value_on l.view) l.arg;
  same : first_taken (option_map (value_on l.view) l.arg) (whens_of (cells l.view) l.view.time (drop l.when-index l.whens)) ≡ first_taken (option_map (value_on l.view) l.arg) (whens_of (cells l.view) l.view.time l.whens);
}
