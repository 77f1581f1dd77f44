use Rattle.std.proofs.Common.{◌∙◌, map, sym}
use Rattle.std.specs.Prelude.{option_map}
use Rattle.grouped_expressions.specs.Grouped.{after, when_after}
use Rattle.grouped_expressions.proofs.Becoming.{moved, after-Binary, after-Between, after-OneOf, after-Case}
use Rattle.grouped_expressions.proofs.grouped.+after.Goals as goal

pub node_after-returns-in-Binary : goal.node_after-returns-in-Binary
node_after-returns-in-Binary t c =
    moved _ _ _ (after-Binary c.args.columns.now c.args.node.now c.in-Binary.op c.in-Binary.left c.in-Binary.right c.in-Binary.is (sym c.place_among.ensures ∙ c.in_default.is))
    (c.binary_of.ensures (after c.args.columns.now c.in-Binary.left) (after c.args.columns.now c.in-Binary.right) c.boxed_after.ensures c.boxed_after-in-Binary.ensures)

pub node_after-returns-in-Between : goal.node_after-returns-in-Between
node_after-returns-in-Between t c =
    moved _ _ _ (after-Between c.args.columns.now c.args.node.now c.in-Between.negated c.in-Between.arg c.in-Between.low c.in-Between.high c.in-Between.is (sym c.place_among.ensures ∙ c.in_default.is))
    (c.between_of.ensures (after c.args.columns.now c.in-Between.arg) (after c.args.columns.now c.in-Between.low) (after c.args.columns.now c.in-Between.high)
    c.boxed_after-in-Between.ensures c.boxed_after-in-Between-2.ensures c.boxed_after-in-Between-3.ensures)

pub node_after-returns-in-OneOf : goal.node_after-returns-in-OneOf
node_after-returns-in-OneOf t c =
    moved _ _ _ (after-OneOf c.args.columns.now c.args.node.now c.in-OneOf.negated c.in-OneOf.arg c.in-OneOf.choices c.in-OneOf.is (sym c.place_among.ensures ∙ c.in_default.is))
    (c.one_of.ensures (after c.args.columns.now c.in-OneOf.arg) (map (after c.args.columns.now) c.in-OneOf.choices) c.boxed_after-in-OneOf.ensures c.each_after.ensures)

pub node_after-returns-in-Case : goal.node_after-returns-in-Case
node_after-returns-in-Case t c =
    moved _ _ _ (after-Case c.args.columns.now c.args.node.now c.in-Case.arg c.in-Case.whens c.in-Case.otherwise c.in-Case.is (sym c.place_among.ensures ∙ c.in_default.is))
    (c.case_of.ensures (option_map (after c.args.columns.now) c.in-Case.arg) (option_map (after c.args.columns.now) c.in-Case.otherwise) (map (when_after c.args.columns.now) c.in-Case.whens)
    c.part_after.ensures c.each_when_after.ensures c.part_after-in-Case.ensures)
