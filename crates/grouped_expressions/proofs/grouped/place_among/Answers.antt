use Rattle.std.proofs.Common.{◌≡◌, ◌∙◌, sym}
use Rattle.grouped_expressions.proofs.Equality.{decided, place-next}
use Rattle.grouped_expressions.proofs.grouped.place_among.Goals as goal

pub returns-then-same_node : goal.returns-then-same_node
returns-then-same_node c =
    sym (place-next c.args.columns.now c.args.node.now c.index-columns-i.result c.loop-i.i _ c.loop-i-test.true c.index-columns-i.is
    (decided c.same_node.result c.index-columns-i.result c.args.node.now c.same_node.ensures ∙ c.if-same_node.true)) ∙ c.loop-i.invariant

pub loop-i-preserved : goal.loop-i-preserved
loop-i-preserved c =
    sym (place-next c.args.columns.now c.args.node.now c.index-columns-i.result c.loop-i.i _ c.loop-i-test.true c.index-columns-i.is
    (decided c.same_node.result c.index-columns-i.result c.args.node.now c.same_node.ensures ∙ c.if-same_node.false)) ∙ c.loop-i.invariant
