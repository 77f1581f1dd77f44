use Rattle.std.proofs.Common.{[], arith, ap, map, subst, sym}
use Rattle.std.proofs.lemmas.List.Elements.{All-get_or}
use Rattle.ksql_expr.specs.declared.typed.Typed.{Typed}
use Rattle.ksql_typing.proofs.OneTyping.{one-tree}
use Rattle.ksql_analyse.specs.Judgement.{agg_form}
use Rattle.ksql_analyse.specs.Typable.{IsAggregable, IsAggregateNode}
use Rattle.ksql_analyse.proofs.lists.Pushing.{agg-next}
use Rattle.ksql_analyse.proofs.grouped.aggs_of.Goals as goal

pub loop-expr-init : goal.loop-expr-init
loop-expr-init c = ([], tt, ap (map agg_form) (sym c.new-aggs.ensures.items))

pub tree_of-requires-clause-typable : goal.tree_of-requires-clause-typable
tree_of-requires-clause-typable c =
    (subst (IsAggregable c.args.scope.now) (sym c.expr-item.is)
    (All-get_or (IsAggregable c.args.scope.now) c.args.exprs.now c.loop-expr.expr-index c.expr-item.result (omega arith) c.requires.aggregable)).typable

pub agg_in-requires : goal.agg_in-requires
agg_in-requires c =
    let own = subst (IsAggregable c.args.scope.now) (sym c.expr-item.is)
    (All-get_or (IsAggregable c.args.scope.now) c.args.exprs.now c.loop-expr.expr-index c.expr-item.result (omega arith) c.requires.aggregable) in
    subst (λ (x : Typed). IsAggregateNode x.node) (one-tree c.args.scope.now c.expr-item.result own.typable.tree c.in_ok-tree_of.field-0 own.typable.is c.in_ok-tree_of.ensures)
    own.aggregate

pub loop-expr-preserved : goal.loop-expr-preserved
loop-expr-preserved c =
    agg-next c.args.scope.now c.args.exprs.now c.loop-expr.expr-index c.loop-expr.aggs.items c.push.new.self.items
    c.expr-item.result c.agg_in.result c.in_ok-tree_of.field-0 (omega arith) c.loop-expr.invariant c.in_ok-push.ensures.items c.expr-item.is
    c.in_ok-tree_of.ensures c.agg_in.ensures
