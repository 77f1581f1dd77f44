use Rattle.std.proofs.Common.{◌≡◌, ◌∙◌, ap, List}
use Rattle.std.specs.Prelude.{Some}
use Rattle.std.proofs.lemmas.Result.{IfOk-weaker}
use Rattle.ksql_types.specs.declared.relation.Kind.TheVariants.{Stream}
use Rattle.ksql_program.specs.declared.query.Agg.{Agg}
use Rattle.ksql_nodes.specs.declared.node.Node.TheVariants.{Aggregate}
use Rattle.node_tests.proofs.aggregates.counting.Goals as goal

pub returns : goal.returns
returns c =
    let w = c.args.window in
    IfOk-weaker c.new.result _ _ (λ made is. (w, is ∙ ap (λ (aggs : List Agg). Aggregate Stream aggs (Some w)) (c.of.ensures ∙ c.in_ok-vec.ensures.items))) c.new.ensures.node
