use Rattle.std.proofs.Common.{◌∙◌, [], ap, sym, List}
use Rattle.ksql_nodes.specs.declared.node.Node.{Node}
use Rattle.op_chain.specs.Chain.{ChainView, maps_after, maps_in}
use Rattle.task_core.specs.Reading.{kind_read}
use Rattle.task_core.proofs.Underway.{at-rest-itself, maps-at_rest}
use Rattle.task_core.proofs.task.Task.fresh.Goals as goal

pub invariant_of-result : goal.invariant_of-result
invariant_of-result c =
    let nodes = c.items-nodes.result.now in
    let fresh = c.in_ok-chain.ensures.fresh in
    let same = sym (ap (λ (d : ChainView). d.nodes) fresh) in (
      at-rest-itself c.in_ok-chain.chain nodes (maps_after nodes []) fresh,
      c.kind_read.ensures ∙ ap (λ (ns : List Node). kind_read ns 0) same,
      c.kind_read-2.ensures ∙ ap (λ (ns : List Node). kind_read ns 1) same,
    )

pub returns-clause-task : goal.returns-clause-task
returns-clause-task c =
    let nodes = c.items-nodes.result.now in
    let fresh = c.in_ok-chain.ensures.fresh in
    let same = ap (λ (d : ChainView). d.nodes) fresh ∙ c.items-nodes.ensures in
    let maps = ap maps_in fresh ∙ maps-at_rest nodes (maps_after nodes []) ∙ ap (λ (ns : List Node). maps_after ns []) c.items-nodes.ensures in
    λ i. record { name = c.args.name; generation = c.args.generation; done = 0; inputs = c.in_ok-inputs.ensures i; nodes = same i; maps = maps i }
