use Rattle.std.proofs.Common.{◌∙◌, ap, sym, List}
use Rattle.ksql_nodes.specs.declared.node.Node.{Node}
use Rattle.op_chain.specs.Chain.{ChainView, maps_after, maps_in}
use Rattle.task_core.specs.Reading.{kind_read}
use Rattle.task_core.specs.Tasks.{TaskView}
use Rattle.task_core.proofs.Underway.{at-rest-itself, maps-at_rest}
use Rattle.task_core.proofs.task.Task.load.Goals as goal

pub invariant_of-result : goal.invariant_of-result
invariant_of-result c =
    let nodes = c.self.inside.chain.nodes in
    let loaded = c.in_ok-load.ensures in
    let same = sym (ap (λ (d : ChainView). d.nodes) loaded) in (
      at-rest-itself c.load.new.self nodes (maps_after nodes c.args.logs.now) loaded,
      c.self.invariant.1 ∙ ap (λ (ns : List Node). kind_read ns 0) same,
      c.self.invariant.2 ∙ ap (λ (ns : List Node). kind_read ns 1) same,
    )

pub returns : goal.returns
returns c =
    let nodes = c.self.inside.chain.nodes in
    let loaded = c.in_ok-load.ensures in
    let same = ap (λ (d : ChainView). d.nodes) loaded in
    let maps = ap maps_in loaded ∙ maps-at_rest nodes (maps_after nodes c.args.logs.now) in
    (λ i. record { name = c.self.inside.name; generation = c.self.inside.generation; done = c.args.done; inputs = c.self.inside.inputs; nodes = same i; maps = maps i })
    ∙ ap (λ (v : TaskView). record v { done = c.args.done; maps = maps_after v.nodes c.args.logs.now }) c.self.view_is
