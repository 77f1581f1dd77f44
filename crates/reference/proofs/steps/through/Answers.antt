use Rattle.std.proofs.Common.{◌∙◌, sym, List, map}
use Rattle.std.proofs.lemmas.List.{at_drop_all}
use Rattle.ksql_nodes.specs.declared.node.Node.{Node}
use Rattle.ksql_nodes.specs.Entries.{from_side, through}
use Rattle.ksql_nodes.specs.Nodes.{gives}
use Rattle.query_meaning.proofs.QuerySteps.{changed-from-side}
use Rattle.reference.proofs.steps.through.Goals as goal

pub returns : goal.returns
returns c =
    let changes = c.loop-node.changes.items in
    let left = λ (nodes : List Node). through (map (gives c.args.lanes) nodes) (from_side 0 changes) in
    sym (changed-from-side changes) ∙ sym (at_drop_all left c.args.nodes.now c.loop-node.node-index c.loop-node-test.false) ∙ c.loop-node.invariant
