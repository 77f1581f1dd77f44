use Rattle.std.proofs.Common.{◌≡◌, IfOk, subst}
use Rattle.ksql_nodes.specs.declared.node.Node.{Node}
use Rattle.topology.specs.declared.stage.CutName.TheVariants as name
use Rattle.key_planner.specs.Cuts.{as_side, both, with_node}
use Rattle.key_planner.specs.declared.staging.Open.{Open}
use Rattle.key_planner.proofs.staging.joined.Goals as goal

pub returns : goal.returns
returns c = λ x l r is_node is_left is_right.
    let left : Open = as_side c.args.program.now.items name.Left l in
    let right : Open = as_side c.args.program.now.items name.Right r in
    let node : c.in_ok-node.node ≡ x = subst (λ r. IfOk r (λ y. y ≡ x)) c.in_ok-node.was is_node in
    let sides = c.both-sides.ensures left right (c.as_side-left.ensures l is_left) (c.as_side-right.ensures r is_right) in
    subst (λ (n : Node). IfOk c.with_node.result (λ made. made ≡ with_node n (both left right))) node (c.with_node.ensures (both left right) sides)
