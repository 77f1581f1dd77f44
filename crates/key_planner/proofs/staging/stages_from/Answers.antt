use Rattle.std.proofs.Common.{◌≡◌, ◌∙◌, ap, sym, subst, IfOk}
use Rattle.ksql_nodes.specs.declared.node.Node.{Node}
use Rattle.ksql_nodes.specs.declared.node.Node.TheVariants as node
use Rattle.grouped_expressions.proofs.Becoming.{moved}
use Rattle.topology.specs.declared.stage.Link.TheVariants.{Relation}
use Rattle.logical_plan.specs.declared.tree.Plan.{Plan}
use Rattle.key_planner.specs.Cuts.{closed, opened, with_node}
use Rattle.key_planner.proofs.Parts.{stages-Select}
use Rattle.key_planner.proofs.staging.stages_from.Goals as goal

pub returns-in_ok-selected-in-Select : goal.returns-in_ok-selected-in-Select
returns-in_ok-selected-in-Select c =
    let items = c.args.program.now.items in
    let arg = c.in-Select.arg in
    let x : Node = node.Select c.in-Select.keys c.in-Select.values in
    let selected : c.in_ok-selected-in-Select.selected ≡ with_node x (opened items arg) =
    subst (λ r. IfOk r (λ o. o ≡ with_node x (opened items c.into_inner.result))) c.in_ok-selected-in-Select.was
    (c.with_node.ensures (opened items c.into_inner.result) c.opened-last.ensures)
    ∙ ap (λ (p : Plan). with_node x (opened items p)) c.into_inner.ensures in
    moved _ _ _ (stages-Select items c.args.plan c.in-Select.keys c.in-Select.values c.in-Select.out arg c.in-Select.is)
    (moved _ _ _ (sym (ap (closed items (Relation c.in-Select.out)) selected)) c.closed.ensures)
