use Rattle.std.proofs.Common.{◌≡◌, ◌∙◌, ap, map, subst, List}
use Rattle.std.specs.Prelude.{IfOk}
use Rattle.ksql_place.specs.declared.change.Change.{Change}
use Rattle.ksql_nodes.specs.declared.node.Node.{Node}
use Rattle.ksql_nodes.specs.Entries.{from_side, through}
use Rattle.ksql_nodes.specs.Nodes.{gives}
use Rattle.reference.specs.Plain.{changes_of}
use Rattle.reference.proofs.Shapes.{query-made}
use Rattle.reference.proofs.queries.changes_by_steps.Goals as goal

pub returns : goal.returns
returns c =
    let lanes = c.partitions_of-lanes.result in
    let joined = c.in_ok-joined.joined.items in
    let nodes = c.in_ok-nodes.nodes.items in
    let filtered = c.in_ok-filtered.ensures ∙ ap (λ (ns : List Node). through (map (gives lanes) ns) (from_side 0 joined)) c.as_slice.ensures.value in
    subst (λ (list : List Change). IfOk c.shape_changes.result (λ changes. changes.items ≡ list))
    (query-made c.args.program.now.items (map changes_of c.args.lists.now) c.args.query.now c.leftmost-number.result lanes c.kind_of.result nodes joined c.in_ok-filtered.filtered.items
    c.leftmost-number.ensures c.partitions_of-lanes.ensures c.kind_of.ensures c.in_ok-nodes.ensures c.in_ok-joined.ensures filtered)
    c.shape_changes.ensures
