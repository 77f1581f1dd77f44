use Rattle.std.proofs.Common.{◌∙◌, ap, map, sym, subst, List}
use Rattle.std.specs.Prelude.{◌≡◌, IfOk}
use Rattle.ksql_place.specs.declared.change.Change.{Change}
use Rattle.ksql_nodes.specs.declared.node.Node.{Node}
use Rattle.ksql_nodes.specs.Entries.{from_side, through}
use Rattle.ksql_nodes.specs.Nodes.{gives}
use Rattle.query_meaning.specs.Queries.{after_aggregate}
use Rattle.reference.proofs.Shapes.{shape-grouped}
use Rattle.reference.proofs.queries.shape_changes.Goals as goal

pub returns-in_ok-nodes-in-Group : goal.returns-in_ok-nodes-in-Group
returns-in_ok-nodes-in-Group c =
    let n = c.args.lanes in
    let having = c.in-Group.having in
    let values = c.in-Group.values in
    let nodes = c.as_slice-in-Group.ensures.value ∙ c.in_ok-nodes-in-Group.ensures in
    subst (λ (list : List Change). IfOk c.through-in-Group.result (λ made. made.items ≡ list))
    (ap (λ (ns : List Node). through (map (gives n) ns) (from_side 0 c.in_ok-grouped-in-Group.grouped.items)) nodes
    ∙ ap (λ (cs : List Change). through (map (gives n) (after_aggregate having values)) (from_side 0 cs)) c.in_ok-grouped-in-Group.ensures
    ∙ sym (shape-grouped n c.args.over c.args.shape.now c.in-Group.keys c.in-Group.window c.in-Group.aggs having values c.args.changes.items c.in-Group.is c.requires))
    c.through-in-Group.ensures
