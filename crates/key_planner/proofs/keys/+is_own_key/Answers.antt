use Rattle.std.proofs.Common.{◌∙◌, ap, ap₂, sym}
use Rattle.ksql_nodes.specs.declared.node.Side.{Side}
use Rattle.query_meaning.specs.Queries.{side_at}
use Rattle.topology.specs.Stages.{is_tables_key}
use Rattle.key_planner.specs.Cuts.{is_one, leftmost_of}
use Rattle.key_planner.proofs.Parts.{own-JoinTables}
use Rattle.key_planner.proofs.keys.+is_own_key.Goals as goal

pub returns-in_ok-right-in-JoinTables : goal.returns-in_ok-right-in-JoinTables
returns-in_ok-right-in-JoinTables t c =
    let items = c.args.program.now.items in
    let kind = c.in-JoinTables.kind in
    let keys = c.args.keys.now in
    c.is_tables_key.ensures
    ∙ ap₂ (λ (l r : Side). is_one (is_tables_key kind l r) keys)
    (c.in_ok-left-in-JoinTables.ensures ∙ ap (side_at items) (c.leftmost-in-JoinTables.ensures items ∙ ap (leftmost_of items) c.get-in-JoinTables.ensures))
    (c.in_ok-right-in-JoinTables.ensures ∙ ap (side_at items) (c.leftmost-in-JoinTables-2.ensures items ∙ ap (leftmost_of items) c.get-in-JoinTables-2.ensures))
    ∙ sym (own-JoinTables items c.args.plan.now kind c.in-JoinTables.left c.in-JoinTables.right keys c.in-JoinTables.is)
