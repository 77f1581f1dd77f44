use Rattle.std.proofs.Common.{◌∙◌, ap, ap₂, sym, ℕ, List}
use Rattle.ksql_expr.specs.declared.typed.Typed.{Typed}
use Rattle.ksql_nodes.specs.declared.node.Node.TheVariants as node
use Rattle.grouped_expressions.proofs.Becoming.{moved}
use Rattle.query_meaning.specs.Queries.{side_at}
use Rattle.logical_plan.specs.declared.tree.Plan.{Plan}
use Rattle.key_planner.specs.Cuts.{leftmost_of, opened, own_key}
use Rattle.key_planner.proofs.Parts.{opened-Filter, opened-Rekey, opened-JoinStreamTable, opened-JoinTables, opened-Group, opened-Aggregate, opened-Having, opened-Select}
use Rattle.key_planner.proofs.staging.+opened.Goals as goal

pub opened-returns-in-Filter : goal.opened-returns-in-Filter
opened-returns-in-Filter t c =
    let items = c.args.program.now.items in
    moved _ _ _ (opened-Filter items c.args.plan c.in-Filter.on c.in-Filter.arg c.in-Filter.is) (c.with_node.ensures (opened items c.in-Filter.arg) c.below.ensures)

pub opened-returns-in-Rekey : goal.opened-returns-in-Rekey
opened-returns-in-Rekey t c =
    let items = c.args.program.now.items in
    moved _ _ _ (opened-Rekey items c.args.plan c.in-Rekey.key c.in-Rekey.arg c.in-Rekey.is) (c.with_node-in-Rekey.ensures (opened items c.in-Rekey.arg) c.below-in-Rekey.ensures)

pub opened-returns-in-JoinStreamTable : goal.opened-returns-in-JoinStreamTable
opened-returns-in-JoinStreamTable t c =
    let items = c.args.program.now.items in
    let kind = c.in-JoinStreamTable.kind in
    let on = c.in-JoinStreamTable.on in
    let left = c.in-JoinStreamTable.left in
    let right = c.in-JoinStreamTable.right in
    let first = c.leftmost-first.ensures items ∙ ap (leftmost_of items) c.get.ensures in
    let second = c.leftmost-second.ensures items ∙ ap (leftmost_of items) c.get-in-JoinStreamTable.ensures in
    let made = moved _ _ _ (sym (ap₂ (λ (a b : ℕ). node.JoinStreamTable kind on (side_at items a) (side_at items b)) first second)) c.stream_join-node.ensures in
    moved _ _ _ (opened-JoinStreamTable items c.args.plan kind on left right c.in-JoinStreamTable.is)
    (c.joined.ensures (node.JoinStreamTable kind on (side_at items (leftmost_of items left)) (side_at items (leftmost_of items right)))
    (opened items left) (opened items right) made c.below-left.ensures c.below-in-JoinStreamTable.ensures)

pub opened-returns-in-JoinTables : goal.opened-returns-in-JoinTables
opened-returns-in-JoinTables t c =
    let items = c.args.program.now.items in
    let kind = c.in-JoinTables.kind in
    let left = c.in-JoinTables.left in
    let right = c.in-JoinTables.right in
    let first = c.leftmost-first-in-JoinTables.ensures items ∙ ap (leftmost_of items) c.get-in-JoinTables.ensures in
    let second = c.leftmost-second-in-JoinTables.ensures items ∙ ap (leftmost_of items) c.get-in-JoinTables-2.ensures in
    let made = moved _ _ _ (sym (ap₂ (λ (a b : ℕ). node.JoinTables kind (side_at items a) (side_at items b)) first second)) c.table_join-node.ensures in
    moved _ _ _ (opened-JoinTables items c.args.plan kind left right c.in-JoinTables.is)
    (c.joined-in-JoinTables.ensures (node.JoinTables kind (side_at items (leftmost_of items left)) (side_at items (leftmost_of items right)))
    (opened items left) (opened items right) made c.below-left-in-JoinTables.ensures c.below-in-JoinTables.ensures)

pub opened-returns-in-Group : goal.opened-returns-in-Group
opened-returns-in-Group t c =
    let items = c.args.program.now.items in
    let keys = c.in-Group.keys in
    let arg = c.in-Group.arg in
    let own = moved _ _ _ (sym (ap₂ (λ (p : Plan) (es : List Typed). own_key items p es) c.get-in-Group.ensures c.items.ensures)) c.is_own_key-own.ensures in
    moved _ _ _ (opened-Group items c.args.plan keys arg c.in-Group.is)
    (c.grouped.ensures (own_key items arg keys) (opened items arg) own c.below-in-Group.ensures)

pub opened-returns-in-Aggregate : goal.opened-returns-in-Aggregate
opened-returns-in-Aggregate t c =
    let items = c.args.program.now.items in
    moved _ _ _ (opened-Aggregate items c.args.plan c.in-Aggregate.over c.in-Aggregate.aggs c.in-Aggregate.window c.in-Aggregate.arg c.in-Aggregate.is)
    (c.with_node-in-Aggregate.ensures (opened items c.in-Aggregate.arg) c.below-in-Aggregate.ensures)

pub opened-returns-in-Having : goal.opened-returns-in-Having
opened-returns-in-Having t c =
    let items = c.args.program.now.items in
    moved _ _ _ (opened-Having items c.args.plan c.in-Having.on c.in-Having.arg c.in-Having.is) (c.with_node-in-Having.ensures (opened items c.in-Having.arg) c.below-in-Having.ensures)

pub opened-returns-in-Select : goal.opened-returns-in-Select
opened-returns-in-Select t c =
    let items = c.args.program.now.items in
    moved _ _ _ (opened-Select items c.args.plan c.in-Select.keys c.in-Select.values c.in-Select.out c.in-Select.arg c.in-Select.is)
    (c.with_node-in-Select.ensures (opened items c.in-Select.arg) c.below-in-Select.ensures)
