use Rattle.std.proofs.Common.{◌∙◌, [], ap, sym, subst, List}
use Rattle.std.specs.Prelude.{◌≡◌, IfOk}
use Rattle.ksql_place.specs.declared.change.Change.{Change}
use Rattle.ksql_nodes.specs.Entries.{from_side, results}
use Rattle.ksql_nodes.specs.TableAggregates.{aggregate_of_table}
use Rattle.reference.proofs.Shapes.{groups-of-table}
use Rattle.reference.proofs.queries.grouped_changes.Goals as goal

pub returns-in-Table : goal.returns-in-Table
returns-in-Table c =
    let keys = c.args.keys.now in
    let aggs = c.args.aggs.now in
    subst (λ (list : List Change). IfOk c.table_group_changes.result (λ made. made.items ≡ list))
    (ap (λ (cs : List Change). results (aggregate_of_table keys aggs) [] (from_side 0 cs)) c.as_slice-in-Table.ensures.value
    ∙ sym (groups-of-table c.args.lanes c.args.over keys aggs c.args.changes.items c.in-Table.is))
    c.table_group_changes.ensures
