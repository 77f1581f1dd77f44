use Rattle.std.proofs.Common.{◌≡◌, [], map, take}
use Rattle.ksql_nodes.specs.Entries.{results}
use Rattle.ksql_nodes.specs.TableAggregates.{aggregate_of_table}
use Rattle.reference.specs.Grouping.{entries_of, lent_standing, view_of}
use Rattle.reference.proofs.table_groups.member_results.Given as goal

abbrev pub invariant-loop-index : goal.invariant-loop-index
invariant-loop-index l =
    let before = entries_of (take l.index l.members) in
    record {
      changes : l.changes.items ≡ results (aggregate_of_table l.keys l.aggs) [] before;
      standing : map lent_standing l.standing.items ≡ (view_of l.keys before).standing;
    }
