use Rattle.ksql_place.specs.declared.change.SourceRecord.{SourceRecord}
use Rattle.ksql_place.specs.Ascending.{ascending}
use Rattle.ksql_place.specs.Order.{record_cmp, stamp_cmp}
use Rattle.ksql_place.proofs.Ascending.{IsPermutation-ascending, Ascends-ascending, Ascends-from_sort, IsSorted-from_ascends, IsStable-ascending, ascending-kept, filter-ascending}
use Rattle.ksql_place.proofs.Orders.{record_total}
use Rattle.ksql_place.proofs.TwoLists.{map-ascending}
use Rattle.ksql_place.proofs.laws.order_is_sorted.Goals as goal

pub returns : goal.returns
returns c = record {
  members = IsPermutation-ascending record_total;
  ascends = λ records. IsSorted-from_ascends record_total (ascending record_cmp records) (Ascends-ascending record_total records);
  stable = IsStable-ascending record_total;
  kept = λ records sorted. ascending-kept record_total records (Ascends-from_sort record_total records sorted);
  stamps = λ records. map-ascending stamp_cmp (λ (r : SourceRecord). r.stamp) records;
  part = λ records passes. filter-ascending record_total passes records;
}
