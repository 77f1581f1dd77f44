-- The orders of the feeds come one after another.
use Rattle.std.proofs.Common.{◌≡◌, List, ◌++◌, ◌<◌, false, arith}
use Rattle.std.specs.List.{All}
use Rattle.std.specs.Ordering.{is_gt}
use Rattle.std.proofs.lemmas.List.Elements.{All-weaker}
use Rattle.ksql_place.specs.declared.change.SourceRecord.{SourceRecord}
use Rattle.ksql_place.specs.declared.stamp.Stamp.{Stamp}
use Rattle.ksql_place.specs.Ascending.{ascending}
use Rattle.ksql_place.specs.Order.{stamp_cmp, record_cmp}
use Rattle.ksql_place.proofs.Ascending.{ascending-append}
use Rattle.ksql_place.proofs.Merging.{low-then}
use Rattle.ksql_place.proofs.Orders.{record_total}

earlier-feed : (a b : Stamp) → a.feed < b.feed → is_gt (stamp_cmp a b) ≡ false
earlier-feed a b before = low-then a.feed b.feed _ (omega arith) (λ same. absurd (omega arith))

-- the order of an earlier and a later feed
pub ascending-feeds : (us vs : List SourceRecord) → All (λ u. All (λ v. u.stamp.feed < v.stamp.feed) vs) us →
    ascending record_cmp (us ++ vs) ≡ ascending record_cmp us ++ ascending record_cmp vs
ascending-feeds us vs before =
    ascending-append record_total us vs
    (All-weaker _ (λ u. All (λ v. is_gt (record_cmp u v) ≡ false) vs) (λ u. All-weaker _ (λ v. is_gt (record_cmp u v) ≡ false) (λ v. earlier-feed u.stamp v.stamp) vs) us before)
