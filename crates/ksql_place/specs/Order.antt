-- The places of records and changes, and the order of consumption (Kafka Streams developer guide: the head with the
-- smallest timestamp is taken first).
use Rattle.std.specs.Prelude.{◌≡◌, ℕ, List, [], ◌∷◌, ◌++◌, ◌+◌, ◌≤◌, ◌^◌, length, max}
use Rattle.std.specs.List.{flat_map, AllPairs}
use Rattle.std.specs.declared.cmp.Ordering.{Ordering}
use Rattle.std.specs.Ordering.{nat_cmp, ordering_then}
use Rattle.std.specs.Cmp.Lexicographic.{slice_cmp}
use Rattle.ksql_place.specs.declared.stamp.Stamp.{Stamp}
use Rattle.ksql_place.specs.declared.stamp.Place.{Place}
use Rattle.ksql_place.specs.declared.change.SourceRecord.{SourceRecord}
use Rattle.ksql_place.specs.declared.order.PartTimes.{PartTimes}
use Rattle.ksql_place.specs.Ascending.{ascending}

-- stamps compare field by field
abbrev pub stamp_cmp : Stamp → Stamp → Ordering
stamp_cmp a b =
    ordering_then (nat_cmp a.feed b.feed)
    (ordering_then (nat_cmp a.high b.high)
    (ordering_then (nat_cmp a.topic b.topic)
    (ordering_then (nat_cmp a.part b.part) (nat_cmp a.offset b.offset))))

-- places of one relation: by stamp, then by path
abbrev pub place_cmp : Place → Place → Ordering
place_cmp a b = ordering_then (stamp_cmp a.stamp b.stamp) (slice_cmp nat_cmp a.path b.path)

-- places of the relations numbered ra and rb: by stamp, then by relation, then by path
abbrev pub between_cmp : Place → ℕ → Place → ℕ → Ordering
between_cmp a ra b rb =
    ordering_then (stamp_cmp a.stamp b.stamp) (ordering_then (nat_cmp ra rb) (slice_cmp nat_cmp a.path b.path))

-- the greatest of some numbers
abbrev pub greatest : List ℕ → ℕ
greatest [] = 0
greatest (n ∷ ns) = max n (greatest ns)

-- The stamps of one partition's records in one feed, the first of which has the offset `first`. Each has after its feed
-- the greatest time of its partition up to and including it; `before` are the times of the earlier records.
unfoldable pub stamped : (feed topic part first : ℕ) (before times : List ℕ) → List Stamp
stamped feed topic part first before [] = []
stamped feed topic part first before (time ∷ times) =
    let through = before ++ time ∷ [] in
    record { feed = feed; high = greatest through; topic = topic; part = part; offset = first + length before }
    ∷ stamped feed topic part first through times

-- the stamps of one partition's records in one feed
abbrev pub part_stamps : ℕ → PartTimes → List Stamp
part_stamps feed p = stamped feed p.topic p.part p.first [] p.times

-- records compare by their stamps
abbrev pub record_cmp : SourceRecord → SourceRecord → Ordering
record_cmp a b = stamp_cmp a.stamp b.stamp

-- the stamps of all records of one feed, ascending
abbrev pub stamps_of : ℕ → List PartTimes → List Stamp
stamps_of feed parts = ascending stamp_cmp (flat_map (part_stamps feed) parts)

-- no two of the partitions are the same partition of the same topic
abbrev pub AreDistinct : List PartTimes → Type 0
AreDistinct parts = AllPairs (λ p q. p.topic ≡ q.topic → ¬ (p.part ≡ q.part)) parts

-- no record's offset exceeds the greatest 64-bit number
abbrev pub HasOffsets : PartTimes → Type 0
HasOffsets p = p.first + length p.times ≤ 2 ^ 64
