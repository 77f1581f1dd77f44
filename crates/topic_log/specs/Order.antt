-- The order of entries in a partition.
use Rattle.std.specs.Prelude.{◌≡◌, ℕ, false, List, []}
use Rattle.std.specs.List.{AllPairs}
use Rattle.std.specs.Ordering.{is_gt}
use Rattle.ksql_place.specs.Order.{place_cmp}
use Rattle.ksql_place.specs.declared.stamp.Place.{Place}
use Rattle.core_state.specs.declared.log.LogEntry.{LogEntry}
use Rattle.core_state.specs.declared.log.LogEntry.TheVariants.{Fed, Said}

-- the place of an entry; for a record its stamp, with the empty path
abbrev pub place_of : LogEntry → Place
place_of (Fed r) = record { stamp = r.stamp; path = [] }
place_of (Said x) = x.place

abbrev pub feed_in : LogEntry → ℕ
feed_in x = (place_of x).stamp.feed

-- entries in the order of their places
abbrev pub IsInPlaceOrder : List LogEntry → Type 0
IsInPlaceOrder xs = AllPairs (λ x y. is_gt (place_cmp (place_of x) (place_of y)) ≡ false) xs
