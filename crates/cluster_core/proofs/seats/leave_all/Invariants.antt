use Rattle.std.proofs.Common.{◌≡◌, ◌++◌, List, length}
use Rattle.std.specs.Iterator.Adapters.{zip_first, zip_second}
use Rattle.std.specs.List.{AllByRecursion}
use Rattle.std.specs.Slice.Iter.{iter_rest}
use Rattle.std.specs.Vec.Iter.{into_iter_items}
use Rattle.core_state.specs.Routes.{IsWriter}
use Rattle.core_state.specs.Shelf.{Shelf}
use Rattle.core_state.specs.declared.journal.JournalEntry.{JournalEntry}
use Rattle.topic_log.specs.Shelves.{routes_in, shelf_of, topics_of}
use Rattle.cluster_laws.specs.Moves.{AllLeave, kept_of}
use Rattle.cluster_laws.specs.declared.seats.Seat.{Seat}
use Rattle.cluster_core.proofs.seats.leave_all.Given as goal

-- the remaining ones can leave, and those that left so far lead on to all
abbrev pub invariant-loop-seat : goal.invariant-loop-seat
invariant-loop-seat l =
    let seats = into_iter_items (zip_first l.seat-iterator) in
    let stays = iter_rest (zip_second l.seat-iterator) in
    record {
      topics : topics_of l.broker ≡ topics_of l.fn.broker;
      writers : AllByRecursion (λ (s : Seat). IsWriter (routes_in l.fn.broker) s.task.name) seats;
      places : length stays ≡ length seats;
      kept : l.kept.items ++ kept_of stays seats ≡ kept_of l.fn.stays l.fn.seats.items;
      left : (notes : List JournalEntry) (next : Shelf) → AllLeave (routes_in l.fn.broker) stays seats (shelf_of l.broker) notes next →
          (all : List JournalEntry) × AllLeave (routes_in l.fn.broker) l.fn.stays l.fn.seats.items (shelf_of l.fn.broker) all next × (l.journal.items ++ notes ≡ l.fn.journal.items ++ all);
    }
