use Rattle.std.proofs.Common.{◌≡◌, ◌++◌, drop}
use Rattle.std.specs.Vec.Iter.{into_iter_items}
use Rattle.topic_log.specs.Shelves.{shelf_of}
use Rattle.cluster_laws.specs.Moves.{seat_notes, seated}
use Rattle.cluster_core.proofs.seats.seat_all.Given as goal

-- the tasks so far, and those at the owners that are left
abbrev pub invariant-loop-owned : goal.invariant-loop-owned
invariant-loop-owned l =
    let b = shelf_of l.broker in
    let owners = drop l.owned-index l.owners in
    let kept = into_iter_items l.kept in
    record {
      seats : l.seats.items ++ seated l.topology b owners kept ≡ seated l.topology b l.owners l.fn.kept.items;
      journal : l.journal.items ++ seat_notes b owners kept ≡ l.fn.journal.items ++ seat_notes b l.owners l.fn.kept.items;
    }
