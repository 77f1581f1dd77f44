use Rattle.std.proofs.Common.{List, ◌++◌}
use Rattle.std.specs.List.{AllByRecursion, AllZip}
use Rattle.std.specs.Vec.Iter.{into_iter_items}
use Rattle.topic_log.specs.Shelves.{routes_in, shelf_of}
use Rattle.cluster_laws.specs.Rounds.{CanGo, HasRun}
use Rattle.cluster_laws.specs.declared.seats.Ran.{Ran}
use Rattle.cluster_core.proofs.rounds.advance_all.Given as goal

-- the tasks so far processed what the broker shows, and the remaining ones can
abbrev pub invariant-loop-seat : goal.invariant-loop-seat
invariant-loop-seat l = record {
  can : AllByRecursion (λ s. CanGo l.broker s.task) (into_iter_items l.seat-iterator);
  ran : (later : List Ran) → AllZip (HasRun l.lost (routes_in l.broker) (shelf_of l.broker)) (into_iter_items l.seat-iterator) later →
      AllZip (HasRun l.lost (routes_in l.broker) (shelf_of l.broker)) l.fn.seats.items (l.rans.items ++ later);
}
