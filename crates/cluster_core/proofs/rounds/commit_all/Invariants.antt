use Rattle.std.proofs.Common.{◌≡◌, ◌++◌, map}
use Rattle.std.specs.List.{AllByRecursion}
use Rattle.std.specs.Prelude.{IfSome, Option, flat_map}
use Rattle.std.specs.Vec.Iter.{into_iter_items}
use Rattle.core_state.specs.Shelf.{Shelf}
use Rattle.core_state.specs.declared.log.Proposal.{Proposal}
use Rattle.meaning_laws.proofs.Lists.{Pairwise}
use Rattle.topic_log.specs.Shelves.{routes_in, shelf_of, topics_of}
use Rattle.cluster_laws.specs.Rounds.{AllSettle, CanCommit, ProposeApart, noted, offered, seat_of}
use Rattle.cluster_core.proofs.rounds.commit_all.Given as goal

-- the remaining proposals can be committed, and the commits so far lead on to all
abbrev pub invariant-loop-ran : goal.invariant-loop-ran
invariant-loop-ran l =
    let left = into_iter_items l.ran-iterator in
    record {
      topics : topics_of l.broker ≡ topics_of l.fn.broker;
      each : AllByRecursion (λ (o : Option Proposal). IfSome o (CanCommit (routes_in l.fn.broker) (shelf_of l.broker))) (map offered left);
      apart : Pairwise ProposeApart (map offered left);
      seats : l.seats.items ++ map seat_of left ≡ map seat_of l.fn.rans.items;
      settled : (next : Shelf) → AllSettle (routes_in l.fn.broker) (map offered left) (shelf_of l.broker) next →
          AllSettle (routes_in l.fn.broker) (map offered l.fn.rans.items) (shelf_of l.fn.broker) next;
      journal : l.journal.items ++ flat_map noted (map offered left) ≡ l.fn.journal.items ++ flat_map noted (map offered l.fn.rans.items);
    }
