use Rattle.std.proofs.Common.{◌≡◌, ◌∙◌, [], ◌∷◌, ◌++◌, List, map, append_assoc, ap, ap₂, refl, subst, sym}
use Rattle.std.proofs.lemmas.List.Elements.{recursion_from_All}
use Rattle.std.specs.List.{AllByRecursion}
use Rattle.std.specs.Prelude.{IfSome, Option, flat_map}
use Rattle.std.specs.Vec.Iter.{into_iter_items}
use Rattle.core_state.specs.Routes.{Routes, routes_of}
use Rattle.core_state.specs.Shelf.{Shelf}
use Rattle.core_state.specs.declared.journal.JournalEntry.{JournalEntry}
use Rattle.core_state.specs.declared.log.Proposal.{Proposal}
use Rattle.ksql_types.specs.declared.topic.TopicSpec.{TopicSpec}
use Rattle.meaning_laws.proofs.Lists.{Pairwise, Pairwise-from_all}
use Rattle.topic_log.specs.Shelves.{routes_in, shelf_of}
use Rattle.cluster_laws.specs.Rounds.{AllSettle, CanCommit, ProposeApart, Settles, noted, offered, seat_of}
use Rattle.cluster_laws.specs.declared.seats.Ran.{Ran}
use Rattle.cluster_laws.specs.declared.seats.Seat.{Seat}
use Rattle.cluster_laws.proofs.Staying.{still-all}
use Rattle.cluster_core.proofs.rounds.commit_all.Goals as goal

pub loop-ran-init : goal.loop-ran-init
loop-ran-init c =
    let left : into_iter_items c.into_iter-ran-iterator.result ≡ c.args.rans.items = c.into_iter-ran-iterator.ensures.into_iter_gives.0 in
    let r : Routes = routes_in c.args.broker.now in
    let b : Shelf = shelf_of c.args.broker.now in
    let offers : List Ran → List (Option Proposal) = map offered in
    record {
      topics = refl;
      each = subst (λ (rs : List Ran). AllByRecursion (λ (o : Option Proposal). IfSome o (CanCommit r b)) (offers rs)) (sym left)
          (recursion_from_All (λ (o : Option Proposal). IfSome o (CanCommit r b)) (offers c.args.rans.items) c.requires.each);
      apart = subst (λ (rs : List Ran). Pairwise ProposeApart (offers rs)) (sym left) (Pairwise-from_all ProposeApart (offers c.args.rans.items) c.requires.apart);
      seats = ap₂ (λ (ss : List Seat) (rs : List Ran). ss ++ map seat_of rs) c.in_ok-seats.ensures.items left;
      settled = λ next h. subst (λ (rs : List Ran). AllSettle r (offers rs) b next) left h;
      journal = ap (λ (rs : List Ran). c.args.journal.now.items ++ flat_map noted (offers rs)) left;
    }

pub loop-ran-preserved : goal.loop-ran-preserved
loop-ran-preserved c =
    let ran : Ran = c.in-Some.ran in
    let seat : Seat = seat_of ran in
    let offer : Option Proposal = offered ran in
    let offers : List Ran → List (Option Proposal) = map offered in
    let rest : List Ran = into_iter_items c.next.new.self in
    let steps : into_iter_items c.loop-ran.ran-iterator ≡ ran ∷ rest = c.in-Some.ensures.steps.0 in
    let r : Routes = routes_in c.args.broker.now in
    let b : Shelf = shelf_of c.loop-ran.broker in
    let next : Shelf = shelf_of c.settle.new.broker in
    let settles : Settles r offer b next =
    subst (λ (ts : List TopicSpec). Settles (routes_of ts) offer b next) c.loop-ran.invariant.topics c.in_ok-settle.ensures.settled in
    let each = subst (λ (rs : List Ran). AllByRecursion (λ (o : Option Proposal). IfSome o (CanCommit r b)) (offers rs)) steps c.loop-ran.invariant.each in
    let apart = subst (λ (rs : List Ran). Pairwise ProposeApart (offers rs)) steps c.loop-ran.invariant.apart in
    record {
      topics = c.in_ok-settle.ensures.topics ∙ c.loop-ran.invariant.topics;
      each = still-all r b next offer (offers rest) settles apart.0 each.1;
      apart = apart.1;
      seats =
          ap (λ (ss : List Seat). ss ++ map seat_of rest) c.in_ok-push.ensures.items
          ∙ append_assoc c.loop-ran.seats.items (seat ∷ []) (map seat_of rest)
          ∙ ap (λ (rs : List Ran). c.loop-ran.seats.items ++ map seat_of rs) (sym steps)
          ∙ c.loop-ran.invariant.seats;
      settled = λ last h. c.loop-ran.invariant.settled last (subst (λ (rs : List Ran). AllSettle r (offers rs) b last) (sym steps) (next, settles, h));
      journal =
          ap (λ (es : List JournalEntry). es ++ flat_map noted (offers rest)) c.in_ok-settle.ensures.journal
          ∙ append_assoc c.loop-ran.journal.items (noted offer) (flat_map noted (offers rest))
          ∙ ap (λ (rs : List Ran). c.loop-ran.journal.items ++ flat_map noted (offers rs)) (sym steps)
          ∙ c.loop-ran.invariant.journal;
    }
