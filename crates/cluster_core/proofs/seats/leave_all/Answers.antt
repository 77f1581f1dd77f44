use Rattle.std.proofs.Common.{◌≡◌, ◌∙◌, ◌++◌, ◌∷◌, [], ap, ap₂, refl, subst, sym, List, Bool, length, append_assoc, rules, arith, inl, inr}
use Rattle.std.proofs.lemmas.List.{append-nil}
use Rattle.std.proofs.lemmas.List.Elements.{recursion_from_All}
use Rattle.std.specs.Prelude.{if◌then◌else◌, Option, None, Some}
use Rattle.std.specs.Iterator.Adapters.{zip_first, zip_second}
use Rattle.std.specs.List.{AllByRecursion}
use Rattle.std.specs.Slice.Iter.{iter_rest}
use Rattle.std.specs.Vec.Iter.{into_iter_items}
use Rattle.ksql_types.specs.declared.topic.TopicSpec.{TopicSpec}
use Rattle.core_state.specs.Routes.{IsWriter, routes_of}
use Rattle.core_state.specs.Shelf.{Shelf}
use Rattle.core_state.specs.declared.journal.JournalEntry.{JournalEntry}
use Rattle.topic_log.specs.Shelves.{routes_in, shelf_of}
use Rattle.cluster_laws.specs.Moves.{AllLeave, LeavesOrStays, kept_of}
use Rattle.cluster_laws.specs.declared.seats.Seat.{Seat}
use Rattle.cluster_laws.proofs.Seating.{none-leave, one-leaves}
use Rattle.cluster_core.proofs.seats.leave_all.Goals as goal

pub loop-seat-init : goal.loop-seat-init
loop-seat-init c =
    let seats : into_iter_items (zip_first c.into_iter-seat-iterator.result) ≡ c.args.seats.items = search rules in
    let stays : iter_rest (zip_second c.into_iter-seat-iterator.result) ≡ c.args.stays.now = search rules in
    record {
      topics = refl;
      writers = subst (AllByRecursion (λ (s : Seat). IsWriter (routes_in c.args.broker.now) s.task.name)) (sym seats)
          (recursion_from_All (λ (s : Seat). IsWriter (routes_in c.args.broker.now) s.task.name) c.args.seats.items c.requires.writers);
      places = ap length stays ∙ c.requires.places ∙ sym (ap length seats);
      kept = ap₂ (λ (kept : List (Option Seat)) (rest : List (Option Seat)). kept ++ rest) c.in_ok-kept.ensures.items (ap₂ (λ (xs : List Bool) (ss : List Seat). kept_of xs ss) stays seats);
      left = λ notes next h. (
        notes,
        subst (λ (xs : List Bool). AllLeave (routes_in c.args.broker.now) xs c.args.seats.items (shelf_of c.args.broker.now) notes next) stays
            (subst (λ (ss : List Seat). AllLeave (routes_in c.args.broker.now) (iter_rest (zip_second c.into_iter-seat-iterator.result)) ss (shelf_of c.args.broker.now) notes next) seats h),
        refl,
      );
    }

pub loop-seat-preserved : goal.loop-seat-preserved
loop-seat-preserved c =
    let old : Shelf = shelf_of c.loop-seat.broker in
    let mid : Shelf = shelf_of c.leave_unless.new.broker in
    let ss : List Seat = into_iter_items (zip_first c.next.new.self) in
    let more : List Bool = iter_rest (zip_second c.next.new.self) in
    let stays : Bool = c.in-Some.stays.now in
    let seats : into_iter_items (zip_first c.loop-seat.seat-iterator) ≡ c.in-Some.seat ∷ ss = c.in-Some.ensures.steps.0.0 in
    let flags : iter_rest (zip_second c.loop-seat.seat-iterator) ≡ stays ∷ more = c.in-Some.ensures.steps.1 in
    let left = c.in_ok-leave_unless.ensures.left in
    let does : LeavesOrStays (routes_in c.args.broker.now) stays c.in-Some.seat.task.name old left.0 mid =
    subst (λ (ts : List TopicSpec). LeavesOrStays (routes_of ts) stays c.in-Some.seat.task.name old left.0 mid) c.loop-seat.invariant.topics left.1 in
    let long : length (stays ∷ more) ≡ length (c.in-Some.seat ∷ ss) = sym (ap length flags) ∙ c.loop-seat.invariant.places ∙ ap length seats in
    record {
      topics = c.in_ok-leave_unless.ensures.topics ∙ c.loop-seat.invariant.topics;
      writers = (subst (AllByRecursion (λ (s : Seat). IsWriter (routes_in c.args.broker.now) s.task.name)) seats c.loop-seat.invariant.writers).1;
      places = omega (arith, long);
      kept =
          ap (λ (kept : List (Option Seat)). kept ++ kept_of more ss) (c.in_ok-push.ensures.items ∙ ap (λ (k : Option Seat). c.loop-seat.kept.items ++ k ∷ []) c.in_ok-leave_unless.ensures.kept)
          ∙ append_assoc c.loop-seat.kept.items ((if stays then Some c.in-Some.seat else None) ∷ []) (kept_of more ss)
          ∙ sym (ap₂ (λ (xs : List Bool) (ys : List Seat). c.loop-seat.kept.items ++ kept_of xs ys) flags seats)
          ∙ c.loop-seat.invariant.kept;
      left = λ notes next h.
          let made = c.loop-seat.invariant.left (left.0 ++ notes) next
          (one-leaves (routes_in c.args.broker.now) (iter_rest (zip_second c.loop-seat.seat-iterator)) more (into_iter_items (zip_first c.loop-seat.seat-iterator)) ss stays c.in-Some.seat
          old mid next left.0 notes flags seats does h) in
          (made.0, made.1, ap (λ (es : List JournalEntry). es ++ notes) left.2 ∙ append_assoc c.loop-seat.journal.items left.0 notes ∙ made.2);
    }

pub returns-clause-left : goal.returns-clause-left
returns-clause-left c =
    let seats : List Seat = into_iter_items (zip_first c.loop-seat.seat-iterator) in
    let flags : List Bool = iter_rest (zip_second c.loop-seat.seat-iterator) in
    let places : length flags ≡ length seats = c.loop-seat.invariant.places in
    let none : length seats ≡ 0 = elim c.in-None.ensures.steps [
      | inl spent ↦ omega (arith, c.loop-seat.seat-iterator.a.rest.ok.0, spent.1.0)
      | inr spent ↦ sym places ∙ spent.1.0
    ] in
    let made = c.loop-seat.invariant.left [] (shelf_of c.loop-seat.broker) (none-leave (routes_in c.args.broker.now) flags seats (shelf_of c.loop-seat.broker) none places) in
    (made.0, made.1, sym (append-nil c.loop-seat.journal.items) ∙ made.2)
