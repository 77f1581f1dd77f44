use Rattle.std.proofs.Common.{◌≡◌, ◌∙◌, [], ◌∷◌, ◌++◌, List, ap, append-nil, append_assoc, subst, sym, arith}
use Rattle.std.proofs.lemmas.List.{nil_from_length}
use Rattle.std.proofs.lemmas.List.Elements.{recursion_from_All}
use Rattle.std.specs.List.{AllByRecursion, AllZip}
use Rattle.std.specs.Vec.Iter.{into_iter_items}
use Rattle.topic_log.specs.Shelves.{routes_in, shelf_of}
use Rattle.cluster_laws.specs.Rounds.{CanGo, HasRun}
use Rattle.cluster_laws.specs.declared.seats.Ran.{Ran}
use Rattle.cluster_laws.specs.declared.seats.Seat.{Seat}
use Rattle.cluster_core.proofs.rounds.advance_all.Goals as goal

pub loop-seat-init : goal.loop-seat-init
loop-seat-init c =
    let all : List Seat = c.args.seats.items in
    let runs = HasRun c.args.lost (routes_in c.args.broker.now) (shelf_of c.args.broker.now) in
    let left : into_iter_items c.into_iter-seat-iterator.result ≡ all = c.into_iter-seat-iterator.ensures.into_iter_gives.0 in
    record {
      can = subst (AllByRecursion (λ (s : Seat). CanGo c.args.broker.now s.task)) (sym left) (recursion_from_All (λ (s : Seat). CanGo c.args.broker.now s.task) all c.requires);
      ran = λ later zip.
          subst (λ (rs : List Ran). AllZip runs all (rs ++ later)) (sym c.in_ok-rans.ensures.items) (subst (λ (ss : List Seat). AllZip runs ss later) left zip);
    }

pub outcome_of-requires : goal.outcome_of-requires
outcome_of-requires c = (subst (AllByRecursion (λ (s : Seat). CanGo c.args.broker.now s.task)) c.in-Some.ensures.steps.0 c.loop-seat.invariant.can).0

pub loop-seat-preserved : goal.loop-seat-preserved
loop-seat-preserved c =
    let rest : List Seat = into_iter_items c.next.new.self in
    let runs = HasRun c.args.lost (routes_in c.args.broker.now) (shelf_of c.args.broker.now) in
    let steps : into_iter_items c.loop-seat.seat-iterator ≡ c.in-Some.seat ∷ rest = c.in-Some.ensures.steps.0 in
    record {
      can = (subst (AllByRecursion (λ (s : Seat). CanGo c.args.broker.now s.task)) steps c.loop-seat.invariant.can).1;
      ran = λ later zip.
          subst (AllZip runs c.args.seats.items) (sym (ap (λ (rs : List Ran). rs ++ later) c.in_ok-push.ensures.items ∙ append_assoc c.loop-seat.rans.items (c.in_ok-outcome_of.field-0 ∷ []) later))
          (c.loop-seat.invariant.ran (c.in_ok-outcome_of.field-0 ∷ later)
          (subst (λ (ss : List Seat). AllZip runs ss (c.in_ok-outcome_of.field-0 ∷ later)) (sym steps) (c.in_ok-outcome_of.ensures, zip)));
    }

pub returns : goal.returns
returns c =
    let none : into_iter_items c.loop-seat.seat-iterator ≡ [] =
    nil_from_length (into_iter_items c.loop-seat.seat-iterator) (omega (arith, c.loop-seat.seat-iterator.rest.ok.0, c.in-None.ensures.steps.0)) in
    let runs = HasRun c.args.lost (routes_in c.args.broker.now) (shelf_of c.args.broker.now) in
    subst (AllZip runs c.args.seats.items) (append-nil c.loop-seat.rans.items)
    (c.loop-seat.invariant.ran [] (subst (λ (ss : List Seat). AllZip runs ss []) (sym none) tt))
