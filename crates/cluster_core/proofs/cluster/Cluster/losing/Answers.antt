use Rattle.std.proofs.Common.{◌≡◌, ◌∙◌, ap, subst, List, map}
use Rattle.std.specs.Prelude.{not}
use Rattle.assignor.specs.declared.assignment.Owned.{Owned}
use Rattle.cluster_core.specs.Cluster.{HasCome}
use Rattle.cluster_laws.specs.Tasks.{idle}
use Rattle.cluster_laws.specs.Moves.{owned_of}
use Rattle.cluster_laws.specs.Progress.{after_moves, is_task}
use Rattle.cluster_core.specs.declared.cluster.Cluster.{Cluster}
use Rattle.cluster_laws.specs.declared.seats.Seat.{Seat}
use Rattle.cluster_core.proofs.Turning.{can-lose, ok-more}
use Rattle.cluster_core.proofs.cluster.Cluster.losing.Goals as goal

pub moved-requires : goal.moved-requires
moved-requires c =
    let old : Cluster = c.args.self in
    let come = c.requires.come in
    record {
      come = (
        come.0,
        come.1,
        map (λ (s : Seat). idle s.task) old.seats.items,
        is_task c.args.task,
        come.2,
        come.3,
        can-lose come.0 come.1 old come.3 c.args.task c.as_slice-3.result.now c.items.result.now
            (c.as_slice-3.ensures.value ∙ c.in_ok-stays.ensures ∙ ap (map (λ (s : Seat). not (is_task c.args.task s.task.name))) c.as_slice-2.ensures.value)
            (c.items.ensures ∙ c.in_ok-owners.ensures ∙ ap (map owned_of) c.as_slice.ensures.value),
      );
    }

pub returns-clause-come : goal.returns-clause-come
returns-clause-come c =
    let old : Cluster = c.args.self in
    let whole : c.items.result.now ≡ map owned_of old.seats.items = c.items.ensures ∙ c.in_ok-owners.ensures ∙ ap (map owned_of) c.as_slice.ensures.value in
    ok-more c.moved.result
    (λ next has items p sound h.
    subst (λ (os : List Owned). HasCome items (after_moves (is_task c.args.task) os p) next) (whole ∙ h.owners)
    (has items p (map (λ (s : Seat). idle s.task) old.seats.items) (is_task c.args.task) sound h
    (can-lose items p old h c.args.task c.as_slice-3.result.now c.items.result.now
    (c.as_slice-3.ensures.value ∙ c.in_ok-stays.ensures ∙ ap (map (λ (s : Seat). not (is_task c.args.task s.task.name))) c.as_slice-2.ensures.value) whole)))
    c.moved.ensures.come

pub returns-clause-events : goal.returns-clause-events
returns-clause-events c =
    let old : Cluster = c.args.self in
    let whole : c.items.result.now ≡ map owned_of old.seats.items = c.items.ensures ∙ c.in_ok-owners.ensures ∙ ap (map owned_of) c.as_slice.ensures.value in
    ok-more c.moved.result
    (λ next has items p records sound h.
    has items p (map (λ (s : Seat). idle s.task) old.seats.items) (is_task c.args.task) records sound h
    (can-lose items p old h c.args.task c.as_slice-3.result.now c.items.result.now
    (c.as_slice-3.ensures.value ∙ c.in_ok-stays.ensures ∙ ap (map (λ (s : Seat). not (is_task c.args.task s.task.name))) c.as_slice-2.ensures.value) whole))
    c.moved.ensures.events
