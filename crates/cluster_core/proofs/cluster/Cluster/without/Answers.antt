use Rattle.std.proofs.Common.{◌∙◌, ap, subst, sym, ℕ, List, map}
use Rattle.std.specs.List.Sorted.{IsStrictlyIncreasing}
use Rattle.cluster_core.specs.Cluster.{HasCome}
use Rattle.cluster_laws.specs.Tasks.{idle}
use Rattle.cluster_laws.specs.Progress.{after_assignment, without_worker}
use Rattle.cluster_core.specs.declared.cluster.Cluster.{Cluster}
use Rattle.cluster_laws.specs.declared.seats.Seat.{Seat}
use Rattle.cluster_laws.proofs.LiveWorkers.{without-rising}
use Rattle.cluster_core.proofs.Turning.{idle-live, ok-more}
use Rattle.cluster_core.proofs.cluster.Cluster.without.Goals as goal

pub assigned-requires-clause-rises : goal.assigned-requires-clause-rises
assigned-requires-clause-rises c =
    let come = c.requires.come in
    subst IsStrictlyIncreasing (sym (c.in_ok-live.ensures ∙ ap (without_worker c.args.worker) (c.as_slice.ensures.value ∙ come.3.live)))
    (without-rising c.args.worker come.1.live come.3.progress.live)

pub assigned-requires-clause-come : goal.assigned-requires-clause-come
assigned-requires-clause-come c =
    let come = c.requires.come in
    (come.0, come.1, map (λ (s : Seat). idle s.task) c.args.self.seats.items, come.2, come.3, idle-live c.in_ok-live.live.items c.args.self.seats.items)

pub returns-clause-come : goal.returns-clause-come
returns-clause-come c =
    let old : Cluster = c.args.self in
    ok-more c.assigned.result
    (λ next has items p sound h.
    subst (λ (live : List ℕ). HasCome items (after_assignment old.topology live p) next) (c.in_ok-live.ensures ∙ ap (without_worker c.args.worker) (c.as_slice.ensures.value ∙ h.live))
    (has items p (map (λ (s : Seat). idle s.task) old.seats.items) sound h (idle-live c.in_ok-live.live.items old.seats.items)))
    c.assigned.ensures.come

pub returns-clause-events : goal.returns-clause-events
returns-clause-events c =
    let old : Cluster = c.args.self in
    ok-more c.assigned.result
    (λ next has items p records sound h.
    has items p (map (λ (s : Seat). idle s.task) old.seats.items) records sound h (idle-live c.in_ok-live.live.items old.seats.items))
    c.assigned.ensures.events
