use Rattle.std.proofs.Common.{map, subst, sym, ℕ}
use Rattle.std.specs.Prelude.{Option}
use Rattle.topology.specs.declared.topology.Topology.{Topology}
use Rattle.cluster_core.specs.Cluster.{HasCome}
use Rattle.cluster_laws.specs.Progress.{after_assignment, after_loss, round, without_worker}
use Rattle.cluster_laws.specs.Tasks.{idle}
use Rattle.cluster_laws.specs.declared.seats.Seat.{Seat}
use Rattle.cluster_core.specs.declared.cluster.Cluster.{Cluster}
use Rattle.cluster_core.proofs.Happening.{happened-on}
use Rattle.cluster_core.proofs.Turning.{ok-more}
use Rattle.cluster_core.proofs.cluster.Cluster.round_losing.Goals as goal

pub without-requires : goal.without-requires
without-requires c =
    let come = c.requires.come in
    record { come = (come.0, round c.args.lost c.args.self.topology come.1, come.2, c.in_ok-cluster.ensures.next come.0 come.1 come.2 come.3) }

pub returns-in-Some-clause-come : goal.returns-in-Some-clause-come
returns-in-Some-clause-come c =
    let t : Topology = c.args.self.topology in
    ok-more c.without.result
    (λ next has items p sound h.
    subst (λ (lost : Option ℕ). HasCome items (after_loss lost t (round c.args.lost t p)) next) (sym c.in-Some.is)
    (subst (λ (x : Topology). HasCome items (after_assignment x (without_worker c.in-Some.worker p.live) (round c.args.lost t p)) next) c.in_ok-cluster.ensures.topology
    (has items (round c.args.lost t p) sound (c.in_ok-cluster.ensures.next items p sound h))))
    c.without.ensures.come

pub returns-in-None-clause-come : goal.returns-in-None-clause-come
returns-in-None-clause-come c items p sound h =
    let t : Topology = c.args.self.topology in
    subst (λ (lost : Option ℕ). HasCome items (after_loss lost t (round c.args.lost t p)) c.in_ok-cluster.cluster) (sym c.in-None.is)
    (c.in_ok-cluster.ensures.next items p sound h)

pub returns-in-Some-clause-events : goal.returns-in-Some-clause-events
returns-in-Some-clause-events c =
    let old : Cluster = c.args.self in
    ok-more c.without.result
    (λ next has items p records sound h.
    happened-on items records (map (λ (s : Seat). idle s.task) old.seats.items) old c.in_ok-cluster.cluster next (c.in_ok-cluster.ensures.events items p records sound h)
    (has items (round c.args.lost old.topology p) records sound (c.in_ok-cluster.ensures.next items p sound h)))
    c.without.ensures.events

pub returns-in-None-clause-events : goal.returns-in-None-clause-events
returns-in-None-clause-events c items p records sound h = c.in_ok-cluster.ensures.events items p records sound h
