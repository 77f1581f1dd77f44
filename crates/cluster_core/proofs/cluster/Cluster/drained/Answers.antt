use Rattle.std.proofs.Common.{◌≡◌, ◌∙◌, ℕ, map, refl, subst, sym, arith}
use Rattle.std.specs.Prelude.{None}
use Rattle.topology.specs.declared.topology.Topology.{Topology}
use Rattle.cluster_core.specs.Cluster.{HasCome}
use Rattle.cluster_laws.specs.Progress.{Progress, round, rounds}
use Rattle.cluster_laws.specs.Tasks.{idle}
use Rattle.cluster_laws.specs.declared.seats.Seat.{Seat}
use Rattle.cluster_core.proofs.Happening.{happened-on, none-happened}
use Rattle.cluster_core.proofs.Numbers.{rounds-next}
use Rattle.cluster_core.proofs.cluster.Cluster.drained.Goals as goal

pub round-requires : goal.round-requires
round-requires c =
    let come = c.requires.come in
    let n : ℕ = c.loop-turn._turn in
    record { come = (come.0, rounds c.args.self.topology n come.1, come.2, c.loop-turn.invariant.come come.0 come.1 come.2 come.3) }

pub loop-turn-preserved : goal.loop-turn-preserved
loop-turn-preserved c = record {
  topology = c.in_ok-cluster.ensures.topology ∙ c.loop-turn.invariant.topology;
  come = λ items p sound h.
      let t : Topology = c.args.self.topology in
      let n : ℕ = c.loop-turn._turn in
      let next = c.in_ok-cluster.ensures.next items (rounds t n p) sound (c.loop-turn.invariant.come items p sound h) in
      subst (λ (q : Progress). HasCome items q c.in_ok-cluster.cluster) (sym (rounds-next t n p))
      (subst (λ (s : Topology). HasCome items (round None s (rounds t n p)) c.in_ok-cluster.cluster) c.loop-turn.invariant.topology
      next);
  events = λ items p records sound h.
      let n : ℕ = c.loop-turn._turn in
      happened-on items records (map (λ (s : Seat). idle s.task) c.args.self.seats.items) c.args.self c.loop-turn.cluster c.in_ok-cluster.cluster (c.loop-turn.invariant.events items p records sound h)
      (c.in_ok-cluster.ensures.events items (rounds c.args.self.topology n p) records sound (c.loop-turn.invariant.come items p sound h));
}

pub returns-clause-come : goal.returns-clause-come
returns-clause-come c items p sound h =
    let end : c.loop-turn._turn ≡ c.args.self.chain = omega arith in
    subst (λ n. HasCome items (rounds c.args.self.topology n p) c.loop-turn.cluster) (end ∙ h.chain) (c.loop-turn.invariant.come items p sound h)

pub returns-clause-events : goal.returns-clause-events
returns-clause-events c items p records sound h = c.loop-turn.invariant.events items p records sound h

pub loop-turn-init : goal.loop-turn-init
loop-turn-init c = record {
  topology = refl;
  come = λ items p sound h. h;
  events = λ items p records sound h. none-happened items records c.args.self;
}
