-- The cluster before its first step.
use Rattle.std.proofs.Common.{subst, sym, ℕ, List, map}
use Rattle.std.specs.List.Sorted.{IsStrictlyIncreasing}
use Rattle.ksql_program.specs.declared.program.Item.{Item}
use Rattle.topic_files.specs.declared.topic.TopicLines.{TopicLines}
use Rattle.topology.specs.Topologies.{topology_of}
use Rattle.topology.specs.declared.topology.Topology.{Topology}
use Rattle.cluster_core.specs.Cluster.{HasCome}
use Rattle.cluster_laws.specs.Tasks.{idle}
use Rattle.cluster_laws.specs.Progress.{after_assignment, before_workers}
use Rattle.cluster_core.specs.declared.cluster.Cluster.{Cluster}
use Rattle.cluster_laws.specs.declared.seats.Seat.{Seat}
use Rattle.cluster_laws.proofs.LiveWorkers.{first-rising}
use Rattle.cluster_core.proofs.Turning.{idle-live, ok-more}
use Rattle.cluster_core.proofs.cluster.Cluster.new.Goals as goal

pub assigned-requires-clause-rises : goal.assigned-requires-clause-rises
assigned-requires-clause-rises c = subst IsStrictlyIncreasing (sym c.in_ok-first_workers.ensures) (first-rising c.args.workers)

pub assigned-requires-clause-come : goal.assigned-requires-clause-come
assigned-requires-clause-come c =
    let items : List Item = c.args.program.now.items in
    let empty : Cluster = c.in_ok-empty.empty in (
      items,
      before_workers items c.args.files.items,
      map (λ (s : Seat). idle s.task) empty.seats.items,
      c.requires.sound,
      c.in_ok-empty.ensures,
      idle-live c.in_ok-first_workers.field-0.items empty.seats.items,
    )

pub returns : goal.returns
returns c =
    let items : List Item = c.args.program.now.items in
    let files : List TopicLines = c.args.files.items in
    let empty : Cluster = c.in_ok-empty.empty in
    let come : HasCome items (before_workers items files) empty = c.in_ok-empty.ensures in
    ok-more c.assigned.result
    (λ next has.
    subst (λ (live : List ℕ). HasCome items (after_assignment (topology_of items) live (before_workers items files)) next) c.in_ok-first_workers.ensures
    (subst (λ (t : Topology). HasCome items (after_assignment t c.in_ok-first_workers.field-0.items (before_workers items files)) next) come.topology
    (has items (before_workers items files) (map (λ (s : Seat). idle s.task) empty.seats.items) c.requires.sound come
    (idle-live c.in_ok-first_workers.field-0.items empty.seats.items))))
    c.assigned.ensures.come
