-- The feeds up to which the topics of a cluster are closed, in numbers.
use Rattle.std.proofs.Common.{◌≡◌, ◌∙◌, ap, ℕ, List, map}
use Rattle.ksql_types.specs.declared.topic.TopicSpec.{TopicSpec}
use Rattle.ksql_program.specs.Sound.{IsSound}
use Rattle.ksql_program.specs.declared.program.Item.{Item}
use Rattle.topology.specs.Topologies.{topology_of}
use Rattle.core_state.specs.Routes.{routes_of}
use Rattle.core_state.specs.Shelf.{shelf_closed}
use Rattle.topic_log.specs.Shelves.{routes_in, shelf_of, topics_of}
use Rattle.task_core.specs.declared.task.Moved.{Moved}
use Rattle.cluster_core.specs.Cluster.{HasCome}
use Rattle.cluster_laws.specs.Tasks.{idle}
use Rattle.cluster_laws.specs.Progress.{Progress, closed}
use Rattle.cluster_core.specs.declared.cluster.Cluster.{Cluster}
use Rattle.cluster_laws.specs.declared.seats.Seat.{Seat}
use Rattle.cluster_core.proofs.Coming as coming
use Rattle.cluster_core.proofs.Numbers.{closed-same}

module _ (items : List Item) (p : Progress) (c : Cluster) (sound : IsSound items) (come : HasCome items p c) where
  abbrev waiting : List Moved
  waiting = map (λ (s : Seat). idle s.task) c.seats.items

  -- a cluster has the topics of its program
  pub topics-come : topics_of c.broker ≡ (topology_of items).topics
  topics-come = coming.topics-come items p waiting c come

  -- its broker closes each topic up to the feed that its numbers say
  pub closed-come : (topic : ℕ) → shelf_closed (routes_in c.broker) (shelf_of c.broker) topic ≡ closed (topology_of items) p topic
  closed-come topic =
      ap (λ (ts : List TopicSpec). shelf_closed (routes_of ts) (shelf_of c.broker) topic) topics-come
      ∙ closed-same items p.order sound come.progress.order (shelf_of c.broker) p come.fed (coming.done-come items p waiting c come) topic
