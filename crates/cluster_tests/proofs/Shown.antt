-- What the broker of a cluster has: the topic of each relation of its program, and each of its tasks.
use Rattle.std.proofs.Common.{◌≡◌, ◌∙◌, ap, ap₂, refl, sym, subst, ℕ, zero, suc, ◌+◌, List, [], ◌∷◌, ◌++◌, length, map}
use Rattle.std.specs.Prelude.{All, Contains, Option, Some, slice_get}
use Rattle.std.specs.List.{AllByRecursion}
use Rattle.std.specs.Option.{IsSomeAnd}
use Rattle.std.proofs.lemmas.List.Elements.{All-contains_itself, All-from_recursion, All-weaker}
use Rattle.ksql_types.specs.declared.relation.Relation.{Relation}
use Rattle.ksql_types.specs.declared.topic.TopicSpec.{TopicSpec}
use Rattle.ksql_program.specs.Program.{relation_of, relations}
use Rattle.ksql_program.specs.Sound.{IsSound}
use Rattle.ksql_program.specs.declared.program.Item.{Item}
use Rattle.topology.specs.Tasks.{tasks_of}
use Rattle.topology.specs.Topologies.{cut_topics, relation_topic, subs, topology_of}
use Rattle.wiring_laws.proofs.Writers.{numbered}
use Rattle.wiring_laws.proofs.Wirings.{wired-well}
use Rattle.core_state.specs.Routes.{IsWriter, routes_of}
use Rattle.topic_log.specs.Shelves.{routes_in, topics_of}
use Rattle.topic_log.specs.declared.shelves.Shelves.{Shelves}
use Rattle.run_text.specs.Shown.{HasTopicOf}

each_relation : (P : Relation → Type 0) (items : List Item) → ((k : ℕ) (i : Item) → slice_get items k ≡ Some i → P (relation_of i)) → AllByRecursion P (relations items)
each_relation P [] by = tt
each_relation P (i ∷ items) by = (by 0 i refl, each_relation P items (λ k j at. by (suc k) j at))

topic_at : (f : Relation → TopicSpec) (items : List Item) (rest : List TopicSpec) (k : ℕ) (i : Item) → slice_get items k ≡ Some i →
    slice_get (map f (relations items) ++ rest) k ≡ Some (f (relation_of i))
topic_at f [] rest k i at = cc (at)
topic_at f (j ∷ items) rest zero i at = cc (at)
topic_at f (j ∷ items) rest (suc k) i at = topic_at f items rest k i at

module _ (items : List Item) (sound : IsSound items) (broker : Shelves) (topics : topics_of broker ≡ (topology_of items).topics) where
  -- the topic of each relation
  pub has-topics : All (HasTopicOf broker) (relations items)
  has-topics = All-from_recursion (HasTopicOf broker) (relations items) (each_relation (HasTopicOf broker) items has)
    where
      has : (k : ℕ) (i : Item) → slice_get items k ≡ Some i → HasTopicOf broker (relation_of i)
      has k i at =
          subst (λ (o : Option TopicSpec). IsSomeAnd o (λ t. t.partitions ≡ (relation_of i).partitions))
          (sym (ap₂ (λ (ts : List TopicSpec) (n : ℕ). slice_get ts n) topics (numbered items sound k i at).0
          ∙ topic_at (relation_topic (subs items)) items (cut_topics items (length items) 0 items) k i at))
          refl

  -- each task
  pub has-writers : All (IsWriter (routes_in broker)) (tasks_of (subs items))
  has-writers =
      subst (λ (ts : List TopicSpec). All (IsWriter (routes_of ts)) (tasks_of (subs items))) (sym topics)
      (All-weaker (Contains (tasks_of (subs items))) (IsWriter (routes_of (topology_of items).topics)) (λ u among. (wired-well items sound).writes u among)
      (tasks_of (subs items)) (All-contains_itself (tasks_of (subs items))))
