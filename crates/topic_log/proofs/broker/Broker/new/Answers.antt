use Rattle.std.proofs.Common.{◌≡◌, ◌∙◌, ap, sym, refl, ℕ, List, length}
use Rattle.std.specs.Prelude.{unwrap_or}
use Rattle.std.specs.BTreeMap.{get}
use Rattle.std.specs.Ordering.{nat_cmp}
use Rattle.std.proofs.lemmas.List.{length-map}
use Rattle.ksql_types.specs.declared.topic.TopicSpec.{TopicSpec}
use Rattle.core_state.specs.Routes.{topic_from}
use Rattle.topic_log.specs.declared.shelves.Shelves.{Shelves}
use Rattle.topic_log.specs.declared.shelves.TopicShelf.{TopicShelf}
use Rattle.topic_log.specs.Shelves.{topics_of}
use Rattle.topic_log.proofs.Fresh.{AreFresh, opens-fresh, shelves-fresh, topics-are}
use Rattle.topic_log.proofs.broker.Broker.new.Goals as goal

pub invariant_of-result : goal.invariant_of-result
invariant_of-result c =
    let topics : List TopicSpec = c.args.topics.now in
    let s : Shelves = record { fed = 0; topics = c.in_ok-fresh.fresh } in
    let fresh : AreFresh topics s = record { fed = refl; topics_fresh = c.in_ok-fresh.ensures } in
    let same : topics_of s ≡ topics = topics-are topics s fresh in
    let count : length s.topics.items ≡ length topics = sym (length-map s.topics.items (λ (t : TopicShelf). t.spec)) ∙ ap (λ (ts : List TopicSpec). length ts) same in (
      shelves-fresh topics s c.requires fresh,
      λ sub. ap (λ (n : ℕ). unwrap_or (get nat_cmp c.in_ok-written.written sub) n) count ∙ c.in_ok-written.ensures sub
          ∙ ap (λ (ts : List TopicSpec). topic_from 0 ts sub) (sym same),
    )

pub returns-clause-topics : goal.returns-clause-topics
returns-clause-topics c =
    let s : Shelves = record { fed = 0; topics = c.in_ok-fresh.fresh } in
    let fresh : AreFresh c.args.topics.now s = record { fed = refl; topics_fresh = c.in_ok-fresh.ensures } in
    topics-are c.args.topics.now s fresh

pub returns-clause-opens : goal.returns-clause-opens
returns-clause-opens c =
    let s : Shelves = record { fed = 0; topics = c.in_ok-fresh.fresh } in
    let fresh : AreFresh c.args.topics.now s = record { fed = refl; topics_fresh = c.in_ok-fresh.ensures } in
    opens-fresh c.args.topics.now s c.requires fresh
