use Rattle.std.proofs.Common.{◌≡◌, ◌∙◌, List, subst, sym, arith}
use Rattle.ksql_types.specs.declared.topic.TopicSpec.{TopicSpec}
use Rattle.core_state.specs.Routes.{IsWriter, routes_of}
use Rattle.topic_log.specs.Shelves.{routes_in, topics_of}
use Rattle.store_tests.proofs.brokers.prepared.Goals as goal

pub prepare-requires-clause-writer : goal.prepare-requires-clause-writer
prepare-requires-clause-writer c =
    let topics : topics_of c.in_ok-broker.broker ≡ c.in_ok-topics.topics.items = c.in_ok-broker.ensures.topics ∙ c.as_slice.ensures.value in
    subst (IsWriter (routes_in c.in_ok-broker.broker)) (sym c.in_ok-proposal.ensures.task)
    (subst (λ (ts : List TopicSpec). IsWriter (routes_of ts) (record { sub = 0; part = 0 })) (sym topics) (c.in_ok-topics.ensures.written 0 (omega arith)))
