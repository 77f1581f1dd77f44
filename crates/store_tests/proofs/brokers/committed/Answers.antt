use Rattle.std.proofs.Common.{◌≡◌, ◌∙◌, ap, arith, subst, sym, List}
use Rattle.ksql_types.specs.declared.relation.TaskName.{TaskName}
use Rattle.ksql_types.specs.declared.topic.TopicSpec.{TopicSpec}
use Rattle.core_state.specs.Routes.{IsWriter, routes_of}
use Rattle.topic_log.specs.Shelves.{routes_in}
use Rattle.store_tests.proofs.brokers.committed.Goals as goal

abbrev second : TaskName
second = record { sub = 0; part = 1 }

pub commit-requires-2-clause-writer : goal.commit-requires-2-clause-writer
commit-requires-2-clause-writer c =
    subst (λ (ts : List TopicSpec). IsWriter (routes_of ts) second)
    (sym (c.in_ok-commit.ensures.topics ∙ c.in_ok-broker.ensures.topics ∙ c.as_slice.ensures.value)) (c.in_ok-topics.ensures.written 1 (omega arith))

pub commit-requires-2-clause-begins : goal.commit-requires-2-clause-begins
commit-requires-2-clause-begins c =
    let is : IsWriter (routes_in c.in_ok-broker.broker) second =
    subst (λ (ts : List TopicSpec). IsWriter (routes_of ts) second) (sym (c.in_ok-broker.ensures.topics ∙ c.as_slice.ensures.value)) (c.in_ok-topics.ensures.written 1 (omega arith)) in
    c.in_ok-commit.ensures.others second is (λ e. let part : 1 ≡ 0 = ap (λ (t : TaskName). t.part) e in omega (arith, part)) ∙ c.in_ok-broker.ensures.opens.done second is
