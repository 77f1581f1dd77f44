use Rattle.std.proofs.Common.{◌≡◌, ◌∙◌, ap, sym, refl, subst, ℕ, ◌<◌, cond, List, [], ◌∷◌, Option, Some, None}
use Rattle.std.specs.Prelude.{◌==◌, Contains, option_and_then, slice_get}
use Rattle.ksql_types.specs.declared.relation.TaskName.{TaskName}
use Rattle.ksql_types.specs.declared.topic.TopicSpec.{TopicSpec}
use Rattle.ksql_types.specs.declared.topic.Writer.{Writer}
use Rattle.core_state.specs.Routes.{IsWriter, is_written_by, routes_of, tasks_of_writer, topic_from}
use Rattle.topic_log.proofs.OneTopic.{is-of_writer}
use Rattle.store_tests.proofs.brokers.source_and_topic.Goals as goal

-- the second of two topics is written by a sub-topology, and the first by none
second-written : (a b : TopicSpec) (w : Writer) → a.writer ≡ None → b.writer ≡ Some w → w.sub ≡ 0 → (part : ℕ) → part < w.partitions →
    IsWriter (routes_of (a ∷ b ∷ [])) (record { sub = 0; part = part })
second-written a b w none is first part below =
    let u : TaskName = record { sub = 0; part = part } in
    let topic : topic_from 0 (a ∷ b ∷ []) 0 ≡ 1 =
    ap (λ (o : Option Writer). cond (is_written_by 0 o) 0 (cond (is_written_by 0 b.writer) 1 2)) none
    ∙ ap (λ (o : Option Writer). cond (is_written_by 0 o) 1 2) is ∙ ap (λ (n : ℕ). cond (n == 0) 1 2) first in
    let own : Contains (tasks_of_writer (Some w)) u = subst (λ (n : ℕ). Contains (tasks_of_writer (Some w)) (record { sub = n; part = part })) first (is-of_writer w part below) in
    subst (λ (i : ℕ). Contains (tasks_of_writer (option_and_then (λ (t : TopicSpec). t.writer) (slice_get (a ∷ b ∷ []) i))) u) (sym topic)
    (subst (λ (o : Option Writer). Contains (tasks_of_writer o) u) (sym is) own)

pub returns-clause-written : goal.returns-clause-written
returns-clause-written c = λ part below.
    let w : Writer = record { sub = 0; partitions = 2 } in
    subst (λ (ts : List TopicSpec). IsWriter (routes_of ts) (record { sub = 0; part = part })) (sym c.in_ok-vec.ensures.items)
    (second-written c.in_ok-source.source c.in_ok-written.written w c.in_ok-source.ensures.writer c.in_ok-written.ensures.writer refl part below)
