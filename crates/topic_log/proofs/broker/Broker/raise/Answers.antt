use Rattle.std.proofs.Common.{◌≡◌, ◌∙◌, ap, sym, refl, subst, ℕ, ◌+◌, ◌<◌, ◌^◌, List, length, get_or, set, arith}
use Rattle.std.specs.Prelude.{unwrap_or}
use Rattle.std.specs.BTreeMap.{get}
use Rattle.std.specs.Ordering.{nat_cmp}
use Rattle.std.specs.Vec.{with_item}
use Rattle.std.proofs.lemmas.List.{length-set}
use Rattle.ksql_types.specs.declared.relation.TaskName.{TaskName}
use Rattle.ksql_types.specs.declared.topic.TopicSpec.{TopicSpec}
use Rattle.core_state.specs.Routes.{IsWriter, topic_from}
use Rattle.core_state.specs.Shelf.{ShelfRaises}
use Rattle.topic_log.specs.declared.shelves.Shelves.{Shelves}
use Rattle.topic_log.specs.declared.shelves.TaskShelf.{TaskShelf}
use Rattle.topic_log.specs.declared.shelves.TopicShelf.{TopicShelf}
use Rattle.topic_log.specs.Ready.{IsReady}
use Rattle.topic_log.specs.Shelves.{AreShelves, routes_in, shelf_of, topics_of}
use Rattle.topic_log.proofs.OneTopic.{topics-same}
use Rattle.topic_log.proofs.Raised.{Raises, newest-before, newest-raised, raises, ready-raised, shelves-raised}
use Rattle.topic_log.proofs.Read.{output-inside, read-task, read-topic, read-within, writer-inside}
use Rattle.topic_log.proofs.broker.Broker.raise.Goals as goal

abbrev raised_task : TaskShelf → TaskShelf
raised_task k = record { done = k.done; newest = k.newest + 1; logs = k.logs }

abbrev raised_topic : TopicShelf → ℕ → TaskShelf → TopicShelf
raised_topic t part k = record { spec = t.spec; parts = t.parts; tasks = with_item t.tasks part (raised_task k) }

abbrev raised_in : Shelves → ℕ → TopicShelf → ℕ → TaskShelf → Shelves
raised_in s j t part k = record { fed = s.fed; topics = with_item s.topics j (raised_topic t part k) }

is-raised : (s : Shelves) (u : TaskName) (j : ℕ) (t : TopicShelf) (k : TaskShelf) → AreShelves s → IsWriter (routes_in s) u → j ≡ (routes_in s).output u →
    t ≡ get_or s.topics.items j t → k ≡ get_or t.tasks.items u.part k → Raises s (raised_in s j t u.part k) u t (raised_topic t u.part k) k (raised_task k)
is-raised s u j t k are is output topic task =
    record {
      replaces = record {
        at = read-topic s u are is j output t topic;
        items = ap (λ (i : ℕ). set s.topics.items i (raised_topic t u.part k)) output;
        spec = refl;
      };
      fed = refl;
      parts = refl;
      there = read-task s u are is j output t topic k task;
      tasks = refl;
      done = refl;
      newest = refl;
      logs = refl;
    }

pub index_mut-kept-requires : goal.index_mut-kept-requires
index_mut-kept-requires c =
    let s : Shelves = c.self.inside.inner in
    let is : IsWriter (routes_in s) c.args.task = writer-inside s c.args.self.now c.args.task c.self.view_is c.requires.writer in
    let to : c.output-topic.result ≡ (routes_in s).output c.args.task = output-inside s c.args.self.now c.args.task c.output-topic.result c.self.view_is c.output-topic.ensures in
    omega (arith, read-within s c.args.task c.self.invariant.0 is c.output-topic.result to c.index_mut.result.now c.index_mut.ensures.value)

pub overflow_add-kept : goal.overflow_add-kept
overflow_add-kept c =
    let s : Shelves = c.self.inside.inner in
    let is : IsWriter (routes_in s) c.args.task = writer-inside s c.args.self.now c.args.task c.self.view_is c.requires.writer in
    let to : c.output-topic.result ≡ (routes_in s).output c.args.task = output-inside s c.args.self.now c.args.task c.output-topic.result c.self.view_is c.output-topic.ensures in
    let h : Raises s (raised_in s c.output-topic.result c.index_mut.result.now c.args.task.part c.index_mut-kept.result.now) c.args.task c.index_mut.result.now
    (raised_topic c.index_mut.result.now c.args.task.part c.index_mut-kept.result.now) c.index_mut-kept.result.now (raised_task c.index_mut-kept.result.now) =
    is-raised s c.args.task c.output-topic.result c.index_mut.result.now c.index_mut-kept.result.now c.self.invariant.0 is to c.index_mut.ensures.value c.index_mut-kept.ensures.value in
    let room : (shelf_of s).newest c.args.task + 1 < 2 ^ 64 = subst (λ (s : Shelves). (shelf_of s).newest c.args.task + 1 < 2 ^ 64) (sym c.self.view_is) c.requires.room in
    omega (arith, room, newest-before h)

facts : (c : goal.After-self-1) → Raises c.self.inside.inner
    (raised_in c.self.inside.inner c.output-topic.result c.index_mut.result.now c.args.task.part c.index_mut-kept.result.now) c.args.task c.index_mut.result.now
    (raised_topic c.index_mut.result.now c.args.task.part c.index_mut-kept.result.now) c.index_mut-kept.result.now (raised_task c.index_mut-kept.result.now)
facts c =
    let s : Shelves = c.self.inside.inner in
    is-raised s c.args.task c.output-topic.result c.index_mut.result.now c.index_mut-kept.result.now c.self.invariant.0
    (writer-inside s c.args.self.now c.args.task c.self.view_is c.requires.writer)
    (output-inside s c.args.self.now c.args.task c.output-topic.result c.self.view_is c.output-topic.ensures)
    c.index_mut.ensures.value c.index_mut-kept.ensures.value

pub invariant_of-self : goal.invariant_of-self
invariant_of-self c =
    let s : Shelves = c.self.inside.inner in
    let next : Shelves = raised_in s c.output-topic.result c.index_mut.result.now c.args.task.part c.index_mut-kept.result.now in
    let count : length next.topics.items ≡ length s.topics.items =
    length-set s.topics.items c.output-topic.result (raised_topic c.index_mut.result.now c.args.task.part c.index_mut-kept.result.now) in (
      shelves-raised (facts c) c.self.invariant.0,
      λ sub. ap (λ (n : ℕ). unwrap_or (get nat_cmp c.self.inside.written sub) n) count ∙ c.self.invariant.1 sub
          ∙ ap (λ (ts : List TopicSpec). topic_from 0 ts sub) (sym (topics-same (facts c).replaces)),
    )

pub returns-clause-topics : goal.returns-clause-topics
returns-clause-topics c = topics-same (facts c).replaces ∙ ap topics_of c.self.view_is

pub returns-clause-raises : goal.returns-clause-raises
returns-clause-raises c =
    let s : Shelves = c.self.inside.inner in
    let next : Shelves = raised_in s c.output-topic.result c.index_mut.result.now c.args.task.part c.index_mut-kept.result.now in
    subst (λ (b : Shelves). ShelfRaises (routes_in b) c.args.task (shelf_of b) (shelf_of next)) c.self.view_is
    (raises (facts c) (writer-inside s c.args.self.now c.args.task c.self.view_is c.requires.writer))

pub returns-clause-number : goal.returns-clause-number
returns-clause-number c = sym (newest-raised (facts c))

pub returns-clause-ready : goal.returns-clause-ready
returns-clause-ready c = λ made p ready. ready-raised (facts c) made p (subst (λ (b : Shelves). IsReady b made p) (sym c.self.view_is) ready)
