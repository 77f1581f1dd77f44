-- The topics of a sound program's topology: their numbers, their partitions, and their writers.
use Rattle.std.proofs.Common.{◌≡◌, ◌∙◌, ap, refl, sym, subst, ℕ, zero, suc, ◌+◌, ◌<◌, ◌≤◌, Bool, true, false, List, [], ◌∷◌, ◌++◌, length, map, take, get_or, arith}
use Rattle.std.specs.Prelude.{◌==◌, if◌then◌else◌, Option, Some, None, IfSome, option_and_then, option_map, slice_get, unwrap_or}
use Rattle.std.specs.List.{AllByRecursion, AllPairs}
use Rattle.std.proofs.lemmas.List.{length-map}
use Rattle.std.proofs.lemmas.List.Elements.{All-from_recursion}
use Rattle.std.proofs.lemmas.Option.{same_Some}
use Rattle.ksql_types.specs.declared.relation.Relation.{Relation as OneRelation}
use Rattle.ksql_types.specs.declared.topic.TopicSpec.{TopicSpec}
use Rattle.ksql_types.specs.declared.topic.Writer.{Writer}
use Rattle.ksql_nodes.proofs.Lists.{All-append}
use Rattle.ksql_program.specs.Program.{relation_at, relation_of, relations}
use Rattle.ksql_program.specs.Sound.{IsSound, IsSoundItem}
use Rattle.ksql_program.specs.declared.program.Item.{Item}
use Rattle.ksql_program.specs.declared.program.Item.TheVariants.{Declared, Started}
use Rattle.ksql_program.specs.declared.query.Query.{Query}
use Rattle.meaning_laws.proofs.Lists.{All-weaker}
use Rattle.query_meaning.specs.Queries.{lanes_of, leftmost, partitions_at}
use Rattle.topology.specs.Stages.{stages_of}
use Rattle.topology.specs.Topologies.{cut_topics, cuts_of, relation_topic, stages_at, subs, topics_from, topology_of, writer_of}
use Rattle.topology.specs.declared.stage.Link.{Link}
use Rattle.topology.specs.declared.stage.Link.TheVariants as link
use Rattle.topology.specs.declared.stage.Stage.{Stage}
use Rattle.topology.specs.declared.topology.Sub.{Sub}
use Rattle.sending_laws.proofs.ItemLists.{item-at, sound-at}
use Rattle.sending_laws.proofs.Numbering.{stages-lanes, topics-length}
use Rattle.wiring_laws.proofs.Members.{all-by_place}
use Rattle.wiring_laws.proofs.Writers.{as_writer, numbered, sub-at, subs-all, written-by}
use Rattle.topic_log.specs.Shelves.{AreTopics, IsTopic}

-- ---- numbers

-- topics are numbered from a number on
abbrev AreNumbered : ℕ → List TopicSpec → Type 0
AreNumbered n [] = Unit {0}
AreNumbered n (t ∷ ts) = (t.number ≡ n) × AreNumbered (n + 1) ts

numbered-append : (n next : ℕ) (xs ys : List TopicSpec) → n + length xs ≡ next → AreNumbered n xs → AreNumbered next ys → AreNumbered n (xs ++ ys)
numbered-append n next [] ys sum first second = let same : next ≡ n = omega (arith, sum) in subst (λ k. AreNumbered k ys) same second
numbered-append n next (x ∷ xs) ys sum first second = (first.0, numbered-append (n + 1) next xs ys (omega (arith, sum)) first.1 second)

numbered-at : (n at : ℕ) (ts : List TopicSpec) (place : ℕ) → n + place ≡ at → AreNumbered n ts → IfSome (slice_get ts place) (λ t. t.number ≡ at)
numbered-at n at [] place sum all = tt
numbered-at n at (t ∷ ts) zero sum all = let first : t.number ≡ n = all.0 in omega (arith, first, sum)
numbered-at n at (t ∷ ts) (suc place) sum all = numbered-at (n + 1) at ts place (omega (arith, sum)) all.1

relations-numbered : (ss : List Sub) (n : ℕ) (rs : List OneRelation) → ((place : ℕ) (r : OneRelation) → slice_get rs place ≡ Some r → r.number ≡ n + place) →
    AreNumbered n (map (relation_topic ss) rs)
relations-numbered ss n [] numbered = tt
relations-numbered ss n (r ∷ rs) numbered =
    let here : r.number ≡ n + 0 = numbered 0 r refl in (
      omega (arith, here),
      relations-numbered ss (n + 1) rs (λ place x is. let next : x.number ≡ n + suc place = numbered (suc place) x is in omega (arith, next)),
    )

stages-numbered : (topic number : ℕ) (name : List ℕ) (stages : List Stage) → AreNumbered topic (topics_from topic number name stages)
stages-numbered topic number name [] = tt
stages-numbered topic number name (s ∷ ss) = by s.output (stages-numbered topic (number + 1) name ss) (stages-numbered (topic + 1) (number + 1) name ss)
  where
    by : (output : Link) → AreNumbered topic (topics_from topic (number + 1) name ss) → AreNumbered (topic + 1) (topics_from (topic + 1) (number + 1) name ss) →
        AreNumbered topic (topics_from topic number name (record s { output = output } ∷ ss))
    by (link.Relation r) same next = same
    by (link.Cut c r) same next = (refl, next)

cuts-numbered : (items : List Item) (topic number : ℕ) (is : List Item) → AreNumbered topic (cut_topics items topic number is)
unfolding cut_topics
cuts-numbered items topic number [] = tt
cuts-numbered items topic number (i ∷ is) =
    let stages : List Stage = stages_at items i in
    let name : List ℕ = (relation_of i).name in
    numbered-append topic (topic + length (cuts_of stages)) (topics_from topic number name stages) (cut_topics items (topic + length (cuts_of stages)) (number + length stages) is)
    (ap (λ n. topic + n) (topics-length topic number name stages)) (stages-numbered topic number name stages) (cuts-numbered items (topic + length (cuts_of stages)) (number + length stages) is)

-- ---- partitions

abbrev IsFew : ℕ → Type 0
IsFew n = (1 ≤ n) × (n ≤ 64)

abbrev HasFew : Sub → Type 0
HasFew s = IsFew s.partitions

abbrev StageHasFew : Stage → Type 0
StageHasFew s = IsFew s.partitions

writer-few : (topic : ℕ) (ss : List Sub) → AllByRecursion HasFew ss → IfSome (writer_of topic ss) (λ w. IsFew w.partitions)
writer-few topic [] few = tt
writer-few topic (s ∷ ss) few = by (topic == s.output) (writer-few topic ss few.1)
  where
    by : (b : Bool) → IfSome (writer_of topic ss) (λ w. IsFew w.partitions) → IfSome (if b then Some (as_writer s) else writer_of topic ss) (λ w. IsFew w.partitions)
    by true rest = few.0
    by false rest = rest

topic-of : (t : TopicSpec) → IsFew t.partitions → IfSome t.writer (λ w. IsFew w.partitions) → IsTopic t
topic-of t few writer = by t.writer refl
  where
    by : (o : Option Writer) → t.writer ≡ o → IsTopic t
    by None is = record { some = few.0; few = few.1; writer_some = rw is tt; writer_few = rw is tt }
    by (Some w) is =
        let of_writer : IsFew w.partitions = subst (λ o. IfSome o (λ w. IsFew w.partitions)) is writer in
        record { some = few.0; few = few.1; writer_some = rw is of_writer.0; writer_few = rw is of_writer.1 }

relations-topics : (ss : List Sub) → AllByRecursion HasFew ss → (rs : List OneRelation) → AllByRecursion (λ r. IsFew r.partitions) rs → AllByRecursion IsTopic (map (relation_topic ss) rs)
relations-topics ss few [] all = tt
relations-topics ss few (r ∷ rs) all = (topic-of (relation_topic ss r) all.0 (writer-few r.number ss few), relations-topics ss few rs all.1)

stages-topics : (topic number : ℕ) (name : List ℕ) (stages : List Stage) → AllByRecursion StageHasFew stages → AllByRecursion IsTopic (topics_from topic number name stages)
stages-topics topic number name [] all = tt
stages-topics topic number name (s ∷ ss) all = by s.output (stages-topics topic (number + 1) name ss all.1) (stages-topics (topic + 1) (number + 1) name ss all.1)
  where
    by : (output : Link) → AllByRecursion IsTopic (topics_from topic (number + 1) name ss) → AllByRecursion IsTopic (topics_from (topic + 1) (number + 1) name ss) →
        AllByRecursion IsTopic (topics_from topic number name (record s { output = output } ∷ ss))
    by (link.Relation r) same next = same
    by (link.Cut c r) same next = (record { some = all.0.0; few = all.0.1; writer_some = all.0.0; writer_few = all.0.1 }, next)

cuts-topics : (items : List Item) (topic number : ℕ) (is : List Item) → AllByRecursion (λ i. AllByRecursion StageHasFew (stages_at items i)) is →
    AllByRecursion IsTopic (cut_topics items topic number is)
unfolding cut_topics
cuts-topics items topic number [] all = tt
cuts-topics items topic number (i ∷ is) all =
    let stages : List Stage = stages_at items i in
    All-append IsTopic (topics_from topic number (relation_of i).name stages) (cut_topics items (topic + length (cuts_of stages)) (number + length stages) is)
    (stages-topics topic number (relation_of i).name stages all.0) (cuts-topics items (topic + length (cuts_of stages)) (number + length stages) is all.1)

-- ---- a sound program

slice-at : {A : Type 0} (xs : List A) (k : ℕ) (d : A) → k < length xs → slice_get xs k ≡ Some (get_or xs k d)
slice-at [] k d low = absurd (omega (arith, low))
slice-at (x ∷ xs) zero d low = refl
slice-at (x ∷ xs) (suc k) d low = slice-at xs k d (omega (arith, low))

module _ (items : List Item) (sound : IsSound items) where
  abbrev topics : List TopicSpec
  topics = (topology_of items).topics

  -- a relation has its number, and 1 to 64 partitions
  pub relation-known : (number : ℕ) (r : OneRelation) → relation_at items number ≡ Some r → (r.number ≡ number) × IsFew r.partitions
  relation-known number r is =
      let found = item-at items number r is in
      subst (λ (x : OneRelation). (x.number ≡ number) × IsFew x.partitions) found.2
      ((numbered items sound number found.0 found.1).0, few found.0 (sound-at items number found.0 sound.sound found.1))
    where
      few : (i : Item) → IsSoundItem (take number items) i → IsFew (relation_of i).partitions
      few (Declared d) h = (h.0.some_partition, h.0.partitions_few)
      few (Started q) h = (h.0.some_partition, h.0.partitions_few)

  partitions-few : (number : ℕ) → IsFew (partitions_at items number)
  partitions-few number = by (relation_at items number) refl
    where
      by : (o : Option OneRelation) → relation_at items number ≡ o → IsFew (unwrap_or (option_map (λ (r : OneRelation). r.partitions) o) 1)
      by None is = (omega arith, omega arith)
      by (Some r) is = (relation-known number r is).1

  query-few : (q : Query) → AllByRecursion StageHasFew (stages_of items q)
  query-few q =
      All-weaker (λ (s : Stage). s.partitions ≡ lanes_of items q) StageHasFew
      (λ s is. subst IsFew (sym is) (partitions-few (leftmost q.from))) (stages_of items q) (stages-lanes items q)

  subs-few : AllByRecursion HasFew (subs items)
  subs-few = subs-all items StageHasFew HasFew (λ query first cuts number s few. few) (λ number q at. query-few q)

  items-few : AllByRecursion (λ i. AllByRecursion StageHasFew (stages_at items i)) items
  items-few = all-by_place (λ i. AllByRecursion StageHasFew (stages_at items i)) items by
    where
      by : (k : ℕ) (i : Item) → slice_get items k ≡ Some i → AllByRecursion StageHasFew (stages_at items i)
      by k (Declared r) at = tt
      by k (Started q) at = query-few q

  count : length (map (relation_topic (subs items)) (relations items)) ≡ length items
  count = length-map (relations items) (relation_topic (subs items)) ∙ length-map items relation_of

  all-numbered : AreNumbered 0 topics
  all-numbered =
      numbered-append 0 (length items) (map (relation_topic (subs items)) (relations items)) (cut_topics items (length items) 0 items) (omega (arith, count))
      (relations-numbered (subs items) 0 (relations items) (λ place r at. let same : r.number ≡ place = (relation-known place r at).0 in omega (arith, same)))
      (cuts-numbered items (length items) 0 items)

  all-topics : AllByRecursion IsTopic topics
  all-topics =
      All-append IsTopic (map (relation_topic (subs items)) (relations items)) (cut_topics items (length items) 0 items)
      (relations-topics (subs items) subs-few (relations items) (all-by_place (λ r. IsFew r.partitions) (relations items) (λ k r at. (relation-known k r at).1)))
      (cuts-topics items (length items) 0 items items-few)

  -- no two topics are written by one sub-topology
  one-topic : (i j : ℕ) (a b : TopicSpec) (w v : Writer) → slice_get topics i ≡ Some a → slice_get topics j ≡ Some b → a.writer ≡ Some w → b.writer ≡ Some v → w.sub ≡ v.sub → i ≡ j
  one-topic i j a b w v at_i at_j is_w is_v same =
      let first = written-by items sound i w (ap (option_and_then (λ (t : TopicSpec). t.writer)) at_i ∙ is_w) in
      let second = written-by items sound j v (ap (option_and_then (λ (t : TopicSpec). t.writer)) at_j ∙ is_v) in
      let number : first.0.number ≡ second.0.number = ap (λ (x : Writer). x.sub) first.2 ∙ same ∙ sym (ap (λ (x : Writer). x.sub) second.2) in
      let one : first.0 ≡ second.0 = same_Some first.0 second.0 (sym (sub-at items sound first.0 first.1) ∙ ap (slice_get (subs items)) number ∙ sub-at items sound second.0 second.1) in
      sym first.3 ∙ ap (λ (s : Sub). s.output) one ∙ second.3

  apart : AllPairs (λ a b. IfSome a.writer (λ w. IfSome b.writer (λ v. ¬ (w.sub ≡ v.sub)))) topics
  apart i j d low below = by a.writer b.writer refl refl
    where
      a : TopicSpec
      a = get_or topics i d

      b : TopicSpec
      b = get_or topics j d

      by : (o p : Option Writer) → a.writer ≡ o → b.writer ≡ p → IfSome a.writer (λ w. IfSome b.writer (λ v. ¬ (w.sub ≡ v.sub)))
      by None p is_o is_p = rw is_o tt
      by (Some w) None is_o is_p = rw (is_o, is_p) tt
      by (Some w) (Some v) is_o is_p =
          rw (is_o, is_p) (λ same.
          let one : i ≡ j = one-topic i j a b w v (slice-at topics i d (omega (arith, low, below))) (slice-at topics j d below) is_o is_p same in
          absurd (omega (arith, one, low)))

  pub are-topics : AreTopics topics
  are-topics = record {
    numbered = λ i. numbered-at 0 i topics i (omega arith) all-numbered;
    each = All-from_recursion IsTopic topics all-topics;
    apart = apart;
  }
