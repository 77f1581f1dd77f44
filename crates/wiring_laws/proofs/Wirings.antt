-- The tasks of a sound program are wired correctly, and its topics are ordered by stages.
use Rattle.std.proofs.Common.{◌≡◌, ◌∙◌, ap, refl, sym, subst, ℕ, zero, suc, ◌+◌, ◌<◌, Bool, true, false, List, [], ◌∷◌, map, eq-eqb, true≢false, arith}
use Rattle.std.proofs.lemmas.Bool.{eqb-true}
use Rattle.std.proofs.lemmas.List.Elements.{All-contains_itself, recursion_from_All}
use Rattle.std.proofs.lemmas.Option.{same_Some}
use Rattle.std.specs.Prelude.{if◌then◌else◌, Contains, Option, Some, None, option_map, slice_get, unwrap_or}
use Rattle.std.specs.List.{AllByRecursion, range_with_len}
use Rattle.ksql_types.specs.declared.relation.TaskName.{TaskName}
use Rattle.ksql_types.specs.declared.topic.TopicSpec.{TopicSpec}
use Rattle.ksql_types.specs.declared.topic.Writer.{Writer}
use Rattle.ksql_program.specs.Sound.{IsSound}
use Rattle.ksql_program.specs.declared.program.Item.{Item}
use Rattle.topology.specs.Tasks.{tasks_of, tasks_of_sub}
use Rattle.topology.specs.Topologies.{subs, topology_of}
use Rattle.topology.specs.declared.topology.Sub.{Sub}
use Rattle.topology.specs.declared.topology.SubInput.{SubInput}
use Rattle.sending_laws.proofs.Paths.{StandInOrder, holds-of, topics_read}
use Rattle.sending_laws.proofs.SubOrder.{subs-in-order}
use Rattle.core_state.proofs.Lists.{not_empty}
use Rattle.core_state.specs.Routes.{is_written_by, routes_of, tasks_of_writer, topic_from}
use Rattle.core_state.specs.Wired.{InStages, IsStaged, IsWired}
use Rattle.task_core.specs.Core.{inputs_at, wiring_of}
use Rattle.wiring_laws.proofs.Members.{flat-member, map-member, member-flat, member-map, no-member}
use Rattle.wiring_laws.proofs.Writers.{some-parts, sub-at, writer_at, writes-own, written-by}

-- ---- the topic that a sub-topology writes

topic-found : (number : ℕ) (topics : List TopicSpec) (sub place : ℕ) → is_written_by sub (writer_at topics place) ≡ true →
    ((j : ℕ) → is_written_by sub (writer_at topics j) ≡ true → j ≡ place) → topic_from number topics sub ≡ number + place
topic-found number [] sub place is only = absurd (true≢false (sym is))
topic-found number (t ∷ ts) sub zero is only =
    let sum : number ≡ number + 0 = omega arith in ap (λ b. if b then number else topic_from (suc number) ts sub) is ∙ sum
topic-found number (t ∷ ts) sub (suc place) is only =
    by (is_written_by sub t.writer) refl (topic-found (suc number) ts sub place is (λ j writes. let next : suc j ≡ suc place = only (suc j) writes in omega (arith, next)))
  where
    by : (b : Bool) → is_written_by sub t.writer ≡ b → topic_from (suc number) ts sub ≡ suc number + place →
        (if b then number else topic_from (suc number) ts sub) ≡ number + suc place
    by true first rest = let same : 0 ≡ suc place = only 0 first in absurd (omega (arith, same))
    by false later rest = omega (arith, rest)

module _ (items : List Item) (sound : IsSound items) where
  abbrev topics : List TopicSpec
  topics = (topology_of items).topics

  same-sub : (s t : Sub) → Contains (subs items) s → Contains (subs items) t → s.number ≡ t.number → s ≡ t
  same-sub s t first second same = same_Some s t (sym (sub-at items sound s first) ∙ ap (slice_get (subs items)) same ∙ sub-at items sound t second)

  -- the topic of a sub-topology is its output
  pub topic-of : (s : Sub) → Contains (subs items) s → topic_from 0 topics s.number ≡ s.output
  topic-of s among =
      let found : topic_from 0 topics s.number ≡ 0 + s.output = topic-found 0 topics s.number s.output (ap (is_written_by s.number) (writes-own items sound s among) ∙ eq-eqb s.number s.number refl) only in
      omega (arith, found)
    where
      only : (j : ℕ) → is_written_by s.number (writer_at topics j) ≡ true → j ≡ s.output
      only j is = by (writer_at topics j) refl is
        where
          by : (o : Option Writer) → writer_at topics j ≡ o → is_written_by s.number o ≡ true → j ≡ s.output
          by None at writes = absurd (true≢false (sym writes))
          by (Some w) at writes =
              let found = written-by items sound j w at in
              let number : found.0.number ≡ s.number = ap (λ (x : Writer). x.sub) found.2 ∙ eqb-true w.sub s.number writes in
              sym found.3 ∙ ap (λ (x : Sub). x.output) (same-sub found.0 s found.1 among number)

  -- ---- tasks

  -- a task of a sub-topology has its number
  task-number : (s : Sub) (u : TaskName) → Contains (tasks_of_sub s) u → u.sub ≡ s.number
  task-number s u among =
      let found = member-map (λ (part : ℕ). record { sub = s.number; part = part }) (range_with_len 0 s.partitions) u among in ap (λ (x : TaskName). x.sub) (sym found.2)

  -- the tasks of a sub-topology write its topic
  pub writers-of : (s : Sub) → Contains (subs items) s → (routes_of topics).writers s.output ≡ tasks_of_sub s
  writers-of s among = ap tasks_of_writer (writes-own items sound s among)

  pub output-of : (s : Sub) (u : TaskName) → Contains (subs items) s → Contains (tasks_of_sub s) u → (routes_of topics).output u ≡ s.output
  output-of s u among task = ap (topic_from 0 topics) (task-number s u task) ∙ topic-of s among

  pub wired-well : IsWired (wiring_of (topology_of items))
  wired-well = record {
    writes = λ t among.
        let found = member-flat tasks_of_sub (subs items) t among in
        subst (λ (us : List TaskName). Contains us t) (sym (ap (routes_of topics).writers (output-of found.0 t found.1 found.2) ∙ writers-of found.0 found.1)) found.2;
    written_by = λ topic u among. by topic u (writer_at topics topic) refl among;
  }
    where
      by : (topic : ℕ) (u : TaskName) (o : Option Writer) → writer_at topics topic ≡ o → Contains (tasks_of_writer o) u →
          Contains (tasks_of (subs items)) u × ((routes_of topics).output u ≡ topic)
      by topic u None at among = absurd (no-member u among)
      by topic u (Some w) at among =
          let found = written-by items sound topic w at in
          let task : Contains (tasks_of_sub found.0) u = subst (λ (x : Writer). Contains (tasks_of_writer (Some x)) u) (sym found.2) among in
          (flat-member tasks_of_sub (subs items) found.0 u found.1 task, output-of found.0 u found.1 task ∙ found.3)

  -- ---- stages

  -- what a task of a sub-topology reads
  pub sub-of : (s : Sub) (u : TaskName) → Contains (subs items) s → Contains (tasks_of_sub s) u → slice_get (subs items) u.sub ≡ Some s
  sub-of s u among task = ap (slice_get (subs items)) (task-number s u task) ∙ sub-at items sound s among

  inputs-of : (s : Sub) (u : TaskName) → Contains (subs items) s → Contains (tasks_of_sub s) u → inputs_at (topology_of items) u ≡ s.inputs
  inputs-of s u among task = ap (λ o. unwrap_or (option_map (λ (x : Sub). x.inputs) o) []) (sub-of s u among task)

  in-stages : (ss : List Sub) → AllByRecursion (Contains (subs items)) ss → StandInOrder ss → InStages (wiring_of (topology_of items)) (map (λ (s : Sub). s.output) ss)
  in-stages [] inside order = tt
  in-stages (s ∷ ss) inside order = (once, inputs-first, in-stages ss inside.1 order.2)
    where
      once : ¬ Contains (map (λ (t : Sub). t.output) ss) s.output
      once among =
          let found = member-map (λ (t : Sub). t.output) ss s.output among in
          holds-of (λ (t : Sub). t.output ≡ s.output → ⊥) ss found.0 order.1 found.1 found.2

      inputs-first : (u : TaskName) → Contains ((routes_of topics).writers s.output) u → (i : ℕ) → Contains (map (λ (x : SubInput). x.topic) (inputs_at (topology_of items) u)) i →
          ¬ Contains (map (λ (t : Sub). t.output) (s ∷ ss)) i
      inputs-first u writes i read among =
          let task : Contains (tasks_of_sub s) u = subst (λ us. Contains us u) (writers-of s inside.0) writes in
          let reads : Contains (topics_read s) i = subst (λ inputs. Contains (map (λ (x : SubInput). x.topic) inputs) i) (inputs-of s u inside.0 task) read in
          let found = member-map (λ (t : Sub). t.output) (s ∷ ss) i among in
          holds-of (λ (t : Sub). Contains (topics_read s) t.output → ⊥) (s ∷ ss) found.0 order.0 found.1 (subst (Contains (topics_read s)) (sym found.2) reads)

  first-task : (s : Sub) → 0 < s.partitions → Contains {X = TaskName} (tasks_of_sub s) (record { sub = s.number; part = 0 })
  first-task s some = by s.partitions some
    where
      by : (n : ℕ) → 0 < n → Contains {X = TaskName} (map (λ (part : ℕ). record { sub = s.number; part = part }) (range_with_len 0 n)) (record { sub = s.number; part = 0 })
      by zero low = absurd (omega (arith, low))
      by (suc n) low = (0, omega arith, refl)

  pub staged : IsStaged (wiring_of (topology_of items)) (map (λ (s : Sub). s.output) (subs items))
  staged = record {
    stages = in-stages (subs items) (recursion_from_All (Contains (subs items)) (subs items) (All-contains_itself (subs items))) (subs-in-order items sound);
    all = λ topic some. by_writer topic (writer_at topics topic) refl some;
    only = λ topic among none.
        let found = member-map (λ (s : Sub). s.output) (subs items) topic among in
        let task = first-task found.0 (holds-of (λ (s : Sub). 0 < s.partitions) (subs items) found.0 (some-parts items sound) found.1) in
        not_empty (record { sub = found.0.number; part = 0 }) (tasks_of_sub found.0) task (sym (writers-of found.0 found.1) ∙ ap (routes_of topics).writers found.2 ∙ none);
  }
    where
      by_writer : (topic : ℕ) (o : Option Writer) → writer_at topics topic ≡ o → ¬ (tasks_of_writer o ≡ []) → Contains (map (λ (s : Sub). s.output) (subs items)) topic
      by_writer topic None at some = absurd (some refl)
      by_writer topic (Some w) at some =
          let found = written-by items sound topic w at in
          subst (Contains (map (λ (s : Sub). s.output) (subs items))) found.3 (map-member (λ (s : Sub). s.output) (subs items) found.0 found.1)
