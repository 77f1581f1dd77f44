-- One topic of a broker is changed, and what that leaves of all others; and what is kept of the tasks that write a
-- topic.
use Rattle.std.proofs.Common.{◌≡◌, ◌∙◌, ap, ap₂, sym, refl, subst, ℕ, zero, suc, ◌+◌, ◌<◌, true, false, List, [], ◌∷◌, map, length, get_or, set, arith, eq-eqb, Option, Some, None}
use Rattle.std.specs.Prelude.{All, Contains, IfSome, min, slice_get, option_map, option_and_then, unwrap_or}
use Rattle.std.specs.List.{AllPairs, range_with_len}
use Rattle.std.proofs.lemmas.Bool.{ne_eqb, cond-true, cond-false}
use Rattle.std.proofs.lemmas.List.{length-map, nil_from_length}
use Rattle.std.proofs.lemmas.List.Elements.{All-set}
use Rattle.std.proofs.lemmas.List.FromFn.{fill_by_all, get_or-map-range_with_len, length-map-range_with_len}
use Rattle.std.proofs.lemmas.Option.{get_or_from_slice_get, same_Some, slice_get_within, slice_get-map}
use Rattle.ksql_types.specs.declared.relation.TaskName.{TaskName}
use Rattle.ksql_types.specs.declared.topic.TopicSpec.{TopicSpec}
use Rattle.ksql_types.specs.declared.topic.Writer.{Writer}
use Rattle.core_state.specs.Routes.{IsWriter, Routes, is_written_by, routes_of, tasks_of_writer, topic_from}
use Rattle.core_state.specs.Shelf.{shelf_closed}
use Rattle.core_state.specs.State.{least, lowest}
use Rattle.topic_log.specs.declared.shelves.PartShelf.{PartShelf}
use Rattle.topic_log.specs.declared.shelves.Shelves.{Shelves}
use Rattle.topic_log.specs.declared.shelves.TaskShelf.{TaskShelf}
use Rattle.topic_log.specs.declared.shelves.TopicShelf.{TopicShelf}
use Rattle.topic_log.specs.Shelves.{AreShelves, AreTopics, IsTopicShelf, closed_in, dones_of, part_at, routes_in, shelf_of, task_at, topics_of}

-- ---- lists and options

module _ {A : Type 0} where
  pub IfSome-at : (P : A → Type 0) (o : Option A) (x : A) → o ≡ Some x → IfSome o P → P x
  IfSome-at P o x is holds = subst (λ (o : Option A). IfSome o P) is holds

  pub slice_get-set_same : (xs : List A) (i : ℕ) (x y : A) → slice_get xs i ≡ Some x → slice_get (set xs i y) i ≡ Some y
  slice_get-set_same [] i x y is = cc
  slice_get-set_same (z ∷ xs) zero x y is = refl
  slice_get-set_same (z ∷ xs) (suc i) x y is = slice_get-set_same xs i x y is

  pub slice_get-set_else : (xs : List A) (i j : ℕ) (y : A) → ¬ (j ≡ i) → slice_get (set xs i y) j ≡ slice_get xs j
  slice_get-set_else [] i j y apart = refl
  slice_get-set_else (z ∷ xs) zero zero y apart = absurd (apart refl)
  slice_get-set_else (z ∷ xs) zero (suc j) y apart = refl
  slice_get-set_else (z ∷ xs) (suc i) zero y apart = refl
  slice_get-set_else (z ∷ xs) (suc i) (suc j) y apart = slice_get-set_else xs i j y (λ e. apart (ap suc e))

  pub slice_get-some : (xs : List A) (i : ℕ) → i < length xs → (x : A) × (slice_get xs i ≡ Some x)
  slice_get-some [] i inside = absurd (omega arith)
  slice_get-some (x ∷ xs) zero inside = (x, refl)
  slice_get-some (x ∷ xs) (suc i) inside = slice_get-some xs i (omega arith)

  -- what holds of all members holds of the one at a place
  pub All-slice_get : (P : A → Type 0) (xs : List A) (i : ℕ) (x : A) → All P xs → slice_get xs i ≡ Some x → P x
  All-slice_get P xs i x all is = subst P (get_or_from_slice_get xs i x x is) (all i x (slice_get_within xs i x is))

  -- a member is replaced by one with the same value of f
  pub map-set_same : {B : Type 0} (f : A → B) (xs : List A) (i : ℕ) (x y : A) → slice_get xs i ≡ Some x → f y ≡ f x → map f (set xs i y) ≡ map f xs
  map-set_same {B = B} f [] i x y is same = refl
  map-set_same {B = B} f (z ∷ xs) zero x y is same = ap (λ (b : B). b ∷ map f xs) (same ∙ ap f (sym (same_Some z x is)))
  map-set_same {B = B} f (z ∷ xs) (suc i) x y is same = ap (λ (bs : List B). f z ∷ bs) (map-set_same f xs i x y is same)

  pub map-map : {B C : Type 0} (f : B → C) (g : A → B) (xs : List A) → map f (map g xs) ≡ map (λ x. f (g x)) xs
  map-map {B = B} {C = C} f g [] = refl
  map-map {B = B} {C = C} f g (x ∷ xs) = ap (λ (cs : List C). f (g x) ∷ cs) (map-map f g xs)

-- ---- one topic changes

-- the next shelves are these with another topic at a number, whose spec is the same
pub record Replaces (s next : Shelves) (i : ℕ) (t changed : TopicShelf) : Type 0 where
  pub at : slice_get s.topics.items i ≡ Some t
  pub items : next.topics.items ≡ set s.topics.items i changed
  pub spec : changed.spec ≡ t.spec

-- a partition of a topic, and the data kept for one of its tasks, if the topic exists
abbrev pub part_in : ℕ → Option TopicShelf → Option PartShelf
part_in q = option_and_then (λ t. slice_get t.parts.items q)

abbrev pub task_in : ℕ → Option TopicShelf → Option TaskShelf
task_in part = option_and_then (λ t. slice_get t.tasks.items part)

module _ {s next : Shelves} {i : ℕ} {t changed : TopicShelf} where
  pub topics-same : Replaces s next i t changed → topics_of next ≡ topics_of s
  topics-same h = ap (map (λ (t : TopicShelf). t.spec)) h.items ∙ map-set_same (λ (t : TopicShelf). t.spec) s.topics.items i t changed h.at h.spec

  -- the routes too, as they are made of the topics alone
  pub routes-same : Replaces s next i t changed → routes_in next ≡ routes_in s
  routes-same h = ap routes_of (topics-same h)

  pub topic-there : Replaces s next i t changed → slice_get next.topics.items i ≡ Some changed
  topic-there h = ap (λ (ts : List TopicShelf). slice_get ts i) h.items ∙ slice_get-set_same s.topics.items i t changed h.at

  pub topic-else : Replaces s next i t changed → (j : ℕ) → ¬ (j ≡ i) → slice_get next.topics.items j ≡ slice_get s.topics.items j
  topic-else h j apart = ap (λ (ts : List TopicShelf). slice_get ts j) h.items ∙ slice_get-set_else s.topics.items i j changed apart

  pub part-was : Replaces s next i t changed → (q : ℕ) → part_at s i q ≡ slice_get t.parts.items q
  part-was h q = ap (part_in q) h.at

  pub part-there : Replaces s next i t changed → (q : ℕ) → part_at next i q ≡ slice_get changed.parts.items q
  part-there h q = ap (part_in q) (topic-there h)

  pub part-else : Replaces s next i t changed → (j : ℕ) → ¬ (j ≡ i) → (q : ℕ) → part_at next j q ≡ part_at s j q
  part-else h j apart q = ap (part_in q) (topic-else h j apart)

  pub task-was : Replaces s next i t changed → (u : TaskName) → (routes_in s).output u ≡ i → task_at s u ≡ slice_get t.tasks.items u.part
  task-was h u to = ap (λ (j : ℕ). task_in u.part (slice_get s.topics.items j)) to ∙ ap (task_in u.part) h.at

  pub task-there : Replaces s next i t changed → (u : TaskName) → (routes_in s).output u ≡ i → task_at next u ≡ slice_get changed.tasks.items u.part
  task-there h u to = ap (λ (r : Routes). task_in u.part (slice_get next.topics.items (r.output u))) (routes-same h)
      ∙ ap (λ (j : ℕ). task_in u.part (slice_get next.topics.items j)) to ∙ ap (task_in u.part) (topic-there h)

  pub task-else : Replaces s next i t changed → (u : TaskName) → ¬ ((routes_in s).output u ≡ i) → task_at next u ≡ task_at s u
  task-else h u apart = ap (λ (r : Routes). task_in u.part (slice_get next.topics.items (r.output u))) (routes-same h)
      ∙ ap (task_in u.part) (topic-else h ((routes_in s).output u) apart)

  pub shelves-kept : Replaces s next i t changed → next.fed ≡ s.fed → IsTopicShelf next.fed changed → AreShelves s → AreShelves next
  shelves-kept h fed kept are = record {
    topics = subst AreTopics (sym (topics-same h)) are.topics;
    each = subst (λ (ts : List TopicShelf). All (IsTopicShelf next.fed) ts) (sym h.items)
        (All-set (IsTopicShelf next.fed) s.topics.items i changed kept (subst (λ (n : ℕ). All (IsTopicShelf n) s.topics.items) (sym fed) are.each));
  }

-- ---- the tasks that write a topic

-- the tasks of a writer
pub task-of_writer : (w : Option Writer) (u : TaskName) → Contains (tasks_of_writer w) u → (v : Writer) × (w ≡ Some v) × (v.sub ≡ u.sub) × (u.part < v.partitions)
task-of_writer None u (k, below, at) = absurd (omega arith)
task-of_writer (Some w) u (k, below, at) =
    let make : ℕ → TaskName = λ part. record { sub = w.sub; part = part } in
    let low : k < w.partitions = subst (λ (n : ℕ). k < n) (length-map-range_with_len make 0 w.partitions) below in
    let is : make k ≡ u = sym (get_or-map-range_with_len make 0 w.partitions k k u low (omega arith)) ∙ at in
    (w, refl, ap (λ (t : TaskName). t.sub) is, subst (λ (t : TaskName). t.part < w.partitions) is low)

-- each of the tasks of a writer
pub is-of_writer : (w : Writer) (part : ℕ) → part < w.partitions → Contains (tasks_of_writer (Some w)) (record { sub = w.sub; part = part })
is-of_writer w part below =
    let make : ℕ → TaskName = λ part. record { sub = w.sub; part = part } in (
      part,
      subst (λ (n : ℕ). part < n) (sym (length-map-range_with_len make 0 w.partitions)) below,
      get_or-map-range_with_len make 0 w.partitions part part (make part) below (omega arith),
    )

-- there are as many tasks as the writer has partitions
pub length-of_writer : (w : Writer) → length (tasks_of_writer (Some w)) ≡ w.partitions
length-of_writer w =
    let make : ℕ → TaskName = λ part. record { sub = w.sub; part = part } in
    length-map-range_with_len make 0 w.partitions

pub spec-at : (s : Shelves) (i : ℕ) (t : TopicShelf) → slice_get s.topics.items i ≡ Some t → slice_get (topics_of s) i ≡ Some t.spec
spec-at s i t at = slice_get-map (λ (t : TopicShelf). t.spec) s.topics.items i ∙ ap (option_map (λ (t : TopicShelf). t.spec)) at

abbrev writers_in : Option TopicSpec → List TaskName
writers_in o = tasks_of_writer (option_and_then (λ t. t.writer) o)

pub writers-of : (s : Shelves) (i : ℕ) (t : TopicShelf) → slice_get s.topics.items i ≡ Some t → (routes_in s).writers i ≡ tasks_of_writer t.spec.writer
writers-of s i t at = ap writers_in (spec-at s i t at)

-- a task that writes a topic: its topic, the topic's writer, and the data kept for the task
pub record Writes (s : Shelves) (u : TaskName) : Type 0 where
  pub topic : TopicShelf
  pub writer : Writer
  pub kept : TaskShelf
  pub at : slice_get s.topics.items ((routes_in s).output u) ≡ Some topic
  pub writer_is : topic.spec.writer ≡ Some writer
  pub sub : writer.sub ≡ u.sub
  pub below : u.part < writer.partitions
  pub within : u.part < length topic.tasks.items
  pub there : slice_get topic.tasks.items u.part ≡ Some kept
  pub task : task_at s u ≡ Some kept

writes-at : (s : Shelves) (u : TaskName) → AreShelves s → (t : TopicShelf) → slice_get s.topics.items ((routes_in s).output u) ≡ Some t →
    (w : Writer) → t.spec.writer ≡ Some w → w.sub ≡ u.sub → u.part < w.partitions → Writes s u
writes-at s u are t at w is sub below =
    let make : ℕ → TaskName = λ part. record { sub = w.sub; part = part } in
    let shelf : IsTopicShelf s.fed t = All-slice_get (IsTopicShelf s.fed) s.topics.items ((routes_in s).output u) t are.each at in
    let count : length t.tasks.items ≡ w.partitions = shelf.tasks ∙ ap (λ (o : Option Writer). length (tasks_of_writer o)) is ∙ length-map-range_with_len make 0 w.partitions in
    let within : u.part < length t.tasks.items = subst (λ (n : ℕ). u.part < n) (sym count) below in
    let kept : (k : TaskShelf) × (slice_get t.tasks.items u.part ≡ Some k) = slice_get-some t.tasks.items u.part within in
    record {
      topic = t;
      writer = w;
      kept = kept.0;
      at = at;
      writer_is = is;
      sub = sub;
      below = below;
      within = within;
      there = kept.1;
      task = ap (task_in u.part) at ∙ kept.1;
    }

by-topic : (s : Shelves) (u : TaskName) → AreShelves s → IsWriter (routes_in s) u → (o : Option TopicShelf) → slice_get s.topics.items ((routes_in s).output u) ≡ o → Writes s u
by-topic s u are is None at =
    let i : ℕ = (routes_in s).output u in
    let empty : (routes_in s).writers i ≡ [] = ap writers_in (slice_get-map (λ (t : TopicShelf). t.spec) s.topics.items i ∙ ap (option_map (λ (t : TopicShelf). t.spec)) at) in
    let among : Contains [] u = subst (λ (ts : List TaskName). Contains ts u) empty is in
    absurd (omega (arith, among.1))
by-topic s u are is (Some t) at =
    let i : ℕ = (routes_in s).output u in
    let among : Contains (tasks_of_writer t.spec.writer) u = subst (λ (ts : List TaskName). Contains ts u) (writers-of s i t at) is in
    let of : (v : Writer) × (t.spec.writer ≡ Some v) × (v.sub ≡ u.sub) × (u.part < v.partitions) = task-of_writer t.spec.writer u among in
    writes-at s u are t at of.0 of.1 of.2 of.3

pub writes : (s : Shelves) (u : TaskName) → AreShelves s → IsWriter (routes_in s) u → Writes s u
writes s u are is =
    let i : ℕ = (routes_in s).output u in
    by-topic s u are is (slice_get s.topics.items i) refl

-- tasks with one output are of one sub-topology
pub same-sub : (s : Shelves) (u v : TaskName) → IsWriter (routes_in s) u → IsWriter (routes_in s) v → (routes_in s).output u ≡ (routes_in s).output v → u.sub ≡ v.sub
same-sub s u v first second to =
    let w : Option Writer = option_and_then (λ (t : TopicSpec). t.writer) (slice_get (topics_of s) ((routes_in s).output u)) in
    let a : (x : Writer) × (w ≡ Some x) × (x.sub ≡ u.sub) × (u.part < x.partitions) = task-of_writer w u first in
    let b : (x : Writer) × (w ≡ Some x) × (x.sub ≡ v.sub) × (v.part < x.partitions) =
    task-of_writer w v (subst (λ (i : ℕ). Contains ((routes_in s).writers i) v) (sym to) second) in
    sym a.2 ∙ ap (λ (x : Writer). x.sub) (same_Some a.0 b.0 (sym a.1 ∙ b.1)) ∙ b.2

-- so tasks with the same partition are the same
pub same-task : (s : Shelves) (u v : TaskName) → IsWriter (routes_in s) u → IsWriter (routes_in s) v → (routes_in s).output u ≡ (routes_in s).output v → u.part ≡ v.part → u ≡ v
same-task s u v first second to part =
    let make : ℕ → ℕ → TaskName = λ sub part. record { sub = sub; part = part } in
    ap₂ make (same-sub s u v first second to) part

-- the first topic that a topic's sub-topology writes is that topic
not-written : (sub : ℕ) (w : Option Writer) → IfSome w (λ v. ¬ (v.sub ≡ sub)) → is_written_by sub w ≡ false
not-written sub None apart = refl
not-written sub (Some v) apart = ne_eqb v.sub sub apart

abbrev Apart : TopicSpec → TopicSpec → Type 0
Apart a b = IfSome a.writer (λ w. IfSome b.writer (λ v. ¬ (w.sub ≡ v.sub)))

from-writer : (n : ℕ) (topics : List TopicSpec) → AllPairs Apart topics → (i : ℕ) (t : TopicSpec) (w : Writer) → slice_get topics i ≡ Some t → t.writer ≡ Some w →
    topic_from n topics w.sub ≡ n + i
from-writer n [] apart i t w at is = cc
from-writer n (x ∷ topics) apart zero t w at is =
    let own : is_written_by w.sub x.writer ≡ true =
    ap (is_written_by w.sub) (ap (λ (t : TopicSpec). t.writer) (same_Some x t at) ∙ is) ∙ eq-eqb w.sub w.sub refl in
    cond-true (is_written_by w.sub x.writer) n (topic_from (suc n) topics w.sub) own ∙ omega arith
from-writer n (x ∷ topics) apart (suc i) t w at is =
    let there : get_or topics i t ≡ t = get_or_from_slice_get topics i t t at in
    let inside : i < length topics = slice_get_within topics i t at in
    let pair : Apart x t = subst (Apart x) there (apart 0 (suc i) t (omega arith) (omega arith)) in
    let other : IfSome x.writer (λ v. ¬ (v.sub ≡ w.sub)) = subst (λ (o : Option Writer). IfSome x.writer (λ a. IfSome o (λ v. ¬ (a.sub ≡ v.sub)))) is pair in
    let rest : topic_from (suc n) topics w.sub ≡ suc n + i =
    from-writer (suc n) topics (λ a b d low high. apart (suc a) (suc b) d (omega arith) (omega arith)) i t w at is in
    cond-false (is_written_by w.sub x.writer) n (topic_from (suc n) topics w.sub) (not-written w.sub x.writer other) ∙ omega arith

pub topic-of_writer : (topics : List TopicSpec) → AreTopics topics → (i : ℕ) (t : TopicSpec) (w : Writer) → slice_get topics i ≡ Some t → t.writer ≡ Some w → topic_from 0 topics w.sub ≡ i
topic-of_writer topics are i t w at is = from-writer 0 topics are.apart i t w at is ∙ omega arith

-- the tasks of a topic's writer write it
pub output-of : (s : Shelves) → AreShelves s → (i : ℕ) (t : TopicShelf) (w : Writer) → slice_get s.topics.items i ≡ Some t → t.spec.writer ≡ Some w →
    (part : ℕ) → (routes_in s).output (record { sub = w.sub; part = part }) ≡ i
output-of s are i t w at is part = topic-of_writer (topics_of s) are.topics i t.spec w (spec-at s i t at) is

pub is-writer : (s : Shelves) → AreShelves s → (i : ℕ) (t : TopicShelf) (w : Writer) → slice_get s.topics.items i ≡ Some t → t.spec.writer ≡ Some w →
    (part : ℕ) → part < w.partitions → IsWriter (routes_in s) (record { sub = w.sub; part = part })
is-writer s are i t w at is part below =
    let u : TaskName = record { sub = w.sub; part = part } in
    let tasks : (routes_in s).writers i ≡ tasks_of_writer (Some w) = writers-of s i t at ∙ ap tasks_of_writer is in
    subst (λ (j : ℕ). Contains ((routes_in s).writers j) u) (sym (output-of s are i t w at is part))
    (subst (λ (ts : List TaskName). Contains ts u) (sym tasks) (is-of_writer w part below))

-- a topic has a task for each that its writer has
pub length-tasks : (s : Shelves) → AreShelves s → (i : ℕ) (t : TopicShelf) (w : Writer) → slice_get s.topics.items i ≡ Some t → t.spec.writer ≡ Some w → length t.tasks.items ≡ w.partitions
length-tasks s are i t w at is =
    let make : ℕ → TaskName = λ part. record { sub = w.sub; part = part } in
    (All-slice_get (IsTopicShelf s.fed) s.topics.items i t are.each at).tasks ∙ ap (λ (o : Option Writer). length (tasks_of_writer o)) is
    ∙ length-map-range_with_len make 0 w.partitions

-- ---- the closed feed of a topic

least-map : {A B : Type 0} (f : B → ℕ) (g : A → B) (x : A) (xs : List A) → least f (g x) (map g xs) ≡ least (λ x. f (g x)) x xs
least-map f g x [] = refl
least-map f g x (y ∷ ys) = ap (min (f (g x))) (least-map f g y ys)

pub lowest-map : {A B : Type 0} (n : ℕ) (f : B → ℕ) (g : A → B) (xs : List A) → lowest n f (map g xs) ≡ lowest n (λ x. f (g x)) xs
lowest-map n f g [] = refl
lowest-map n f g (x ∷ xs) = least-map f g x xs

done-at : (s : Shelves) → AreShelves s → (i : ℕ) (t : TopicShelf) (w : Writer) → slice_get s.topics.items i ≡ Some t → t.spec.writer ≡ Some w →
    (k : ℕ) → k < length t.tasks.items → get_or (dones_of t) k 0 ≡ (shelf_of s).done (record { sub = w.sub; part = k })
done-at s are i t w at is k inside =
    let kept : (x : TaskShelf) × (slice_get t.tasks.items k ≡ Some x) = slice_get-some t.tasks.items k inside in
    let there : slice_get (dones_of t) k ≡ Some kept.0.done =
    slice_get-map (λ (x : TaskShelf). x.done) t.tasks.items k ∙ ap (option_map (λ (x : TaskShelf). x.done)) kept.1 in
    let task : task_at s (record { sub = w.sub; part = k }) ≡ Some kept.0 =
    ap (λ (j : ℕ). task_in k (slice_get s.topics.items j)) (output-of s are i t w at is k) ∙ ap (task_in k) at ∙ kept.1 in
    get_or_from_slice_get (dones_of t) k kept.0.done 0 there ∙ sym (ap (λ (o : Option TaskShelf). unwrap_or (option_map (λ (x : TaskShelf). x.done) o) 0) task)

dones-by : (s : Shelves) → AreShelves s → (i : ℕ) (t : TopicShelf) → slice_get s.topics.items i ≡ Some t →
    (w : Option Writer) → t.spec.writer ≡ w → map (shelf_of s).done (tasks_of_writer w) ≡ dones_of t
dones-by s are i t at None is =
    let count : length t.tasks.items ≡ 0 =
    (All-slice_get (IsTopicShelf s.fed) s.topics.items i t are.each at).tasks ∙ ap (λ (o : Option Writer). length (tasks_of_writer o)) is in
    sym (ap (map (λ (k : TaskShelf). k.done)) (nil_from_length t.tasks.items count))
dones-by s are i t at (Some w) is =
    let make : ℕ → TaskName = λ part. record { sub = w.sub; part = part } in
    let count : length t.tasks.items ≡ w.partitions = length-tasks s are i t w at is in
    map-map (shelf_of s).done make (range_with_len 0 w.partitions)
    ∙ sym (fill_by_all (λ k. (shelf_of s).done (make k)) (dones_of t) w.partitions 0 (length-map t.tasks.items (λ (k : TaskShelf). k.done) ∙ count)
    (λ k low. done-at s are i t w at is k (subst (λ (n : ℕ). k < n) (sym count) low)))

-- what the tasks that write a topic are done with, as it is kept
pub dones-are : (s : Shelves) → AreShelves s → (i : ℕ) (t : TopicShelf) → slice_get s.topics.items i ≡ Some t → map (shelf_of s).done ((routes_in s).writers i) ≡ dones_of t
dones-are s are i t at =
    ap (map (shelf_of s).done) (writers-of s i t at) ∙ dones-by s are i t at t.spec.writer refl

pub closed-is : (s : Shelves) → AreShelves s → (i : ℕ) (t : TopicShelf) → slice_get s.topics.items i ≡ Some t → shelf_closed (routes_in s) (shelf_of s) i ≡ closed_in s.fed t
closed-is s are i t at =
    sym (lowest-map s.fed (λ n. n) (shelf_of s).done ((routes_in s).writers i)) ∙ ap (lowest s.fed (λ n. n)) (dones-are s are i t at)
    ∙ lowest-map s.fed (λ n. n) (λ (k : TaskShelf). k.done) t.tasks.items
