-- The topic that a task writes and the data kept for the task, read by index.
use Rattle.std.proofs.Common.{◌≡◌, ◌∙◌, ap, refl, sym, subst, ℕ, ◌<◌, List, length, get_or, arith, rules, Option, Some}
use Rattle.std.specs.Prelude.{IsSome, slice_get, option_map, unwrap_or}
use Rattle.std.proofs.lemmas.List.{length-map}
use Rattle.std.proofs.lemmas.Option.{get_or_from_slice_get, same_Some}
use Rattle.ksql_types.specs.declared.relation.TaskName.{TaskName}
use Rattle.ksql_types.specs.declared.topic.TopicSpec.{TopicSpec}
use Rattle.ksql_place.specs.Routing.{partitions_of}
use Rattle.core_state.specs.Routes.{IsWriter}
use Rattle.topic_log.specs.declared.shelves.PartShelf.{PartShelf}
use Rattle.topic_log.specs.declared.shelves.Shelves.{Shelves}
use Rattle.topic_log.specs.declared.shelves.TaskShelf.{TaskShelf}
use Rattle.topic_log.specs.declared.shelves.TopicShelf.{TopicShelf}
use Rattle.topic_log.specs.Shelves.{AreShelves, IsTopicShelf, part_at, routes_in, task_at, topics_of}
use Rattle.topic_log.proofs.OneTopic.{All-slice_get, Writes, part_in, slice_get-some, spec-at, task_in, writes}

-- a task writes in the shelves of which a broker's value is the view, and its output there is the one that was looked
-- up
pub writer-inside : (s now : Shelves) (u : TaskName) → s ≡ now → IsWriter (routes_in now) u → IsWriter (routes_in s) u
writer-inside s now u same is = subst (λ (s : Shelves). IsWriter (routes_in s) u) (sym same) is

pub output-inside : (s now : Shelves) (u : TaskName) (j : ℕ) → s ≡ now → j ≡ (routes_in now).output u → j ≡ (routes_in s).output u
output-inside s now u j same is = is ∙ ap (λ (s : Shelves). (routes_in s).output u) (sym same)

was-read : {A : Type 0} (xs : List A) (i : ℕ) (x y : A) → slice_get xs i ≡ Some y → x ≡ get_or xs i x → slice_get xs i ≡ Some x
was-read xs i x y at read = at ∙ ap Some (sym (read ∙ get_or_from_slice_get xs i y x at))

module _ (s : Shelves) (u : TaskName) (are : AreShelves s) (is : IsWriter (routes_in s) u) (j : ℕ) (output : j ≡ (routes_in s).output u) (t : TopicShelf) (read : t ≡ get_or s.topics.items j t) where
  -- the topic that a task writes, as it was read
  pub read-topic : slice_get s.topics.items ((routes_in s).output u) ≡ Some t
  read-topic =
      let w : Writes s u = writes s u are is in
      let there : t ≡ get_or s.topics.items ((routes_in s).output u) t = read ∙ ap (λ (i : ℕ). get_or s.topics.items i t) output in
      was-read s.topics.items ((routes_in s).output u) t w.topic w.at there

  pub read-within : u.part < length t.tasks.items
  read-within =
      let w : Writes s u = writes s u are is in
      let same : w.topic ≡ t = same_Some w.topic t (sym w.at ∙ read-topic) in
      subst (λ (t : TopicShelf). u.part < length t.tasks.items) same w.within

  -- the data kept for the task, as it was read
  pub read-task : (k : TaskShelf) → k ≡ get_or t.tasks.items u.part k → slice_get t.tasks.items u.part ≡ Some k
  read-task k held =
      let w : Writes s u = writes s u are is in
      let same : w.topic ≡ t = same_Some w.topic t (sym w.at ∙ read-topic) in
      was-read t.tasks.items u.part k w.kept (subst (λ (t : TopicShelf). slice_get t.tasks.items u.part ≡ Some w.kept) same w.there) held

  pub read-task_at : (k : TaskShelf) → k ≡ get_or t.tasks.items u.part k → task_at s u ≡ Some k
  read-task_at k held = ap (task_in u.part) read-topic ∙ read-task k held

-- ---- one of the topics

-- a number of a topic is one of a topic inside
pub topic-inside : (s now : Shelves) (i : ℕ) → s ≡ now → i < length (topics_of now) → i < length s.topics.items
topic-inside s now i same inside =
    let count : length (topics_of s) ≡ length s.topics.items = length-map s.topics.items (λ (t : TopicShelf). t.spec) in
    let there : i < length (topics_of s) = subst (λ (s : Shelves). i < length (topics_of s)) (sym same) inside in
    omega (arith, count, there)

-- the partitions that a topic has
pub partitions-at : (s : Shelves) (i : ℕ) (t : TopicShelf) → slice_get s.topics.items i ≡ Some t → partitions_of (topics_of s) i ≡ t.spec.partitions
partitions-at s i t at = ap (λ (o : Option TopicSpec). unwrap_or (option_map (λ (t : TopicSpec). t.partitions) o) 1) (spec-at s i t at)

some-is : {A : Type 0} (x : A) → IsSome (Some x)
some-is x = search rules

pub part-is_there : (s : Shelves) → AreShelves s → (i : ℕ) (t : TopicShelf) → slice_get s.topics.items i ≡ Some t → (q : ℕ) → q < t.spec.partitions → IsSome (part_at s i q)
part-is_there s are i t at q below =
    let shelf : IsTopicShelf s.fed t = All-slice_get (IsTopicShelf s.fed) s.topics.items i t are.each at in
    let found : (p : PartShelf) × (slice_get t.parts.items q ≡ Some p) = slice_get-some t.parts.items q (subst (λ (n : ℕ). q < n) (sym shelf.parts) below) in
    subst (λ (o : Option PartShelf). IsSome o) (sym (ap (part_in q) at ∙ found.1)) (some-is found.0)

-- each partition of each topic is there
pub all-there : (s : Shelves) → AreShelves s → (i q : ℕ) → i < length (topics_of s) → q < partitions_of (topics_of s) i → IsSome (part_at s i q)
all-there s are i q inside below =
    let found : (t : TopicShelf) × (slice_get s.topics.items i ≡ Some t) = slice_get-some s.topics.items i (topic-inside s s i refl inside) in
    part-is_there s are i found.0 found.1 q (subst (λ (n : ℕ). q < n) (partitions-at s i found.0 found.1) below)
