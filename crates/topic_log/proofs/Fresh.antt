-- The topics of a broker before the first feed: their invariants hold, and they show nothing.
use Rattle.std.proofs.Common.{◌≡◌, ◌∙◌, ap, ap₂, sym, refl, subst, ℕ, zero, suc, ◌+◌, ◌<◌, ◌≤◌, List, [], ◌∷◌, ◌++◌, map, length, get_or, take, arith, Option, Some, None}
use Rattle.std.specs.Prelude.{All, slice_get, option_map, unwrap_or}
use Rattle.std.specs.Global.{Global}
use Rattle.std.specs.List.{AllByRecursion, AllZip}
use Rattle.std.specs.declared.collections.VecDeque.{VecDeque}
use Rattle.std.proofs.lemmas.List.{length-map, take_more}
use Rattle.std.proofs.lemmas.List.Elements.{All-cons, All-nil, All-same, All-weaker, recursion_from_All}
use Rattle.std.proofs.lemmas.Option.{option_and_then_some, same_Some}
use Rattle.ksql_types.specs.declared.relation.TaskName.{TaskName}
use Rattle.ksql_types.specs.declared.topic.TopicSpec.{TopicSpec}
use Rattle.ksql_place.specs.declared.change.Change.{Change}
use Rattle.ksql_place.specs.declared.change.SourceRecord.{SourceRecord}
use Rattle.core_state.specs.Routes.{tasks_of_writer}
use Rattle.core_state.specs.Shelf.{ShelfOpens}
use Rattle.core_state.specs.declared.log.LogEntry.{LogEntry}
use Rattle.topic_log.specs.declared.shelves.PartShelf.{PartShelf}
use Rattle.topic_log.specs.declared.shelves.Shelves.{Shelves}
use Rattle.topic_log.specs.declared.shelves.TaskShelf.{TaskShelf}
use Rattle.topic_log.specs.declared.shelves.TopicShelf.{TopicShelf}
use Rattle.topic_log.specs.Entries.{entries_of, shown_in}
use Rattle.topic_log.specs.Opening.{IsEmptyPart, IsFreshTask, IsFreshTopic, task_count}
use Rattle.topic_log.specs.Order.{IsInPlaceOrder, feed_in}
use Rattle.topic_log.specs.Shelves.{AreShelves, AreTopics, IsPartShelf, IsTopicShelf, Waits, closed_in, dones_of, part_at, routes_in, shelf_of, topics_of, waiting_in}
use Rattle.topic_log.proofs.OneTopic.{All-slice_get, Writes, writes}

-- ---- what must be kept

zip-all : {A B : Type 0} (R : A → B → Type 0) (xs : List A) (ys : List B) → length xs ≡ length ys → AllByRecursion (λ y. (x : A) → R x y) ys → AllZip R xs ys
zip-all R [] [] count all = tt
zip-all R [] (y ∷ ys) count all = absurd (omega arith)
zip-all R (x ∷ xs) [] count all = absurd (omega arith)
zip-all R (x ∷ xs) (y ∷ ys) count all = (all.0 x, zip-all R xs ys (omega arith) all.1)

none-waits : (closed done : ℕ) (xs : List Change) → xs ≡ [] → Waits closed done xs
none-waits closed done xs none = subst (λ (ys : List Change). Waits closed done ys) (sym none) (λ i j d low high. absurd (omega arith), λ k d low. absurd (omega arith))

none-shown-in : {n : ℕ} (p : PartShelf) → IsEmptyPart n p → shown_in p ≡ []
none-shown-in p empty = ap₂ (λ (rs : List SourceRecord) (xs : List Change). entries_of rs xs) empty.fed empty.said

empty-part : (closed : ℕ) (dones : List ℕ) (p : PartShelf) → IsEmptyPart (length dones) p → IsPartShelf closed dones p
empty-part closed dones p empty = let none : shown_in p ≡ [] = none-shown-in p empty in record {
  in_order = subst (λ (xs : List LogEntry). IsInPlaceOrder xs) (sym none) (λ i j d low high. absurd (omega arith));
  is_closed = All-same (λ x. feed_in x ≤ closed) (shown_in p) [] none (All-nil (λ x. feed_in x ≤ closed));
  unwritten = λ unwritten. empty.said;
  waits = zip-all (λ done w. Waits closed done w.items) dones p.waiting.items (sym empty.writers)
      (recursion_from_All (λ w. (done : ℕ) → Waits closed done w.items) p.waiting.items
      (All-weaker (λ w. w.items ≡ []) (λ w. (done : ℕ) → Waits closed done w.items) (λ w none done. none-waits closed done w.items none) p.waiting.items empty.waiting));
}

fresh-topic : (topic : TopicSpec) (t : TopicShelf) → IsFreshTopic topic t → IsTopicShelf 0 t
fresh-topic topic t fresh =
    let count : length (dones_of t) ≡ task_count topic = length-map t.tasks.items (λ (k : TaskShelf). k.done) ∙ fresh.tasks in
    let empty : All (IsEmptyPart (length (dones_of t))) t.parts.items = subst (λ (n : ℕ). All (IsEmptyPart n) t.parts.items) (sym count) fresh.empty in
    record {
      parts = fresh.parts ∙ ap (λ (s : TopicSpec). s.partitions) (sym fresh.spec);
      tasks = fresh.tasks ∙ ap (λ (s : TopicSpec). length (tasks_of_writer s.writer)) (sym fresh.spec);
      each = All-weaker (IsEmptyPart (length (dones_of t))) (IsPartShelf (closed_in 0 t) (dones_of t)) (empty-part (closed_in 0 t) (dones_of t)) t.parts.items empty;
    }

specs-fresh : (topics : List TopicSpec) (ts : List TopicShelf) → AllZip IsFreshTopic topics ts → map (λ (t : TopicShelf). t.spec) ts ≡ topics
specs-fresh [] [] fresh = refl
specs-fresh [] (t ∷ ts) fresh = absurd fresh
specs-fresh (topic ∷ topics) [] fresh = absurd fresh
specs-fresh (topic ∷ topics) (t ∷ ts) fresh = ap₂ (λ (s : TopicSpec) (ss : List TopicSpec). s ∷ ss) fresh.0.spec (specs-fresh topics ts fresh.1)

topics-fresh : (topics : List TopicSpec) (ts : List TopicShelf) → AllZip IsFreshTopic topics ts → All (IsTopicShelf 0) ts
topics-fresh [] [] fresh = All-nil (IsTopicShelf 0)
topics-fresh [] (t ∷ ts) fresh = absurd fresh
topics-fresh (topic ∷ topics) [] fresh = absurd fresh
topics-fresh (topic ∷ topics) (t ∷ ts) fresh = All-cons (IsTopicShelf 0) t ts (fresh-topic topic t fresh.0) (topics-fresh topics ts fresh.1)

-- shelves of fresh topics, before the first feed
pub record AreFresh (topics : List TopicSpec) (s : Shelves) : Type 0 where
  pub fed : s.fed ≡ 0
  pub topics_fresh : AllZip IsFreshTopic topics s.topics.items

pub topics-are : (topics : List TopicSpec) (s : Shelves) → AreFresh topics s → topics_of s ≡ topics
topics-are topics s fresh = specs-fresh topics s.topics.items fresh.topics_fresh

pub shelves-fresh : (topics : List TopicSpec) (s : Shelves) → AreTopics topics → AreFresh topics s → AreShelves s
shelves-fresh topics s are fresh = record {
  topics = subst AreTopics (sym (topics-are topics s fresh)) are;
  each = subst (λ (n : ℕ). All (IsTopicShelf n) s.topics.items) (sym fresh.fed) (topics-fresh topics s.topics.items fresh.topics_fresh);
}

-- one topic more that is fresh
zip-push : {A B : Type 0} (R : A → B → Type 0) (xs : List A) (ys : List B) (x : A) (y : B) → AllZip R xs ys → R x y → AllZip R (xs ++ x ∷ []) (ys ++ y ∷ [])
zip-push R [] [] x y zip last = (last, tt)
zip-push R [] (b ∷ ys) x y zip last = absurd zip
zip-push R (a ∷ xs) [] x y zip last = absurd zip
zip-push R (a ∷ xs) (b ∷ ys) x y zip last = (zip.0, zip-push R xs ys x y zip.1 last)

pub fresh-more : (topics : List TopicSpec) (ts : List TopicShelf) (i : ℕ) (topic : TopicSpec) (t : TopicShelf) → i < length topics → topic ≡ get_or topics i topic →
    AllZip IsFreshTopic (take i topics) ts → IsFreshTopic topic t → AllZip IsFreshTopic (take (i + 1) topics) (ts ++ t ∷ [])
fresh-more topics ts i topic t inside read fresh last =
    let more : take (i + 1) topics ≡ take i topics ++ topic ∷ [] =
    take_more topics i topic inside ∙ ap (λ (s : TopicSpec). take i topics ++ s ∷ []) (sym read) in
    subst (λ (ss : List TopicSpec). AllZip IsFreshTopic ss (ts ++ t ∷ [])) (sym more) (zip-push IsFreshTopic (take i topics) ts topic t fresh last)

-- ---- what they show

fresh-at : (topics : List TopicSpec) (ts : List TopicShelf) → AllZip IsFreshTopic topics ts → (i : ℕ) (t : TopicShelf) → slice_get ts i ≡ Some t → (topic : TopicSpec) × IsFreshTopic topic t
fresh-at [] [] fresh i t at = cc
fresh-at [] (x ∷ ts) fresh i t at = absurd fresh
fresh-at (topic ∷ topics) [] fresh i t at = absurd fresh
fresh-at (topic ∷ topics) (x ∷ ts) fresh zero t at = (topic, subst (IsFreshTopic topic) (same_Some x t at) fresh.0)
fresh-at (topic ∷ topics) (x ∷ ts) fresh (suc i) t at = fresh-at topics ts fresh.1 i t at

part-fresh : (topics : List TopicSpec) (s : Shelves) → AreFresh topics s → (i q : ℕ) (p : PartShelf) → part_at s i q ≡ Some p → (n : ℕ) × IsEmptyPart n p
part-fresh topics s fresh i q p at =
    option_and_then_some (λ (t : TopicShelf). slice_get t.parts.items q) (slice_get s.topics.items i) p at
    (λ t there inside.
    let topic : (topic : TopicSpec) × IsFreshTopic topic t = fresh-at topics s.topics.items fresh.topics_fresh i t there in
    (task_count topic.0, All-slice_get (IsEmptyPart (task_count topic.0)) t.parts.items q p topic.1.empty inside))

abbrev shown_at : Option PartShelf → List LogEntry
shown_at o = unwrap_or (option_map shown_in o) []

abbrev waiting_of : ℕ → Option PartShelf → List Change
waiting_of part o = unwrap_or (option_map (waiting_in part) o) []

none-in : (topics : List TopicSpec) (s : Shelves) → AreFresh topics s → (i q : ℕ) (o : Option PartShelf) → part_at s i q ≡ o → shown_at o ≡ []
none-in topics s fresh i q None at = refl
none-in topics s fresh i q (Some p) at = none-shown-in p (part-fresh topics s fresh i q p at).1

none-at : (n part : ℕ) (p : PartShelf) → IsEmptyPart n p → (o : Option (VecDeque Change Global)) → slice_get p.waiting.items part ≡ o → unwrap_or (option_map (λ w. w.items) o) [] ≡ []
none-at n part p empty None at = refl
none-at n part p empty (Some w) at = All-slice_get (λ w. w.items ≡ []) p.waiting.items part w empty.waiting at

none-of : (n part : ℕ) (p : PartShelf) → IsEmptyPart n p → waiting_in part p ≡ []
none-of n part p empty = none-at n part p empty (slice_get p.waiting.items part) refl

none-waits-in : (topics : List TopicSpec) (s : Shelves) → AreFresh topics s → (i part q : ℕ) (o : Option PartShelf) → part_at s i q ≡ o → waiting_of part o ≡ []
none-waits-in topics s fresh i part q None at = refl
none-waits-in topics s fresh i part q (Some p) at =
    let empty : (n : ℕ) × IsEmptyPart n p = part-fresh topics s fresh i q p at in
    none-of empty.0 part p empty.1

none-shown : (topics : List TopicSpec) (s : Shelves) → AreFresh topics s → (i q : ℕ) → (shelf_of s).shown i q ≡ []
none-shown topics s fresh i q =
    none-in topics s fresh i q (part_at s i q) refl

none-waiting : (topics : List TopicSpec) (s : Shelves) → AreFresh topics s → (u : TaskName) (q : ℕ) → (shelf_of s).waiting u q ≡ []
none-waiting topics s fresh u q = none-waits-in topics s fresh ((routes_in s).output u) u.part q (part_at s ((routes_in s).output u) q) refl

task-fresh : (topics : List TopicSpec) (s : Shelves) → AreFresh topics s → (u : TaskName) (w : Writes s u) → IsFreshTask w.kept
task-fresh topics s fresh u w =
    let topic : (topic : TopicSpec) × IsFreshTopic topic w.topic = fresh-at topics s.topics.items fresh.topics_fresh ((routes_in s).output u) w.topic w.at in
    All-slice_get IsFreshTask w.topic.tasks.items u.part w.kept topic.1.fresh w.there

pub opens-fresh : (topics : List TopicSpec) (s : Shelves) → AreTopics topics → AreFresh topics s → ShelfOpens (routes_in s) (shelf_of s)
opens-fresh topics s are fresh =
    let shelves : AreShelves s = shelves-fresh topics s are fresh in
    record {
      fed = fresh.fed;
      shown = none-shown topics s fresh;
      waiting = λ u is q. none-waiting topics s fresh u q;
      done = λ u is.
          let w : Writes s u = writes s u shelves is in
          ap (λ (o : Option TaskShelf). unwrap_or (option_map (λ (k : TaskShelf). k.done) o) 0) w.task ∙ (task-fresh topics s fresh u w).done;
      newest = λ u is.
          let w : Writes s u = writes s u shelves is in
          ap (λ (o : Option TaskShelf). unwrap_or (option_map (λ (k : TaskShelf). k.newest) o) 0) w.task ∙ (task-fresh topics s fresh u w).newest;
      logs = λ u is.
          let w : Writes s u = writes s u shelves is in
          ap (λ (o : Option TaskShelf). unwrap_or (option_map (λ (k : TaskShelf). k.logs.items) o) []) w.task ∙ (task-fresh topics s fresh u w).logs;
    }
