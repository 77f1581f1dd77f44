-- What the view of a broker determines.
use Rattle.std.proofs.Common.{◌≡◌, ◌∙◌, ℕ, ◌<◌, ◌≤◌, min, List, [], ◌∷◌, length, map, get_or, sym, ap, refl, subst}
use Rattle.std.specs.Prelude.{All, Option, Some, None, is_some, option_and_then, option_map, unwrap_or, slice_get}
use Rattle.std.specs.List.{AllZip}
use Rattle.std.proofs.lemmas.List.{get_or-map, length-map}
use Rattle.std.proofs.lemmas.Option.{slice_get-map}
use Rattle.ksql_types.specs.declared.relation.TaskName.{TaskName}
use Rattle.ksql_types.specs.declared.topic.TopicSpec.{TopicSpec}
use Rattle.ksql_place.specs.declared.change.Change.{Change}
use Rattle.core_state.specs.Routes.{routes_of, tasks_of_writer, topic_from}
use Rattle.core_state.specs.declared.log.LogEntry.{LogEntry}
use Rattle.core_state.specs.Shelf.{Shelf, ShelfStays}
use Rattle.core_state.specs.State.{least, lowest}
use Rattle.topic_log.specs.declared.shelves.PartShelf.{PartShelf}
use Rattle.topic_log.specs.declared.shelves.Shelves.{Shelves}
use Rattle.topic_log.specs.declared.shelves.TaskShelf.{TaskShelf}
use Rattle.topic_log.specs.declared.shelves.TopicShelf.{TopicShelf}
use Rattle.topic_log.specs.Order.{IsInPlaceOrder, feed_in}
use Rattle.topic_log.specs.Entries.{entries_of, shown_in}
use Rattle.topic_log.specs.Shelves.{AreShelves, AreTopics, IsPartShelf, IsTopicShelf, Waits, closed_in, dones_of, part_at, routes_in, shelf_of, task_at, topics_of, waiting_in}
use Rattle.topic_log.specs.Views.{PartView, TaskView, TopicView, part_view, task_view, topic_view, topic_views}

-- ---- lists with the same images

pub same_length : {A B : Type 0} (f : A → B) (xs ys : List A) → map f xs ≡ map f ys → length xs ≡ length ys
same_length f xs ys e = sym (length-map xs f) ∙ ap length e ∙ length-map ys f

pub same_at : {A B : Type 0} (f : A → B) (xs ys : List A) → map f xs ≡ map f ys → (k : ℕ) (d : A) → k < length xs → f (get_or xs k d) ≡ f (get_or ys k d)
same_at f xs ys e k d h =
    sym (get_or-map f xs k d (f d) h) ∙ ap (λ l. get_or l k (f d)) e
    ∙ get_or-map f ys k d (f d) (subst (λ n. k < n) (same_length f xs ys e) h)

pub All-same : {A B : Type 0} (f : A → B) (P : A → Type 0) → ((x y : A) → f x ≡ f y → P x → P y) → (xs ys : List A) → map f xs ≡ map f ys → All P xs → All P ys
All-same f P respects xs ys e h k d below =
    let here : k < length xs = subst (λ n. k < n) (sym (same_length f xs ys e)) below in
    respects (get_or xs k d) (get_or ys k d) (same_at f xs ys e k d here) (h k d here)

pub AllZip-same : {A B W : Type 0} (f : W → B) (R : A → B → Type 0) (ds : List A) (xs ys : List W) → map f xs ≡ map f ys → AllZip (λ d w. R d (f w)) ds xs → AllZip (λ d w. R d (f w)) ds ys
AllZip-same f R [] [] [] e h = h
AllZip-same f R [] [] (y ∷ ys) e h = cc
AllZip-same f R [] (x ∷ xs) ys e h = absurd h
AllZip-same f R (d ∷ ds) [] ys e h = absurd h
AllZip-same f R (d ∷ ds) (x ∷ xs) [] e h = cc
AllZip-same f R (d ∷ ds) (x ∷ xs) (y ∷ ys) e h =
    let first : f x ≡ f y = cc in
    let more : map f xs ≡ map f ys = cc in
    (subst (R d) first h.0, AllZip-same f R ds xs ys more h.1)

-- ---- the same views

pub task_view-same : (a b : TaskShelf) → a.done ≡ b.done → a.newest ≡ b.newest → a.logs.items ≡ b.logs.items → task_view a ≡ task_view b
task_view-same a b done newest logs = cc

pub part_view-same : (a b : PartShelf) → a.fed.items ≡ b.fed.items → a.said.items ≡ b.said.items → map (λ w. w.items) a.waiting.items ≡ map (λ w. w.items) b.waiting.items → part_view a ≡ part_view b
part_view-same a b fed said waiting = cc

pub topic_view-same : (a b : TopicShelf) → a.spec ≡ b.spec → map part_view a.parts.items ≡ map part_view b.parts.items → map task_view a.tasks.items ≡ map task_view b.tasks.items → topic_view a ≡ topic_view b
topic_view-same a b spec parts tasks = cc

-- ---- what a broker has, by its view

abbrev pub view_part_at : List TopicView → ℕ → ℕ → Option PartView
view_part_at vs topic q = option_and_then (λ v. slice_get v.parts q) (slice_get vs topic)

abbrev pub view_task_at : List TopicView → TaskName → Option TaskView
view_task_at vs t = option_and_then (λ v. slice_get v.tasks t.part) (slice_get vs ((routes_of (map (λ v. v.spec) vs)).output t))

abbrev pub view_waiting : ℕ → PartView → List Change
view_waiting writer v = unwrap_or (slice_get v.waiting writer) []

abbrev pub view_shown : PartView → List LogEntry
view_shown v = entries_of v.fed v.said

abbrev pub view_shelf : ℕ → List TopicView → Shelf
view_shelf fed vs = record {
  fed = fed;
  shown = λ topic q. unwrap_or (option_map view_shown (view_part_at vs topic q)) [];
  waiting = λ t q. unwrap_or (option_map (view_waiting t.part) (view_part_at vs ((routes_of (map (λ v. v.spec) vs)).output t) q)) [];
  done = λ t. unwrap_or (option_map (λ v. v.done) (view_task_at vs t)) 0;
  newest = λ t. unwrap_or (option_map (λ v. v.newest) (view_task_at vs t)) 0;
  logs = λ t. unwrap_or (option_map (λ v. v.logs) (view_task_at vs t)) [];
}

specs-view : (ts : List TopicShelf) → map (λ t. t.spec) ts ≡ map (λ v. v.spec) (map topic_view ts)
specs-view [] = refl
specs-view (t ∷ ts) = ap (λ (more : List TopicSpec). t.spec ∷ more) (specs-view ts)

pub topics-view : (s : Shelves) → topics_of s ≡ map (λ v. v.spec) (topic_views s)
topics-view s = specs-view s.topics.items

part-view : (ts : List TopicShelf) (topic q : ℕ) → option_map part_view (option_and_then (λ t. slice_get t.parts.items q) (slice_get ts topic)) ≡ view_part_at (map topic_view ts) topic q
part-view ts topic q =
    let by : (o : Option TopicShelf) → option_map part_view (option_and_then (λ t. slice_get t.parts.items q) o) ≡ option_and_then (λ v. slice_get v.parts q) (option_map topic_view o) =
    λ o. elim o as (λ o. option_map part_view (option_and_then (λ t. slice_get t.parts.items q) o) ≡ option_and_then (λ v. slice_get v.parts q) (option_map topic_view o)) [
      | None ↦ refl
      | Some t ↦ sym (slice_get-map part_view t.parts.items q)
    ] in
    by (slice_get ts topic) ∙ ap (option_and_then (λ v. slice_get v.parts q)) (sym (slice_get-map topic_view ts topic))

task-view : (ts : List TopicShelf) (topic q : ℕ) → option_map task_view (option_and_then (λ t. slice_get t.tasks.items q) (slice_get ts topic)) ≡ option_and_then (λ v. slice_get v.tasks q) (slice_get (map topic_view ts) topic)
task-view ts topic q =
    let by : (o : Option TopicShelf) → option_map task_view (option_and_then (λ t. slice_get t.tasks.items q) o) ≡ option_and_then (λ v. slice_get v.tasks q) (option_map topic_view o) =
    λ o. elim o as (λ o. option_map task_view (option_and_then (λ t. slice_get t.tasks.items q) o) ≡ option_and_then (λ v. slice_get v.tasks q) (option_map topic_view o)) [
      | None ↦ refl
      | Some t ↦ sym (slice_get-map task_view t.tasks.items q)
    ] in
    by (slice_get ts topic) ∙ ap (option_and_then (λ v. slice_get v.tasks q)) (sym (slice_get-map topic_view ts topic))

-- a field of the value in an option, by its view
field : {A V F : Type 0} (view : A → V) (f : A → F) (g : V → F) → ((x : A) → f x ≡ g (view x)) → (d : F) (o : Option A) → unwrap_or (option_map f o) d ≡ unwrap_or (option_map g (option_map view o)) d
field view f g e d None = refl
field view f g e d (Some x) = e x

waiting-view : (writer : ℕ) (p : PartShelf) → waiting_in writer p ≡ view_waiting writer (part_view p)
waiting-view writer p = ap (λ (o : Option (List Change)). unwrap_or o []) (sym (slice_get-map (λ w. w.items) p.waiting.items writer))

-- what a broker has is what its view has
pub record IsViewed (s : Shelves) (vs : List TopicView) : Type 0 where
  pub shown : (topic q : ℕ) → (shelf_of s).shown topic q ≡ (view_shelf s.fed vs).shown topic q
  pub waiting : (t : TaskName) (q : ℕ) → (shelf_of s).waiting t q ≡ (view_shelf s.fed vs).waiting t q
  pub done : (t : TaskName) → (shelf_of s).done t ≡ (view_shelf s.fed vs).done t
  pub newest : (t : TaskName) → (shelf_of s).newest t ≡ (view_shelf s.fed vs).newest t
  pub logs : (t : TaskName) → (shelf_of s).logs t ≡ (view_shelf s.fed vs).logs t

shelf-view : (s : Shelves) → IsViewed s (topic_views s)
shelf-view s =
    let vs : List TopicView = topic_views s in
    let output : (t : TaskName) → (routes_in s).output t ≡ (routes_of (map (λ v. v.spec) vs)).output t =
    λ t. ap (λ (topics : List TopicSpec). (routes_of topics).output t) (topics-view s) in
    let task : (t : TaskName) → option_map task_view (option_and_then (λ k. slice_get k.tasks.items t.part) (slice_get s.topics.items ((routes_in s).output t))) ≡ view_task_at vs t =
    λ t. task-view s.topics.items ((routes_in s).output t) t.part ∙ ap (λ n. option_and_then (λ v. slice_get v.tasks t.part) (slice_get vs n)) (output t) in
    record {
      shown = λ topic q. field part_view shown_in view_shown (λ p. refl) [] (part_at s topic q) ∙ ap (λ (o : Option PartView). unwrap_or (option_map view_shown o) []) (part-view s.topics.items topic q);
      waiting = λ t q. field part_view (waiting_in t.part) (view_waiting t.part) (waiting-view t.part) [] (part_at s ((routes_in s).output t) q)
          ∙ ap (λ (o : Option PartView). unwrap_or (option_map (view_waiting t.part) o) []) (part-view s.topics.items ((routes_in s).output t) q ∙ ap (λ n. view_part_at vs n q) (output t));
      done = λ t. field task_view (λ k. k.done) (λ v. v.done) (λ k. refl) 0 (task_at s t) ∙ ap (λ (o : Option TaskView). unwrap_or (option_map (λ v. v.done) o) 0) (task t);
      newest = λ t. field task_view (λ k. k.newest) (λ v. v.newest) (λ k. refl) 0 (task_at s t) ∙ ap (λ (o : Option TaskView). unwrap_or (option_map (λ v. v.newest) o) 0) (task t);
      logs = λ t. field task_view (λ k. k.logs.items) (λ v. v.logs) (λ k. refl) [] (task_at s t) ∙ ap (λ (o : Option TaskView). unwrap_or (option_map (λ v. v.logs) o) []) (task t);
    }

-- ---- two brokers with the same view

pub topics-same : (s next : Shelves) → topic_views next ≡ topic_views s → topics_of next ≡ topics_of s
topics-same s next e = topics-view next ∙ ap (map (λ v. v.spec)) e ∙ sym (topics-view s)

some-map : {A B : Type 0} (f : A → B) (o : Option A) → is_some (option_map f o) ≡ is_some o
some-map f None = refl
some-map f (Some x) = refl

-- a partition is there
pub part-some : (s next : Shelves) → topic_views next ≡ topic_views s → (topic q : ℕ) → is_some (part_at next topic q) ≡ is_some (part_at s topic q)
part-some s next e topic q =
    sym (some-map part_view (part_at next topic q)) ∙ ap (λ (o : Option PartView). is_some o) (part-view next.topics.items topic q ∙ ap (λ (vs : List TopicView). view_part_at vs topic q) e
    ∙ sym (part-view s.topics.items topic q)) ∙ some-map part_view (part_at s topic q)

-- the number of the topic that a sub-topology writes
pub written-same : (s next : Shelves) → topic_views next ≡ topic_views s → (o : Option ℕ) (sub : ℕ) → unwrap_or o (length s.topics.items) ≡ topic_from 0 (topics_of s) sub →
    unwrap_or o (length next.topics.items) ≡ topic_from 0 (topics_of next) sub
written-same s next e o sub is =
    ap (unwrap_or o) (same_length topic_view next.topics.items s.topics.items e) ∙ is ∙ ap (λ (topics : List TopicSpec). topic_from 0 topics sub) (sym (topics-same s next e))

pub stays : (s next : Shelves) → topic_views next ≡ topic_views s → next.fed ≡ s.fed → ShelfStays (routes_in s) (shelf_of s) (shelf_of next)
stays s next e fed =
    let was = shelf-view s in
    let now = shelf-view next in
    record {
      fed = fed;
      shown = λ topic q. now.shown topic q ∙ ap (λ (vs : List TopicView). (view_shelf 0 vs).shown topic q) e ∙ sym (was.shown topic q);
      waiting = λ u _ q. now.waiting u q ∙ ap (λ (vs : List TopicView). (view_shelf 0 vs).waiting u q) e ∙ sym (was.waiting u q);
      done = λ u _. now.done u ∙ ap (λ (vs : List TopicView). (view_shelf 0 vs).done u) e ∙ sym (was.done u);
      newest = λ u _. now.newest u ∙ ap (λ (vs : List TopicView). (view_shelf 0 vs).newest u) e ∙ sym (was.newest u);
      logs = λ u _. now.logs u ∙ ap (λ (vs : List TopicView). (view_shelf 0 vs).logs u) e ∙ sym (was.logs u);
    }

pub IsPartShelf-same : (closed : ℕ) (dones : List ℕ) (p q : PartShelf) → part_view p ≡ part_view q → IsPartShelf closed dones p → IsPartShelf closed dones q
IsPartShelf-same closed dones p q e h =
    let shown : shown_in p ≡ shown_in q = ap view_shown e in
    record {
      in_order = subst IsInPlaceOrder shown h.in_order;
      is_closed = subst (All (λ x. feed_in x ≤ closed)) shown h.is_closed;
      unwritten = λ none. sym (ap (λ (v : PartView). v.said) e) ∙ h.unwritten none;
      waits = AllZip-same (λ w. w.items) (Waits closed) dones p.waiting.items q.waiting.items (ap (λ (v : PartView). v.waiting) e) h.waits;
    }

dones-view : (ks : List TaskShelf) → map (λ k. k.done) ks ≡ map (λ v. v.done) (map task_view ks)
dones-view [] = refl
dones-view (k ∷ ks) = ap (λ (more : List ℕ). k.done ∷ more) (dones-view ks)

least-view : (k : TaskShelf) (ks : List TaskShelf) → least (λ k. k.done) k ks ≡ least (λ v. v.done) (task_view k) (map task_view ks)
least-view k [] = refl
least-view k (l ∷ ks) = ap (min k.done) (least-view l ks)

lowest-view : (fed : ℕ) (ks : List TaskShelf) → lowest fed (λ k. k.done) ks ≡ lowest fed (λ v. v.done) (map task_view ks)
lowest-view fed [] = refl
lowest-view fed (k ∷ ks) = least-view k ks

pub IsTopicShelf-same : (fed : ℕ) (t u : TopicShelf) → topic_view t ≡ topic_view u → IsTopicShelf fed t → IsTopicShelf fed u
IsTopicShelf-same fed t u e h =
    let spec : t.spec ≡ u.spec = ap (λ (v : TopicView). v.spec) e in
    let parts : map part_view t.parts.items ≡ map part_view u.parts.items = ap (λ (v : TopicView). v.parts) e in
    let tasks : map task_view t.tasks.items ≡ map task_view u.tasks.items = ap (λ (v : TopicView). v.tasks) e in
    let dones : dones_of t ≡ dones_of u = dones-view t.tasks.items ∙ ap (map (λ v. v.done)) tasks ∙ sym (dones-view u.tasks.items) in
    let closed : closed_in fed t ≡ closed_in fed u = lowest-view fed t.tasks.items ∙ ap (lowest fed (λ (v : TaskView). v.done)) tasks ∙ sym (lowest-view fed u.tasks.items) in
    record {
      parts = sym (same_length part_view t.parts.items u.parts.items parts) ∙ h.parts ∙ ap (λ (s : TopicSpec). s.partitions) spec;
      tasks = sym (same_length task_view t.tasks.items u.tasks.items tasks) ∙ h.tasks ∙ ap (λ (s : TopicSpec). length (tasks_of_writer s.writer)) spec;
      each = subst (λ c. All (IsPartShelf c (dones_of u)) u.parts.items) closed
          (subst (λ ds. All (IsPartShelf (closed_in fed t) ds) u.parts.items) dones
          (All-same part_view (IsPartShelf (closed_in fed t) (dones_of t)) (IsPartShelf-same (closed_in fed t) (dones_of t)) t.parts.items u.parts.items parts h.each));
    }

pub AreShelves-same : (s next : Shelves) → topic_views next ≡ topic_views s → next.fed ≡ s.fed → AreShelves s → AreShelves next
AreShelves-same s next e fed h = record {
  topics = subst AreTopics (sym (topics-same s next e)) h.topics;
  each = subst (λ f. All (IsTopicShelf f) next.topics.items) (sym fed)
      (All-same topic_view (IsTopicShelf s.fed) (IsTopicShelf-same s.fed) s.topics.items next.topics.items (sym e) h.each);
}
