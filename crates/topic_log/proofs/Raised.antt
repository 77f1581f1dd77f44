-- The newest generation of one task is raised, and nothing else changes.
use Rattle.std.proofs.Common.{◌≡◌, ◌∙◌, ap, sym, refl, subst, ℕ, ◌+◌, ◌≤◌, List, [], map, length, set, Option, Some, None, ⊎_elim}
use Rattle.std.specs.Prelude.{All, slice_get, option_map, unwrap_or, vec_capacity}
use Rattle.std.specs.Global.{Vec}
use Rattle.std.proofs.lemmas.Bool.{cases_eq}
use Rattle.std.proofs.lemmas.List.{length-set}
use Rattle.std.proofs.lemmas.Option.{same_Some}
use Rattle.ksql_types.specs.declared.relation.StoreEntry.{StoreEntry}
use Rattle.ksql_types.specs.declared.relation.TaskName.{TaskName}
use Rattle.ksql_types.specs.declared.topic.TopicSpec.{TopicSpec}
use Rattle.core_state.specs.Routes.{IsWriter, Routes, tasks_of_writer}
use Rattle.core_state.specs.Shelf.{ShelfRaises}
use Rattle.core_state.specs.State.{lowest}
use Rattle.core_state.specs.declared.log.Proposal.{Proposal}
use Rattle.topic_log.specs.declared.prepared.Prepared.{Prepared}
use Rattle.topic_log.specs.declared.shelves.PartShelf.{PartShelf}
use Rattle.topic_log.specs.declared.shelves.Shelves.{Shelves}
use Rattle.topic_log.specs.declared.shelves.TaskShelf.{TaskShelf}
use Rattle.topic_log.specs.declared.shelves.TopicShelf.{TopicShelf}
use Rattle.topic_log.specs.Entries.{shown_in}
use Rattle.topic_log.specs.Ready.{IsReady}
use Rattle.topic_log.specs.Shelves.{AreShelves, IsPartShelf, IsTopicShelf, closed_in, dones_of, part_at, routes_in, shelf_of, task_at, waiting_in}
use Rattle.topic_log.proofs.Readiness.{Alike, HasLogRoomAfter, HasRoomAfter, alike-same, ready-alike}
use Rattle.topic_log.proofs.OneTopic.{All-slice_get, Replaces, lowest-map, map-set_same, part-else, part-there, part-was, routes-same, same-task, shelves-kept, slice_get-set_else, slice_get-set_same, task-else, task-there, task-was, topics-same}

-- ---- a task is raised

-- the next shelves are these, except that the newest generation of a task is one higher
pub record Raises (s next : Shelves) (u : TaskName) (t changed : TopicShelf) (k raised : TaskShelf) : Type 0 where
  pub replaces : Replaces s next ((routes_in s).output u) t changed
  pub fed : next.fed ≡ s.fed
  pub parts : changed.parts.items ≡ t.parts.items
  pub there : slice_get t.tasks.items u.part ≡ Some k
  pub tasks : changed.tasks.items ≡ set t.tasks.items u.part raised
  pub done : raised.done ≡ k.done
  pub newest : raised.newest ≡ k.newest + 1
  pub logs : raised.logs ≡ k.logs

module _ {s next : Shelves} {u : TaskName} {t changed : TopicShelf} {k raised : TaskShelf} where
  dones-same : Raises s next u t changed k raised → dones_of changed ≡ dones_of t
  dones-same h = ap (map (λ (k : TaskShelf). k.done)) h.tasks ∙ map-set_same (λ (k : TaskShelf). k.done) t.tasks.items u.part k raised h.there h.done

  closed-same : Raises s next u t changed k raised → closed_in s.fed t ≡ closed_in s.fed changed
  closed-same h =
      sym (lowest-map s.fed (λ n. n) (λ (k : TaskShelf). k.done) t.tasks.items) ∙ ap (lowest s.fed (λ n. n)) (sym (dones-same h))
      ∙ lowest-map s.fed (λ n. n) (λ (k : TaskShelf). k.done) changed.tasks.items

  topic-raised : Raises s next u t changed k raised → IsTopicShelf s.fed t → IsTopicShelf s.fed changed
  topic-raised h was = record {
    parts = ap length h.parts ∙ was.parts ∙ ap (λ (s : TopicSpec). s.partitions) (sym h.replaces.spec);
    tasks = ap length h.tasks ∙ length-set t.tasks.items u.part raised ∙ was.tasks ∙ ap (λ (s : TopicSpec). length (tasks_of_writer s.writer)) (sym h.replaces.spec);
    each = subst (λ (ps : List PartShelf). All (IsPartShelf (closed_in s.fed changed) (dones_of changed)) ps) (sym h.parts)
        (subst (λ (n : ℕ). All (IsPartShelf n (dones_of changed)) t.parts.items) (closed-same h)
        (subst (λ (ns : List ℕ). All (IsPartShelf (closed_in s.fed t) ns) t.parts.items) (sym (dones-same h)) was.each));
  }

  pub shelves-raised : Raises s next u t changed k raised → AreShelves s → AreShelves next
  shelves-raised h are =
      let was : IsTopicShelf s.fed t = All-slice_get (IsTopicShelf s.fed) s.topics.items ((routes_in s).output u) t are.each h.replaces.at in
      shelves-kept h.replaces h.fed (subst (λ (n : ℕ). IsTopicShelf n changed) (sym h.fed) (topic-raised h was)) are

  parts-same : Raises s next u t changed k raised → (i q : ℕ) → part_at next i q ≡ part_at s i q
  parts-same h i q = ⊎_elim
      (λ (same : i ≡ (routes_in s).output u). subst (λ (i : ℕ). part_at next i q ≡ part_at s i q) (sym same)
      (part-there h.replaces q ∙ ap (λ (ps : List PartShelf). slice_get ps q) h.parts ∙ sym (part-was h.replaces q)))
      (λ (apart : ¬ (i ≡ (routes_in s).output u)). part-else h.replaces i apart q)
      (cases_eq i ((routes_in s).output u))

  pub task-raised : Raises s next u t changed k raised → task_at next u ≡ Some raised
  task-raised h =
      task-there h.replaces u refl ∙ ap (λ (ks : List TaskShelf). slice_get ks u.part) h.tasks ∙ slice_get-set_same t.tasks.items u.part k raised h.there

  task-before : Raises s next u t changed k raised → task_at s u ≡ Some k
  task-before h = task-was h.replaces u refl ∙ h.there

  -- tasks of another output or another partition
  task-apart : Raises s next u t changed k raised → (v : TaskName) → ((routes_in s).output v ≡ (routes_in s).output u → ¬ (v.part ≡ u.part)) → task_at next v ≡ task_at s v
  task-apart h v apart = ⊎_elim
      (λ (same : (routes_in s).output v ≡ (routes_in s).output u). task-there h.replaces v same ∙ ap (λ (ks : List TaskShelf). slice_get ks v.part) h.tasks
      ∙ slice_get-set_else t.tasks.items u.part v.part raised (apart same) ∙ sym (task-was h.replaces v same))
      (λ (other : ¬ ((routes_in s).output v ≡ (routes_in s).output u)). task-else h.replaces v other)
      (cases_eq ((routes_in s).output v) ((routes_in s).output u))

  -- the task of that output and that partition
  task-same : Raises s next u t changed k raised → (v : TaskName) → (routes_in s).output v ≡ (routes_in s).output u → v.part ≡ u.part →
      (task_at next v ≡ Some raised) × (task_at s v ≡ Some k)
  task-same h v output part = (
    task-there h.replaces v output ∙ ap (slice_get changed.tasks.items) part ∙ ap (λ (ks : List TaskShelf). slice_get ks u.part) h.tasks
        ∙ slice_get-set_same t.tasks.items u.part k raised h.there,
    task-was h.replaces v output ∙ ap (slice_get t.tasks.items) part ∙ h.there,
  )

  -- the values of f on the tasks are unchanged if its value on the raised task is
  pub said-same : {X : Type 0} (f : TaskShelf → X) → Raises s next u t changed k raised → f raised ≡ f k → (v : TaskName) → option_map f (task_at next v) ≡ option_map f (task_at s v)
  said-same f h same v = ⊎_elim
      (λ (output : (routes_in s).output v ≡ (routes_in s).output u). ⊎_elim
      (λ (part : v.part ≡ u.part).
      let both : (task_at next v ≡ Some raised) × (task_at s v ≡ Some k) = task-same h v output part in
      ap (option_map f) both.0 ∙ ap Some same ∙ sym (ap (option_map f) both.1))
      (λ (apart : ¬ (v.part ≡ u.part)). ap (option_map f) (task-apart h v (λ _. apart)))
      (cases_eq v.part u.part))
      (λ (apart : ¬ ((routes_in s).output v ≡ (routes_in s).output u)). ap (option_map f) (task-apart h v (λ e. absurd (apart e))))
      (cases_eq ((routes_in s).output v) ((routes_in s).output u))

  waiting-same : Raises s next u t changed k raised → (v : TaskName) (q : ℕ) → (shelf_of next).waiting v q ≡ (shelf_of s).waiting v q
  waiting-same h v q =
      ap (λ (r : Routes). unwrap_or (option_map (waiting_in v.part) (part_at next (r.output v) q)) []) (routes-same h.replaces)
      ∙ ap (λ (o : Option PartShelf). unwrap_or (option_map (waiting_in v.part) o) []) (parts-same h ((routes_in s).output v) q)

  pub newest-raised : Raises s next u t changed k raised → (shelf_of next).newest u ≡ raised.newest
  newest-raised h = ap (λ (o : Option TaskShelf). unwrap_or (option_map (λ (k : TaskShelf). k.newest) o) 0) (task-raised h)

  pub newest-before : Raises s next u t changed k raised → (shelf_of s).newest u ≡ k.newest
  newest-before h = ap (λ (o : Option TaskShelf). unwrap_or (option_map (λ (k : TaskShelf). k.newest) o) 0) (task-before h)

  pub raises : Raises s next u t changed k raised → IsWriter (routes_in s) u → ShelfRaises (routes_in s) u (shelf_of s) (shelf_of next)
  raises h is = record {
    fed = h.fed;
    shown = λ i q. ap (λ (o : Option PartShelf). unwrap_or (option_map shown_in o) []) (parts-same h i q);
    waiting = λ v writes q. waiting-same h v q;
    done = λ v writes. ap (λ (o : Option ℕ). unwrap_or o 0) (said-same (λ (k : TaskShelf). k.done) h h.done v);
    logs = λ v writes. ap (λ (o : Option (List StoreEntry)). unwrap_or o []) (said-same (λ (k : TaskShelf). k.logs.items) h (ap (λ (l : Vec StoreEntry). l.items) h.logs) v);
    newest = newest-raised h ∙ h.newest ∙ ap (λ (n : ℕ). n + 1) (sym (newest-before h));
    newest_else = λ v writes apart. ap (λ (o : Option TaskShelf). unwrap_or (option_map (λ (k : TaskShelf). k.newest) o) 0)
        (task-apart h v (λ output part. apart (same-task s v u writes is output part)));
  }

-- ---- a prepared commit stays ready

logs-alike : (a b : Option TaskShelf) → option_map (λ (k : TaskShelf). k.logs) b ≡ option_map (λ (k : TaskShelf). k.logs) a → Alike HasLogRoomAfter a b
logs-alike None None same = tt
logs-alike None (Some y) same = cc
logs-alike (Some x) None same = cc
logs-alike (Some x) (Some y) same = λ more room. subst (λ (l : Vec StoreEntry). length l.items + more ≤ vec_capacity l) (sym (same_Some y.logs x.logs same)) room

pub ready-raised : {s next : Shelves} {u : TaskName} {t changed : TopicShelf} {k raised : TaskShelf} → Raises s next u t changed k raised → (made : Prepared) (p : Proposal) → IsReady s made p → IsReady next made p
ready-raised {s = s} {next = next} h made p =
    ready-alike s next made p (topics-same h.replaces)
    (λ i q. alike-same HasRoomAfter (λ p writer more room. room) (part_at s i q) (part_at next i q) (parts-same h i q))
    (λ v. logs-alike (task_at s v) (task_at next v) (said-same (λ (k : TaskShelf). k.logs) h h.logs v))
