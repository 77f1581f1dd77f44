-- Room that was reserved stays, and with it what was prepared.
use Rattle.std.proofs.Common.{◌≡◌, ◌∙◌, ◌⊎◌, ap, sym, subst, ℕ, zero, suc, ◌+◌, ◌<◌, ◌≤◌, List, [], ◌∷◌, map, length, sum, get_or, set, inl, inr, arith, Option, Some, None, Global}
use Rattle.std.specs.Prelude.{IfSome, slice_get}
use Rattle.std.specs.List.{AllZip}
use Rattle.std.specs.VecDeque.{deque_capacity}
use Rattle.std.specs.declared.collections.VecDeque.{VecDeque}
use Rattle.std.proofs.lemmas.Bool.{cases_eq}
use Rattle.ksql_types.specs.declared.relation.TaskName.{TaskName}
use Rattle.ksql_place.specs.declared.change.Change.{Change}
use Rattle.core_state.specs.declared.log.Proposal.{Proposal}
use Rattle.topic_log.specs.declared.prepared.Prepared.{Prepared}
use Rattle.topic_log.specs.declared.shelves.PartShelf.{PartShelf}
use Rattle.topic_log.specs.declared.shelves.Shelves.{Shelves}
use Rattle.topic_log.specs.declared.shelves.TaskShelf.{TaskShelf}
use Rattle.topic_log.specs.declared.shelves.TopicShelf.{TopicShelf}
use Rattle.topic_log.specs.Ready.{IsReady, waiting_len}
use Rattle.topic_log.specs.Shelves.{part_at, routes_in, task_at}
use Rattle.topic_log.specs.Taking.{KeepsLogRoom, KeepsRoom, KeepsRooms}
use Rattle.topic_log.specs.Views.{PartView, TaskView, TopicView, part_view, task_view, topic_view}
use Rattle.topic_log.proofs.OneTopic.{Replaces, map-map, part-else, part-there, part-was, task-else, task-there, task-was, topics-same}
use Rattle.topic_log.proofs.Readiness.{Alike, HasLogRoomAfter, HasRoomAfter, alike-same, ready-alike}

-- ---- lists side by side

module _ {A : Type 0} (R : A → A → Type 0) where
  pub zip-same : ((x : A) → R x x) → (xs : List A) → AllZip R xs xs
  zip-same each [] = tt
  zip-same each (x ∷ xs) = (each x, zip-same each xs)

  -- what is written is beside what was read there
  pub zip-written : ((x y z : A) → R x y → R y z → R x z) → (xs ys : List A) (i : ℕ) (y z : A) → i < length ys → y ≡ get_or ys i y → R y z → AllZip R xs ys → AllZip R xs (set ys i z)
  zip-written along xs [] i y z inside is now zip = absurd (omega (arith, inside))
  zip-written along [] (v ∷ ys) i y z inside is now zip = absurd zip
  zip-written along (u ∷ xs) (v ∷ ys) zero y z inside is now zip = (along u v z zip.0 (subst (λ (w : A). R w z) is now), zip.1)
  zip-written along (u ∷ xs) (v ∷ ys) (suc i) y z inside is now zip = (zip.0, zip-written along xs ys i y z (omega (arith, inside)) is now zip.1)

  -- and f says the same of both
  zip-and : {B : Type 0} (f : A → B) (xs ys : List A) → map f ys ≡ map f xs → AllZip R xs ys → AllZip (λ x y. (f y ≡ f x) × R x y) xs ys
  zip-and f [] [] same zip = tt
  zip-and f [] (y ∷ ys) same zip = absurd zip
  zip-and f (x ∷ xs) [] same zip = absurd zip
  zip-and f (x ∷ xs) (y ∷ ys) same zip =
      let first : f y ≡ f x = cc in
      let more : map f ys ≡ map f xs = cc in
      ((first, zip.0), zip-and f xs ys more zip.1)

  alike-at : (xs ys : List A) (i : ℕ) → AllZip R xs ys → Alike R (slice_get xs i) (slice_get ys i)
  alike-at [] [] i zip = tt
  alike-at [] (y ∷ ys) i zip = absurd zip
  alike-at (x ∷ xs) [] i zip = absurd zip
  alike-at (x ∷ xs) (y ∷ ys) zero zip = zip.0
  alike-at (x ∷ xs) (y ∷ ys) (suc i) zip = alike-at xs ys i zip.1

alike-weaker : {A : Type 0} (R S : A → A → Type 0) → ((x y : A) → R x y → S x y) → (a b : Option A) → Alike R a b → Alike S a b
alike-weaker R S weaker None None alike = tt
alike-weaker R S weaker None (Some y) alike = absurd alike
alike-weaker R S weaker (Some x) None alike = absurd alike
alike-weaker R S weaker (Some x) (Some y) alike = weaker x y alike

-- ---- no room is lost

pub rooms-along : (p q r : PartShelf) → KeepsRoom p q → KeepsRoom q r → KeepsRoom p r
rooms-along p q r h k = record {
  shown = omega (arith, h.shown, k.shown);
  waiting = by p.waiting.items q.waiting.items r.waiting.items h.waiting k.waiting;
}
  where
    by : (us vs ws : List (VecDeque Change Global)) → AllZip (λ w v. deque_capacity w ≤ deque_capacity v) us vs → AllZip (λ w v. deque_capacity w ≤ deque_capacity v) vs ws →
        AllZip (λ w v. deque_capacity w ≤ deque_capacity v) us ws
    by [] [] ws h k = k
    by [] (v ∷ vs) ws h k = absurd h
    by (u ∷ us) [] ws h k = absurd h
    by (u ∷ us) (v ∷ vs) [] h k = absurd k
    by (u ∷ us) (v ∷ vs) (w ∷ ws) h k = (omega (arith, h.0, k.0), by us vs ws h.1 k.1)

pub rooms-same : (p : PartShelf) → KeepsRoom p p
rooms-same p = record { shown = omega arith; waiting = zip-same (λ w v. deque_capacity w ≤ deque_capacity v) (λ w. omega arith) p.waiting.items }

pub topic-rooms-same : (t : TopicShelf) → KeepsRooms t t
topic-rooms-same t = record { parts = zip-same KeepsRoom rooms-same t.parts.items; logs = zip-same KeepsLogRoom (λ k. omega arith) t.tasks.items }

-- ---- where the content is the same too, there is room for what there was

part-after : (p q : PartShelf) → (part_view q ≡ part_view p) × KeepsRoom p q → HasRoomAfter p q
part-after p q keeps writer more room = record {
  shown =
      let long : length q.said.items ≡ length p.said.items = ap (λ (v : PartView). length v.said) keeps.0 in
      let waits : waiting_len q ≡ waiting_len p =
      sym (ap sum (map-map length (λ w. w.items) q.waiting.items)) ∙ ap (λ (v : PartView). sum (map length v.waiting)) keeps.0 ∙ ap sum (map-map length (λ w. w.items) p.waiting.items) in
      omega (arith, long, waits, room.shown, keeps.1.shown);
  waiting = by (slice_get p.waiting.items writer) (slice_get q.waiting.items writer)
      (alike-at (λ w v. (v.items ≡ w.items) × (deque_capacity w ≤ deque_capacity v)) p.waiting.items q.waiting.items writer
      (zip-and (λ w v. deque_capacity w ≤ deque_capacity v) (λ w. w.items) p.waiting.items q.waiting.items (ap (λ (v : PartView). v.waiting) keeps.0) keeps.1.waiting))
      room.waiting;
}
  where
    fits : (w v : VecDeque Change Global) → v.items ≡ w.items → deque_capacity w ≤ deque_capacity v → (w.items ≡ []) ⊎ (length w.items + more ≤ deque_capacity w) →
        (v.items ≡ []) ⊎ (length v.items + more ≤ deque_capacity v)
    fits w v same wide (inl none) = inl (same ∙ none)
    fits w v same wide (inr room) = let long : length v.items ≡ length w.items = ap length same in inr (omega (arith, long, wide, room))

    by : (a b : Option (VecDeque Change Global)) → Alike (λ w v. (v.items ≡ w.items) × (deque_capacity w ≤ deque_capacity v)) a b →
        IfSome a (λ w. (w.items ≡ []) ⊎ (length w.items + more ≤ deque_capacity w)) → IfSome b (λ w. (w.items ≡ []) ⊎ (length w.items + more ≤ deque_capacity w))
    by a None alike room = tt
    by None (Some v) alike room = absurd alike
    by (Some w) (Some v) alike room = fits w v alike.0 alike.1 room

task-after : (k l : TaskShelf) → (task_view l ≡ task_view k) × KeepsLogRoom k l → HasLogRoomAfter k l
task-after k l keeps more room = let long : length l.logs.items ≡ length k.logs.items = ap (λ (v : TaskView). length v.logs) keeps.0 in omega (arith, long, keeps.1, room)

module _ {s next : Shelves} {i : ℕ} {t changed : TopicShelf} (h : Replaces s next i t changed) (same : topic_view changed ≡ topic_view t) (keeps : KeepsRooms t changed) where
  parts-after : (j q : ℕ) → Alike HasRoomAfter (part_at s j q) (part_at next j q)
  parts-after j q = by (cases_eq j i)
    where
      here : Alike HasRoomAfter (slice_get t.parts.items q) (slice_get changed.parts.items q)
      here = alike-weaker (λ p r. (part_view r ≡ part_view p) × KeepsRoom p r) HasRoomAfter part-after (slice_get t.parts.items q) (slice_get changed.parts.items q)
          (alike-at (λ p r. (part_view r ≡ part_view p) × KeepsRoom p r) t.parts.items changed.parts.items q
          (zip-and KeepsRoom part_view t.parts.items changed.parts.items (ap (λ (v : TopicView). v.parts) same) keeps.parts))

      by : (j ≡ i) ⊎ ¬ (j ≡ i) → Alike HasRoomAfter (part_at s j q) (part_at next j q)
      by (inl is) = subst (λ (k : ℕ). Alike HasRoomAfter (part_at s k q) (part_at next k q)) (sym is)
          (subst (λ (o : Option PartShelf). Alike HasRoomAfter o (part_at next i q)) (sym (part-was h q))
          (subst (λ (o : Option PartShelf). Alike HasRoomAfter (slice_get t.parts.items q) o) (sym (part-there h q)) here))
      by (inr apart) = alike-same HasRoomAfter (λ p writer more room. room) (part_at s j q) (part_at next j q) (part-else h j apart q)

  tasks-after : (v : TaskName) → Alike HasLogRoomAfter (task_at s v) (task_at next v)
  tasks-after v = by (cases_eq ((routes_in s).output v) i)
    where
      here : Alike HasLogRoomAfter (slice_get t.tasks.items v.part) (slice_get changed.tasks.items v.part)
      here = alike-weaker (λ k l. (task_view l ≡ task_view k) × KeepsLogRoom k l) HasLogRoomAfter task-after (slice_get t.tasks.items v.part) (slice_get changed.tasks.items v.part)
          (alike-at (λ k l. (task_view l ≡ task_view k) × KeepsLogRoom k l) t.tasks.items changed.tasks.items v.part
          (zip-and KeepsLogRoom task_view t.tasks.items changed.tasks.items (ap (λ (v : TopicView). v.tasks) same) keeps.logs))

      by : ((routes_in s).output v ≡ i) ⊎ ¬ ((routes_in s).output v ≡ i) → Alike HasLogRoomAfter (task_at s v) (task_at next v)
      by (inl to) = subst (λ (o : Option TaskShelf). Alike HasLogRoomAfter o (task_at next v)) (sym (task-was h v to))
          (subst (λ (o : Option TaskShelf). Alike HasLogRoomAfter (slice_get t.tasks.items v.part) o) (sym (task-there h v to)) here)
      by (inr apart) = alike-same HasLogRoomAfter (λ k more room. room) (task_at s v) (task_at next v) (task-else h v apart)

  pub ready-kept : (made : Prepared) (p : Proposal) → IsReady s made p → IsReady next made p
  ready-kept made p = ready-alike s next made p (topics-same h) parts-after tasks-after
