-- When a commit is ready.
use Rattle.std.proofs.Common.{◌≡◌, ◌∙◌, ℕ, length, sym, ap, subst, Some, None, List}
use Rattle.std.specs.Prelude.{⊤, IfSome, Option, filter, option_map, slice_get, unwrap_or, vec_capacity, ◌+◌, ◌≤◌}
use Rattle.ksql_types.specs.declared.relation.TaskName.{TaskName}
use Rattle.ksql_types.specs.declared.topic.TopicSpec.{TopicSpec}
use Rattle.ksql_place.specs.Routing.{is_to, partitions_of}
use Rattle.core_state.specs.Routes.{IsWriter, Routes, routes_of, sent_to}
use Rattle.core_state.specs.declared.log.Proposal.{Proposal}
use Rattle.topic_log.specs.declared.prepared.Prepared.{Prepared}
use Rattle.topic_log.specs.declared.shelves.PartShelf.{PartShelf}
use Rattle.topic_log.specs.declared.shelves.Shelves.{Shelves}
use Rattle.topic_log.specs.declared.shelves.TaskShelf.{TaskShelf}
use Rattle.topic_log.specs.declared.shelves.TopicShelf.{TopicShelf}
use Rattle.topic_log.specs.Ready.{HasRoom, IsProposal, IsReady}
use Rattle.topic_log.specs.Shelves.{AreShelves, IsTopic, IsTopicShelf, part_at, routes_in, task_at, topics_of}
use Rattle.topic_log.specs.Taking.{HasRoomFor, count_to}
use Rattle.topic_log.specs.Views.{EachAt}
use Rattle.topic_log.proofs.EachPlace.{EachAt-IfSome}
use Rattle.topic_log.proofs.OneTopic.{All-slice_get, Replaces, part-there, routes-same, spec-at, task-there, topic-there}

IfSome-any : {A : Type 0} (X : Type 0) (o : Option A) → X → IfSome o (λ _. X)
IfSome-any X None x = tt
IfSome-any X (Some y) x = x

-- a proposal and its outputs sorted by their partitions among n
pub record IsSorted (n : ℕ) (made : Prepared) (p : Proposal) : Type 0 where
  pub task : made.task ≡ p.task
  pub generation : made.generation ≡ p.generation
  pub from : made.from ≡ p.from
  pub to : made.to ≡ p.to
  pub entries : made.entries.items ≡ p.entries
  pub len : length made.sent.items ≡ n
  pub sent : EachAt (λ q xs. xs.items ≡ filter (is_to n q) p.outputs) made.sent.items

-- a topic has 1 to 64 partitions
pub record HasParts (t : TopicShelf) : Type 0 where
  pub some : 1 ≤ t.spec.partitions
  pub few : t.spec.partitions ≤ 64
  pub count : length t.parts.items ≡ t.spec.partitions

pub has-parts : (s : Shelves) (i : ℕ) (t : TopicShelf) → AreShelves s → slice_get s.topics.items i ≡ Some t → HasParts t
has-parts s i t are at =
    let spec : IsTopic t.spec = All-slice_get IsTopic (topics_of s) i t.spec are.topics.each (spec-at s i t at) in
    record {
      some = spec.some;
      few = spec.few;
      count = (All-slice_get (IsTopicShelf s.fed) s.topics.items i t are.each at).parts;
    }

-- the partitions of the topic that a task writes
partitions-there : (s next : Shelves) (i : ℕ) (t changed : TopicShelf) → Replaces s next i t changed → (u : TaskName) → i ≡ (routes_in s).output u →
    partitions_of (topics_of next) ((routes_in next).output u) ≡ t.spec.partitions
partitions-there s next i t changed h u is =
    ap (λ (r : Routes). partitions_of (topics_of next) (r.output u)) (routes-same h) ∙ ap (partitions_of (topics_of next)) (sym is)
    ∙ ap (λ (o : Option TopicSpec). unwrap_or (option_map (λ t. t.partitions) o) 1) (spec-at next i changed (topic-there h))
    ∙ ap (λ (t : TopicSpec). t.partitions) h.spec

pub ready : (s next : Shelves) (i : ℕ) (t changed : TopicShelf) (p : Proposal) (made : Prepared) → Replaces s next i t changed → IsWriter (routes_in s) p.task → i ≡ (routes_in s).output p.task →
    IsProposal p → HasRoomFor p changed → IsSorted t.spec.partitions made p → IsReady next made p
ready s next i t changed p made h writer is proposal room sorted =
    let routes : routes_in next ≡ routes_in s = routes-same h in
    let topic : i ≡ (routes_in next).output p.task = is ∙ sym (ap (λ (r : Routes). r.output p.task) routes) in
    let parts : t.spec.partitions ≡ partitions_of (topics_of next) ((routes_in next).output p.task) = sym (partitions-there s next i t changed h p.task is) in
    let here : (q : ℕ) → slice_get changed.parts.items q ≡ part_at next ((routes_in next).output p.task) q =
    λ q. sym (part-there h q) ∙ ap (λ (j : ℕ). part_at next j q) topic in
    record {
      writer = subst (λ (r : Routes). IsWriter r p.task) (sym routes) writer;
      proposal = proposal;
      task = sorted.task;
      generation = sorted.generation;
      from = sorted.from;
      to = sorted.to;
      entries = sorted.entries;
      sent = λ q. IfSome-any _ (part_at next ((routes_in next).output p.task) q)
          (subst (λ (n : ℕ). IfSome (slice_get made.sent.items q) (λ xs. xs.items ≡ filter (is_to n q) p.outputs)) parts
          (EachAt-IfSome (λ q xs. xs.items ≡ filter (is_to t.spec.partitions q) p.outputs) made.sent.items sorted.sent q));
      parts = sorted.len ∙ parts;
      room = subst (λ (o : Option TaskShelf). IfSome o (λ k. length k.logs.items + length p.entries ≤ vec_capacity k.logs)) (sym (task-there h p.task (sym is))) room.logs;
      rooms = λ q. subst (λ (o : Option PartShelf). IfSome o (HasRoom p.task.part (count_to (partitions_of (topics_of next) ((routes_in next).output p.task)) p.outputs q))) (here q)
          (subst (λ (n : ℕ). IfSome (slice_get changed.parts.items q) (HasRoom p.task.part (count_to n p.outputs q))) (ap (λ (t : TopicSpec). t.partitions) h.spec ∙ parts)
          (EachAt-IfSome (λ q part. HasRoom p.task.part (count_to changed.spec.partitions p.outputs q) part) changed.parts.items room.parts q));
    }

-- ---- what was prepared stays ready

-- both are none, or both are there, in this relation
abbrev pub Alike : {A : Type 0} → (A → A → Type 0) → Option A → Option A → Type 0
Alike R None None = ⊤
Alike R None (Some y) = ⊥
Alike R (Some x) None = ⊥
Alike R (Some x) (Some y) = R x y

pub alike-same : {A : Type 0} (R : A → A → Type 0) → ((x : A) → R x x) → (a b : Option A) → b ≡ a → Alike R a b
alike-same R each a b same = subst (λ (o : Option _). Alike R a o) (sym same) (here a)
  where
    here : (o : Option _) → Alike R o o
    here None = tt
    here (Some x) = each x

-- a partition, or a changelog, has room for all that it had room for
abbrev pub HasRoomAfter : PartShelf → PartShelf → Type 0
HasRoomAfter was now = (writer more : ℕ) → HasRoom writer more was → HasRoom writer more now

abbrev pub HasLogRoomAfter : TaskShelf → TaskShelf → Type 0
HasLogRoomAfter was now = (more : ℕ) → length was.logs.items + more ≤ vec_capacity was.logs → length now.logs.items + more ≤ vec_capacity now.logs

IfSome-alike : {A : Type 0} (R : A → A → Type 0) (P Q : A → Type 0) → ((x y : A) → R x y → P x → Q y) → (a b : Option A) → Alike R a b → IfSome a P → IfSome b Q
IfSome-alike R P Q along a None alike holds = tt
IfSome-alike R P Q along None (Some y) alike holds = absurd alike
IfSome-alike R P Q along (Some x) (Some y) alike holds = along x y alike holds

pub ready-alike : (s next : Shelves) (made : Prepared) (p : Proposal) → topics_of next ≡ topics_of s → ((i q : ℕ) → Alike HasRoomAfter (part_at s i q) (part_at next i q)) →
    ((v : TaskName) → Alike HasLogRoomAfter (task_at s v) (task_at next v)) → IsReady s made p → IsReady next made p
ready-alike s next made p topics parts logs ready =
    let routes : routes_in s ≡ routes_in next = ap routes_of (sym topics) in
    let output : ℕ = (routes_in s).output p.task in
    record {
      writer = subst (λ (r : Routes). IsWriter r p.task) routes ready.writer;
      proposal = ready.proposal;
      task = ready.task;
      generation = ready.generation;
      from = ready.from;
      to = ready.to;
      entries = ready.entries;
      sent = λ q.
          subst (λ (r : Routes). IfSome (part_at next (r.output p.task) q) (λ part. IfSome (slice_get made.sent.items q) (λ xs. xs.items ≡ sent_to r p.task q p.outputs))) routes
          (IfSome-alike HasRoomAfter (λ part. IfSome (slice_get made.sent.items q) (λ xs. xs.items ≡ sent_to (routes_in s) p.task q p.outputs))
          (λ part. IfSome (slice_get made.sent.items q) (λ xs. xs.items ≡ sent_to (routes_in s) p.task q p.outputs)) (λ x y alike sent. sent)
          (part_at s output q) (part_at next output q) (parts output q) (ready.sent q));
      parts = subst (λ (ts : List TopicSpec). length made.sent.items ≡ partitions_of ts ((routes_of ts).output p.task)) (sym topics) ready.parts;
      room = IfSome-alike HasLogRoomAfter (λ k. length k.logs.items + length p.entries ≤ vec_capacity k.logs) (λ k. length k.logs.items + length p.entries ≤ vec_capacity k.logs)
          (λ k l after. after (length p.entries)) (task_at s p.task) (task_at next p.task) (logs p.task) ready.room;
      rooms = λ q.
          subst (λ (r : Routes). IfSome (part_at next (r.output p.task) q) (HasRoom p.task.part (length (sent_to r p.task q p.outputs)))) routes
          (IfSome-alike HasRoomAfter (HasRoom p.task.part (length (sent_to (routes_in s) p.task q p.outputs))) (HasRoom p.task.part (length (sent_to (routes_in s) p.task q p.outputs)))
          (λ x y after. after p.task.part (length (sent_to (routes_in s) p.task q p.outputs))) (part_at s output q) (part_at next output q) (parts output q) (ready.rooms q));
    }
