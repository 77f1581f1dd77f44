use Rattle.std.proofs.Common.{◌≡◌, ℕ, ◌<◌, length, get_or, ap, refl, sym, subst}
use Rattle.std.specs.Vec.{with_item}
use Rattle.std.proofs.lemmas.Option.{slice_get_read, slice_get_within}
use Rattle.core_state.specs.Routes.{IsWriter}
use Rattle.core_state.specs.declared.log.Proposal.{Proposal}
use Rattle.topic_log.specs.declared.shelves.Shelves.{Shelves}
use Rattle.topic_log.specs.declared.shelves.TopicShelf.{TopicShelf}
use Rattle.topic_log.specs.Shelves.{AreShelves, routes_in}
use Rattle.topic_log.specs.Views.{TopicView, topic_view}
use Rattle.topic_log.proofs.EachPlace.{map-written}
use Rattle.topic_log.proofs.KeptRoom.{ready-kept}
use Rattle.topic_log.proofs.OneTopic.{Replaces, writes}
use Rattle.topic_log.proofs.Readiness.{HasParts, has-parts, ready}
use Rattle.topic_log.proofs.ViewLemmas.{AreShelves-same}
use Rattle.topic_log.proofs.prepared.prepare.Goals as goal

-- the topic of a task is there
inside : (s : Shelves) (p : Proposal) (i : ℕ) → AreShelves s → IsWriter (routes_in s) p.task → i ≡ (routes_in s).output p.task → i < length s.topics.items
inside s p i are writer is =
    let kept = writes s p.task are writer in
    subst (λ (j : ℕ). j < length s.topics.items) (sym is) (slice_get_within s.topics.items ((routes_in s).output p.task) kept.topic kept.at)

abbrev with_topic : Shelves → ℕ → TopicShelf → Shelves
with_topic s i t = record { fed = s.fed; topics = with_item s.topics i t }

has : (s : Shelves) (p : Proposal) (i : ℕ) (t : TopicShelf) → AreShelves s → IsWriter (routes_in s) p.task → i ≡ (routes_in s).output p.task → t ≡ get_or s.topics.items i t → HasParts t
has s p i t are writer is at = has-parts s i t are (slice_get_read s.topics.items (length s.topics.items) i t refl (inside s p i are writer is) at)

pub take_room-requires-clause-some : goal.take_room-requires-clause-some
take_room-requires-clause-some c =
    (has c.args.shelves.now c.args.proposal c.args.number c.index_mut-topic.result.now c.requires.shelves c.requires.writer c.requires.number c.index_mut-topic.ensures.value).some

pub take_room-requires-clause-few : goal.take_room-requires-clause-few
take_room-requires-clause-few c =
    (has c.args.shelves.now c.args.proposal c.args.number c.index_mut-topic.result.now c.requires.shelves c.requires.writer c.requires.number c.index_mut-topic.ensures.value).few

pub take_room-requires-clause-parts : goal.take_room-requires-clause-parts
take_room-requires-clause-parts c =
    (has c.args.shelves.now c.args.proposal c.args.number c.index_mut-topic.result.now c.requires.shelves c.requires.writer c.requires.number c.index_mut-topic.ensures.value).count

pub sorted-requires-clause-some : goal.sorted-requires-clause-some
sorted-requires-clause-some c =
    (has c.args.shelves.now c.args.proposal c.args.number c.index_mut-topic.result.now c.requires.shelves c.requires.writer c.requires.number c.index_mut-topic.ensures.value).some

pub sorted-requires-clause-few : goal.sorted-requires-clause-few
sorted-requires-clause-few c =
    (has c.args.shelves.now c.args.proposal c.args.number c.index_mut-topic.result.now c.requires.shelves c.requires.writer c.requires.number c.index_mut-topic.ensures.value).few

pub returns-in-Ok-clause-views : goal.returns-in-Ok-clause-views
returns-in-Ok-clause-views c =
    let s = c.args.shelves.now in
    map-written topic_view s.topics.items c.args.number c.index_mut-topic.result.now c.take_room.new.topic
    (inside s c.args.proposal c.args.number c.requires.shelves c.requires.writer c.requires.number) c.index_mut-topic.ensures.value c.take_room.ensures.view

pub returns-in-Ok-clause-shelves : goal.returns-in-Ok-clause-shelves
returns-in-Ok-clause-shelves c =
    AreShelves-same c.args.shelves.now (with_topic c.args.shelves.now c.args.number c.take_room.new.topic) (returns-in-Ok-clause-views c) refl c.requires.shelves

replaces : (s : Shelves) (p : Proposal) (i : ℕ) (t changed : TopicShelf) → AreShelves s → IsWriter (routes_in s) p.task → i ≡ (routes_in s).output p.task → t ≡ get_or s.topics.items i t →
    topic_view changed ≡ topic_view t → Replaces s (with_topic s i changed) i t changed
replaces s p i t changed are writer is at view = record {
  at = slice_get_read s.topics.items (length s.topics.items) i t refl (inside s p i are writer is) at;
  items = refl;
  spec = ap (λ (v : TopicView). v.spec) view;
}

pub returns-in-Ok-clause-ready : goal.returns-in-Ok-clause-ready
returns-in-Ok-clause-ready c =
    let s = c.args.shelves.now in
    let i = c.args.number in
    ready s (with_topic s i c.take_room.new.topic) i c.index_mut-topic.result.now c.take_room.new.topic c.args.proposal c.sorted.result
    (replaces c.args.shelves.now c.args.proposal c.args.number c.index_mut-topic.result.now c.take_room.new.topic c.requires.shelves c.requires.writer c.requires.number c.index_mut-topic.ensures.value c.take_room.ensures.view)
    c.requires.writer c.requires.number c.requires.proposal
    c.in-Ok.ensures.room
    (record {
      task = c.sorted.ensures.task;
      generation = c.sorted.ensures.generation;
      from = c.sorted.ensures.from;
      to = c.sorted.ensures.to;
      entries = c.sorted.ensures.entries;
      len = c.sorted.ensures.len;
      sent = c.sorted.ensures.sent;
    })

pub returns-in-Ok-clause-kept_ready : goal.returns-in-Ok-clause-kept_ready
returns-in-Ok-clause-kept_ready c =
    ready-kept
    (replaces c.args.shelves.now c.args.proposal c.args.number c.index_mut-topic.result.now c.take_room.new.topic c.requires.shelves c.requires.writer c.requires.number c.index_mut-topic.ensures.value c.take_room.ensures.view)
    c.take_room.ensures.view c.take_room.ensures.kept

pub returns-in-Err-clause-views : goal.returns-in-Err-clause-views
returns-in-Err-clause-views c =
    let s = c.args.shelves.now in
    map-written topic_view s.topics.items c.args.number c.index_mut-topic.result.now c.take_room.new.topic
    (inside s c.args.proposal c.args.number c.requires.shelves c.requires.writer c.requires.number) c.index_mut-topic.ensures.value c.take_room.ensures.view

pub returns-in-Err-clause-shelves : goal.returns-in-Err-clause-shelves
returns-in-Err-clause-shelves c =
    AreShelves-same c.args.shelves.now (with_topic c.args.shelves.now c.args.number c.take_room.new.topic) (returns-in-Err-clause-views c) refl c.requires.shelves

pub returns-in-Err-clause-kept_ready : goal.returns-in-Err-clause-kept_ready
returns-in-Err-clause-kept_ready c =
    ready-kept
    (replaces c.args.shelves.now c.args.proposal c.args.number c.index_mut-topic.result.now c.take_room.new.topic c.requires.shelves c.requires.writer c.requires.number c.index_mut-topic.ensures.value c.take_room.ensures.view)
    c.take_room.ensures.view c.take_room.ensures.kept
