use Rattle.std.proofs.Common.{◌≡◌, ◌∙◌, ap, sym, refl, ◌<◌, length, Some}
use Rattle.std.specs.Prelude.{slice_get}
use Rattle.std.proofs.lemmas.Option.{slice_get_read}
use Rattle.core_state.specs.Shelf.{shelf_closed}
use Rattle.core_state.specs.State.{lowest}
use Rattle.topic_log.specs.declared.shelves.Shelves.{Shelves}
use Rattle.topic_log.specs.declared.shelves.TaskShelf.{TaskShelf}
use Rattle.topic_log.specs.declared.shelves.TopicShelf.{TopicShelf}
use Rattle.topic_log.specs.Shelves.{routes_in, shelf_of}
use Rattle.topic_log.proofs.OneTopic.{closed-is}
use Rattle.topic_log.proofs.Read.{topic-inside}
use Rattle.topic_log.proofs.broker.Broker.closed.Goals as goal

pub returns : goal.returns
returns c =
    let s : Shelves = c.self.inside.inner in
    let t : TopicShelf = c.index.result.now in
    let inside : c.args.topic < length s.topics.items = topic-inside s c.args.self.now c.args.topic c.self.view_is c.requires in
    let at : slice_get s.topics.items c.args.topic ≡ Some t = slice_get_read s.topics.items (length s.topics.items) c.args.topic t refl inside c.index.ensures in
    c.closed_of.ensures ∙ ap (lowest s.fed (λ (k : TaskShelf). k.done)) c.deref.ensures.value
    ∙ sym (closed-is s c.self.invariant.0 c.args.topic t at)
    ∙ ap (λ (s : Shelves). shelf_closed (routes_in s) (shelf_of s) c.args.topic) c.self.view_is
