use Rattle.std.proofs.Common.{◌≡◌, ◌∙◌, ap, sym, refl, subst, ℕ, ◌<◌, length, get_or, Some}
use Rattle.std.specs.Prelude.{IsSome, slice_get}
use Rattle.std.proofs.lemmas.Option.{slice_get_read}
use Rattle.ksql_place.specs.Routing.{partitions_of}
use Rattle.topic_log.specs.declared.shelves.Shelves.{Shelves}
use Rattle.topic_log.specs.declared.shelves.TopicShelf.{TopicShelf}
use Rattle.topic_log.specs.Shelves.{part_at, topics_of}
use Rattle.topic_log.proofs.Read.{part-is_there, partitions-at, topic-inside}
use Rattle.topic_log.proofs.broker.Broker.partitions.Goals as goal

there : (s now : Shelves) (i : ℕ) (t : TopicShelf) → s ≡ now → i < length (topics_of now) → t ≡ get_or s.topics.items i t → slice_get s.topics.items i ≡ Some t
there s now i t same inside read = slice_get_read s.topics.items (length s.topics.items) i t refl (topic-inside s now i same inside) read

pub returns-clause-number : goal.returns-clause-number
returns-clause-number c =
    let s : Shelves = c.self.inside.inner in
    let t : TopicShelf = c.index.result.now in
    let at : slice_get s.topics.items c.args.topic ≡ Some t = there s c.args.self.now c.args.topic t c.self.view_is c.requires c.index.ensures in
    sym (partitions-at s c.args.topic t at) ∙ ap (λ (s : Shelves). partitions_of (topics_of s) c.args.topic) c.self.view_is

pub returns-clause-parts : goal.returns-clause-parts
returns-clause-parts c = λ part below.
    let s : Shelves = c.self.inside.inner in
    let t : TopicShelf = c.index.result.now in
    let at : slice_get s.topics.items c.args.topic ≡ Some t = there s c.args.self.now c.args.topic t c.self.view_is c.requires c.index.ensures in
    subst (λ (s : Shelves). IsSome (part_at s c.args.topic part)) c.self.view_is (part-is_there s c.self.invariant.0 c.args.topic t at part below)
