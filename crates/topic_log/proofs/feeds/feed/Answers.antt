use Rattle.std.proofs.Common.{◌≡◌, ◌∙◌, ◌+◌, ℕ, List, length, get_or, ap, refl, sym, subst}
use Rattle.std.specs.Prelude.{Err, IfSome, Ok, OnErr, Result, slice_get}
use Rattle.std.specs.Global.{Vec}
use Rattle.std.proofs.lemmas.Option.{IfSome_then}
use Rattle.ksql_place.specs.declared.change.SourceRecord.{SourceRecord}
use Rattle.core_state.specs.Routes.{routes_of}
use Rattle.core_state.specs.Shelf.{ShelfFeeds, ShelfStays}
use Rattle.ksql_types.specs.declared.topic.TopicSpec.{TopicSpec}
use Rattle.topic_log.specs.declared.shelves.Shelves.{Shelves}
use Rattle.topic_log.specs.declared.shelves.TopicShelf.{TopicShelf}
use Rattle.topic_log.specs.Feeding.{HasShownRoom, IsCounted}
use Rattle.topic_log.specs.Shelves.{routes_in, shelf_of}
use Rattle.topic_log.specs.Views.{EachAt}
use Rattle.topic_log.proofs.Counted.{rooms-counted}
use Rattle.topic_log.proofs.EachPlace.{EachAt-weaker}
use Rattle.topic_log.proofs.Fed.{feeds-after, feeds-next, feeds-ordered, shelves-next, sources-same, sources-there, topics-next}
use Rattle.topic_log.proofs.ViewLemmas.{AreShelves-same, stays, topics-same}
use Rattle.topic_log.proofs.feeds.feed.Goals as goal

OnErr-any : {T E : Type 0} (P : Type 0) (r : Result T E) → P → OnErr r P
OnErr-any P (Ok x) h = tt
OnErr-any P (Err e) h = h

pub reserve_topics-requires-clause-parts : goal.reserve_topics-requires-clause-parts
reserve_topics-requires-clause-parts c =
    let s : Shelves = c.args.shelves.now in
    let counts : List (Vec ℕ) = c.in_ok-counts.counts.items in
    let records : List SourceRecord = c.as_slice-2.result.now in
    let counted : EachAt (λ topic of. IfSome (slice_get s.topics.items topic) (λ t. IsCounted topic records t of.items)) counts =
    subst (λ (ts : List TopicShelf). EachAt (λ topic of. IfSome (slice_get ts topic) (λ t. IsCounted topic records t of.items)) counts) c.as_slice.ensures.value c.in_ok-counts.ensures.counts in
    subst (λ (cs : List (Vec ℕ)). EachAt (λ topic of. IfSome (slice_get s.topics.items topic) (λ t. length of.items ≡ length t.parts.items)) cs) (sym c.as_slice-3.ensures.value)
    (EachAt-weaker (λ topic of. IfSome (slice_get s.topics.items topic) (λ t. IsCounted topic records t of.items)) (λ topic of. IfSome (slice_get s.topics.items topic) (λ t. length of.items ≡ length t.parts.items))
    counts (λ topic of _ h. IfSome_then (slice_get s.topics.items topic) h (λ t is. is.len)) counted)

pub returns-in_err-reserve_topics-clause-shelves : goal.returns-in_err-reserve_topics-clause-shelves
returns-in_err-reserve_topics-clause-shelves c =
    let s : Shelves = c.args.shelves.now in
    let reserved : Shelves = record { fed = s.fed; topics = c.reserve_topics.new.topics } in
    AreShelves-same s reserved c.reserve_topics.ensures.views refl c.requires.shelves

pub returns-in_err-reserve_topics-clause-topics : goal.returns-in_err-reserve_topics-clause-topics
returns-in_err-reserve_topics-clause-topics c =
    let s : Shelves = c.args.shelves.now in
    let reserved : Shelves = record { fed = s.fed; topics = c.reserve_topics.new.topics } in
    topics-same s reserved c.reserve_topics.ensures.views

pub returns-in_err-reserve_topics-clause-kept : goal.returns-in_err-reserve_topics-clause-kept
returns-in_err-reserve_topics-clause-kept c =
    let s : Shelves = c.args.shelves.now in
    let reserved : Shelves = record { fed = s.fed; topics = c.reserve_topics.new.topics } in
    OnErr-any (ShelfStays (routes_in s) (shelf_of s) (shelf_of reserved)) c.from_residual-in_err-reserve_topics.result (stays s reserved c.reserve_topics.ensures.views refl)

pub show_all-requires-clause-there : goal.show_all-requires-clause-there
show_all-requires-clause-there c =
    let s : Shelves = c.args.shelves.now in
    let reserved : Shelves = record { fed = s.fed; topics = c.reserve_topics.new.topics } in
    sources-there reserved c.args.records.items (sources-same s reserved c.args.records.items c.reserve_topics.ensures.views c.requires.sources)

pub show_all-requires-clause-rooms : goal.show_all-requires-clause-rooms
show_all-requires-clause-rooms c =
    let s : Shelves = c.args.shelves.now in
    let now : List TopicShelf = c.reserve_topics.new.topics.items in
    let counts : List (Vec ℕ) = c.in_ok-counts.counts.items in
    let records : List SourceRecord = c.args.records.items in
    let counted : EachAt (λ topic of. IfSome (slice_get s.topics.items topic) (λ t. IsCounted topic records t of.items)) counts =
    subst (λ (ts : List TopicShelf). EachAt (λ topic of. IfSome (slice_get ts topic) (λ t. IsCounted topic records t of.items)) counts) c.as_slice.ensures.value
    (subst (λ (rs : List SourceRecord). EachAt (λ topic of. IfSome (slice_get c.as_slice.result.now topic) (λ t. IsCounted topic rs t of.items)) counts) c.as_slice-2.ensures.value c.in_ok-counts.ensures.counts) in
    rooms-counted s.topics.items now records counts c.reserve_topics.ensures.views (c.in_ok-counts.ensures.len ∙ ap length c.as_slice.ensures.value) counted
    (subst (λ (cs : List (Vec ℕ)). EachAt (λ topic t. IfSome (slice_get cs topic) (λ of. EachAt (λ q part. HasShownRoom (get_or of.items q 0) part) t.parts.items)) now) c.as_slice-3.ensures.value
    c.in_ok-reserve_topics.ensures.rooms)

pub returns-clause-shelves : goal.returns-clause-shelves
returns-clause-shelves c =
    let s : Shelves = c.args.shelves.now in
    let reserved : Shelves = record { fed = s.fed; topics = c.reserve_topics.new.topics } in
    let next : Shelves = record { fed = s.fed + 1; topics = c.show_all.new.topics } in
    shelves-next reserved next c.args.records.items c.show_all.ensures refl c.requires.rises_apart c.requires.next_feed
    (sources-same s reserved c.args.records.items c.reserve_topics.ensures.views c.requires.sources) (AreShelves-same s reserved c.reserve_topics.ensures.views refl c.requires.shelves)

pub returns-clause-topics : goal.returns-clause-topics
returns-clause-topics c =
    let s : Shelves = c.args.shelves.now in
    let reserved : Shelves = record { fed = s.fed; topics = c.reserve_topics.new.topics } in
    let next : Shelves = record { fed = s.fed + 1; topics = c.show_all.new.topics } in
    topics-next reserved next c.args.records.items c.show_all.ensures ∙ topics-same s reserved c.reserve_topics.ensures.views

pub returns-clause-feeds : goal.returns-clause-feeds
returns-clause-feeds c =
    let s : Shelves = c.args.shelves.now in
    let reserved : Shelves = record { fed = s.fed; topics = c.reserve_topics.new.topics } in
    let next : Shelves = record { fed = s.fed + 1; topics = c.show_all.new.topics } in
    let records : List SourceRecord = c.args.records.items in
    feeds-ordered (routes_in s) records (shelf_of s) (shelf_of next) c.requires.rises_apart
    (feeds-after (routes_in s) records (shelf_of s) (shelf_of reserved) (shelf_of next) (stays s reserved c.reserve_topics.ensures.views refl)
    (subst (λ (topics : List TopicSpec). ShelfFeeds (routes_of topics) records (shelf_of reserved) (shelf_of next)) (topics-same s reserved c.reserve_topics.ensures.views)
    (feeds-next reserved next records c.show_all.ensures (AreShelves-same s reserved c.reserve_topics.ensures.views refl c.requires.shelves) refl (sources-same s reserved records c.reserve_topics.ensures.views c.requires.sources))))
