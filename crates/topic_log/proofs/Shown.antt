-- One record after another is shown.
use Rattle.std.proofs.Common.{◌≡◌, ◌≢◌, ◌∙◌, ℕ, ◌+◌, ◌<◌, false, List, [], ◌∷◌, ◌++◌, length, get_or, set, sym, ap, subst, arith}
use Rattle.std.specs.Prelude.{IfSome, filter, slice_get, vec_capacity}
use Rattle.std.proofs.lemmas.Bool.{cond-false, cond-true}
use Rattle.std.proofs.lemmas.List.{append_assoc, length-append, length-set}
use Rattle.std.proofs.lemmas.Option.{IfSome_then, slice_get_within}
use Rattle.ksql_place.specs.declared.change.SourceRecord.{SourceRecord}
use Rattle.core_state.specs.State.{is_in}
use Rattle.topic_log.specs.declared.shelves.PartShelf.{PartShelf}
use Rattle.topic_log.specs.declared.shelves.TopicShelf.{TopicShelf}
use Rattle.topic_log.specs.Feeding.{HasShownRoom, TopicWillShow, WillShow, WillShowAll, count_in}
use Rattle.topic_log.specs.Views.{EachAt}
use Rattle.topic_log.proofs.Counted.{There, is_in-here, is_in-part, is_in-topic}
use Rattle.topic_log.proofs.EachPlace.{EachAt-weaker, EachAt-written}
use Rattle.topic_log.proofs.OneTopic.{IfSome-at}

module _ (all : List SourceRecord) (r : SourceRecord) (rest : List SourceRecord) where
  -- a record for another partition is skipped
  passed : (topic q : ℕ) → is_in topic q r ≡ false → filter (is_in topic q) (r ∷ rest) ≡ filter (is_in topic q) rest
  passed topic q elsewhere = cond-false (is_in topic q r) (r ∷ filter (is_in topic q) rest) (filter (is_in topic q) rest) elsewhere

  taken : filter (is_in r.stamp.topic r.stamp.part) (r ∷ rest) ≡ r ∷ filter (is_in r.stamp.topic r.stamp.part) rest
  taken = cond-true (is_in r.stamp.topic r.stamp.part r) (r ∷ filter (is_in r.stamp.topic r.stamp.part) rest) (filter (is_in r.stamp.topic r.stamp.part) rest) (is_in-here r)

  shows-else : (topic q : ℕ) (was now : PartShelf) → is_in topic q r ≡ false → WillShow all (r ∷ rest) topic q was now → WillShow all rest topic q was now
  shows-else topic q was now elsewhere h = record {
    fed = ap (λ (rs : List SourceRecord). now.fed.items ++ rs) (sym (passed topic q elsewhere)) ∙ h.fed;
    said = h.said;
    waiting = h.waiting;
    room = subst (λ (rs : List SourceRecord). HasShownRoom (length rs) now) (passed topic q elsewhere) h.room;
  }

  shows-here : (was now next : PartShelf) → next.fed.items ≡ now.fed.items ++ r ∷ [] → vec_capacity next.fed ≡ vec_capacity now.fed → next.said ≡ now.said → next.waiting ≡ now.waiting →
      WillShow all (r ∷ rest) r.stamp.topic r.stamp.part was now → WillShow all rest r.stamp.topic r.stamp.part was next
  shows-here was now next items cap said waiting h =
      let left : List SourceRecord = filter (is_in r.stamp.topic r.stamp.part) rest in
      record {
        fed = ap (λ (xs : List SourceRecord). xs ++ left) items ∙ append_assoc now.fed.items (r ∷ []) left
            ∙ ap (λ (rs : List SourceRecord). now.fed.items ++ rs) (sym taken) ∙ h.fed;
        said = said ∙ h.said;
        waiting = waiting ∙ h.waiting;
        room =
            let longer : length next.fed.items ≡ length now.fed.items + 1 = ap length items ∙ length-append now.fed.items (r ∷ []) ∙ omega arith in
            let count : count_in r.stamp.topic r.stamp.part (r ∷ rest) ≡ 1 + length left = ap length taken ∙ omega arith in
            omega (arith, h.room, cap);
      }

  topic-else : (topic : ℕ) (was now : TopicShelf) → topic ≢ r.stamp.topic → TopicWillShow all (r ∷ rest) topic was now → TopicWillShow all rest topic was now
  topic-else topic was now apart h = record {
    spec = h.spec;
    tasks = h.tasks;
    len = h.len;
    parts = EachAt-weaker (λ q part. IfSome (slice_get was.parts.items q) (λ old. WillShow all (r ∷ rest) topic q old part))
        (λ q part. IfSome (slice_get was.parts.items q) (λ old. WillShow all rest topic q old part)) now.parts.items
        (λ q part _ shows. IfSome_then (slice_get was.parts.items q) shows (λ old w. shows-else topic q old part (is_in-topic topic q r apart) w)) h.parts;
  }

  topic-here : (was now next : TopicShelf) (part put : PartShelf) → r.stamp.part < length now.parts.items → part ≡ get_or now.parts.items r.stamp.part part →
      put.fed.items ≡ part.fed.items ++ r ∷ [] → vec_capacity put.fed ≡ vec_capacity part.fed → put.said ≡ part.said → put.waiting ≡ part.waiting →
      next.spec ≡ now.spec → next.tasks ≡ now.tasks → next.parts.items ≡ set now.parts.items r.stamp.part put →
      TopicWillShow all (r ∷ rest) r.stamp.topic was now → TopicWillShow all rest r.stamp.topic was next
  topic-here was now next part put within at items cap said waiting spec tasks parts h =
      let topic : ℕ = r.stamp.topic in
      let P : ℕ → PartShelf → Type 0 = λ q part. IfSome (slice_get was.parts.items q) (λ old. WillShow all (r ∷ rest) topic q old part) in
      let Q : ℕ → PartShelf → Type 0 = λ q part. IfSome (slice_get was.parts.items q) (λ old. WillShow all rest topic q old part) in
      record {
        spec = spec ∙ h.spec;
        tasks = tasks ∙ h.tasks;
        len = ap length parts ∙ length-set now.parts.items r.stamp.part put ∙ h.len;
        parts = subst (EachAt Q) (sym parts) (EachAt-written P Q now.parts.items r.stamp.part put within
            (λ q other apart shows. IfSome_then (slice_get was.parts.items q) shows (λ old w. shows-else topic q old other (is_in-part topic q r apart) w))
            (let there : P r.stamp.part part = subst (P r.stamp.part) (sym at) (h.parts r.stamp.part part within) in
            IfSome_then (slice_get was.parts.items r.stamp.part) there (λ old w. shows-here old part put items cap said waiting w))
            h.parts);
      }

  pub show-next : (was now : List TopicShelf) (t next : TopicShelf) (part put : PartShelf) → r.stamp.topic < length now → t ≡ get_or now r.stamp.topic t →
      r.stamp.part < length t.parts.items → part ≡ get_or t.parts.items r.stamp.part part →
      put.fed.items ≡ part.fed.items ++ r ∷ [] → vec_capacity put.fed ≡ vec_capacity part.fed → put.said ≡ part.said → put.waiting ≡ part.waiting →
      next.spec ≡ t.spec → next.tasks ≡ t.tasks → next.parts.items ≡ set t.parts.items r.stamp.part put →
      WillShowAll all (r ∷ rest) was now → WillShowAll all rest was (set now r.stamp.topic next)
  show-next was now t next part put within at part_within part_at items cap said waiting spec tasks parts h =
      let topic : ℕ = r.stamp.topic in
      let P : ℕ → TopicShelf → Type 0 = λ topic t. IfSome (slice_get was topic) (λ old. TopicWillShow all (r ∷ rest) topic old t) in
      let Q : ℕ → TopicShelf → Type 0 = λ topic t. IfSome (slice_get was topic) (λ old. TopicWillShow all rest topic old t) in
      record {
        len = length-set now topic next ∙ h.len;
        topics = EachAt-written P Q now topic next within
            (λ k other apart shows. IfSome_then (slice_get was k) shows (λ old w. topic-else k old other apart w))
            (let there : P topic t = subst (P topic) (sym at) (h.topics topic t within) in
            IfSome_then (slice_get was topic) there (λ old w. topic-here old t next part put part_within part_at items cap said waiting spec tasks parts w))
            h.topics;
      }

-- ---- a record's partition

module _ (all rest : List SourceRecord) (was now : List TopicShelf) (topic q : ℕ) (here : There was topic q) (h : WillShowAll all rest was now) where
  pub topic-inside : topic < length now
  topic-inside = let inside = slice_get_within was topic here.of here.at in omega (arith, h.len)

  shows-topic : (t : TopicShelf) → t ≡ get_or now topic t → TopicWillShow all rest topic here.of t
  shows-topic t at =
      subst (TopicWillShow all rest topic here.of) (sym at)
      (IfSome-at (λ old. TopicWillShow all rest topic old (get_or now topic t)) (slice_get was topic) here.of here.at (h.topics topic t topic-inside))

  pub part-inside : (t : TopicShelf) → t ≡ get_or now topic t → q < length t.parts.items
  part-inside t at =
      let inside = slice_get_within here.of.parts.items q here.part here.part_at in
      let shows = shows-topic t at in
      omega (arith, shows.len)

  pub part-room : (t : TopicShelf) → t ≡ get_or now topic t → (part : PartShelf) → part ≡ get_or t.parts.items q part → HasShownRoom (count_in topic q rest) part
  part-room t at part part_at =
      let shows = shows-topic t at in
      let there : WillShow all rest topic q here.part (get_or t.parts.items q part) =
      IfSome-at (λ old. WillShow all rest topic q old (get_or t.parts.items q part)) (slice_get here.of.parts.items q) here.part here.part_at (shows.parts q part (part-inside t at)) in
      subst (HasShownRoom (count_in topic q rest)) (sym part_at) there.room

pub count-first : (r : SourceRecord) (rest : List SourceRecord) → count_in r.stamp.topic r.stamp.part (r ∷ rest) ≡ 1 + count_in r.stamp.topic r.stamp.part rest
count-first r rest = ap length (taken [] r rest) ∙ omega arith
