-- Counting the records of a feed by their partitions.
use Rattle.std.proofs.Common.{◌≡◌, ◌≢◌, ◌∙◌, ℕ, ◌+◌, ◌<◌, ◌≤◌, true, false, cond, List, length, map, get_or, set, take, sym, ap, refl, subst, arith, Option, Some, None, ◌==◌}
use Rattle.std.specs.Prelude.{All, IfSome, IsSome, option_and_then, slice_get}
use Rattle.std.specs.Global.{Vec}
use Rattle.std.proofs.lemmas.Bool.{and_from, and_left, and_right, cond-false, cond-true, eq-eqb, ne_eqb}
use Rattle.std.proofs.lemmas.List.{get_or_default, length-set, length-take-le}
use Rattle.std.proofs.lemmas.List.Filters.{length-filter_more}
use Rattle.std.proofs.lemmas.Option.{IfSome_then, get_or_from_slice_get, slice_get-get_or, slice_get_within}
use Rattle.ksql_place.specs.declared.change.SourceRecord.{SourceRecord}
use Rattle.core_state.specs.State.{is_in}
use Rattle.topic_log.specs.declared.shelves.PartShelf.{PartShelf}
use Rattle.topic_log.specs.declared.shelves.TopicShelf.{TopicShelf}
use Rattle.topic_log.specs.Feeding.{HasShownRoom, IsCounted, IsThere, count_in}
use Rattle.topic_log.specs.Views.{EachAt, TopicView, part_view, topic_view}
use Rattle.topic_log.proofs.EachPlace.{EachAt-weaker, EachAt-written}
use Rattle.topic_log.proofs.OneTopic.{IfSome-at, slice_get-some}
use Rattle.topic_log.proofs.Rooms.{filter-le}
use Rattle.topic_log.proofs.ViewLemmas.{same_at, same_length}

-- ---- a record's partition

pub record There (topics : List TopicShelf) (topic q : ℕ) : Type 0 where
  pub of : TopicShelf
  pub part : PartShelf
  pub at : slice_get topics topic ≡ Some of
  pub part_at : slice_get of.parts.items q ≡ Some part

there-part : (topics : List TopicShelf) (topic q : ℕ) (t : TopicShelf) → slice_get topics topic ≡ Some t → (o : Option PartShelf) → slice_get t.parts.items q ≡ o → IsSome o → There topics topic q
there-part topics topic q t at None is holds = cc
there-part topics topic q t at (Some p) is holds = record { of = t; part = p; at = at; part_at = is }

there-topic : (topics : List TopicShelf) (topic q : ℕ) (o : Option TopicShelf) → slice_get topics topic ≡ o → IsSome (option_and_then (λ t. slice_get t.parts.items q) o) → There topics topic q
there-topic topics topic q None is holds = cc
there-topic topics topic q (Some t) is holds = there-part topics topic q t is (slice_get t.parts.items q) refl holds

pub there : (topics : List TopicShelf) (r : SourceRecord) → IsThere topics r → There topics r.stamp.topic r.stamp.part
there topics r is = there-topic topics r.stamp.topic r.stamp.part (slice_get topics r.stamp.topic) refl is

-- where a record of a list stands
there-item : (topics : List TopicShelf) (records : List SourceRecord) (i : ℕ) (r : SourceRecord) → All (IsThere topics) records → i < length records → r ≡ get_or records i r →
    There topics r.stamp.topic r.stamp.part
there-item topics records i r all inside at = there topics r (subst (IsThere topics) (sym at) (all i r inside))

topic-within : (topics : List TopicShelf) (topic q : ℕ) → There topics topic q → topic < length topics
topic-within topics topic q here = slice_get_within topics topic here.of here.at

pub is_in-here : (r : SourceRecord) → is_in r.stamp.topic r.stamp.part r ≡ true
is_in-here r = and_from (r.stamp.topic == r.stamp.topic) (r.stamp.part == r.stamp.part) (eq-eqb r.stamp.topic r.stamp.topic refl) (eq-eqb r.stamp.part r.stamp.part refl)

pub is_in-topic : (topic q : ℕ) (r : SourceRecord) → topic ≢ r.stamp.topic → is_in topic q r ≡ false
is_in-topic topic q r apart = and_left (r.stamp.topic == topic) (r.stamp.part == q) (ne_eqb r.stamp.topic topic (λ e. apart (sym e)))

pub is_in-part : (topic q : ℕ) (r : SourceRecord) → q ≢ r.stamp.part → is_in topic q r ≡ false
is_in-part topic q r apart = and_right (r.stamp.topic == topic) (r.stamp.part == q) (ne_eqb r.stamp.part q (λ e. apart (sym e)))

-- ---- counting

module _ (records : List SourceRecord) (i : ℕ) (r : SourceRecord) (inside : i < length records) (at : r ≡ get_or records i r) where
  more : (topic q : ℕ) → count_in topic q (take (i + 1) records) ≡ count_in topic q (take i records) + cond {A = ℕ} (is_in topic q r) 1 0
  more topic q =
      length-filter_more (is_in topic q) records i r inside ∙ ap (λ (x : SourceRecord). count_in topic q (take i records) + cond (is_in topic q x) 1 0) (sym at)

  counted-else : (topic : ℕ) (t : TopicShelf) (counts : List ℕ) → topic ≢ r.stamp.topic → IsCounted topic (take i records) t counts → IsCounted topic (take (i + 1) records) t counts
  counted-else topic t counts apart h = record {
    len = h.len;
    each = EachAt-weaker (λ q count. count ≡ count_in topic q (take i records)) (λ q count. count ≡ count_in topic q (take (i + 1) records)) counts
        (λ q count _ was.
        let nothing : cond {A = ℕ} (is_in topic q r) 1 0 ≡ 0 = cond-false (is_in topic q r) 1 0 (is_in-topic topic q r apart) in
        omega (arith, was, nothing, more topic q)) h.each;
  }

  counted-here : (t : TopicShelf) (counts : List ℕ) (count : ℕ) → r.stamp.part < length counts → count ≡ get_or counts r.stamp.part count →
      IsCounted r.stamp.topic (take i records) t counts → IsCounted r.stamp.topic (take (i + 1) records) t (set counts r.stamp.part (count + 1))
  counted-here t counts count within is h =
      let topic : ℕ = r.stamp.topic in
      let part : ℕ = r.stamp.part in
      record {
        len = length-set counts part (count + 1) ∙ h.len;
        each = EachAt-written (λ q count. count ≡ count_in topic q (take i records)) (λ q count. count ≡ count_in topic q (take (i + 1) records)) counts part (count + 1) within
            (λ q other apart was.
            let nothing : cond {A = ℕ} (is_in topic q r) 1 0 ≡ 0 = cond-false (is_in topic q r) 1 0 (is_in-part topic q r apart) in
            omega (arith, was, nothing, more topic q))
            (let one : cond {A = ℕ} (is_in topic part r) 1 0 ≡ 1 = cond-true (is_in topic part r) 1 0 (is_in-here r) in
            let was : count ≡ count_in topic part (take i records) = is ∙ h.each part count within in
            omega (arith, was, one, more topic part))
            h.each;
      }

  pub counted-next : (topics : List TopicShelf) (counts : List (Vec ℕ)) (ns put : Vec ℕ) (count : ℕ) → r.stamp.topic < length counts → ns ≡ get_or counts r.stamp.topic ns →
      r.stamp.part < length ns.items → count ≡ get_or ns.items r.stamp.part count → put.items ≡ set ns.items r.stamp.part (count + 1) →
      EachAt (λ topic of. IfSome (slice_get topics topic) (λ t. IsCounted topic (take i records) t of.items)) counts →
      EachAt (λ topic of. IfSome (slice_get topics topic) (λ t. IsCounted topic (take (i + 1) records) t of.items)) (set counts r.stamp.topic put)
  counted-next topics counts ns put count within ns-is part_within is put-is each =
      let topic : ℕ = r.stamp.topic in
      EachAt-written (λ topic of. IfSome (slice_get topics topic) (λ t. IsCounted topic (take i records) t of.items)) (λ topic of. IfSome (slice_get topics topic) (λ t. IsCounted topic (take (i + 1) records) t of.items))
      counts topic put within
      (λ k of apart was. IfSome_then (slice_get topics k) was (λ t h. counted-else k t of.items apart h))
      (let was : IfSome (slice_get topics topic) (λ t. IsCounted topic (take i records) t ns.items) =
      subst (λ (v : Vec ℕ). IfSome (slice_get topics topic) (λ t. IsCounted topic (take i records) t v.items)) (sym ns-is) (each topic ns within) in
      IfSome_then (slice_get topics topic) was (λ t h.
      subst (λ (xs : List ℕ). IsCounted topic (take (i + 1) records) t xs) (sym put-is) (counted-here t ns.items count part_within is h)))
      each

-- the numbers of a record's topic
counted-at : (topics : List TopicShelf) (records : List SourceRecord) (counts : List (Vec ℕ)) (topic q : ℕ) (ns : Vec ℕ) → topic < length counts → ns ≡ get_or counts topic ns →
    (here : There topics topic q) → EachAt (λ topic of. IfSome (slice_get topics topic) (λ t. IsCounted topic records t of.items)) counts → IsCounted topic records here.of ns.items
counted-at topics records counts topic q ns within is here each =
    subst (λ (v : Vec ℕ). IsCounted topic records here.of v.items) (sym is)
    (IfSome-at (λ t. IsCounted topic records t (get_or counts topic ns).items) (slice_get topics topic) here.of here.at (each topic ns within))

part-within : (topics : List TopicShelf) (records : List SourceRecord) (topic q : ℕ) (ns : List ℕ) (here : There topics topic q) → IsCounted topic records here.of ns → q < length ns
part-within topics records topic q ns here counted = let inside = slice_get_within here.of.parts.items q here.part here.part_at in omega (arith, counted.len)

-- where the next record of a list is counted
pub record CountedNext (topics : List TopicShelf) (records : List SourceRecord) (r : SourceRecord) (counts : List (Vec ℕ)) (ns : Vec ℕ) : Type 0 where
  pub within : r.stamp.topic < length counts
  pub inside : r.stamp.part < length ns.items
  pub each : EachAt (λ q count. count ≡ count_in r.stamp.topic q records) ns.items

pub counts-there : (topics : List TopicShelf) (records : List SourceRecord) (i : ℕ) (r : SourceRecord) (counts : List (Vec ℕ)) (ns : Vec ℕ) → All (IsThere topics) records → i < length records →
    r ≡ get_or records i r → length counts ≡ length topics → ns ≡ get_or counts r.stamp.topic ns →
    EachAt (λ topic of. IfSome (slice_get topics topic) (λ t. IsCounted topic (take i records) t of.items)) counts → CountedNext topics (take i records) r counts ns
counts-there topics records i r counts ns there inside is len at each =
    let here = there-item topics records i r there inside is in
    let below = topic-within topics r.stamp.topic r.stamp.part here in
    let within : r.stamp.topic < length counts = omega (arith, len) in
    let counted = counted-at topics (take i records) counts r.stamp.topic r.stamp.part ns within at here each in
    record { within = within; inside = part-within topics (take i records) r.stamp.topic r.stamp.part ns.items here counted; each = counted.each }

pub count-small : (records : List SourceRecord) (i topic q : ℕ) → i < length records → count_in topic q (take i records) ≤ i
count-small records i topic q inside =
    let few : count_in topic q (take i records) ≤ length (take i records) = filter-le (is_in topic q) (take i records) in
    let len : length (take i records) ≡ i = length-take-le i records (omega arith) in
    omega arith

-- ---- room

-- a topic has the same number of partitions as before
pub parts-same : (topics was : List TopicShelf) (i : ℕ) (t : TopicShelf) → map topic_view topics ≡ map topic_view was → i < length topics → t ≡ get_or topics i t → (n : ℕ) →
    IfSome (slice_get was i) (λ u. n ≡ length u.parts.items) → length t.parts.items ≡ n
parts-same topics was i t views inside at n h =
    let within : i < length was = subst (λ (m : ℕ). i < m) (same_length topic_view topics was views) inside in
    let u : TopicShelf = get_or was i t in
    let count : n ≡ length u.parts.items = IfSome-at (λ u. n ≡ length u.parts.items) (slice_get was i) u (slice_get-get_or was i t within) h in
    let view : topic_view t ≡ topic_view u = ap topic_view at ∙ same_at topic_view topics was views i t inside in
    same_length part_view t.parts.items u.parts.items (ap (λ (v : TopicView). v.parts) view) ∙ sym count

-- room by the numbers is room for the records
pub rooms-counted : (was now : List TopicShelf) (records : List SourceRecord) (counts : List (Vec ℕ)) → map topic_view now ≡ map topic_view was → length counts ≡ length was →
    EachAt (λ topic of. IfSome (slice_get was topic) (λ t. IsCounted topic records t of.items)) counts →
    EachAt (λ topic t. IfSome (slice_get counts topic) (λ of. EachAt (λ q part. HasShownRoom (get_or of.items q 0) part) t.parts.items)) now →
    EachAt (λ topic t. EachAt (λ q part. HasShownRoom (count_in topic q records) part) t.parts.items) now
rooms-counted was now records counts views len counted rooms topic d below =
    let t : TopicShelf = get_or now topic d in
    let same : length now ≡ length was = same_length topic_view now was views in
    let within : topic < length counts = omega arith in
    let of : (v : Vec ℕ) × (slice_get counts topic ≡ Some v) = slice_get-some counts topic within in
    let here : EachAt (λ q part. HasShownRoom (get_or of.0.items q 0) part) t.parts.items =
    IfSome-at (λ of. EachAt (λ q part. HasShownRoom (get_or of.items q 0) part) t.parts.items) (slice_get counts topic) of.0 of.1 (rooms topic d below) in
    let is : IfSome (slice_get was topic) (λ t. IsCounted topic records t of.0.items) =
    subst (λ (v : Vec ℕ). IfSome (slice_get was topic) (λ t. IsCounted topic records t v.items)) (get_or_from_slice_get counts topic of.0 of.0 of.1) (counted topic of.0 within) in
    let parts : length t.parts.items ≡ length of.0.items =
    parts-same now was topic t views below (get_or_default now topic d t below) (length of.0.items) (IfSome_then (slice_get was topic) is (λ u h. h.len)) in
    let u : (u : TopicShelf) × (slice_get was topic ≡ Some u) = slice_get-some was topic (omega arith) in
    let numbers : IsCounted topic records u.0 of.0.items = IfSome-at (λ t. IsCounted topic records t of.0.items) (slice_get was topic) u.0 u.1 is in
    EachAt-weaker (λ q part. HasShownRoom (get_or of.0.items q 0) part) (λ q part. HasShownRoom (count_in topic q records) part) t.parts.items
    (λ q part inside has. subst (λ (n : ℕ). HasShownRoom n part) (numbers.each q 0 (omega arith)) has) here
