-- What a feed leaves.
use Rattle.std.proofs.Common.{◌≡◌, ◌∙◌, ◌⊎◌, ◌==◌, ℕ, suc, ◌+◌, ◌-◌, ◌<◌, ◌≤◌, Bool, true, false, List, [], ◌∷◌, ◌++◌, length, map, get_or, sym, ap, refl, subst, inl, inr, arith, Option, Some, None}
use Rattle.std.specs.Prelude.{All, IfSome, filter, is_some, option_and_then, option_map, slice_get, unwrap_or}
use Rattle.std.specs.Global.{Global, Vec}
use Rattle.std.specs.declared.collections.VecDeque.{VecDeque}
use Rattle.std.specs.Cmp.{nat_cmp_is}
use Rattle.std.specs.Cmp.Lexicographic.{slice_cmp}
use Rattle.std.specs.List.{AllPairs, AllZip}
use Rattle.std.specs.Ordering.{is_gt, nat_cmp, ordering_then}
use Rattle.std.specs.declared.cmp.Ordering.{Ordering}
use Rattle.std.specs.declared.cmp.Ordering.TheVariants.{Less}
use Rattle.std.proofs.lemmas.Bool.{and_left, and_parts, cases_lt, cond-false, eqb-true, ne_eqb}
use Rattle.std.proofs.lemmas.List.{append-nil, get_or-append_right, get_or-map, get_or_append_left, length-append, length-map, nil_from_length}
use Rattle.std.proofs.lemmas.List.Elements.{All-append, All-filter, All-head, All-map, All-tail, All-weaker}
use Rattle.std.proofs.lemmas.List.Kept.{AllPairs-filter}
use Rattle.std.proofs.lemmas.Option.{get_or_from_slice_get, same_Some, option_and_then_some, slice_get-map, slice_get_past}
use Rattle.ksql_types.specs.declared.relation.TaskName.{TaskName}
use Rattle.ksql_types.specs.declared.topic.TopicSpec.{TopicSpec}
use Rattle.ksql_place.specs.Ascending.{Rises, ascending}
use Rattle.ksql_place.specs.Order.{place_cmp, record_cmp, stamp_cmp}
use Rattle.ksql_place.specs.declared.change.Change.{Change}
use Rattle.ksql_place.specs.declared.change.SourceRecord.{SourceRecord}
use Rattle.ksql_place.proofs.Ascending.{ascending-kept, filter-ascending}
use Rattle.ksql_place.proofs.Orders.{record_total}
use Rattle.core_state.specs.declared.log.LogEntry.{LogEntry}
use Rattle.core_state.specs.declared.log.LogEntry.TheVariants.{Fed}
use Rattle.core_state.specs.Routes.{Routes, routes_of, tasks_of_writer}
use Rattle.core_state.specs.Shelf.{Shelf, ShelfFeeds, ShelfStays}
use Rattle.core_state.specs.State.{is_in, least, lowest}
use Rattle.topic_log.specs.declared.shelves.PartShelf.{PartShelf}
use Rattle.topic_log.specs.declared.shelves.Shelves.{Shelves}
use Rattle.topic_log.specs.declared.shelves.TaskShelf.{TaskShelf}
use Rattle.topic_log.specs.declared.shelves.TopicShelf.{TopicShelf}
use Rattle.topic_log.specs.Feeding.{IsThere, RiseApart, TopicWillShow, WillShow, WillShowAll}
use Rattle.topic_log.specs.Entries.{shown_in}
use Rattle.topic_log.specs.Order.{IsInPlaceOrder, feed_in, place_of}
use Rattle.topic_log.specs.Shelves.{AreShelves, AreTopics, IsPartShelf, IsSourcePart, IsTopicShelf, Waits, part_at, routes_in, shelf_of, task_at, closed_in, dones_of, topics_of, waiting_in}
use Rattle.topic_log.specs.Views.{EachAt, topic_views}
use Rattle.topic_log.proofs.Contents.{shows-fed}
use Rattle.topic_log.proofs.InOrder.{Ascends-from_rises}
use Rattle.topic_log.proofs.OneTopic.{All-slice_get, IfSome-at, part_in, slice_get-some, writers-of}
use Rattle.topic_log.proofs.ViewLemmas.{IsPartShelf-same, part-some, part_view-same, topics-same}

-- ---- lists

-- two lists are the same if they have the same at each index
same-by_get : {A : Type 0} (xs ys : List A) → ((k : ℕ) → slice_get xs k ≡ slice_get ys k) → xs ≡ ys
same-by_get [] [] h = refl
same-by_get [] (y ∷ ys) h = let e = h 0 in cc
same-by_get (x ∷ xs) [] h = let e = h 0 in cc
same-by_get (x ∷ xs) (y ∷ ys) h =
    let first : x ≡ y = same_Some x y (h 0) in
    let more : xs ≡ ys = same-by_get xs ys (λ k. h (suc k)) in
    cc

-- at an index either both lists have nothing, or members that are related
abbrev PairAt : {A B : Type 0} → (ℕ → A → B → Type 0) → List A → List B → ℕ → Type 0
PairAt {A} {B} R was now k =
    ((slice_get was k ≡ None) × (slice_get now k ≡ None)) ⊎ ((x : A) × (y : B) × (slice_get was k ≡ Some x) × (slice_get now k ≡ Some y) × R k x y)

pair-at : {A B : Type 0} (R : ℕ → A → B → Type 0) (was : List A) (now : List B) → length now ≡ length was → EachAt (λ k y. IfSome (slice_get was k) (λ x. R k x y)) now → (k : ℕ) → PairAt R was now k
pair-at {A} {B} R was now len each k =
    let by : (k < length now) ⊎ (length now ≤ k) → PairAt R was now k =
    λ c. elim c as (λ _. PairAt R was now k) [
      | inl inside ↦ (
          let x : (x : A) × (slice_get was k ≡ Some x) = slice_get-some was k (omega arith) in
          let y : (y : B) × (slice_get now k ≡ Some y) = slice_get-some now k inside in
          let here : IfSome (slice_get was k) (λ x. R k x y.0) =
          subst (λ (z : B). IfSome (slice_get was k) (λ x. R k x z)) (get_or_from_slice_get now k y.0 y.0 y.1) (each k y.0 inside) in
          inr (x.0, y.0, x.1, y.1, IfSome-at (λ x. R k x y.0) (slice_get was k) x.0 x.1 here))
      | inr past ↦ inl (slice_get_past was k (omega arith), slice_get_past now k past)
    ] in
    by (cases_lt k (length now))

pub filter-none : {A : Type 0} (p : A → Bool) (xs : List A) → All (λ x. p x ≡ false) xs → filter p xs ≡ []
filter-none p [] h = refl
filter-none p (x ∷ xs) h =
    cond-false (p x) (x ∷ filter p xs) (filter p xs) (All-head (λ x. p x ≡ false) x xs h) ∙ filter-none p xs (All-tail (λ x. p x ≡ false) x xs h)

AllPairs-append : {A : Type 0} (R : A → A → Type 0) (xs ys : List A) → AllPairs R xs → AllPairs R ys →
    ((i j : ℕ) (d : A) → i < length xs → j < length ys → R (get_or xs i d) (get_or ys j d)) → AllPairs R (xs ++ ys)
AllPairs-append {A} R xs ys first second cross i j d low high =
    let len : length (xs ++ ys) ≡ length xs + length ys = length-append xs ys in
    let n : ℕ = length xs in
    let by : (j < n) ⊎ (n ≤ j) → R (get_or (xs ++ ys) i d) (get_or (xs ++ ys) j d) =
    λ c. elim c as (λ _. R (get_or (xs ++ ys) i d) (get_or (xs ++ ys) j d)) [
      | inl inside ↦ subst (R (get_or (xs ++ ys) i d)) (sym (get_or_append_left xs ys d j inside))
          (subst (λ (x : A). R x (get_or xs j d)) (sym (get_or_append_left xs ys d i (omega arith))) (first i j d low inside))
      | inr past ↦ (
          let right : get_or (xs ++ ys) j d ≡ get_or ys (j - n) d = get_or-append_right xs ys n j d refl past in
          let there : (i < n) ⊎ (n ≤ i) → R (get_or (xs ++ ys) i d) (get_or ys (j - n) d) =
          λ c. elim c as (λ _. R (get_or (xs ++ ys) i d) (get_or ys (j - n) d)) [
            | inl before ↦ subst (λ (x : A). R x (get_or ys (j - n) d)) (sym (get_or_append_left xs ys d i before)) (cross i (j - n) d before (omega arith))
            | inr behind ↦ subst (λ (x : A). R x (get_or ys (j - n) d)) (sym (get_or-append_right xs ys n i d refl behind)) (second (i - n) (j - n) d (omega arith) (omega arith))
          ] in
          subst (R (get_or (xs ++ ys) i d)) (sym right) (there (cases_lt i n)))
    ] in
    by (cases_lt j n)

-- ---- order

later : (x y : LogEntry) → feed_in x < feed_in y → is_gt (place_cmp (place_of x) (place_of y)) ≡ false
later x y below =
    let a = (place_of x).stamp in
    let b = (place_of y).stamp in
    subst (λ (o : Ordering). is_gt (ordering_then (ordering_then o (ordering_then (nat_cmp a.high b.high) (ordering_then (nat_cmp a.topic b.topic) (ordering_then (nat_cmp a.part b.part) (nat_cmp a.offset b.offset)))))
    (slice_cmp nat_cmp (place_of x).path (place_of y).path)) ≡ false) (nat_cmp_is a.feed b.feed Less below) refl

fed-order : (records : List SourceRecord) → Rises record_cmp records → IsInPlaceOrder (map Fed records)
fed-order records rises i j d low high =
    let within : j < length records = subst (λ (n : ℕ). j < n) (length-map records Fed) high in
    let both : (r : SourceRecord) × (slice_get records j ≡ Some r) = slice_get-some records j within in
    let a : SourceRecord = get_or records i both.0 in
    let b : SourceRecord = get_or records j both.0 in
    let first : get_or (map Fed records) i d ≡ Fed a = get_or-map Fed records i both.0 d (omega arith) in
    let second : get_or (map Fed records) j d ≡ Fed b = get_or-map Fed records j both.0 d within in
    let less : stamp_cmp a.stamp b.stamp ≡ Less = rises i j both.0 low within in
    let here : is_gt (place_cmp (place_of (Fed a)) (place_of (Fed b))) ≡ false =
    subst (λ (o : Ordering). is_gt (ordering_then o (slice_cmp nat_cmp [] [])) ≡ false) (sym less) refl in
    subst (λ (x : LogEntry). is_gt (place_cmp (place_of x) (place_of (get_or (map Fed records) j d))) ≡ false) (sym first)
    (subst (λ (y : LogEntry). is_gt (place_cmp (place_of (Fed a)) (place_of y)) ≡ false) (sym second) here)

-- entries up to a feed, and then records of the next one
order-next : (fed : ℕ) (xs : List LogEntry) (records : List SourceRecord) → IsInPlaceOrder xs → All (λ x. feed_in x ≤ fed) xs → Rises record_cmp records →
    All (λ r. r.stamp.feed ≡ fed + 1) records → IsInPlaceOrder (xs ++ map Fed records)
order-next fed xs records ordered upto rises of_feed =
    AllPairs-append (λ x y. is_gt (place_cmp (place_of x) (place_of y)) ≡ false) xs (map Fed records) ordered (fed-order records rises)
    (λ i j d low high.
    let new : All (λ x. feed_in x ≡ fed + 1) (map Fed records) = All-map (λ x. feed_in x ≡ fed + 1) Fed records of_feed in
    let old : feed_in (get_or xs i d) ≤ fed = upto i d low in
    let next : feed_in (get_or (map Fed records) j d) ≡ fed + 1 = new j d high in
    later (get_or xs i d) (get_or (map Fed records) j d) (omega arith))

-- ---- records elsewhere

not-in-topic : (topic q : ℕ) (r : SourceRecord) → ¬ (r.stamp.topic ≡ topic) → is_in topic q r ≡ false
not-in-topic topic q r apart = and_left (r.stamp.topic == topic) (r.stamp.part == q) (ne_eqb r.stamp.topic topic apart)

-- whether a record is in a partition, from what would follow if it were
pub not-in : (topic q : ℕ) (r : SourceRecord) → ((r.stamp.topic ≡ topic) → (r.stamp.part ≡ q) → ⊥) → is_in topic q r ≡ false
not-in topic q r elsewhere =
    let by : (b : Bool) → is_in topic q r ≡ b → is_in topic q r ≡ false =
    λ b. elim b as (λ b. is_in topic q r ≡ b → is_in topic q r ≡ false) [
      | true ↦ (λ e.
          let both = and_parts (r.stamp.topic == topic) (r.stamp.part == q) e in
          absurd (elsewhere (eqb-true r.stamp.topic topic both.0) (eqb-true r.stamp.part q both.1)))
      | false ↦ (λ e. e)
    ] in
    by (is_in topic q r) refl

none-absent : (topics : List TopicShelf) (records : List SourceRecord) (topic q : ℕ) → option_and_then (λ t. slice_get t.parts.items q) (slice_get topics topic) ≡ None → All (IsThere topics) records →
    filter (is_in topic q) records ≡ []
none-absent topics records topic q absent there =
    filter-none (is_in topic q) records (All-weaker (IsThere topics) (λ r. is_in topic q r ≡ false) (λ r is.
    not-in topic q r (λ t p.
    let here : is_some (option_and_then (λ t. slice_get t.parts.items q) (slice_get topics topic)) ≡ true =
    subst (λ (n : ℕ). is_some (option_and_then (λ t. slice_get t.parts.items q) (slice_get topics n)) ≡ true) t
    (subst (λ (n : ℕ). is_some (option_and_then (λ t. slice_get t.parts.items n) (slice_get topics r.stamp.topic)) ≡ true) p is) in
    let elsewhere : false ≡ true = sym (ap (λ (o : Option PartShelf). is_some o) absent) ∙ here in
    cc)) records there)

none-written : (r : Routes) (records : List SourceRecord) (topic q : ℕ) → ¬ (r.writers topic ≡ []) → All (λ x. r.writers x.stamp.topic ≡ []) records → filter (is_in topic q) records ≡ []
none-written r records topic q written sources =
    filter-none (is_in topic q) records (All-weaker (λ x. r.writers x.stamp.topic ≡ []) (λ x. is_in topic q x ≡ false) (λ x is.
    not-in-topic topic q x (λ e. written (ap r.writers (sym e) ∙ is))) records sources)

-- ---- what each partition shows afterwards

abbrev shown_at : Option PartShelf → List LogEntry
shown_at o = unwrap_or (option_map shown_in o) []

-- either no record is for a partition, or no change is shown there
abbrev Either : List SourceRecord → ℕ → ℕ → Option PartShelf → Type 0
Either records topic q o = (filter (is_in topic q) records ≡ []) ⊎ IfSome o (λ p. p.said.items ≡ [])

abbrev waits_in : ℕ → Option PartShelf → List Change
waits_in writer o = unwrap_or (option_map (waiting_in writer) o) []

shown-is : (records : List SourceRecord) (topic q : ℕ) (op p : PartShelf) → WillShow records [] topic q op p → (filter (is_in topic q) records ≡ []) ⊎ (op.said.items ≡ []) →
    shown_in p ≡ shown_in op ++ map Fed (filter (is_in topic q) records)
shown-is records topic q op p w either = shows-fed op p (filter (is_in topic q) records) either (sym (append-nil p.fed.items) ∙ w.fed) w.said

module _ (records : List SourceRecord) (was now : List TopicShelf) (shows : WillShowAll records [] was now) where
  topic-pair : (topic : ℕ) → PairAt (TopicWillShow records []) was now topic
  topic-pair topic = pair-at (TopicWillShow records []) was now shows.len shows.topics topic

  part-pair : (topic : ℕ) (o t : TopicShelf) → TopicWillShow records [] topic o t → (q : ℕ) → PairAt (λ q p n. WillShow records [] topic q p n) o.parts.items t.parts.items q
  part-pair topic o t w q = pair-at (λ q p n. WillShow records [] topic q p n) o.parts.items t.parts.items w.len w.parts q

  shown-next : All (IsThere was) records → (topic q : ℕ) → Either records topic q (part_in q (slice_get was topic)) → shown_at (part_in q (slice_get now topic)) ≡ shown_at (part_in q (slice_get was topic)) ++ map Fed (filter (is_in topic q) records)
  shown-next there topic q either =
      let absent : part_in q (slice_get was topic) ≡ None → part_in q (slice_get now topic) ≡ None → shown_at (part_in q (slice_get now topic)) ≡ shown_at (part_in q (slice_get was topic)) ++ map Fed (filter (is_in topic q) records) =
      λ a b. ap shown_at b ∙ sym (ap (λ (rs : List SourceRecord). [] ++ map Fed rs) (none-absent was records topic q a there))
      ∙ ap (λ (o : Option PartShelf). shown_at o ++ map Fed (filter (is_in topic q) records)) (sym a) in
      elim (topic-pair topic) as (λ _. shown_at (part_in q (slice_get now topic)) ≡ shown_at (part_in q (slice_get was topic)) ++ map Fed (filter (is_in topic q) records)) [
        | inl nothing ↦ absent (ap (part_in q) nothing.0) (ap (part_in q) nothing.1)
        | inr both ↦ (
            let o : TopicShelf = both.0 in
            let t : TopicShelf = both.1 in
            elim (part-pair topic o t both.4 q) as (λ _. shown_at (part_in q (slice_get now topic)) ≡ shown_at (part_in q (slice_get was topic)) ++ map Fed (filter (is_in topic q) records)) [
              | inl nothing ↦ absent (ap (part_in q) both.2 ∙ nothing.0) (ap (part_in q) both.3 ∙ nothing.1)
              | inr part ↦ (
                  let w : WillShow records [] topic q part.0 part.1 = part.4 in
                  ap shown_at (ap (part_in q) both.3 ∙ part.3)
                  ∙ shown-is records topic q part.0 part.1 w (subst (Either records topic q) (ap (part_in q) both.2 ∙ part.2) either)
                  ∙ ap (λ (o : Option PartShelf). shown_at o ++ map Fed (filter (is_in topic q) records)) (sym (ap (part_in q) both.2 ∙ part.2)))
            ])
      ]

  waits-next : (writer topic q : ℕ) → waits_in writer (part_in q (slice_get now topic)) ≡ waits_in writer (part_in q (slice_get was topic))
  waits-next writer topic q =
      elim (topic-pair topic) as (λ _. waits_in writer (part_in q (slice_get now topic)) ≡ waits_in writer (part_in q (slice_get was topic))) [
        | inl nothing ↦ ap (λ (o : Option TopicShelf). waits_in writer (part_in q o)) (nothing.1 ∙ sym nothing.0)
        | inr both ↦ elim (part-pair topic both.0 both.1 both.4 q) as (λ _. waits_in writer (part_in q (slice_get now topic)) ≡ waits_in writer (part_in q (slice_get was topic))) [
          | inl nothing ↦ ap (waits_in writer) (ap (part_in q) both.3 ∙ nothing.1 ∙ sym nothing.0 ∙ sym (ap (part_in q) both.2))
          | inr part ↦ (
              let w : WillShow records [] topic q part.0 part.1 = part.4 in
              ap (waits_in writer) (ap (part_in q) both.3 ∙ part.3)
              ∙ ap (λ (ws : Vec (VecDeque Change Global)). unwrap_or (option_map (λ w. w.items) (slice_get ws.items writer)) []) w.waiting
              ∙ sym (ap (waits_in writer) (ap (part_in q) both.2 ∙ part.2)))
        ]
      ]

  task-next : (topic part : ℕ) → option_and_then (λ t. slice_get t.tasks.items part) (slice_get now topic) ≡ option_and_then (λ t. slice_get t.tasks.items part) (slice_get was topic)
  task-next topic part =
      elim (topic-pair topic) as (λ _. option_and_then (λ t. slice_get t.tasks.items part) (slice_get now topic) ≡ option_and_then (λ t. slice_get t.tasks.items part) (slice_get was topic)) [
        | inl nothing ↦ ap (option_and_then (λ t. slice_get t.tasks.items part)) (nothing.1 ∙ sym nothing.0)
        | inr both ↦ (
            let w : TopicWillShow records [] topic both.0 both.1 = both.4 in
            ap (option_and_then (λ t. slice_get t.tasks.items part)) both.3 ∙ ap (λ (ks : Vec TaskShelf). slice_get ks.items part) w.tasks ∙ sym (ap (option_and_then (λ t. slice_get t.tasks.items part)) both.2))
      ]

  specs-next : map (λ t. t.spec) now ≡ map (λ t. t.spec) was
  specs-next =
      same-by_get (map (λ t. t.spec) now) (map (λ t. t.spec) was) (λ k.
      slice_get-map (λ t. t.spec) now k
      ∙ elim (topic-pair k) as (λ _. option_map (λ t. t.spec) (slice_get now k) ≡ option_map (λ t. t.spec) (slice_get was k)) [
        | inl nothing ↦ ap (option_map (λ t. t.spec)) (nothing.1 ∙ sym nothing.0)
        | inr both ↦ (
            let w : TopicWillShow records [] k both.0 both.1 = both.4 in
            ap (option_map (λ t. t.spec)) both.3 ∙ ap Some w.spec ∙ sym (ap (option_map (λ t. t.spec)) both.2))
      ]
      ∙ sym (slice_get-map (λ t. t.spec) was k))

-- ---- what the broker has afterwards

-- the records are in sources, and so in partitions that exist
pub sources-there : (s : Shelves) (records : List SourceRecord) → All (λ r. IsSourcePart s r.stamp.topic r.stamp.part) records → All (IsThere s.topics.items) records
sources-there s records sources = All-weaker (λ r. IsSourcePart s r.stamp.topic r.stamp.part) (IsThere s.topics.items) (λ r h. h.1) records sources

sources-unwritten : (s : Shelves) (records : List SourceRecord) → All (λ r. IsSourcePart s r.stamp.topic r.stamp.part) records → All (λ r. (routes_in s).writers r.stamp.topic ≡ []) records
sources-unwritten s records sources = All-weaker (λ r. IsSourcePart s r.stamp.topic r.stamp.part) (λ r. (routes_in s).writers r.stamp.topic ≡ []) (λ r h. h.0) records sources

-- a partition of a topic that no task writes shows no change
unwritten : (s : Shelves) → AreShelves s → (topic q : ℕ) → (routes_in s).writers topic ≡ [] → IfSome (part_at s topic q) (λ p. p.said.items ≡ [])
unwritten s are topic q e = by (part_at s topic q) refl
  where
    by : (o : Option PartShelf) → part_at s topic q ≡ o → IfSome o (λ p. p.said.items ≡ [])
    by None at = tt
    by (Some p) at =
        option_and_then_some (λ (t : TopicShelf). slice_get t.parts.items q) (slice_get s.topics.items topic) p at
        (λ t there inside.
        let shelf : IsTopicShelf s.fed t = All-slice_get (IsTopicShelf s.fed) s.topics.items topic t are.each there in
        let none : t.tasks.items ≡ [] = nil_from_length t.tasks.items (shelf.tasks ∙ ap length (sym (writers-of s topic t there) ∙ e)) in
        (All-slice_get (IsPartShelf (closed_in s.fed t) (dones_of t)) t.parts.items q p shelf.each inside).unwritten (ap (map (λ k. k.done)) none))

module _ (s next : Shelves) (records : List SourceRecord) (shows : WillShowAll records [] s.topics.items next.topics.items) where
  pub topics-next : topics_of next ≡ topics_of s
  topics-next = specs-next records s.topics.items next.topics.items shows

  task_at-next : (u : TaskName) → task_at next u ≡ task_at s u
  task_at-next u =
      ap (λ (topics : List TopicSpec). option_and_then (λ k. slice_get k.tasks.items u.part) (slice_get next.topics.items ((routes_of topics).output u))) topics-next
      ∙ task-next records s.topics.items next.topics.items shows ((routes_in s).output u) u.part

  pub feeds-next : AreShelves s → next.fed ≡ s.fed + 1 → All (λ r. IsSourcePart s r.stamp.topic r.stamp.part) records → ShelfFeeds (routes_in s) records (shelf_of s) (shelf_of next)
  feeds-next are fed sources =
      let was : List TopicShelf = s.topics.items in
      let now : List TopicShelf = next.topics.items in
      let shown : (topic q : ℕ) → Either records topic q (part_at s topic q) → (shelf_of next).shown topic q ≡ (shelf_of s).shown topic q ++ map Fed (filter (is_in topic q) records) =
      shown-next records was now shows (sources-there s records sources) in
      let nowhere : (topic q : ℕ) → ¬ ((routes_in s).writers topic ≡ []) → filter (is_in topic q) records ≡ [] =
      λ topic q written. none-written (routes_in s) records topic q written (sources-unwritten s records sources) in
      record {
        fed = fed;
        sources = λ topic q e. shown topic q (inr (unwritten s are topic q e));
        written = λ topic q written. shown topic q (inl (nowhere topic q written))
            ∙ ap (λ (rs : List SourceRecord). (shelf_of s).shown topic q ++ map Fed rs) (nowhere topic q written)
            ∙ append-nil ((shelf_of s).shown topic q);
        waiting = λ u _ q. ap (λ (topics : List TopicSpec). waits_in u.part (part_in q (slice_get now ((routes_of topics).output u)))) topics-next
            ∙ waits-next records was now shows u.part ((routes_in s).output u) q;
        done = λ u _. ap (λ (o : Option TaskShelf). unwrap_or (option_map (λ k. k.done) o) 0) (task_at-next u);
        newest = λ u _. ap (λ (o : Option TaskShelf). unwrap_or (option_map (λ k. k.newest) o) 0) (task_at-next u);
        logs = λ u _. ap (λ (o : Option TaskShelf). unwrap_or (option_map (λ k. k.logs.items) o) []) (task_at-next u);
      }

-- ---- what is kept

zip-nil : {A W : Type 0} (R S : A → W → Type 0) (ws : List W) → AllZip R [] ws → AllZip S [] ws
zip-nil R S [] h = tt
zip-nil R S (w ∷ ws) h = absurd h

-- a source is closed up to the new feed, and what other topics show stays
part-kept : (records : List SourceRecord) (fed topic q : ℕ) (op p : PartShelf) → Rises record_cmp (filter (is_in topic q) records) → All (λ r. r.stamp.feed ≡ fed + 1) records → WillShow records [] topic q op p →
    (ks : List TaskShelf) → (¬ (ks ≡ []) → filter (is_in topic q) records ≡ []) → IsPartShelf (lowest fed (λ k. k.done) ks) (map (λ k. k.done) ks) op →
    IsPartShelf (lowest (fed + 1) (λ k. k.done) ks) (map (λ k. k.done) ks) p
part-kept records fed topic q op p rises of_feed w [] nowhere h =
    let new : List SourceRecord = filter (is_in topic q) records in
    let of_new : All (λ r. r.stamp.feed ≡ fed + 1) new = All-filter (is_in topic q) (λ r. r.stamp.feed ≡ fed + 1) records of_feed in
    let shown : shown_in p ≡ shown_in op ++ map Fed new = shown-is records topic q op p w (inr (h.unwritten refl)) in
    record {
      in_order = subst IsInPlaceOrder (sym shown)
          (order-next fed (shown_in op) new h.in_order h.is_closed rises of_new);
      is_closed = subst (All (λ x. feed_in x ≤ fed + 1)) (sym shown) (All-append (λ x. feed_in x ≤ fed + 1) (shown_in op) (map Fed new)
          (All-weaker (λ x. feed_in x ≤ fed) (λ x. feed_in x ≤ fed + 1) (λ x le. omega arith) (shown_in op) h.is_closed)
          (All-map (λ x. feed_in x ≤ fed + 1) Fed new (All-weaker (λ r. r.stamp.feed ≡ fed + 1) (λ r. feed_in (Fed r) ≤ fed + 1) (λ r e. omega arith) new of_new)));
      unwritten = λ none. ap (λ (v : Vec Change). v.items) w.said ∙ h.unwritten refl;
      waits = zip-nil (λ done w. Waits fed done w.items) (λ done w. Waits (fed + 1) done w.items) p.waiting.items
          (subst (λ (ws : Vec (VecDeque Change Global)). AllZip (λ done w. Waits fed done w.items) [] ws.items) (sym w.waiting) h.waits);
    }
part-kept records fed topic q op p rises of_feed w (k ∷ ks) nowhere h =
    let nothing : filter (is_in topic q) records ≡ [] = nowhere (λ e. cc) in
    let fed : p.fed.items ≡ op.fed.items = sym (append-nil p.fed.items) ∙ w.fed ∙ ap (λ (rs : List SourceRecord). op.fed.items ++ rs) nothing ∙ append-nil op.fed.items in
    IsPartShelf-same (least (λ k. k.done) k ks) (map (λ k. k.done) (k ∷ ks)) op p
    (part_view-same op p (sym fed) (sym (ap (λ (v : Vec Change). v.items) w.said)) (sym (ap (λ (ws : Vec (VecDeque Change Global)). map (λ w. w.items) ws.items) w.waiting))) h

topic-kept : (records : List SourceRecord) (fed topic : ℕ) (o t : TopicShelf) → RiseApart records → All (λ r. r.stamp.feed ≡ fed + 1) records →
    ((q : ℕ) → ¬ (o.tasks.items ≡ []) → filter (is_in topic q) records ≡ []) → TopicWillShow records [] topic o t → IsTopicShelf fed o → IsTopicShelf (fed + 1) t
topic-kept records fed topic o t rises of_feed nowhere w h = record {
  parts = w.len ∙ h.parts ∙ ap (λ (s : TopicSpec). s.partitions) (sym w.spec);
  tasks = ap (λ (ks : Vec TaskShelf). length ks.items) w.tasks ∙ h.tasks ∙ ap (λ (s : TopicSpec). length (tasks_of_writer s.writer)) (sym w.spec);
  each = subst (λ (ks : Vec TaskShelf). All (IsPartShelf (lowest (fed + 1) (λ k. k.done) ks.items) (map (λ k. k.done) ks.items)) t.parts.items) (sym w.tasks)
      (λ q d below.
      let p : PartShelf = get_or t.parts.items q d in
      let op : (p : PartShelf) × (slice_get o.parts.items q ≡ Some p) = slice_get-some o.parts.items q (omega (arith, w.len)) in
      let shows : WillShow records [] topic q op.0 p = IfSome-at (λ old. WillShow records [] topic q old p) (slice_get o.parts.items q) op.0 op.1 (w.parts q d below) in
      part-kept records fed topic q op.0 p (rises topic q) of_feed shows o.tasks.items (nowhere q) (All-slice_get (IsPartShelf (closed_in fed o) (dones_of o)) o.parts.items q op.0 h.each op.1));
}

pub shelves-next : (s next : Shelves) (records : List SourceRecord) → WillShowAll records [] s.topics.items next.topics.items → next.fed ≡ s.fed + 1 → RiseApart records →
    All (λ r. r.stamp.feed ≡ s.fed + 1) records → All (λ r. IsSourcePart s r.stamp.topic r.stamp.part) records → AreShelves s → AreShelves next
shelves-next s next records shows fed rises of_feed sources h = record {
  topics = subst AreTopics (sym (topics-next s next records shows)) h.topics;
  each = subst (λ (f : ℕ). All (IsTopicShelf f) next.topics.items) (sym fed)
      (λ k d below.
      let t : TopicShelf = get_or next.topics.items k d in
      let o : (o : TopicShelf) × (slice_get s.topics.items k ≡ Some o) = slice_get-some s.topics.items k (omega (arith, shows.len)) in
      let w : TopicWillShow records [] k o.0 t = IfSome-at (λ old. TopicWillShow records [] k old t) (slice_get s.topics.items k) o.0 o.1 (shows.topics k d below) in
      let shelf : IsTopicShelf s.fed o.0 = All-slice_get (IsTopicShelf s.fed) s.topics.items k o.0 h.each o.1 in
      let source : (routes_in s).writers k ≡ [] → o.0.tasks.items ≡ [] =
      λ e. nil_from_length o.0.tasks.items (shelf.tasks ∙ ap length (sym (writers-of s k o.0 o.1) ∙ e)) in
      topic-kept records s.fed k o.0 t rises of_feed (λ q written. none-written (routes_in s) records k q (λ e. written (source e)) (sources-unwritten s records sources)) w shelf);
}

-- ---- the order in which records come

-- records that rise also rise in each partition
pub rise_apart : (records : List SourceRecord) → Rises record_cmp records → RiseApart records
rise_apart records rises = λ topic q. AllPairs-filter (λ a b. record_cmp a b ≡ Less) (is_in topic q) records rises

-- a partition shows the same whatever comes between its records
pub feeds-ordered : (r : Routes) (records : List SourceRecord) (b next : Shelf) → RiseApart records → ShelfFeeds r records b next → ShelfFeeds r (ascending record_cmp records) b next
feeds-ordered r records b next rises f = record {
  fed = f.fed;
  sources = λ topic q e. f.sources topic q e ∙ ap (λ (rs : List SourceRecord). b.shown topic q ++ map Fed rs) (sym (in-part topic q));
  written = f.written;
  waiting = f.waiting;
  done = f.done;
  newest = f.newest;
  logs = f.logs;
}
  where
    in-part : (topic q : ℕ) → filter (is_in topic q) (ascending record_cmp records) ≡ filter (is_in topic q) records
    in-part topic q =
        let own : List SourceRecord = filter (is_in topic q) records in
        filter-ascending record_total (is_in topic q) records ∙ ascending-kept record_total own (Ascends-from_rises record_cmp own (rises topic q))

-- ---- what was before the room was taken

pub feeds-after : (r : Routes) (records : List SourceRecord) (a b c : Shelf) → ShelfStays r a b → ShelfFeeds r records b c → ShelfFeeds r records a c
feeds-after r records a b c st f = record {
  fed = f.fed ∙ ap (λ (n : ℕ). n + 1) st.fed;
  sources = λ topic q e. f.sources topic q e ∙ ap (λ (xs : List LogEntry). xs ++ map Fed (filter (is_in topic q) records)) (st.shown topic q);
  written = λ topic q e. f.written topic q e ∙ st.shown topic q;
  waiting = λ u w q. f.waiting u w q ∙ st.waiting u w q;
  done = λ u w. f.done u w ∙ st.done u w;
  newest = λ u w. f.newest u w ∙ st.newest u w;
  logs = λ u w. f.logs u w ∙ st.logs u w;
}

pub sources-same : (s next : Shelves) (records : List SourceRecord) → topic_views next ≡ topic_views s → All (λ r. IsSourcePart s r.stamp.topic r.stamp.part) records →
    All (λ r. IsSourcePart next r.stamp.topic r.stamp.part) records
sources-same s next records e sources =
    All-weaker (λ r. IsSourcePart s r.stamp.topic r.stamp.part) (λ r. IsSourcePart next r.stamp.topic r.stamp.part)
    (λ r h. (ap (λ (topics : List TopicSpec). (routes_of topics).writers r.stamp.topic) (topics-same s next e) ∙ h.0, part-some s next e r.stamp.topic r.stamp.part ∙ h.1)) records sources
