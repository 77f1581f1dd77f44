-- Each topic has in each partition its part of a list, by induction on the items.
use Rattle.std.proofs.Common.{◌≡◌, ◌∙◌, ap, ap₂, refl, sym, subst, subst₂, ℕ, zero, suc, ◌+◌, ◌<◌, ◌≤◌, List, [], ◌∷◌, ◌++◌, length, take, map, Bool, true, false, arith, append_assoc, length-append, inl, inr, true≢false}
use Rattle.std.proofs.lemmas.List.{length-map}
use Rattle.std.proofs.lemmas.List.Elements.{recursion_from_All}
use Rattle.std.proofs.lemmas.Option.{none-some, same_Some}
use Rattle.std.proofs.lemmas.Bool.Decides.{nat_tests}
use Rattle.std.specs.Prelude.{◌==◌, ◌⊎◌, nat_lt, filter, Option, Some, None, option_map, unwrap_or, slice_get}
use Rattle.std.specs.List.{AllByRecursion}
use Rattle.std.specs.Cmp.{unsigned_Decides}
use Rattle.std.specs.declared.cmp.Ordering.TheVariants.{Less}
use Rattle.ksql_types.specs.declared.relation.Kind.{Kind}
use Rattle.ksql_types.specs.declared.relation.Kind.TheVariants as kind
use Rattle.ksql_types.specs.declared.relation.Relation.{Relation}
use Rattle.ksql_types.specs.declared.topic.TopicSpec.{TopicSpec}
use Rattle.ksql_place.specs.Order.{record_cmp}
use Rattle.ksql_place.specs.Said.{said}
use Rattle.ksql_place.specs.declared.change.Change.{Change}
use Rattle.ksql_place.specs.declared.change.SourceRecord.{SourceRecord}
use Rattle.ksql_expr.specs.declared.typed.Typed.{Typed}
use Rattle.ksql_program.specs.Program.{relation_at, relation_of, relations}
use Rattle.ksql_program.specs.Sound.{IsSound, IsSoundItem}
use Rattle.ksql_program.specs.declared.program.Item.{Item}
use Rattle.ksql_program.specs.declared.program.Item.TheVariants.{Declared, Started}
use Rattle.ksql_program.specs.declared.query.Query.{Query}
use Rattle.ksql_program.specs.declared.query.Shape.{Shape}
use Rattle.ksql_program.specs.declared.query.Shape.TheVariants.{Plain, Group}
use Rattle.ksql_nodes.specs.declared.node.Node.TheVariants.{Select}
use Rattle.ksql_nodes.specs.Entries.{Entry, Step, from_side, results, through}
use Rattle.ksql_nodes.specs.Nodes.{gives}
use Rattle.query_meaning.specs.Meaning.{meaning}
use Rattle.query_meaning.specs.Queries.{after_aggregate, changes_at, filter_of, join_of, kind_at, lanes_of, leftmost, query_changes, read_entries, shape_steps, steps_of}
use Rattle.meaning_laws.proofs.EachRelation.{Each, each-at}
use Rattle.meaning_laws.proofs.Forks.{Rise}
use Rattle.meaning_laws.proofs.Lists.{Pairwise-from_all}
use Rattle.meaning_laws.proofs.RelationColumns.{AreChangesOf, meant-changes}
use Rattle.meaning_laws.proofs.RelationPlaces.{meant-rise}
use Rattle.meaning_laws.proofs.RelationTables.{TurnsIn, meant-turned}
use Rattle.meaning_laws.proofs.Turning.{changed-from-side}
use Rattle.ksql_place.specs.Routing.{is_to, partitions_of}
use Rattle.topology.specs.Contents.{Contents, contents, contents_from, source_contents, with_sub}
use Rattle.topology.specs.Stages.{stages_of}
use Rattle.topology.specs.Topologies.{cut_topics, cuts_of, relation_topic, stages_at, subs, subs_from, subs_of, topics_from, topology_of}
use Rattle.topology.specs.declared.stage.Stage.{Stage}
use Rattle.topology.specs.declared.topology.Sub.{Sub}
use Rattle.short_laws.specs.Fed.{IsFed, IsInItsPartition}
use Rattle.topology_laws.specs.Meant.{MeansItsQueries}
use Rattle.topology_laws.proofs.Raw.{IsRaw}
use Rattle.sending_laws.proofs.ItemLists.{before-among, before-below, before-same, each-before, item-at, list-at, relation-at, sound-at, take-length, within}
use Rattle.sending_laws.proofs.KeyColumns.{tables-keyed}
use Rattle.sending_laws.proofs.Numbering.{get-after, get-front, relation-count, stages-lanes, topics-lanes, topics-length}
use Rattle.topology_laws.proofs.OwnKeys.{table-keyed}
use Rattle.topology_laws.proofs.QuerySent.{query-others, query-sent}
use Rattle.topology_laws.proofs.RawLists.{IsPresent, declared-raw, select-present, source-parts, tabled-again}

-- ---- the last step of a query

-- steps that end with one whose changes are present
abbrev EndsPresent : List Step → Type 0
EndsPresent [] = ⊥
EndsPresent (step ∷ []) = (before es : List Entry) → AllByRecursion IsPresent (results step before es)
EndsPresent (step ∷ next ∷ steps) = EndsPresent (next ∷ steps)

ends-after : (first : List Step) (step : Step) (last : List Step) → EndsPresent (step ∷ last) → EndsPresent (first ++ step ∷ last)
ends-after [] step last ends = ends
ends-after (f ∷ []) step last ends = ends
ends-after (f ∷ g ∷ first) step last ends = ends-after (g ∷ first) step last ends

through-present : (steps : List Step) → EndsPresent steps → (es : List Entry) → AllByRecursion IsPresent (through steps es)
through-present [] ends es = absurd ends
through-present (step ∷ []) ends es = subst (AllByRecursion IsPresent) (sym (changed-from-side (results step [] es))) (ends [] es)
through-present (step ∷ next ∷ steps) ends es = through-present (next ∷ steps) ends (from_side 0 (results step [] es))

after-ends : (n : ℕ) (first : List Step) (having : Option Typed) (values : List Typed) → EndsPresent (first ++ map (gives n) (after_aggregate having values))
after-ends n first None values = ends-after first (gives n (Select [] values)) [] (select-present n [] values)
after-ends n first (Some e) values = ends-after first _ (gives n (Select [] values) ∷ []) (select-present n [] values)

shape-ends : (n : ℕ) (over : Kind) (shape : Shape) (first : List Step) → EndsPresent (first ++ shape_steps n over shape)
shape-ends n over (Plain keys values) first = ends-after first (gives n (Select keys values)) [] (select-present n keys values)
shape-ends n kind.Stream (Group keys window aggs having values) first =
    subst EndsPresent (append_assoc first (_ ∷ _ ∷ []) (map (gives n) (after_aggregate having values))) (after-ends n (first ++ _ ∷ _ ∷ []) having values)
shape-ends n kind.Table (Group keys window aggs having values) first =
    subst EndsPresent (append_assoc first (_ ∷ []) (map (gives n) (after_aggregate having values))) (after-ends n (first ++ _ ∷ []) having values)
shape-ends n kind.Windowed (Group keys window aggs having values) first =
    subst EndsPresent (append_assoc first (_ ∷ []) (map (gives n) (after_aggregate having values))) (after-ends n (first ++ _ ∷ []) having values)

query-present : (items : List Item) (lists : List (List Change)) (q : Query) → AllByRecursion IsPresent (query_changes items lists q)
unfolding query_changes steps_of
query-present items lists q =
    through-present (steps_of items q) (shape-ends (lanes_of items q) (kind_at items (leftmost q.from)) q.shape (map (gives (lanes_of items q)) (join_of items q.from ++ filter_of q.filter)))
    (read_entries items lists q.from)

-- ---- numbers

zero-plus : (n : ℕ) → 0 + n ≡ n
zero-plus n = omega arith

plus-zero : (k : ℕ) → k ≡ k + 0
plus-zero k = omega arith

plus-suc : (k n : ℕ) → (k + 1) + n ≡ k + suc n
plus-suc k n = omega arith

last-or : (j k : ℕ) → j < k + 1 → (j < k) ⊎ (j ≡ k)
last-or j k low = by (nat_lt j k) refl
  where
    by : (b : Bool) → nat_lt j k ≡ b → (j < k) ⊎ (j ≡ k)
    by true is = inl (grind (arith, nat_tests))
    by false is = inr (grind (arith, nat_tests))

abbrev IsStarted : Item → Type 0
IsStarted (Declared r) = ⊥
IsStarted (Started q) = Unit {0}

-- ---- sub-topologies in a row

contents-append : (topics : List TopicSpec) (has : Contents) (xs ys : List Sub) → contents_from topics has (xs ++ ys) ≡ contents_from topics (contents_from topics has xs) ys
unfolding contents_from
contents-append topics has [] ys = refl
contents-append topics has (x ∷ xs) ys = contents-append topics (with_sub topics has x) xs ys

counts-front : (xs ys : List TopicSpec) (place n : ℕ) → option_map (λ (t : TopicSpec). t.partitions) (slice_get xs place) ≡ Some n →
    option_map (λ (t : TopicSpec). t.partitions) (slice_get (xs ++ ys) place) ≡ Some n
counts-front xs ys place n is = by (slice_get xs place) refl is
  where
    by : (o : Option TopicSpec) → slice_get xs place ≡ o → option_map (λ (t : TopicSpec). t.partitions) o ≡ Some n → option_map (λ (t : TopicSpec). t.partitions) (slice_get (xs ++ ys) place) ≡ Some n
    by None at none = absurd (none-some n none)
    by (Some t) at some = ap (option_map (λ (t : TopicSpec). t.partitions)) (get-front xs ys place t at) ∙ some

-- ---- the topics of a program

-- the content of the topic of an item's relation
abbrev pub raw_of : List SourceRecord → List Change → Option Item → List Change
raw_of order changes None = []
raw_of order changes (Some (Declared r)) = said r order
raw_of order changes (Some (Started q)) = changes

module _ (items : List Item) (order : List SourceRecord) (sound : IsSound items) (fed : IsFed items order) where
  abbrev lists : List (List Change)
  lists = meaning items order

  abbrev pub raws : ℕ → List Change
  raws number = raw_of order (changes_at lists number) (slice_get items number)

  abbrev topics : List TopicSpec
  topics = (topology_of items).topics

  pub each-changes : Each AreChangesOf items lists
  each-changes = meant-changes items order sound fed.columns

  pub each-rise : Each (λ r. Rise) items lists
  each-rise = meant-rise items order sound fed.rises

  pub each-turned : Each TurnsIn items lists
  each-turned = meant-turned items order sound

  -- ---- each relation

  numbered : (number : ℕ) (i : Item) → slice_get items number ≡ Some i → ((relation_of i).number ≡ number) × (0 < (relation_of i).partitions)
  numbered number i at = by i at (sound-at items number i sound.sound at)
    where
      long : length (take number items) ≡ number
      long = take-length items number i at

      by : (j : Item) → slice_get items number ≡ Some j → IsSoundItem (take number items) j → ((relation_of j).number ≡ number) × (0 < (relation_of j).partitions)
      by (Declared r) is h = let some = h.0.some_partition in (h.0.numbered ∙ long, omega (arith, some))
      by (Started q) is h = let some = h.0.some_partition in (h.0.numbered ∙ long, omega (arith, some))

  query-raw : (number : ℕ) (q : Query) → slice_get items number ≡ Some (Started q) → IsRaw q.out (changes_at lists number) (changes_at lists number) × Rise (changes_at lists number)
  query-raw number q at = (
    record {
      keyed = λ is. table-keyed items items (λ n r h. h) lists each-changes number q.out here is (tables-keyed items sound.sound number q.out here is);
      stream = λ is. refl;
      table = λ is. sym (tabled-again q.out.number (changes_at lists number) (each-at TurnsIn items lists each-turned number q.out here is) present);
    },
    each-at (λ r. Rise) items lists each-rise number q.out here,
  )
    where
      here : relation_at items number ≡ Some q.out
      here = relation-at items number (Started q) at

      present : AllByRecursion IsPresent (changes_at lists number)
      present = subst (AllByRecursion IsPresent) (sym (list-at items order number (Started q) at)) (query-present items (take number lists) q)

  pub raw-at : (number : ℕ) (r : Relation) → relation_at items number ≡ Some r → IsRaw r (raws number) (changes_at lists number) × Rise (raws number)
  raw-at number r is = let found = item-at items number r is in by found.0 found.1 found.2
    where
      by : (i : Item) → slice_get items number ≡ Some i → relation_of i ≡ r → IsRaw r (raws number) (changes_at lists number) × Rise (raws number)
      by (Declared d) at same =
          subst (λ x. IsRaw x (raws number) (changes_at lists number) × Rise (raws number)) same
          (subst₂ (λ raw changes. IsRaw d raw changes × Rise raw) (sym (ap (raw_of order (changes_at lists number)) at)) (sym (list-at items order number (Declared d) at))
          (declared-raw d order (Pairwise-from_all (λ a b. record_cmp a b ≡ Less) order fed.rises)))
      by (Started q) at same =
          subst (λ x. IsRaw x (raws number) (changes_at lists number) × Rise (raws number)) same
          (subst (λ raw. IsRaw q.out raw (changes_at lists number) × Rise raw) (sym (ap (raw_of order (changes_at lists number)) at)) (query-raw number q at))

  -- ---- the relations before an item

  pub numbered-before : (k j : ℕ) (r : Relation) → relation_at (take k items) j ≡ Some r → (r.number ≡ j) × (0 < r.partitions)
  numbered-before k j r is =
      let found = item-at items j r (before-among items k j r is) in subst (λ x. (x.number ≡ j) × (0 < x.partitions)) found.2 (numbered j found.0 found.1)

  pub raw-before : (k j : ℕ) (r : Relation) → relation_at (take k items) j ≡ Some r → IsRaw r (raws j) (changes_at (take k lists) j) × Rise (raws j)
  raw-before k j r is =
      subst (λ changes. IsRaw r (raws j) changes × Rise (raws j)) (sym (before-same lists k j (before-below items k j r is))) (raw-at j r (before-among items k j r is))

  -- ---- the induction

  -- declared relations have their records from the beginning, and the first k items have theirs
  abbrev pub IsDone : ℕ → ℕ → Item → Type 0
  IsDone k j (Declared r) = Unit {0}
  IsDone k j (Started q) = j < k

  abbrev pub HasAll : ℕ → Contents → Type 0
  HasAll k has = (j : ℕ) (i : Item) → slice_get items j ≡ Some i → IsDone k j i → (part : ℕ) → has j part ≡ filter (is_to (relation_of i).partitions part) (raws j)

  pub begins : HasAll 0 (source_contents items order)
  begins j (Declared r) at done part =
      source-parts items order (recursion_from_All (IsInItsPartition items) order fed.placed) j r at
      (ap (relation_at items) (numbered j (Declared r) at).0 ∙ relation-at items j (Declared r) at) part
      ∙ ap (λ o. filter (is_to r.partitions part) (raw_of order (changes_at lists j) o)) (sym at)
  begins j (Started q) at done part = absurd (omega (arith, done))

  pub declared-more : (k : ℕ) (r : Relation) (has : Contents) → slice_get items k ≡ Some (Declared r) → HasAll k has → HasAll (k + 1) has
  declared-more k r has at all j (Declared d) is done part = all j (Declared d) is tt part
  declared-more k r has at all j (Started q) is done part = all j (Started q) is (by (last-or j k done)) part
    where
      by : (j < k) ⊎ (j ≡ k) → j < k
      by (inl low) = low
      by (inr same) = absurd (subst IsStarted (sym (same_Some (Declared r) (Started q) (sym at ∙ ap (slice_get items) (sym same) ∙ is))) tt)

  module _ (k first number : ℕ) (q : Query) (has : Contents) (at : slice_get items k ≡ Some (Started q)) (high : length items ≤ first)
      (counts : (place : ℕ) → place < length (cuts_of (stages_of items q)) → partitions_of topics (first + place) ≡ lanes_of items q) (all : HasAll k has) where
    abbrev later : Contents
    later = contents_from topics has (subs_from items k first (cuts_of (stages_of items q)) number (stages_of items q))

    k-low : k < length items
    k-low = within items k (Started q) at

    pub out-number : q.out.number ≡ k
    out-number = (numbered k (Started q) at).0

    abbrev before : List Item
    before = take k items

    pub reads : (j : ℕ) (r : Relation) → relation_at before j ≡ Some r → (part : ℕ) → has j part ≡ filter (is_to r.partitions part) (raws j)
    reads j r is part = let found = item-at items j r (before-among items k j r is) in by found.0 found.1 found.2
      where
        by : (i : Item) → slice_get items j ≡ Some i → relation_of i ≡ r → has j part ≡ filter (is_to r.partitions part) (raws j)
        by (Declared d) here same = all j (Declared d) here tt part ∙ ap (λ x. filter (is_to x.partitions part) (raws j)) same
        by (Started p) here same = all j (Started p) here (before-below items k j r is) part ∙ ap (λ x. filter (is_to x.partitions part) (raws j)) same

    pub reads-low : (j : ℕ) (r : Relation) → relation_at before j ≡ Some r → j < first
    reads-low j r is = let low : j < k = before-below items k j r is in let down : k < length items = k-low in omega (arith, low, down, high)

    pub out-count : partitions_of topics q.out.number ≡ q.out.partitions
    out-count = ap (partitions_of topics) out-number ∙ relation-count (subs items) (relations items) (cut_topics items (length items) 0 items) k q.out (relation-at items k (Started q) at)

    own : (part : ℕ) → later q.out.number part ≡ filter (is_to q.out.partitions part) (query_changes items (take k lists) q)
    own part =
        query-sent items before (before-among items k) (take k lists) (each-before AreChangesOf items lists k each-changes) (each-before (λ r. Rise) items lists k each-rise) (each-before TurnsIn items lists k each-turned)
        (numbered-before k) raws (raw-before k) q (sound-at items k (Started q) sound.sound at).1 topics has k first number reads
        (λ j r is. (reads-low j r is, let low : j < k = before-below items k j r is in let same : q.out.number ≡ k = out-number in omega (arith, low, same)))
        (let same : q.out.number ≡ k = out-number in let down : k < length items = k-low in omega (arith, same, down, high))
        counts out-count part

    others : (j : ℕ) → (j ≡ k → ⊥) → j < length items → (part : ℕ) → later j part ≡ has j part
    others j apart low part =
        query-others items q topics has k first number j (omega (arith, low, high)) (λ same. apart (same ∙ out-number)) part

    here : (part : ℕ) → later k part ≡ filter (is_to q.out.partitions part) (raws k)
    here part =
        ap (λ j. later j part) (sym out-number) ∙ own part
        ∙ ap (filter (is_to q.out.partitions part)) (sym (list-at items order k (Started q) at) ∙ ap (raw_of order (changes_at lists k)) (sym at))

    done-before : (j : ℕ) (i : Item) → (j ≡ k → ⊥) → IsDone (k + 1) j i → IsDone k j i
    done-before j (Declared r) apart done = tt
    done-before j (Started p) apart done = by (last-or j k done)
      where
        by : (j < k) ⊎ (j ≡ k) → j < k
        by (inl low) = low
        by (inr same) = absurd (apart same)

    pub query-more : HasAll (k + 1) later
    query-more j i is done part = by (j == k) refl
      where
        by : (b : Bool) → (j == k) ≡ b → later j part ≡ filter (is_to (relation_of i).partitions part) (raws j)
        by true test =
            let same : j ≡ k = (unsigned_Decides j k).0 test in
            let item : Started q ≡ i = same_Some (Started q) i (sym at ∙ ap (slice_get items) (sym same) ∙ is) in
            ap (λ n. later n part) same ∙ here part
            ∙ ap₂ (λ x n. filter (is_to (relation_of x).partitions part) (raws n)) item (sym same)
        by false test =
            let apart : j ≡ k → ⊥ = λ same. true≢false (sym ((unsigned_Decides j k).1 same) ∙ test) in
            others j apart (within items j i is) part ∙ all j i is (done-before j i apart done) part

  -- the repartition topics of an item, found among all topics
  item-counts : (first number : ℕ) (front rest : List TopicSpec) (name : List ℕ) (q : Query) → topics ≡ front ++ (topics_from first number name (stages_of items q) ++ rest) → length front ≡ first →
      (place : ℕ) → place < length (cuts_of (stages_of items q)) → partitions_of topics (first + place) ≡ lanes_of items q
  item-counts first number front rest name q is long place low =
      let own : List TopicSpec = topics_from first number name (stages_of items q) in
      ap (λ o. unwrap_or o 1)
      (ap₂ (λ ts n. option_map (λ (t : TopicSpec). t.partitions) (slice_get ts (n + place))) is (sym long)
      ∙ ap (option_map (λ (t : TopicSpec). t.partitions)) (get-after front (own ++ rest) place)
      ∙ counts-front own rest place (lanes_of items q) (topics-lanes (lanes_of items q) first number name (stages_of items q) (stages-lanes items q) place low))

  -- what holds where sources have what their records say, and stays so with each item, holds of the whole topology
  module _ (Holds : ℕ → Contents → Type 0)
      (declared : (k : ℕ) (r : Relation) (has : Contents) → slice_get items k ≡ Some (Declared r) → Holds k has → Holds (k + 1) has)
      (started : (k first number : ℕ) (q : Query) (has : Contents) → slice_get items k ≡ Some (Started q) → length items ≤ first →
      ((place : ℕ) → place < length (cuts_of (stages_of items q)) → partitions_of topics (first + place) ≡ lanes_of items q) → Holds k has →
      Holds (k + 1) (contents_from topics has (subs_from items k first (cuts_of (stages_of items q)) number (stages_of items q)))) where
    kept-from : (after : List Item) (k first number : ℕ) (front : List TopicSpec) (has : Contents) →
        ((n : ℕ) → slice_get items (k + n) ≡ slice_get after n) → topics ≡ front ++ cut_topics items first number after → length front ≡ first → length items ≤ first →
        Holds k has → Holds (k + length after) (contents_from topics has (subs_of items k first number after))
    unfolding contents_from cut_topics subs_of
    kept-from [] k first number front has here is long high all = let same : k ≡ k + 0 = omega arith in subst (λ m. Holds m has) same all
    kept-from (i ∷ after) k first number front has here is long high all =
        subst₂ Holds count (sym (contents-append topics has (subs_from items k first (cuts_of stages) number stages) (subs_of items (k + 1) (first + length (cuts_of stages)) (number + length stages) after)))
        (kept-from after (k + 1) (first + length (cuts_of stages)) (number + length stages) (front ++ own) (contents_from topics has (subs_from items k first (cuts_of stages) number stages))
        (λ n. ap (slice_get items) (plus-suc k n) ∙ here (suc n))
        (is ∙ sym (append_assoc front own rest))
        (length-append front own ∙ ap₂ (λ a b. a + b) long (topics-length first number (relation_of i).name stages))
        (omega (arith, high))
        (by i refl at))
      where
        stages : List Stage
        stages = stages_at items i

        own : List TopicSpec
        own = topics_from first number (relation_of i).name stages

        rest : List TopicSpec
        rest = cut_topics items (first + length (cuts_of stages)) (number + length stages) after

        at : slice_get items k ≡ Some i
        at = ap (slice_get items) (plus-zero k) ∙ here zero

        count : (k + 1) + length after ≡ k + length (i ∷ after)
        count = omega arith

        -- (its topics among all, whatever the item is)
        among : (j : Item) → i ≡ j → topics ≡ front ++ (topics_from first number (relation_of i).name (stages_at items j) ++ rest)
        among j same = subst (λ x. topics ≡ front ++ (topics_from first number (relation_of i).name (stages_at items x) ++ rest)) same is

        by : (j : Item) → i ≡ j → slice_get items k ≡ Some j → Holds (k + 1) (contents_from topics has (subs_from items k first (cuts_of (stages_at items j)) number (stages_at items j)))
        by (Declared r) same item = declared k r has item all
        by (Started q) same item = started k first number q has item high (item-counts first number front rest (relation_of i).name q (among (Started q) same) long) all

    pub kept : Holds 0 (source_contents items order) → Holds (length items) (contents items (topology_of items) order)
    kept begin =
        let same : 0 + length items ≡ length items = omega arith in
        subst (λ m. Holds m (contents items (topology_of items) order)) same
        (kept-from items 0 (length items) 0 (map (relation_topic (subs items)) (relations items)) (source_contents items order)
        (λ n. ap (slice_get items) (zero-plus n)) refl (length-map (relations items) (relation_topic (subs items)) ∙ length-map items relation_of) (omega arith) begin)

  -- each partition of each relation's topic has its part of the relation's list
  pub all-sent : HasAll (length items) (contents items (topology_of items) order)
  all-sent = kept HasAll declared-more query-more begins

  pub means : MeansItsQueries items (topology_of items) order
  means number q at part =
      all-sent number (Started q) at (within items number (Started q) at) part
      ∙ ap (λ o. filter (is_to q.out.partitions part) (raw_of order (changes_at lists number) o)) at
