-- The sources of a program, before any feed and after each.
use Rattle.std.proofs.Common.{◌≡◌, ◌∙◌, ap, sym, refl, ℕ, List, [], ◌∷◌, ◌++◌, ◌+◌, ◌≤◌, length, map, take, Some, append_assoc, arith}
use Rattle.std.specs.List.{AllByRecursion}
use Rattle.std.proofs.lemmas.List.{length-append}
use Rattle.std.proofs.lemmas.List.Elements.{All-append, All-drop, All-from_recursion, All-map, All-nil, All-weaker}
use Rattle.ksql_place.specs.declared.change.SourceRecord.{SourceRecord}
use Rattle.ksql_program.specs.Program.{relation_at, relation_of}
use Rattle.ksql_program.specs.Sound.{AreSoundItems, IsSound, IsSoundRelation}
use Rattle.ksql_program.specs.declared.program.Item.{Item}
use Rattle.ksql_program.specs.declared.program.Item.TheVariants.{Declared, Started}
use Rattle.topic_files.specs.declared.topic.TopicLines.{TopicLines}
use Rattle.topic_feeds.proofs.Feeds.{fed-feed}
use Rattle.feed_laws.specs.Feeds.{Source, after_feed, fed_of, sources_of}
use Rattle.feed_laws.specs.Fitting.{AreFilesOf, AreSourcesOf, IsFedOf, IsSourceOf}
use Rattle.feed_laws.proofs.FedRecords.{IsApart}
use Rattle.feed_laws.proofs.Lists.{AllPairs-from_pairwise, Pairwise, each-weaker, pairwise-from_AllPairs, pairwise-map}

-- ---- before any feed

item-there : (before : List Item) (item : Item) (later : List Item) → relation_at (before ++ item ∷ later) (length before) ≡ Some (relation_of item)
item-there [] item later = refl
item-there (i ∷ before) item later = item-there before item later

-- a source of a later item
abbrev IsLater : ℕ → Source → Type 0
IsLater number s = number ≤ s.relation.number

module _ (items : List Item) where
  next-items : (before : List Item) (i : Item) (later : List Item) → items ≡ before ++ i ∷ later → items ≡ (before ++ i ∷ []) ++ later
  next-items before i later all = all ∙ sym (append_assoc before (i ∷ []) later)

  next-length : (before : List Item) (i : Item) → length (before ++ i ∷ []) ≡ length before + 1
  next-length before i = length-append before (i ∷ [])

  begun : (before later : List Item) (files : List TopicLines) → items ≡ before ++ later → AreSoundItems before later → AreFilesOf later files →
      AllByRecursion (IsSourceOf items 0) (sources_of later files)
  begun before [] files all sound fit = tt
  begun before (Declared r ∷ later) [] all sound fit = absurd fit
  begun before (Declared r ∷ later) (file ∷ files) all sound fit =
      let is : IsSoundRelation (length before) r = sound.0.0 in (
        record {
          relation = ap (relation_at items) is.numbered ∙ ap (λ (all : List Item). relation_at all (length before)) all ∙ item-there before (Declared r) later;
          declared = sound.0.1.declared;
          some = is.some_partition;
          few = is.partitions_few;
          left = fit.0;
          before = All-nil (λ (x : SourceRecord). x.stamp.feed ≤ 0);
        },
        begun (before ++ Declared r ∷ []) later files (next-items before (Declared r) later all) sound.1 fit.1,
      )
  begun before (Started q ∷ later) files all sound fit = begun (before ++ Started q ∷ []) later files (next-items before (Started q) later all) sound.1 fit

  later-numbers : (before rest : List Item) (files : List TopicLines) → AreSoundItems before rest → AreFilesOf rest files → AllByRecursion (IsLater (length before)) (sources_of rest files)
  later-numbers before [] files sound fit = tt
  later-numbers before (Declared r ∷ rest) [] sound fit = absurd fit
  later-numbers before (Declared r ∷ rest) (file ∷ files) sound fit =
      let is : IsSoundRelation (length before) r = sound.0.0 in (
        omega (arith, is.numbered),
        each-weaker (IsLater (length (before ++ Declared r ∷ []))) (IsLater (length before)) (λ s low. omega (arith, low, next-length before (Declared r))) (sources_of rest files)
            (later-numbers (before ++ Declared r ∷ []) rest files sound.1 fit.1),
      )
  later-numbers before (Started q ∷ rest) files sound fit =
      each-weaker (IsLater (length (before ++ Started q ∷ []))) (IsLater (length before)) (λ s low. omega (arith, low, next-length before (Started q))) (sources_of rest files)
      (later-numbers (before ++ Started q ∷ []) rest files sound.1 fit)

  apart-numbers : (before rest : List Item) (files : List TopicLines) → AreSoundItems before rest → AreFilesOf rest files → Pairwise IsApart (sources_of rest files)
  apart-numbers before [] files sound fit = tt
  apart-numbers before (Declared r ∷ rest) [] sound fit = absurd fit
  apart-numbers before (Declared r ∷ rest) (file ∷ files) sound fit =
      let is : IsSoundRelation (length before) r = sound.0.0 in
      let own : Source = record { relation = r; before = []; left = file.feds } in (
        each-weaker (IsLater (length (before ++ Declared r ∷ []))) (IsApart own) (λ s low same. absurd (omega (arith, low, same, is.numbered, next-length before (Declared r)))) (sources_of rest files)
            (later-numbers (before ++ Declared r ∷ []) rest files sound.1 fit.1),
        apart-numbers (before ++ Declared r ∷ []) rest files sound.1 fit.1,
      )
  apart-numbers before (Started q ∷ rest) files sound fit = apart-numbers (before ++ Started q ∷ []) rest files sound.1 fit

pub sources-begin : (items : List Item) (files : List TopicLines) → IsSound items → AreFilesOf items files → AreSourcesOf items 0 (sources_of items files)
sources-begin items files sound fit = record {
  each = All-from_recursion (IsSourceOf items 0) (sources_of items files) (begun items [] items files refl sound.sound fit);
  apart = AllPairs-from_pairwise IsApart (sources_of items files) (apart-numbers items [] items files sound.sound fit);
}

-- ---- after a feed

source-goes_on : (items : List Item) (fed : ℕ) (count : Source → ℕ) (s : Source) → IsSourceOf items fed s → IsSourceOf items (fed + 1) (after_feed (fed + 1) count s)
source-goes_on items fed count s is = record {
  relation = is.relation;
  declared = is.declared;
  some = is.some;
  few = is.few;
  left = All-drop (IsFedOf s.relation) (count s) s.left is.left;
  before =
      All-append IsUpTo s.before (fed_of (fed + 1) count s)
      (All-weaker (λ (r : SourceRecord). r.stamp.feed ≤ fed) IsUpTo (λ r low. omega (arith, low)) s.before is.before)
      (All-weaker (λ (r : SourceRecord). r.stamp.feed ≡ fed + 1) IsUpTo (λ r same. omega (arith, same)) (fed_of (fed + 1) count s)
      (fed-feed (fed + 1) s.relation s.before (take (count s) s.left)));
}
  where
    IsUpTo : SourceRecord → Type 0
    IsUpTo r = r.stamp.feed ≤ fed + 1

pub sources-go_on : (items : List Item) (fed : ℕ) (count : Source → ℕ) (sources : List Source) → AreSourcesOf items fed sources →
    AreSourcesOf items (fed + 1) (map (after_feed (fed + 1) count) sources)
sources-go_on items fed count sources are = record {
  each =
      All-map (IsSourceOf items (fed + 1)) (after_feed (fed + 1) count) sources
      (All-weaker (IsSourceOf items fed) (λ (s : Source). IsSourceOf items (fed + 1) (after_feed (fed + 1) count s)) (λ s is. source-goes_on items fed count s is) sources are.each);
  apart =
      AllPairs-from_pairwise IsApart (map (after_feed (fed + 1) count) sources)
      (pairwise-map IsApart (after_feed (fed + 1) count) sources (pairwise-from_AllPairs IsApart sources are.apart));
}
