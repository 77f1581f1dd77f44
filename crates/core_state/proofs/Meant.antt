-- The meaning by recursion is one that the law of the core requires.
use mathlib.Core.Logic.{inl, inr}
use Rattle.std.specs.Prelude.{All, map, filter}
use Rattle.std.proofs.Common.{◌≡◌, ◌∙◌, ap, ap₂, sym, refl, subst, ℕ, ◌+◌, List, [], ◌∷◌, ◌++◌, ◌<◌, ◌≤◌, arith, ◌⊎◌}
use Rattle.std.proofs.lemmas.List.{append-nil, map-append}
use Rattle.std.proofs.lemmas.List.Elements.{All-head, All-tail, All-cons, All-nil, All-append, All-weaker, All-filter, filter-append}
use Rattle.ksql_types.specs.declared.relation.TaskName.{TaskName}
use Rattle.ksql_place.specs.declared.change.Change.{Change}
use Rattle.ksql_place.specs.declared.change.SourceRecord.{SourceRecord}
use Rattle.core_state.specs.Law.{IsMeaning}
use Rattle.core_state.specs.Meaning.{Grows}
use Rattle.core_state.specs.State.{feed_of, is_in}
use Rattle.core_state.specs.Whole.{HoldsWell}
use Rattle.core_state.specs.Wired.{between, is_between, log_feed, Wiring, all_entries, GivesWell, Solves, IsWired, wired, source_contents, contents_of, IsStaged, mean_of, AreCounted, order_upto, CutsAlike}
use Rattle.core_state.specs.declared.log.LogEntry.TheVariants.{Fed}
use Rattle.ksql_types.specs.declared.relation.StoreEntry.{StoreEntry}
use Rattle.core_state.proofs.Feeds.{nat_cases, cons_gone, below_it, above_it, between-all, between-above, between-within}
use Rattle.core_state.proofs.Staging.{stays, written, all-bounded, entries-cut, all-cut, last_feed, All-records, All-both}
use Rattle.core_state.proofs.Wiring.{means-wired, filter-map, filter-swap}

between-none : {A : Type 0} (feed : A → ℕ) (a : ℕ) (xs : List A) → between feed a a xs ≡ []
between-none feed a [] = refl
between-none feed a (x ∷ xs) = by (nat_cases (feed x) a) (between-none feed a xs)
  where
    by : (feed x ≤ a) ⊎ (a < feed x) → between feed a a xs ≡ [] → between feed a a (x ∷ xs) ≡ []
    by (inl low) rest = cons_gone feed (is_between feed a a) x xs (below_it feed a a x low) ∙ rest
    by (inr high) rest = cons_gone feed (is_between feed a a) x xs (above_it feed a a x high) ∙ rest

none_within : (xs : List Change) → All (λ x. (0 < feed_of x) × (feed_of x ≤ 0)) xs → xs ≡ []
none_within [] h = refl
none_within (x ∷ xs) h = let first = All-head (λ x. (0 < feed_of x) × (feed_of x ≤ 0)) x xs h in absurd (omega (arith, first.0, first.1))

All-left : {A : Type 0} (P : A → Type 0) (us vs : List A) → All P (us ++ vs) → All P us
All-left P [] vs h = All-nil P
All-left P (u ∷ us) vs h = All-cons P u us (All-head P u (us ++ vs) h) (All-left P us vs (All-tail P u (us ++ vs) h))

sources-in : (last : ℕ) (order : List SourceRecord) → AreCounted order → All (λ r. r.stamp.feed ≤ last) order → (o q : ℕ) → All (λ x. (0 < log_feed x) × (log_feed x ≤ last)) (source_contents order o q)
sources-in last order counted low o q =
    All-records (λ x. (0 < log_feed x) × (log_feed x ≤ last)) (filter (is_in o q) order)
    (All-filter (is_in o q) (λ r. (0 < r.stamp.feed) × (r.stamp.feed ≤ last)) order (All-both (λ r. 0 < r.stamp.feed) (λ r. r.stamp.feed ≤ last) order counted low))

-- the sources with one more feed
sources-more : (order records : List SourceRecord) (o q : ℕ) → source_contents (order ++ records) o q ≡ source_contents order o q ++ map Fed (filter (is_in o q) records)
sources-more order records o q = ap (map Fed) (filter-append (is_in o q) order records) ∙ map-append Fed (filter (is_in o q) order) (filter (is_in o q) records)

sources-cut : (fed : ℕ) (order records : List SourceRecord) → AreCounted order → All (λ r. r.stamp.feed ≤ fed) order → All (λ r. r.stamp.feed ≡ fed + 1) records → (o q : ℕ) →
    between log_feed 0 fed (source_contents (order ++ records) o q) ≡ source_contents order o q
sources-cut fed order records counted low high o q =
    ap (between log_feed 0 fed) (sources-more order records o q)
    ∙ filter-append (is_between log_feed 0 fed) (source_contents order o q) (map Fed (filter (is_in o q) records))
    ∙ ap₂ (λ us vs. us ++ vs) (between-all log_feed 0 fed (source_contents order o q) (sources-in fed order counted low o q))
    (between-above log_feed 0 fed (map Fed (filter (is_in o q) records)) (All-records (λ x. fed < log_feed x) (filter (is_in o q) records)
    (All-filter (is_in o q) (λ r. fed < r.stamp.feed) records (All-weaker (λ r. r.stamp.feed ≡ fed + 1) (λ r. fed < r.stamp.feed) (λ r h. omega (arith, h)) records high))))
    ∙ append-nil (source_contents order o q)

module _ {E : Type 0} (w : Wiring E) (well : GivesWell w) (topics : List ℕ) (staged : IsStaged w topics) where
  solves : (order : List SourceRecord) (last : ℕ) → AreCounted order → All (λ r. r.stamp.feed ≤ last) order → Solves w order last (contents_of w topics order)
  solves order last counted low = record {
    sources = λ topic q source. stays w well (source_contents order) topics topic q (λ at. staged.only topic at source);
    written = λ topic q some. written w well (source_contents order) topics staged.stages topic q (staged.all topic some);
    bounded = all-bounded w well last (source_contents order) topics (sources-in last order counted low);
  }

  -- the sources, cut at a feed
  cut-sources : (order : List SourceRecord) (c o q : ℕ) → between log_feed 0 c (source_contents order o q) ≡ source_contents (order_upto c order) o q
  cut-sources order c o q =
      filter-map (is_between log_feed 0 c) Fed (filter (is_in o q) order)
      ∙ ap (map Fed) (filter-swap (is_between (λ (r : SourceRecord). r.stamp.feed) 0 c) (is_in o q) order)

  pub cut : CutsAlike w topics
  cut order counted c topic q =
      let bound = last_feed order in
      let last : ℕ = c + bound.0 in
      sym (all-cut w well c last (omega arith) (source_contents (order_upto c order)) (source_contents order) topics
      (sources-in last order counted (All-weaker (λ r. r.stamp.feed ≤ bound.0) (λ r. r.stamp.feed ≤ last) (λ r h. omega (arith, h)) order bound.1))
      (cut-sources order c) topic q)

  module _ (fed : ℕ) (order records : List SourceRecord) (counted : AreCounted (order ++ records)) (low : All (λ r. r.stamp.feed ≤ fed) order) (high : All (λ r. r.stamp.feed ≡ fed + 1) records) where
    all-low : All (λ r. r.stamp.feed ≤ fed + 1) (order ++ records)
    all-low = All-append (λ r. r.stamp.feed ≤ fed + 1) order records
        (All-weaker (λ r. r.stamp.feed ≤ fed) (λ r. r.stamp.feed ≤ fed + 1) (λ r h. omega (arith, h)) order low)
        (All-weaker (λ r. r.stamp.feed ≡ fed + 1) (λ r. r.stamp.feed ≤ fed + 1) (λ r h. omega (arith, h)) records high)

    -- what partitions have up to the earlier feed is what they had
    extends : (o q : ℕ) → between log_feed 0 fed (contents_of w topics (order ++ records) o q) ≡ contents_of w topics order o q
    extends = all-cut w well fed (fed + 1) (omega arith) (source_contents order) (source_contents (order ++ records)) topics
        (sources-in (fed + 1) (order ++ records) counted all-low)
        (sources-cut fed order records (All-left (λ r. 0 < r.stamp.feed) order records counted) low high)

    cut-entries : (t : TaskName) → between w.feed 0 fed (all_entries w (contents_of w topics (order ++ records)) t) ≡ all_entries w (contents_of w topics order) t
    cut-entries = entries-cut w well fed (fed + 1) (omega arith) (contents_of w topics order) (contents_of w topics (order ++ records)) extends

    same-entries : (t : TaskName) (a b : ℕ) → b ≤ fed → between w.feed a b (all_entries w (contents_of w topics (order ++ records)) t) ≡ between w.feed a b (all_entries w (contents_of w topics order) t)
    same-entries t a b le = sym (between-within w.feed a b 0 fed (all_entries w (contents_of w topics (order ++ records)) t) (omega arith) le) ∙ ap (between w.feed a b) (cut-entries t)

    module _ {H : Type 0} (Stands : TaskName → H → List E → Type 0) (replay : TaskName → List StoreEntry → H) (MayLoad : TaskName → StoreEntry → Type 0) where
      grows : Grows (wired w Stands replay MayLoad) fed records (mean_of w topics order) (mean_of w topics (order ++ records))
      grows = record {
        order = refl;
        entries = λ t is c le. same-entries t 0 c le;
        results = λ t is a b ab le. ap₂ (w.gives t) (same-entries t 0 a (omega (arith, ab, le))) (same-entries t a b le);
        has = λ topic q c le. sym (between-within log_feed 0 c 0 fed (contents_of w topics (order ++ records) topic q) (omega arith) le) ∙ ap (between log_feed 0 c) (extends topic q);
        sources = λ topic q source.
            between-all log_feed 0 (fed + 1) (contents_of w topics (order ++ records) topic q) ((solves (order ++ records) (fed + 1) counted all-low).bounded topic q)
            ∙ (solves (order ++ records) (fed + 1) counted all-low).sources topic q source
            ∙ sources-more order records topic q
            ∙ ap (λ us. us ++ map Fed (filter (is_in topic q) records))
            (sym (between-all log_feed 0 fed (contents_of w topics order topic q) ((solves order fed (All-left (λ r. 0 < r.stamp.feed) order records counted) low).bounded topic q)
            ∙ (solves order fed (All-left (λ r. 0 < r.stamp.feed) order records counted) low).sources topic q source));
      }

  pub meant : IsWired w → {H : Type 0} (Stands : TaskName → H → List E → Type 0) (replay : TaskName → List StoreEntry → H) (MayLoad : TaskName → StoreEntry → Type 0) →
      HoldsWell w Stands replay → IsMeaning (wired w Stands replay MayLoad) AreCounted (mean_of w topics)
  meant shape Stands replay MayLoad holds = record {
    of_order = λ order. refl;
    means = λ order counted. means-wired w well order (last_feed order).0 (contents_of w topics order) (solves order (last_feed order).0 counted (last_feed order).1) Stands replay MayLoad shape holds.goes_on;
    grows = λ fed order records counted low high. grows fed order records counted low high Stands replay MayLoad;
    opens = record {
      order = refl;
      has = λ topic q. between-none log_feed 0 (contents_of w topics [] topic q);
      results = λ t is. none_within (w.gives t (between w.feed 0 0 (all_entries w (contents_of w topics []) t)) (between w.feed 0 0 (all_entries w (contents_of w topics []) t)))
          (well.keeps_feed t (between w.feed 0 0 (all_entries w (contents_of w topics []) t)) (between w.feed 0 0 (all_entries w (contents_of w topics []) t)) 0 0
          (subst (All (λ e. (0 < w.feed e) × (w.feed e ≤ 0))) (sym (between-none w.feed 0 (all_entries w (contents_of w topics []) t))) (All-nil (λ e. (0 < w.feed e) × (w.feed e ≤ 0)))));
      stands = λ t is. subst (Stands t (replay t [])) (sym (between-none w.feed 0 (all_entries w (contents_of w topics []) t))) (holds.fresh t is);
    };
    earlier = λ order records counted. All-left (λ r. 0 < r.stamp.feed) order records counted;
  }
