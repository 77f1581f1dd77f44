-- The contents by recursion solve the equations, and a further feed leaves what was.
use mathlib.Core.Logic.{inl, inr}
use Rattle.std.specs.Prelude.{All, Contains, map, flat_map, ◌==◌, if◌then◌else◌, slice_index_or}
use Rattle.std.proofs.Common.{◌≡◌, ◌∙◌, ap, ap₂, sym, refl, subst, ℕ, zero, suc, ◌+◌, List, [], ◌∷◌, ◌++◌, ◌<◌, ◌≤◌, arith, Bool, true, false, ◌⊎◌, length}
use Rattle.std.proofs.lemmas.Bool.Decides.{nat_tests}
use Rattle.std.proofs.lemmas.List.{append-nil}
use Rattle.std.proofs.lemmas.List.Elements.{All-cons, All-nil, All-append, All-weaker, All-filter, All-map, filter-append}
use Rattle.ksql_types.specs.declared.relation.TaskName.{TaskName}
use Rattle.ksql_place.specs.Routing.{change_cmp}
use Rattle.ksql_place.specs.declared.change.Change.{Change}
use Rattle.ksql_place.specs.declared.change.SourceRecord.{SourceRecord}
use Rattle.ksql_place.proofs.Ascending.{Ascends-ascending}
use Rattle.core_state.specs.Routes.{merged, sent_to}
use Rattle.core_state.specs.State.{feed_of}
use Rattle.core_state.specs.Wired.{between, is_between, log_feed, Wiring, all_entries, GivesWell, sent_by_all, with_topic, contents_from, InStages}
use Rattle.core_state.specs.declared.log.LogEntry.{LogEntry}
use Rattle.core_state.specs.declared.log.LogEntry.TheVariants.{Fed, Said}
use Rattle.core_state.proofs.Feeds.{All-ascending, All-between, between-all, between-above, between-parts}
use Rattle.core_state.proofs.Lists.{map-members, Contains-here, Contains-next, nat_which}
use Rattle.core_state.proofs.Wiring.{All-entries, filter-map, filter-swap, All-flat_map, between-reads, reads-members, between-merged}

test-itself : (a : ℕ) → (a == a) ≡ true
test-itself a = grind (arith, nat_tests)

test-other : (a b : ℕ) → ¬ (a ≡ b) → (a == b) ≡ false
test-other a b n = by (a == b) refl
  where
    by : (c : Bool) → (a == b) ≡ c → (a == b) ≡ false
    by true is = absurd (n (grind (arith, nat_tests)))
    by false is = is

-- a member of a list is its head or a member of the rest
pub Contains-cases : {A : Type 0} (x : A) (xs : List A) (y : A) → Contains (x ∷ xs) y → (x ≡ y) ⊎ Contains xs y
Contains-cases x xs y at = by at.0 at.1 at.2
  where
    by : (k : ℕ) → k < length (x ∷ xs) → slice_index_or (x ∷ xs) k y ≡ y → (x ≡ y) ⊎ Contains xs y
    by zero lt is = inl is
    by (suc k) lt is = inr (k, omega (arith, lt), is)

pub All-records : (P : LogEntry → Type 0) (rs : List SourceRecord) → All (λ r. P (Fed r)) rs → All P (map Fed rs)
All-records P rs h = All-map P Fed rs h

-- some feed is not before any of the records
pub last_feed : (order : List SourceRecord) → (n : ℕ) × All (λ r. r.stamp.feed ≤ n) order
last_feed [] = (0, All-nil (λ r. r.stamp.feed ≤ 0))
last_feed (r ∷ rs) =
    let rest = last_feed rs in
    let n : ℕ = r.stamp.feed + rest.0 in
    (n, All-cons (λ x. x.stamp.feed ≤ n) r rs (omega arith) (All-weaker (λ x. x.stamp.feed ≤ rest.0) (λ x. x.stamp.feed ≤ n) (λ x h. omega (arith, h)) rs rest.1))

pub All-both : {A : Type 0} (P Q : A → Type 0) (xs : List A) → All P xs → All Q xs → All (λ x. P x × Q x) xs
All-both P Q xs h k = λ i d lt. (h i d lt, k i d lt)

module _ {E : Type 0} (w : Wiring E) where
  pub topic-itself : (has : ℕ → ℕ → List LogEntry) (topic q : ℕ) → with_topic w has topic topic q ≡ sent_by_all w has topic q
  topic-itself has topic q = ap (λ (c : Bool). if c then sent_by_all w has topic q else has topic q) (test-itself topic)

  pub topic-other : (has : ℕ → ℕ → List LogEntry) (topic o q : ℕ) → ¬ (o ≡ topic) → with_topic w has topic o q ≡ has o q
  topic-other has topic o q n = ap (λ (c : Bool). if c then sent_by_all w has topic q else has o q) (test-other o topic n)

module _ {E : Type 0} (w : Wiring E) (well : GivesWell w) where
  pub stays : (has : ℕ → ℕ → List LogEntry) (topics : List ℕ) (o q : ℕ) → ¬ Contains topics o → contents_from w has topics o q ≡ has o q
  unfolding contents_from
  stays has [] o q none = refl
  stays has (topic ∷ later) o q none =
      stays (with_topic w has topic) later o q (λ at. none (Contains-next topic o later at))
      ∙ topic-other w has topic o q (λ e. none (subst (λ (x : ℕ). Contains (topic ∷ later) x) (sym e) (Contains-here topic later)))

  sent-same : (has final : ℕ → ℕ → List LogEntry) (topic q : ℕ) → ((u : TaskName) → Contains (w.routes.writers topic) u → (i : ℕ) → Contains (w.inputs u) i → has i u.part ≡ final i u.part) →
      sent_by_all w has topic q ≡ sent_by_all w final topic q
  sent-same has final topic q h = ap (λ ls. map Said (merged ls))
      (map-members (λ u. sent_to w.routes u q (w.gives u [] (all_entries w has u))) (λ u. sent_to w.routes u q (w.gives u [] (all_entries w final u))) (w.routes.writers topic)
      (λ u at. ap (λ es. sent_to w.routes u q (w.gives u [] es)) (reads-members w well u (λ i. has i u.part) (λ i. final i u.part) (h u at))))

  pub written : (has : ℕ → ℕ → List LogEntry) (topics : List ℕ) → InStages w topics → (o q : ℕ) → Contains topics o → contents_from w has topics o q ≡ sent_by_all w (contents_from w has topics) o q
  unfolding contents_from
  written has [] stages o q at = absurd (omega (arith, at.1))
  written has (topic ∷ later) stages o q at = by (Contains-cases topic later o at) (written (with_topic w has topic) later stages.2 o q)
    where
      final : ℕ → ℕ → List LogEntry
      final = contents_from w (with_topic w has topic) later

      here : final topic q ≡ sent_by_all w final topic q
      here =
          stays (with_topic w has topic) later topic q stages.0 ∙ topic-itself w has topic q
          ∙ sent-same has final topic q (λ u of i reads.
          let none : ¬ Contains (topic ∷ later) i = stages.1 u of i reads in
          sym (stays (with_topic w has topic) later i u.part (λ k. none (Contains-next topic i later k))
          ∙ topic-other w has topic i u.part (λ e. none (subst (λ (x : ℕ). Contains (topic ∷ later) x) (sym e) (Contains-here topic later)))))

      by : (topic ≡ o) ⊎ Contains later o → (Contains later o → final o q ≡ sent_by_all w final o q) → final o q ≡ sent_by_all w final o q
      by (inl e) rest = subst (λ (x : ℕ). final x q ≡ sent_by_all w final x q) e here
      by (inr k) rest = rest k

  -- ---- feeds stay within bounds
  module _ (last : ℕ) where
    abbrev pub InFeeds : (ℕ → ℕ → List LogEntry) → Type 0
    InFeeds has = (o q : ℕ) → All (λ x. (0 < log_feed x) × (log_feed x ≤ last)) (has o q)

    entries-bounded : (has : ℕ → ℕ → List LogEntry) → InFeeds has → (t : TaskName) → All (λ e. (0 < w.feed e) × (w.feed e ≤ last)) (all_entries w has t)
    entries-bounded has h t = All-ascending (w.entry_cmp t) (λ e. (0 < w.feed e) × (w.feed e ≤ last)) (flat_map (λ i. flat_map (w.entry t i) (has i t.part)) (w.inputs t))
        (All-flat_map (λ e. (0 < w.feed e) × (w.feed e ≤ last)) (λ i. flat_map (w.entry t i) (has i t.part)) (w.inputs t) (λ i.
        All-entries log_feed w.feed (w.entry t i) (well.entry_feed t i) last (has i t.part) (h i t.part)))

    sent-bounded : (has : ℕ → ℕ → List LogEntry) → InFeeds has → (topic q : ℕ) → All (λ x. (0 < log_feed x) × (log_feed x ≤ last)) (sent_by_all w has topic q)
    sent-bounded has h topic q =
        let P : Change → Type 0 = λ x. (0 < feed_of x) × (feed_of x ≤ last) in
        let ls : List (List Change) = map (λ u. sent_to w.routes u q (w.gives u [] (all_entries w has u))) (w.routes.writers topic) in
        All-map (λ x. (0 < log_feed x) × (log_feed x ≤ last)) Said (merged ls)
        (All-ascending change_cmp P (flat_map (λ xs. xs) ls)
        (flat (w.routes.writers topic)))
      where
        P : Change → Type 0
        P = λ x. (0 < feed_of x) × (feed_of x ≤ last)

        flat : (us : List TaskName) → All P (flat_map (λ xs. xs) (map (λ u. sent_to w.routes u q (w.gives u [] (all_entries w has u))) us))
        flat [] = All-nil P
        flat (u ∷ us) = All-append P (sent_to w.routes u q (w.gives u [] (all_entries w has u))) (flat_map (λ xs. xs) (map (λ u. sent_to w.routes u q (w.gives u [] (all_entries w has u))) us))
            (All-filter (λ x. w.routes.lane_of u x == q) P (w.gives u [] (all_entries w has u)) (well.keeps_feed u [] (all_entries w has u) 0 last (entries-bounded has h u))) (flat us)

    pub all-bounded : (has : ℕ → ℕ → List LogEntry) (topics : List ℕ) → InFeeds has → InFeeds (contents_from w has topics)
    unfolding contents_from
    all-bounded has [] h = h
    all-bounded has (topic ∷ later) h = all-bounded (with_topic w has topic) later (λ o q. by o q (nat_which o topic))
      where
        by : (o q : ℕ) → (o ≡ topic) ⊎ ¬ (o ≡ topic) → All (λ x. (0 < log_feed x) × (log_feed x ≤ last)) (with_topic w has topic o q)
        by o q (inl e) = subst (λ (x : ℕ). All (λ x. (0 < log_feed x) × (log_feed x ≤ last)) (with_topic w has topic x q)) (sym e)
            (subst (All (λ x. (0 < log_feed x) × (log_feed x ≤ last))) (sym (topic-itself w has topic q)) (sent-bounded has h topic q))
        by o q (inr n) = subst (All (λ x. (0 < log_feed x) × (log_feed x ≤ last))) (sym (topic-other w has topic o q n)) (h o q)

  -- ---- the prefix law
  module _ (fed last : ℕ) (below : fed ≤ last) where
    abbrev pub Extends : (has more : ℕ → ℕ → List LogEntry) → Type 0
    Extends has more = (o q : ℕ) → between log_feed 0 fed (more o q) ≡ has o q

    pub entries-cut : (has more : ℕ → ℕ → List LogEntry) → Extends has more → (t : TaskName) → between w.feed 0 fed (all_entries w more t) ≡ all_entries w has t
    entries-cut has more h t = between-reads w well t 0 fed (λ i. more i t.part)
        ∙ reads-members w well t (λ i. between log_feed 0 fed (more i t.part)) (λ i. has i t.part) (λ i _. h i t.part)

    gives-cut : (more : ℕ → ℕ → List LogEntry) → InFeeds last more → (t : TaskName) →
        between feed_of 0 fed (w.gives t [] (all_entries w more t)) ≡ w.gives t [] (between w.feed 0 fed (all_entries w more t))
    gives-cut more bounded t =
        let m : List E = all_entries w more t in
        let xs : List E = between w.feed 0 fed m in
        let ys : List E = between w.feed fed last m in
        let two : m ≡ xs ++ ys = sym (between-all w.feed 0 last m (entries-bounded last more bounded t))
        ∙ between-parts w.feed (w.entry_cmp t) (well.rises t) 0 fed last m (omega arith) below
        (Ascends-ascending (well.total t) (flat_map (λ i. flat_map (w.entry t i) (more i t.part)) (w.inputs t))) in
        ap (between feed_of 0 fed) (ap (w.gives t []) two ∙ well.goes_on t [] xs ys)
        ∙ filter-append (is_between feed_of 0 fed) (w.gives t [] xs) (w.gives t xs ys)
        ∙ ap₂ (λ us vs. us ++ vs)
        (between-all feed_of 0 fed (w.gives t [] xs) (well.keeps_feed t [] xs 0 fed (All-between w.feed 0 fed m)))
        (between-above feed_of 0 fed (w.gives t xs ys) (All-weaker (λ x. (fed < feed_of x) × (feed_of x ≤ last)) (λ x. fed < feed_of x) (λ x k. k.0) (w.gives t xs ys)
        (well.keeps_feed t xs ys fed last (All-between w.feed fed last m))))
        ∙ append-nil (w.gives t [] xs)

    sent-cut : (has more : ℕ → ℕ → List LogEntry) → InFeeds last more → Extends has more → (topic q : ℕ) → between log_feed 0 fed (sent_by_all w more topic q) ≡ sent_by_all w has topic q
    sent-cut has more bounded h topic q =
        filter-map (is_between log_feed 0 fed) Said (merged (map (λ u. sent_to w.routes u q (w.gives u [] (all_entries w more u))) (w.routes.writers topic)))
        ∙ ap (map Said) (between-merged w well 0 fed (map (λ u. sent_to w.routes u q (w.gives u [] (all_entries w more u))) (w.routes.writers topic))
        ∙ ap merged (each (w.routes.writers topic)))
      where
        each : (us : List TaskName) → map (between feed_of 0 fed) (map (λ u. sent_to w.routes u q (w.gives u [] (all_entries w more u))) us) ≡ map (λ u. sent_to w.routes u q (w.gives u [] (all_entries w has u))) us
        each [] = refl
        each (u ∷ us) = ap₂ (λ x xs. x ∷ xs)
            (filter-swap (is_between feed_of 0 fed) (λ x. w.routes.lane_of u x == q) (w.gives u [] (all_entries w more u))
            ∙ ap (sent_to w.routes u q) (gives-cut more bounded u ∙ ap (w.gives u []) (entries-cut has more h u)))
            (each us)

    pub all-cut : (has more : ℕ → ℕ → List LogEntry) (topics : List ℕ) → InFeeds last more → Extends has more → Extends (contents_from w has topics) (contents_from w more topics)
    unfolding contents_from
    all-cut has more [] bounded h = h
    all-cut has more (topic ∷ later) bounded h = all-cut (with_topic w has topic) (with_topic w more topic) later (all-bounded last more (topic ∷ []) bounded) (λ o q. by o q (nat_which o topic))
      where
        by : (o q : ℕ) → (o ≡ topic) ⊎ ¬ (o ≡ topic) → between log_feed 0 fed (with_topic w more topic o q) ≡ with_topic w has topic o q
        by o q (inl e) = subst (λ (x : ℕ). between log_feed 0 fed (with_topic w more topic x q) ≡ with_topic w has topic x q) (sym e)
            (ap (between log_feed 0 fed) (topic-itself w more topic q) ∙ sent-cut has more bounded h topic q ∙ sym (topic-itself w has topic q))
        by o q (inr n) = ap (between log_feed 0 fed) (topic-other w more topic o q n) ∙ h o q ∙ sym (topic-other w has topic o q n)
