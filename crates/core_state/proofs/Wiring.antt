-- Contents that solve the equations of a topology are what the law of the core asks of its meaning.
use mathlib.Core.Logic.{inl, inr}
use Rattle.std.specs.Prelude.{All, Contains, map, filter, flat_map, ◌==◌}
use Rattle.std.proofs.Common.{◌⊎◌, ◌≡◌, ◌∙◌, ap, ap₂, sym, refl, ℕ, ◌+◌, List, [], ◌∷◌, ◌++◌, ◌<◌, ◌≤◌, arith, Bool, true, false, cond}
use Rattle.std.proofs.lemmas.List.{append-nil, append_cancel_left, map-append}
use Rattle.std.proofs.lemmas.List.Elements.{All-head, All-tail, All-nil, All-append, All-weaker, filter-append}
use Rattle.ksql_types.specs.declared.relation.TaskName.{TaskName}
use Rattle.ksql_place.specs.Ascending.{ascending}
use Rattle.ksql_place.specs.Routing.{change_cmp}
use Rattle.ksql_place.specs.declared.change.Change.{Change}
use Rattle.ksql_place.specs.declared.change.SourceRecord.{SourceRecord}
use Rattle.ksql_place.proofs.Ascending.{filter-ascending, Ascends-ascending}
use Rattle.core_state.specs.Meaning.{Means}
use Rattle.core_state.specs.Routes.{merged, sent_to}
use Rattle.core_state.specs.State.{feed_of}
use Rattle.core_state.specs.Wired.{between, is_between, log_feed, Wiring, reads, all_entries, meaning_of, GivesWell, Solves, IsWired, wired}
use Rattle.core_state.specs.declared.log.LogEntry.{LogEntry}
use Rattle.core_state.specs.declared.log.LogEntry.TheVariants.{Said}
use Rattle.ksql_types.specs.declared.relation.StoreEntry.{StoreEntry}
use Rattle.core_state.proofs.Feeds.{nat_cases, cons_gone, cons_kept, in_it, above_it, below_it, All-ascending, All-between, between-all, between-above, between-below, between-within, between-parts, change_total, change_rises}
use Rattle.core_state.proofs.Lists.{Contains-here, Contains-next}

pub filter-map : {A B : Type 0} (p : B → Bool) (f : A → B) (xs : List A) → filter p (map f xs) ≡ map f (filter (λ x. p (f x)) xs)
filter-map p f [] = refl
filter-map p f (x ∷ xs) = by (p (f x)) (filter-map p f xs)
  where
    by : (k : Bool) → filter p (map f xs) ≡ map f (filter (λ x. p (f x)) xs) → cond k (f x ∷ filter p (map f xs)) (filter p (map f xs)) ≡ map f (cond k (x ∷ filter (λ x. p (f x)) xs) (filter (λ x. p (f x)) xs))
    by true rest = ap (λ l. f x ∷ l) rest
    by false rest = rest

filter-flat_map : {A B : Type 0} (p : B → Bool) (f : A → List B) (xs : List A) → filter p (flat_map f xs) ≡ flat_map (λ x. filter p (f x)) xs
filter-flat_map p f [] = refl
filter-flat_map p f (x ∷ xs) = filter-append p (f x) (flat_map f xs) ∙ ap (λ l. filter p (f x) ++ l) (filter-flat_map p f xs)

flat_map-map : {A B C : Type 0} (f : B → List C) (g : A → B) (xs : List A) → flat_map f (map g xs) ≡ flat_map (λ x. f (g x)) xs
flat_map-map f g [] = refl
flat_map-map f g (x ∷ xs) = ap (λ l. f (g x) ++ l) (flat_map-map f g xs)

pub flat_map-members : {A B : Type 0} (f g : A → List B) (xs : List A) → ((x : A) → Contains xs x → f x ≡ g x) → flat_map f xs ≡ flat_map g xs
flat_map-members f g [] h = refl
flat_map-members f g (x ∷ xs) h = ap₂ (λ us vs. us ++ vs) (h x (Contains-here x xs)) (flat_map-members f g xs (λ y at. h y (Contains-next x y xs at)))

pub filter-swap : {A : Type 0} (p r : A → Bool) (xs : List A) → filter p (filter r xs) ≡ filter r (filter p xs)
filter-swap p r [] = refl
filter-swap p r (x ∷ xs) = by (p x) (r x) refl refl (filter-swap p r xs)
  where
    by : (j k : Bool) → p x ≡ j → r x ≡ k → filter p (filter r xs) ≡ filter r (filter p xs) → filter p (cond k (x ∷ filter r xs) (filter r xs)) ≡ filter r (cond j (x ∷ filter p xs) (filter p xs))
    by true true is has rest = ap (λ c. cond c (x ∷ filter p (filter r xs)) (filter p (filter r xs))) is ∙ ap (λ l. x ∷ l) rest ∙ sym (ap (λ c. cond c (x ∷ filter r (filter p xs)) (filter r (filter p xs))) has)
    by true false is has rest = rest ∙ sym (ap (λ c. cond c (x ∷ filter r (filter p xs)) (filter r (filter p xs))) has)
    by false true is has rest = ap (λ c. cond c (x ∷ filter p (filter r xs)) (filter p (filter r xs))) is ∙ rest
    by false false is has rest = rest

pub All-flat_map : {A B : Type 0} (P : B → Type 0) (f : A → List B) (xs : List A) → ((x : A) → All P (f x)) → All P (flat_map f xs)
All-flat_map P f [] h = All-nil P
All-flat_map P f (x ∷ xs) h = All-append P (f x) (flat_map f xs) (h x) (All-flat_map P f xs h)

module _ {A B : Type 0} (from : A → ℕ) (feed : B → ℕ) (f : A → List B) (same : (x : A) → All (λ e. feed e ≡ from x) (f x)) where
  -- the feeds of what members give are what the members of the feeds give
  between-flat_map : (a b : ℕ) (xs : List A) → between feed a b (flat_map f xs) ≡ flat_map f (between from a b xs)
  between-flat_map a b [] = refl
  between-flat_map a b (x ∷ xs) = filter-append (is_between feed a b) (f x) (flat_map f xs) ∙ by (nat_cases (from x) b) (nat_cases (from x) a) (between-flat_map a b xs)
    where
      gone : between feed a b (f x) ≡ [] → is_between from a b x ≡ false → between feed a b (flat_map f xs) ≡ flat_map f (between from a b xs) → between feed a b (f x) ++ between feed a b (flat_map f xs) ≡ flat_map f (between from a b (x ∷ xs))
      gone none out rest = ap₂ (λ us vs. us ++ vs) none rest ∙ sym (ap (flat_map f) (cons_gone from (is_between from a b) x xs out))

      by : (from x ≤ b) ⊎ (b < from x) → (from x ≤ a) ⊎ (a < from x) → between feed a b (flat_map f xs) ≡ flat_map f (between from a b xs) →
          between feed a b (f x) ++ between feed a b (flat_map f xs) ≡ flat_map f (between from a b (x ∷ xs))
      by (inr high) low rest = gone (between-above feed a b (f x) (All-weaker (λ e. feed e ≡ from x) (λ e. b < feed e) (λ e h. omega (arith, h, high)) (f x) (same x))) (above_it from a b x high) rest
      by (inl high) (inl low) rest = gone (between-below feed a b (f x) (All-weaker (λ e. feed e ≡ from x) (λ e. feed e ≤ a) (λ e h. omega (arith, h, low)) (f x) (same x))) (below_it from a b x low) rest
      by (inl high) (inr low) rest =
          ap₂ (λ us vs. us ++ vs) (between-all feed a b (f x) (All-weaker (λ e. feed e ≡ from x) (λ e. (a < feed e) × (feed e ≤ b)) (λ e h. (omega (arith, h, low), omega (arith, h, high))) (f x) (same x))) rest
          ∙ sym (ap (flat_map f) (cons_kept from (is_between from a b) x xs (in_it from a b x low high)))

  pub All-entries : (last : ℕ) (xs : List A) → All (λ x. (0 < from x) × (from x ≤ last)) xs → All (λ e. (0 < feed e) × (feed e ≤ last)) (flat_map f xs)
  All-entries last [] h = All-nil (λ e. (0 < feed e) × (feed e ≤ last))
  All-entries last (x ∷ xs) h =
      let first = All-head (λ x. (0 < from x) × (from x ≤ last)) x xs h in
      All-append (λ e. (0 < feed e) × (feed e ≤ last)) (f x) (flat_map f xs)
      (All-weaker (λ e. feed e ≡ from x) (λ e. (0 < feed e) × (feed e ≤ last)) (λ e k. (omega (arith, k, first.0), omega (arith, k, first.1))) (f x) (same x))
      (All-entries last xs (All-tail (λ x. (0 < from x) × (from x ≤ last)) x xs h))

module _ {E : Type 0} (w : Wiring E) (well : GivesWell w) where
  -- restricting what is read to some feeds is reading what is shown in these feeds
  pub between-reads : (t : TaskName) (a b : ℕ) (shown : ℕ → List LogEntry) → between w.feed a b (reads w t shown) ≡ reads w t (λ i. between log_feed a b (shown i))
  between-reads t a b shown =
      filter-ascending (well.total t) (is_between w.feed a b) (flat_map (λ i. flat_map (w.entry t i) (shown i)) (w.inputs t))
      ∙ ap (ascending (w.entry_cmp t))
      (filter-flat_map (is_between w.feed a b) (λ i. flat_map (w.entry t i) (shown i)) (w.inputs t)
      ∙ flat_map-members (λ i. between w.feed a b (flat_map (w.entry t i) (shown i))) (λ i. flat_map (w.entry t i) (between log_feed a b (shown i))) (w.inputs t) (λ i at.
      between-flat_map log_feed w.feed (w.entry t i) (well.entry_feed t i) a b (shown i)))

  pub reads-members : (t : TaskName) (f g : ℕ → List LogEntry) → ((i : ℕ) → Contains (w.inputs t) i → f i ≡ g i) → reads w t f ≡ reads w t g
  reads-members t f g h = ap (ascending (w.entry_cmp t)) (flat_map-members (λ i. flat_map (w.entry t i) (f i)) (λ i. flat_map (w.entry t i) (g i)) (w.inputs t) (λ i at. ap (flat_map (w.entry t i)) (h i at)))

  pub between-merged : (a b : ℕ) (ls : List (List Change)) → between feed_of a b (merged ls) ≡ merged (map (between feed_of a b) ls)
  between-merged a b ls =
      filter-ascending change_total (is_between feed_of a b) (flat_map (λ xs. xs) ls)
      ∙ ap (ascending change_cmp) (filter-flat_map (is_between feed_of a b) (λ xs. xs) ls ∙ sym (flat_map-map (λ xs. xs) (between feed_of a b) ls))

  module _ (order : List SourceRecord) (last : ℕ) (contents : ℕ → ℕ → List LogEntry) (solves : Solves w order last contents) where
    parts : (t : TaskName) (a b c : ℕ) → a ≤ b → b ≤ c → between w.feed a c (all_entries w contents t) ≡ between w.feed a b (all_entries w contents t) ++ between w.feed b c (all_entries w contents t)
    parts t a b c ab bc = between-parts w.feed (w.entry_cmp t) (well.rises t) a b c (all_entries w contents t) ab bc
        (Ascends-ascending (well.total t) (flat_map (λ i. flat_map (w.entry t i) (contents i t.part)) (w.inputs t)))

    bounded-entries : (t : TaskName) → All (λ e. (0 < w.feed e) × (w.feed e ≤ last)) (all_entries w contents t)
    bounded-entries t = All-ascending (w.entry_cmp t) (λ e. (0 < w.feed e) × (w.feed e ≤ last)) (flat_map (λ i. flat_map (w.entry t i) (contents i t.part)) (w.inputs t))
        (All-flat_map (λ e. (0 < w.feed e) × (w.feed e ≤ last)) (λ i. flat_map (w.entry t i) (contents i t.part)) (w.inputs t) (λ i.
        All-entries log_feed w.feed (w.entry t i) (well.entry_feed t i) last (contents i t.part) (solves.bounded i t.part)))

    -- the changes of some feeds are those that the task gives for the entries of these feeds
    results-between : (t : TaskName) (a b : ℕ) → a ≤ b → between feed_of a b (w.gives t [] (all_entries w contents t)) ≡ (meaning_of w order contents).results t a b
    results-between t a b ab =
        let m = all_entries w contents t in
        let c : ℕ = b + last in
        let xs : List E = between w.feed 0 a m in
        let ys : List E = between w.feed a b m in
        let zs : List E = between w.feed b c m in
        let whole : between w.feed 0 c m ≡ m = between-all w.feed 0 c m (All-weaker (λ e. (0 < w.feed e) × (w.feed e ≤ last)) (λ e. (0 < w.feed e) × (w.feed e ≤ c)) (λ e h. (h.0, omega (arith, h.1))) m (bounded-entries t)) in
        let three : m ≡ xs ++ (ys ++ zs) = sym whole ∙ parts t 0 a c (omega arith) (omega (arith, ab)) ∙ ap (λ l. xs ++ l) (parts t a b c ab (omega arith)) in
        let given : w.gives t [] m ≡ w.gives t [] xs ++ (w.gives t xs ys ++ w.gives t (xs ++ ys) zs) =
        ap (w.gives t []) three ∙ well.goes_on t [] xs (ys ++ zs) ∙ ap (λ l. w.gives t [] xs ++ l) (well.goes_on t xs ys zs) in
        let low : between feed_of a b (w.gives t [] xs) ≡ [] = between-below feed_of a b (w.gives t [] xs) (All-weaker (λ x. (0 < feed_of x) × (feed_of x ≤ a)) (λ x. feed_of x ≤ a) (λ x h. h.1) (w.gives t [] xs)
        (well.keeps_feed t [] xs 0 a (All-between w.feed 0 a m))) in
        let mid : between feed_of a b (w.gives t xs ys) ≡ w.gives t xs ys = between-all feed_of a b (w.gives t xs ys) (well.keeps_feed t xs ys a b (All-between w.feed a b m)) in
        let high : between feed_of a b (w.gives t (xs ++ ys) zs) ≡ [] = between-above feed_of a b (w.gives t (xs ++ ys) zs) (All-weaker (λ x. (b < feed_of x) × (feed_of x ≤ c)) (λ x. b < feed_of x) (λ x h. h.0) (w.gives t (xs ++ ys) zs)
        (well.keeps_feed t (xs ++ ys) zs b c (All-between w.feed b c m))) in
        ap (between feed_of a b) given
        ∙ filter-append (is_between feed_of a b) (w.gives t [] xs) (w.gives t xs ys ++ w.gives t (xs ++ ys) zs)
        ∙ ap₂ (λ us vs. us ++ vs) low (filter-append (is_between feed_of a b) (w.gives t xs ys) (w.gives t (xs ++ ys) zs) ∙ ap₂ (λ us vs. us ++ vs) mid high)
        ∙ append-nil (w.gives t xs ys)

    written-more : (topic q a b : ℕ) → ¬ (w.routes.writers topic ≡ []) → a ≤ b →
        between log_feed 0 b (contents topic q) ≡ between log_feed 0 a (contents topic q) ++ map Said (merged (map (λ u. sent_to w.routes u q ((meaning_of w order contents).results u a b)) (w.routes.writers topic)))
    written-more topic q a b some ab =
        let ls : List (List Change) = map (λ u. sent_to w.routes u q (w.gives u [] (all_entries w contents u))) (w.routes.writers topic) in
        let all : contents topic q ≡ map Said (merged ls) = solves.written topic q some in
        let said : (c d : ℕ) → between log_feed c d (contents topic q) ≡ map Said (between feed_of c d (merged ls)) =
        λ c d. ap (between log_feed c d) all ∙ filter-map (is_between log_feed c d) Said (merged ls) in
        said 0 b
        ∙ ap (map Said) (between-parts feed_of change_cmp change_rises 0 a b (merged ls) (omega arith) ab (Ascends-ascending change_total (flat_map (λ xs. xs) ls)))
        ∙ map-append Said (between feed_of 0 a (merged ls)) (between feed_of a b (merged ls))
        ∙ ap₂ (λ us vs. us ++ vs) (sym (said 0 a)) (ap (map Said) (between-merged a b ls ∙ ap merged (two (w.routes.writers topic))))
      where
        one : (u : TaskName) → between feed_of a b (sent_to w.routes u q (w.gives u [] (all_entries w contents u))) ≡ sent_to w.routes u q ((meaning_of w order contents).results u a b)
        one u = filter-swap (is_between feed_of a b) (λ x. w.routes.lane_of u x == q) (w.gives u [] (all_entries w contents u)) ∙ ap (sent_to w.routes u q) (results-between u a b ab)

        two : (us : List TaskName) → map (between feed_of a b) (map (λ u. sent_to w.routes u q (w.gives u [] (all_entries w contents u))) us) ≡ map (λ u. sent_to w.routes u q ((meaning_of w order contents).results u a b)) us
        two [] = refl
        two (u ∷ us) = ap₂ (λ x xs. x ∷ xs) (one u) (two us)

    taken : (t : TaskName) (shown : ℕ → List LogEntry) (a b : ℕ) → a ≤ b →
        ((topic : ℕ) → Contains (w.inputs t) topic → (c : ℕ) × (b ≤ c) × (shown topic ≡ between log_feed 0 c (contents topic t.part))) →
        between w.feed 0 b (all_entries w contents t) ≡ between w.feed 0 a (all_entries w contents t) ++ reads w t (λ i. between log_feed a b (shown i))
    taken t shown a b ab h =
        parts t 0 a b (omega arith) ab
        ∙ ap (λ l. between w.feed 0 a (all_entries w contents t) ++ l)
        (between-reads t a b (λ i. contents i t.part)
        ∙ reads-members t (λ i. between log_feed a b (contents i t.part)) (λ i. between log_feed a b (shown i)) (λ i at.
        sym (ap (between log_feed a b) (h i at).2 ∙ between-within log_feed a b 0 (h i at).0 (contents i t.part) (omega arith) (h i at).1)))

    pub means-wired : {H : Type 0} (Stands : TaskName → H → List E → Type 0) (replay : TaskName → List StoreEntry → H) (MayLoad : TaskName → StoreEntry → Type 0) → IsWired w →
        ((t : TaskName) → Contains w.names t → (us vs more : List StoreEntry) → replay t us ≡ replay t vs → replay t (us ++ more) ≡ replay t (vs ++ more)) →
        Means (wired w Stands replay MayLoad) (meaning_of w order contents)
    means-wired Stands replay MayLoad shape goes_on = record {
      writes = shape.writes;
      written_by = shape.written_by;
      taken = λ t is. taken t;
      given = λ t is a b more ab e. ap (w.gives t (between w.feed 0 a (all_entries w contents t)))
          (append_cancel_left (between w.feed 0 a (all_entries w contents t)) more (between w.feed a b (all_entries w contents t)) (sym e ∙ parts t 0 a b (omega arith) ab));
      in_parts = λ t is a b c ab bc.
          ap (w.gives t (between w.feed 0 a (all_entries w contents t))) (parts t a b c ab bc)
          ∙ well.goes_on t (between w.feed 0 a (all_entries w contents t)) (between w.feed a b (all_entries w contents t)) (between w.feed b c (all_entries w contents t))
          ∙ ap (λ es. w.gives t (between w.feed 0 a (all_entries w contents t)) (between w.feed a b (all_entries w contents t)) ++ w.gives t es (between w.feed b c (all_entries w contents t)))
          (sym (parts t 0 a b (omega arith) ab));
      within = λ t is a b. well.keeps_feed t (between w.feed 0 a (all_entries w contents t)) (between w.feed a b (all_entries w contents t)) a b (All-between w.feed a b (all_entries w contents t));
      written = written-more;
      replayed = goes_on;
    }
