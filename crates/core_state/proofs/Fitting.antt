-- A bound that sources keep is kept by all topics and by all that tasks read.
use mathlib.Core.Logic.{inl, inr}
use Rattle.std.specs.Prelude.{All, Contains, map, flat_map, ◌==◌}
use Rattle.std.proofs.Common.{◌≡◌, sym, refl, subst, ℕ, List, [], ◌∷◌, ◌++◌, arith, ◌⊎◌}
use Rattle.std.proofs.lemmas.List.Elements.{All-head, All-tail, All-nil, All-append, All-cons, All-filter, All-map}
use Rattle.ksql_types.specs.declared.relation.TaskName.{TaskName}
use Rattle.ksql_place.specs.Routing.{change_cmp}
use Rattle.ksql_place.specs.declared.change.Change.{Change}
use Rattle.ksql_place.specs.declared.change.SourceRecord.{SourceRecord}
use Rattle.core_state.specs.Routes.{merged, sent_to}
use Rattle.core_state.specs.Whole.{results_by, StepsWell, KeepsBound}
use Rattle.core_state.specs.Wired.{Wiring, all_entries, reads, IsWired, source_contents, sent_by_all, with_topic, contents_from, contents_of, InStages, IsStaged}
use Rattle.core_state.specs.declared.log.LogEntry.{LogEntry}
use Rattle.core_state.specs.declared.log.LogEntry.TheVariants.{Said}
use Rattle.core_state.proofs.Feeds.{All-ascending}
use Rattle.core_state.proofs.Lists.{Contains-here, Contains-next, nat_which}
use Rattle.core_state.proofs.Staging.{topic-itself, topic-other, Contains-cases}

All-flat : {A B : Type 0} (P : B → Type 0) (f : A → List B) (xs : List A) → ((x : A) → Contains xs x → All P (f x)) → All P (flat_map f xs)
All-flat P f [] h = All-nil P
All-flat P f (x ∷ xs) h = All-append P (f x) (flat_map f xs) (h x (Contains-here x xs)) (All-flat P f xs (λ y at. h y (Contains-next x y xs at)))

All-each : {A B : Type 0} (P : A → Type 0) (Q : B → Type 0) (f : A → List B) → ((x : A) → P x → All Q (f x)) → (xs : List A) → All P xs → All Q (flat_map f xs)
All-each P Q f h [] k = All-nil Q
All-each P Q f h (x ∷ xs) k = All-append Q (f x) (flat_map f xs) (h x (All-head P x xs k)) (All-each P Q f h xs (All-tail P x xs k))

module _ {E : Type 0} (w : Wiring E) (one : TaskName → List E → E → List Change) (steps : StepsWell w one) (shape : IsWired w) (P : ℕ → LogEntry → Type 0) (Q : TaskName → E → Type 0) (keeps : KeepsBound w one P Q) where
  results-kept : (t : TaskName) → Contains w.names t → (b us : List E) → All (Q t) b → All (Q t) us → All (λ y. P (w.routes.output t) (Said y)) (results_by (one t) b us)
  results-kept t is b [] h k = All-nil (λ y. P (w.routes.output t) (Said y))
  results-kept t is b (u ∷ us) h k =
      let first : Q t u = All-head (Q t) u us k in
      All-append (λ y. P (w.routes.output t) (Said y)) (one t b u) (results_by (one t) (b ++ u ∷ []) us) (keeps.given t b u is h first)
      (results-kept t is (b ++ u ∷ []) us (All-append (Q t) b (u ∷ []) h (All-cons (Q t) u [] first (All-nil (Q t)))) (All-tail (Q t) u us k))

  pub entries-kept : (t : TaskName) (shown : ℕ → List LogEntry) → ((i : ℕ) → Contains (w.inputs t) i → All (P i) (shown i)) → All (Q t) (reads w t shown)
  entries-kept t shown h = All-ascending (w.entry_cmp t) (Q t) (flat_map (λ i. flat_map (w.entry t i) (shown i)) (w.inputs t))
      (All-flat (Q t) (λ i. flat_map (w.entry t i) (shown i)) (w.inputs t) (λ i at. All-each (P i) (Q t) (w.entry t i) (λ x. keeps.taken t i x at) (shown i) (h i at)))

  sent-kept : (has : ℕ → ℕ → List LogEntry) (topic q : ℕ) → ((u : TaskName) → Contains (w.routes.writers topic) u → (i : ℕ) → Contains (w.inputs u) i → All (P i) (has i u.part)) → All (P topic) (sent_by_all w has topic q)
  sent-kept has topic q h = All-map (P topic) Said (merged (map (λ u. sent_to w.routes u q (w.gives u [] (all_entries w has u))) (w.routes.writers topic)))
      (All-ascending change_cmp (λ y. P topic (Said y)) (flat_map (λ xs. xs) (map (λ u. sent_to w.routes u q (w.gives u [] (all_entries w has u))) (w.routes.writers topic)))
      (flat (w.routes.writers topic) (λ u at. at)))
    where
      sent : (u : TaskName) → Contains (w.routes.writers topic) u → All (λ y. P topic (Said y)) (sent_to w.routes u q (w.gives u [] (all_entries w has u)))
      sent u at =
          let of = shape.written_by topic u at in
          All-filter (λ x. w.routes.lane_of u x == q) (λ y. P topic (Said y)) (w.gives u [] (all_entries w has u))
          (subst (All (λ y. P topic (Said y))) (sym (steps.gives u [] (all_entries w has u)))
          (subst (λ (o : ℕ). All (λ y. P o (Said y)) (results_by (one u) [] (all_entries w has u))) of.1
          (results-kept u of.0 [] (all_entries w has u) (All-nil (Q u)) (entries-kept u (λ i. has i u.part) (h u at)))))

      flat : (us : List TaskName) → ((u : TaskName) → Contains us u → Contains (w.routes.writers topic) u) → All (λ y. P topic (Said y)) (flat_map (λ xs. xs) (map (λ u. sent_to w.routes u q (w.gives u [] (all_entries w has u))) us))
      flat [] among = All-nil (λ y. P topic (Said y))
      flat (u ∷ us) among = All-append (λ y. P topic (Said y)) (sent_to w.routes u q (w.gives u [] (all_entries w has u))) (flat_map (λ xs. xs) (map (λ u. sent_to w.routes u q (w.gives u [] (all_entries w has u))) us))
          (sent u (among u (Contains-here u us))) (flat us (λ v at. among v (Contains-next u v us at)))

  kept-from : (has : ℕ → ℕ → List LogEntry) (topics : List ℕ) → InStages w topics → ((o q : ℕ) → ¬ Contains topics o → All (P o) (has o q)) → (o q : ℕ) → All (P o) (contents_from w has topics o q)
  unfolding contents_from
  kept-from has [] stages h o q = h o q (λ at. absurd (omega (arith, at.1)))
  kept-from has (topic ∷ later) stages h o q = kept-from (with_topic w has topic) later stages.2 (λ o q none. by o q none (nat_which o topic)) o q
    where
      by : (o q : ℕ) → ¬ Contains later o → (o ≡ topic) ⊎ ¬ (o ≡ topic) → All (P o) (with_topic w has topic o q)
      by o q none (inl e) = subst (λ (x : ℕ). All (P x) (with_topic w has topic x q)) (sym e)
          (subst (All (P topic)) (sym (topic-itself w has topic q)) (sent-kept has topic q (λ u at i reads. h i u.part (stages.1 u at i reads))))
      by o q none (inr n) = subst (All (P o)) (sym (topic-other w has topic o q n)) (h o q (λ at. away at n none))
        where
          away : Contains (topic ∷ later) o → ¬ (o ≡ topic) → ¬ Contains later o → ⊥
          away at n none = elim (Contains-cases topic later o at) [ inl e ↦ n (sym e) | inr k ↦ none k ]

  -- what sources keep, all topics keep
  pub all-kept : (topics : List ℕ) → IsStaged w topics → (order : List SourceRecord) → ((o q : ℕ) → w.routes.writers o ≡ [] → All (P o) (source_contents order o q)) → (o q : ℕ) → All (P o) (contents_of w topics order o q)
  all-kept topics staged order h = kept-from (source_contents order) topics staged.stages (λ o q none. h o q (source o none))
    where
      source : (o : ℕ) → ¬ Contains topics o → w.routes.writers o ≡ []
      source o none = by (w.routes.writers o) refl
        where
          by : (ws : List TaskName) → w.routes.writers o ≡ ws → w.routes.writers o ≡ []
          by [] e = e
          by (v ∷ ws) e = absurd (none (staged.all o (λ empty. absurd (cc (e, empty)))))
