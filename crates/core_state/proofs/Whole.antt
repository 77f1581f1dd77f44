-- The law for a topology whose tasks process their entries one by one.
use Rattle.std.specs.Prelude.{All}
use Rattle.std.proofs.Common.{◌≡◌, ◌∙◌, ap, ap₂, sym, subst, ℕ, List, [], ◌∷◌, ◌++◌, ◌<◌, ◌≤◌, arith}
use Rattle.std.proofs.lemmas.List.{append-nil, append_assoc}
use Rattle.std.proofs.lemmas.List.Elements.{All-head, All-tail, All-nil, All-append, All-weaker}
use Rattle.ksql_types.specs.declared.relation.StoreEntry.{StoreEntry}
use Rattle.ksql_types.specs.declared.relation.TaskName.{TaskName}
use Rattle.ksql_place.specs.declared.change.Change.{Change}
use Rattle.core_state.specs.Law.{IsMeaning}
use Rattle.core_state.specs.State.{feed_of}
use Rattle.core_state.specs.Whole.{results_by, StepsWell, HoldsWell}
use Rattle.core_state.specs.Wired.{Wiring, GivesWell, IsWired, IsStaged, mean_of, AreCounted, CutsAlike, wired}
use Rattle.core_state.proofs.Meant.{meant, cut}

module _ {E : Type 0} (one : List E → E → List Change) where
  pub results-append : (b us vs : List E) → results_by one b (us ++ vs) ≡ results_by one b us ++ results_by one (b ++ us) vs
  results-append b [] vs = ap (λ es. results_by one es vs) (sym (append-nil b))
  results-append b (u ∷ us) vs =
      ap (λ l. one b u ++ l) (results-append (b ++ u ∷ []) us vs ∙ ap (λ es. results_by one (b ++ u ∷ []) us ++ results_by one es vs) (append_assoc b (u ∷ []) us))
      ∙ sym (append_assoc (one b u) (results_by one (b ++ u ∷ []) us) (results_by one (b ++ u ∷ us) vs))

  results-feeds : (feed : E → ℕ) → ((es : List E) (e : E) → All (λ x. feed_of x ≡ feed e) (one es e)) → (b us : List E) (lo hi : ℕ) → All (λ e. (lo < feed e) × (feed e ≤ hi)) us →
      All (λ x. (lo < feed_of x) × (feed_of x ≤ hi)) (results_by one b us)
  results-feeds feed keeps b [] lo hi h = All-nil (λ x. (lo < feed_of x) × (feed_of x ≤ hi))
  results-feeds feed keeps b (u ∷ us) lo hi h =
      let first = All-head (λ e. (lo < feed e) × (feed e ≤ hi)) u us h in
      All-append (λ x. (lo < feed_of x) × (feed_of x ≤ hi)) (one b u) (results_by one (b ++ u ∷ []) us)
      (All-weaker (λ x. feed_of x ≡ feed u) (λ x. (lo < feed_of x) × (feed_of x ≤ hi)) (λ x k. (omega (arith, k, first.0), omega (arith, k, first.1))) (one b u) (keeps b u))
      (results-feeds feed keeps (b ++ u ∷ []) us lo hi (All-tail (λ e. (lo < feed e) × (feed e ≤ hi)) u us h))

module _ {E : Type 0} (w : Wiring E) (one : TaskName → List E → E → List Change) where
  gives-well : StepsWell w one → GivesWell w
  gives-well steps = record {
    goes_on = λ t es us vs. steps.gives t es (us ++ vs) ∙ results-append (one t) es us vs ∙ ap₂ (λ xs ys. xs ++ ys) (sym (steps.gives t es us)) (sym (steps.gives t (es ++ us) vs));
    keeps_feed = λ t es us a b h. subst (All (λ x. (a < feed_of x) × (feed_of x ≤ b))) (sym (steps.gives t es us)) (results-feeds (one t) w.feed (steps.keeps_feed t) es us a b h);
    entry_feed = steps.entry_feed;
    total = steps.total;
    rises = steps.rises;
  }

  -- the meaning by recursion is one that the law of the core requires
  pub is-meaning : (topics : List ℕ) {H : Type 0} (Stands : TaskName → H → List E → Type 0) (replay : TaskName → List StoreEntry → H) (MayLoad : TaskName → StoreEntry → Type 0) →
      StepsWell w one → IsWired w → IsStaged w topics → HoldsWell w Stands replay → IsMeaning (wired w Stands replay MayLoad) AreCounted (mean_of w topics)
  is-meaning topics Stands replay MayLoad steps shape staged holds = meant w (gives-well steps) topics staged shape Stands replay MayLoad holds

  -- the contents of an order cut at a feed are the contents of the order, cut there
  pub cuts-alike : (topics : List ℕ) → StepsWell w one → IsStaged w topics → CutsAlike w topics
  cuts-alike topics steps staged = cut w (gives-well steps) topics staged
