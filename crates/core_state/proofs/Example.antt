-- The premises can be met: one task that passes on what it reads.
use Rattle.std.specs.Prelude.{IsTrue, All, Contains, ◌==◌, if◌then◌else◌}
use Rattle.std.proofs.Common.{◌≡◌, ◌∙◌, ap, sym, refl, ℕ, List, [], ◌∷◌, arith, Bool, true, false, None}
use Rattle.std.proofs.lemmas.Bool.Decides.{nat_tests}
use Rattle.std.proofs.lemmas.List.Elements.{All-nil, All-cons, All-contains}
use Rattle.ksql_types.specs.declared.relation.TaskName.{TaskName}
use Rattle.ksql_place.specs.Routing.{change_cmp}
use Rattle.ksql_place.specs.declared.change.Body.TheVariants.{Said as SaidRow}
use Rattle.ksql_place.specs.declared.change.Change.{Change}
use Rattle.core_state.specs.Law.{RunsAreGood}
use Rattle.core_state.specs.State.{feed_of}
use Rattle.core_state.specs.Whole.{results_by, StepsWell, Holding, held_by, HoldsWell, AreStores}
use Rattle.core_state.specs.Wired.{log_feed, Wiring, IsWired, IsStaged, mean_of, AreCounted}
use Rattle.core_state.specs.declared.log.LogEntry.{LogEntry}
use Rattle.core_state.specs.declared.log.LogEntry.TheVariants.{Fed, Said}
use Rattle.ksql_types.specs.declared.relation.StoreEntry.{StoreEntry}
use Rattle.core_state.proofs.Events.{runs-are-good}
use Rattle.core_state.proofs.Feeds.{change_total, change_rises}
use Rattle.core_state.proofs.Lists.{Contains-here, not_empty}
use Rattle.core_state.proofs.Whole.{is-meaning}

abbrev only_task : TaskName
only_task = record { sub = 0; part = 0 }

abbrev passes : TaskName → List Change → Change → List Change
passes t es e = e ∷ []

abbrev taken_of : LogEntry → List Change
taken_of (Fed r) = record { place = record { stamp = r.stamp; path = [] }; time = r.time; key = r.key; span = None; body = SaidRow [] } ∷ []
taken_of (Said x) = x ∷ []

abbrev one_task : Wiring Change
one_task = record {
  names = only_task ∷ [];
  inputs = λ t. 0 ∷ [];
  routes = record { output = λ t. 1; writers = λ topic. if topic == 1 then only_task ∷ [] else []; lane_of = λ t x. 0 };
  entry_cmp = λ t. change_cmp;
  feed = feed_of;
  entry = λ t i x. taken_of x;
  gives = λ t. results_by (passes t);
}

abbrev no_stores : Holding Change (List StoreEntry)
no_stores = record { stands = λ t es. []; replay = λ t log. []; may_load = λ t x. true }

steps : StepsWell one_task passes
steps = record {
  gives = λ t es us. refl;
  keeps_feed = λ t es e. All-cons (λ x. feed_of x ≡ feed_of e) e [] refl (All-nil (λ x. feed_of x ≡ feed_of e));
  entry_feed = λ t i x. kept x;
  total = λ t. change_total;
  rises = λ t. change_rises;
}
  where
    kept : (x : LogEntry) → All (λ e. feed_of e ≡ log_feed x) (taken_of x)
    kept (Fed r) = All-cons (λ e. feed_of e ≡ r.stamp.feed) (record { place = record { stamp = r.stamp; path = [] }; time = r.time; key = r.key; span = None; body = SaidRow [] }) [] refl (All-nil (λ e. feed_of e ≡ r.stamp.feed))
    kept (Said x) = All-cons (λ e. feed_of e ≡ feed_of x) x [] refl (All-nil (λ e. feed_of e ≡ feed_of x))

shape : IsWired one_task
shape = record {
  writes = λ t at. at;
  written_by = λ topic u at. by topic (topic == 1) refl u at;
}
  where
    by : (topic : ℕ) (c : Bool) → (topic == 1) ≡ c → (u : TaskName) → Contains (if c then only_task ∷ [] else []) u → Contains (only_task ∷ []) u × (1 ≡ topic)
    by topic true is u at = (at, grind (arith, nat_tests))
    by topic false is u at = absurd (omega (arith, at.1))

staged : IsStaged one_task (1 ∷ [])
staged = record {
  stages = ((λ at. absurd (omega (arith, at.1))), (λ u of i reads at. apart i (member 0 i reads) (member 1 i at)), tt);
  all = λ topic some. by topic (topic == 1) refl some;
  only = λ topic at none. not_empty only_task (only_task ∷ []) (Contains-here only_task []) (ap (λ (c : Bool). if c then only_task ∷ [] else []) (sym (is_one topic at)) ∙ none);
}
  where
    member : (a i : ℕ) → Contains (a ∷ []) i → a ≡ i
    member a i at = All-contains (λ x. a ≡ x) (a ∷ []) i (All-cons (λ x. a ≡ x) a [] refl (All-nil (λ x. a ≡ x))) at

    apart : (i : ℕ) → 0 ≡ i → 1 ≡ i → ⊥
    apart i e f = absurd (omega (arith, e, f))

    is_one : (topic : ℕ) → Contains (1 ∷ []) topic → (topic == 1) ≡ true
    is_one topic at = let e = member 1 topic at in grind (arith, nat_tests)

    by : (topic : ℕ) (c : Bool) → (topic == 1) ≡ c → ¬ ((if c then only_task ∷ [] else []) ≡ []) → Contains (1 ∷ []) topic
    by topic true is some = (0, omega arith, grind (arith, nat_tests))
    by topic false is some = absurd (some refl)

holds : HoldsWell one_task (AreStores no_stores) no_stores.replay
holds = record { goes_on = λ t is us vs more e. refl; fresh = λ t is. refl }

pub example-runs : RunsAreGood (held_by one_task no_stores) AreCounted (mean_of one_task (1 ∷ []))
example-runs = runs-are-good (held_by one_task no_stores) AreCounted (mean_of one_task (1 ∷ []))
    (is-meaning one_task passes (1 ∷ []) (AreStores no_stores) no_stores.replay (λ t x. IsTrue (no_stores.may_load t x)) steps shape staged holds)
