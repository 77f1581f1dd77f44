-- One task in a good state.
use mathlib.Core.Logic.{inl, inr}
use Rattle.std.specs.Prelude.{All}
use Rattle.std.proofs.Common.{◌≡◌, ◌∙◌, ap, ap₂, sym, subst, ℕ, ◌≤◌, arith, ◌⊎◌}
use Rattle.ksql_types.specs.declared.relation.TaskName.{TaskName}
use Rattle.core_state.specs.Events.{OnlyOf}
use Rattle.core_state.specs.Good.{Good, GoodTask, IsDue}
use Rattle.core_state.specs.Meaning.{Meaning, Means}
use Rattle.core_state.specs.Routes.{sent_to}
use Rattle.core_state.specs.State.{TaskState, State, Topology, IsTask, done_of, closed, bound}
use Rattle.core_state.specs.declared.log.Proposal.{Proposal}
use Rattle.core_state.proofs.Lists.{which, lowest-same}

module _ {E H : Type 0} (top : Topology E H) (d : Meaning E) where
  -- inputs that are closed further don't matter
  pub GoodTask-raised : (t : TaskName) (most more : ℕ) (w : TaskState H) → most ≤ more → GoodTask top d t most w → GoodTask top d t more w
  GoodTask-raised t most more w up good = record {
    logs_stand = good.logs_stand;
    logs_load = good.logs_load;
    done_within_inputs = omega (arith, up, good.done_within_inputs);
    one_instance = good.one_instance;
    held_are_older = good.held_are_older;
    proposal_is_due = λ p is new. raised p (good.proposal_is_due p is new);
    none_newer = good.none_newer;
    no_proposal_newer = good.no_proposal_newer;
  }
    where
      raised : (p : Proposal) → IsDue top d t most w p → IsDue top d t more w p
      raised p due = record {
        begins = due.begins;
        rises = due.rises;
        in_bound = omega (arith, up, due.in_bound);
        outputs = due.outputs;
        loads = due.loads;
        stands = due.stands;
      }

  module _ (means : Means top d) (t : TaskName) (s next : State H) (only : OnlyOf top t s next) (same : (next.tasks t).done ≡ (s.tasks t).done) where
    done-same : (u : TaskName) → IsTask top u → done_of next u ≡ done_of s u
    done-same u of = by (which u t)
      where
        by : (u ≡ t) ⊎ ¬ (u ≡ t) → done_of next u ≡ done_of s u
        by (inl e) = rw e same
        by (inr n) = ap (λ (w : TaskState H). w.done) (only.others u of n)

    closed-same : (topic : ℕ) → closed top.routes next topic ≡ closed top.routes s topic
    closed-same topic = lowest-same next.fed s.fed (done_of next) (done_of s) (top.routes.writers topic) only.fed (λ w at. done-same w (means.written_by topic w at).0)

    bound-same : (u : TaskName) → bound top next u ≡ bound top s u
    bound-same u = lowest-same next.fed s.fed (closed top.routes next) (closed top.routes s) (top.inputs u) only.fed (λ topic _. closed-same topic)

    -- an event that changes only one task keeps a good state if it keeps this task good
    pub only-keeps : IsTask top t → Good top d s → GoodTask top d t (bound top s t) (next.tasks t) → Good top d next
    only-keeps is good task = record {
      source_shown = λ topic q source. only.shown topic q ∙ good.source_shown topic q source ∙ ap (d.has topic q) (sym only.fed);
      none_later = subst (λ (n : ℕ). All (λ r. r.stamp.feed ≤ n) d.order) (sym only.fed) good.none_later;
      written_shown = λ topic q some. only.shown topic q ∙ good.written_shown topic q some ∙ ap (d.has topic q) (sym (closed-same topic));
      waiting_is_due = λ u of q. only.waiting u of q ∙ good.waiting_is_due u of q
          ∙ ap₂ (λ (c n : ℕ). sent_to top.routes u q (d.results u c n)) (sym (closed-same (top.routes.output u))) (sym (done-same u of));
      done_fed = λ u of. rw (done-same u of, only.fed) (good.done_fed u of);
      good_tasks = λ u of. rw (bound-same u) (by u of (which u t));
    }
      where
        by : (u : TaskName) → IsTask top u → (u ≡ t) ⊎ ¬ (u ≡ t) → GoodTask top d u (bound top s u) (next.tasks u)
        by u of (inl e) = rw e task
        by u of (inr n) = rw (only.others u of n) (good.good_tasks u of)
