-- A feed keeps a good state.
use Rattle.std.specs.Prelude.{map, filter}
use Rattle.std.proofs.Common.{◌≡◌, ◌∙◌, ap, ap₂, sym, ℕ, List, [], ◌++◌, ◌+◌, ◌≤◌, arith}
use Rattle.std.proofs.lemmas.List.Elements.{All-weaker, All-append}
use Rattle.ksql_types.specs.declared.relation.TaskName.{TaskName}
use Rattle.ksql_place.specs.declared.change.SourceRecord.{SourceRecord}
use Rattle.core_state.specs.Events.{Feeds}
use Rattle.core_state.specs.Good.{Good, GoodTask, IsDue}
use Rattle.core_state.specs.Meaning.{Meaning, Means, Grows}
use Rattle.core_state.specs.Routes.{sent_to}
use Rattle.core_state.specs.State.{TaskState, State, Topology, IsTask, done_of, closed, bound, is_in}
use Rattle.core_state.specs.declared.log.LogEntry.TheVariants.{Fed}
use Rattle.core_state.specs.declared.log.Proposal.{Proposal}
use Rattle.core_state.proofs.Lists.{lowest-le, lowest-up, lowest-below, lowest-of_some, not_empty}
use Rattle.core_state.proofs.Tasks.{GoodTask-raised}

module _ {E H : Type 0} (top : Topology E H) (d later : Meaning E) (means : Means top d) (records : List SourceRecord) where
  module _ (fed : ℕ) (grows : Grows top fed records d later) where
    -- what was due up to a feed that was fed stays due
    IsDue-later : (t : TaskName) → IsTask top t → (most : ℕ) (w : TaskState H) (p : Proposal) → most ≤ fed → IsDue top d t most w p → IsDue top later t most w p
    IsDue-later t is most w p low due = record {
      begins = due.begins;
      rises = due.rises;
      in_bound = due.in_bound;
      outputs = due.outputs ∙ sym (grows.results t is p.from p.to (omega (arith, due.rises)) (omega (arith, due.in_bound, low)));
      loads = due.loads;
      stands = rw (grows.entries t is p.to (omega (arith, due.in_bound, low))) due.stands;
    }

    GoodTask-later : (t : TaskName) → IsTask top t → (most : ℕ) (w : TaskState H) → most ≤ fed → GoodTask top d t most w → GoodTask top later t most w
    GoodTask-later t is most w low good = record {
      logs_stand = rw (grows.entries t is w.done (omega (arith, good.done_within_inputs, low))) good.logs_stand;
      logs_load = good.logs_load;
      done_within_inputs = good.done_within_inputs;
      one_instance = good.one_instance;
      held_are_older = good.held_are_older;
      proposal_is_due = λ p h new. IsDue-later t is most w p low (good.proposal_is_due p h new);
      none_newer = good.none_newer;
      no_proposal_newer = good.no_proposal_newer;
    }

  module _ (s next : State H) (good : Good top d s) (e : Feeds top records s next) (grows : Grows top s.fed records d later) where
    done-same : (u : TaskName) → IsTask top u → done_of next u ≡ done_of s u
    done-same u of = ap (λ (w : TaskState H). w.done) (e.tasks u of)

    fed-up : s.fed ≤ next.fed
    fed-up = omega (arith, e.fed)

    closed-up : (topic : ℕ) → closed top.routes s topic ≤ closed top.routes next topic
    closed-up topic = lowest-up s.fed next.fed (done_of s) (done_of next) (top.routes.writers topic) fed-up (λ w at. omega (arith, done-same w (means.written_by topic w at).0))

    bound-up : (u : TaskName) → bound top s u ≤ bound top next u
    bound-up u = lowest-up s.fed next.fed (closed top.routes s) (closed top.routes next) (top.inputs u) fed-up (λ topic _. closed-up topic)

    closed-fed : (topic : ℕ) → closed top.routes s topic ≤ s.fed
    closed-fed topic = lowest-below s.fed s.fed (done_of s) (top.routes.writers topic) (omega arith) (λ w at. good.done_fed w (means.written_by topic w at).0)

    bound-fed : (u : TaskName) → bound top s u ≤ s.fed
    bound-fed u = lowest-below s.fed s.fed (closed top.routes s) (top.inputs u) (omega arith) (λ topic _. closed-fed topic)

    closed-written : (topic : ℕ) → ¬ (top.routes.writers topic ≡ []) → closed top.routes next topic ≡ closed top.routes s topic
    closed-written topic some = lowest-of_some next.fed s.fed (done_of next) (done_of s) (top.routes.writers topic) some (λ w at. done-same w (means.written_by topic w at).0)

    pub feed-keeps : Good top later next
    feed-keeps = record {
      source_shown = λ topic q source.
          e.sources topic q source ∙ ap (λ us. us ++ map Fed (filter (is_in topic q) records)) (good.source_shown topic q source)
          ∙ sym (grows.sources topic q source) ∙ ap (later.has topic q) (sym e.fed);
      none_later = rw grows.order (All-append (λ r. r.stamp.feed ≤ next.fed) d.order records
          (All-weaker (λ r. r.stamp.feed ≤ s.fed) (λ r. r.stamp.feed ≤ next.fed) (λ r h. omega (arith, h, e.fed)) d.order good.none_later)
          (All-weaker (λ r. r.stamp.feed ≡ s.fed + 1) (λ r. r.stamp.feed ≤ next.fed) (λ r h. omega (arith, h, e.fed)) records e.of_feed));
      written_shown = λ topic q some.
          e.written topic q some ∙ good.written_shown topic q some ∙ sym (grows.has topic q (closed top.routes s topic) (closed-fed topic))
          ∙ ap (later.has topic q) (sym (closed-written topic some));
      waiting_is_due = λ t is q.
          e.waiting t is q ∙ good.waiting_is_due t is q
          ∙ ap (sent_to top.routes t q) (sym (grows.results t is (closed top.routes s (top.routes.output t)) (done_of s t) (lowest-le s.fed (done_of s) (top.routes.writers (top.routes.output t)) t (means.writes t is)) (good.done_fed t is)))
          ∙ ap₂ (λ (c n : ℕ). sent_to top.routes t q (later.results t c n))
          (sym (closed-written (top.routes.output t) (not_empty t (top.routes.writers (top.routes.output t)) (means.writes t is)))) (sym (done-same t is));
      done_fed = λ t is. rw (done-same t is) (omega (arith, good.done_fed t is, e.fed));
      good_tasks = λ t is. rw (e.tasks t is) (GoodTask-raised top later t (bound top s t) (bound top next t) (s.tasks t) (bound-up t)
          (GoodTask-later s.fed grows t is (bound top s t) (s.tasks t) (bound-fed t) (good.good_tasks t is)));
    }
