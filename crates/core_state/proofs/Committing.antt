-- A commit keeps a good state.
use mathlib.Core.Logic.{inl, inr}
use Rattle.std.specs.Prelude.{All, Contains, map, ◌==◌}
use Rattle.std.proofs.Common.{◌≡◌, ◌∙◌, ap, ap₂, sym, subst, ℕ, [], ◌++◌, ◌<◌, ◌≤◌, arith, Some, None, ◌⊎◌}
use Rattle.std.proofs.lemmas.List.Elements.{All-weaker, All-filter, filter-append}
use Rattle.ksql_types.specs.declared.relation.TaskName.{TaskName}
use Rattle.core_state.specs.Events.{Applies, Commits}
use Rattle.core_state.specs.Good.{Good, GoodTask, IsDue, InStep}
use Rattle.core_state.specs.Meaning.{Meaning, Means}
use Rattle.core_state.specs.Routes.{sent_to, merged}
use Rattle.core_state.specs.State.{Instance, TaskState, State, Topology, Proposes, IsTask, done_of, closed, bound, upto, after, feed_of}
use Rattle.core_state.specs.declared.log.LogEntry.TheVariants.{Said}
use Rattle.core_state.specs.declared.log.Proposal.{Proposal}
use Rattle.core_state.proofs.Lists.{which, nat_which, some_same, none_some, lowest-same, lowest-le, lowest-up, lowest-below, map-members, not_empty, upto-parts, after-parts}
use Rattle.core_state.proofs.Tasks.{GoodTask-raised}

module _ {E H : Type 0} (top : Topology E H) (d : Meaning E) (means : Means top d) where
  -- a task's results for some feeds, cut at one of these
  module _ (u : TaskName) (of : IsTask top u) (a b c : ℕ) (up : a ≤ b) (more : b ≤ c) (q : ℕ) where
    in_two : sent_to top.routes u q (d.results u a c) ≡ sent_to top.routes u q (d.results u a b) ++ sent_to top.routes u q (d.results u b c)
    in_two = ap (sent_to top.routes u q) (means.in_parts u of a b c up more) ∙ filter-append (λ x. top.routes.lane_of u x == q) (d.results u a b) (d.results u b c)

    low : All (λ x. feed_of x ≤ b) (sent_to top.routes u q (d.results u a b))
    low = All-filter (λ x. top.routes.lane_of u x == q) (λ x. feed_of x ≤ b) (d.results u a b)
        (All-weaker (λ x. (a < feed_of x) × (feed_of x ≤ b)) (λ x. feed_of x ≤ b) (λ x h. h.1) (d.results u a b) (means.within u of a b))

    high : All (λ x. b < feed_of x) (sent_to top.routes u q (d.results u b c))
    high = All-filter (λ x. top.routes.lane_of u x == q) (λ x. b < feed_of x) (d.results u b c)
        (All-weaker (λ x. (b < feed_of x) × (feed_of x ≤ c)) (λ x. b < feed_of x) (λ x h. h.0) (d.results u b c) (means.within u of b c))

    pub upto-sent : upto b (sent_to top.routes u q (d.results u a c)) ≡ sent_to top.routes u q (d.results u a b)
    upto-sent = ap (upto b) in_two ∙ upto-parts b (sent_to top.routes u q (d.results u a b)) (sent_to top.routes u q (d.results u b c)) low high

    pub after-sent : after b (sent_to top.routes u q (d.results u a c)) ≡ sent_to top.routes u q (d.results u b c)
    after-sent = ap (after b) in_two ∙ after-parts b (sent_to top.routes u q (d.results u a b)) (sent_to top.routes u q (d.results u b c)) low high

  -- a due proposal is applied
  module _ (t : TaskName) (is : IsTask top t) (p : Proposal) (s next : State H) (good : Good top d s)
      (due : IsDue top d t (bound top s t) (s.tasks t) p) (does : Applies top t p s next) where
    forward : done_of s t ≤ p.to
    forward = omega (arith, due.begins, due.rises)

    done-up : (u : TaskName) → IsTask top u → done_of s u ≤ done_of next u
    done-up u of = by (which u t)
      where
        by : (u ≡ t) ⊎ ¬ (u ≡ t) → done_of s u ≤ done_of next u
        by (inl e) = rw (e, does.done) forward
        by (inr n) = rw (ap (λ (w : TaskState H). w.done) (does.others u of n)) (omega arith)

    closed-up : (topic : ℕ) → closed top.routes s topic ≤ closed top.routes next topic
    closed-up topic = lowest-up s.fed next.fed (done_of s) (done_of next) (top.routes.writers topic) (omega (arith, does.fed)) (λ w at. done-up w (means.written_by topic w at).0)

    bound-up : (u : TaskName) → bound top s u ≤ bound top next u
    bound-up u = lowest-up s.fed next.fed (closed top.routes s) (closed top.routes next) (top.inputs u) (omega (arith, does.fed)) (λ topic _. closed-up topic)

    closed-else : (topic : ℕ) → ¬ (topic ≡ top.routes.output t) → closed top.routes next topic ≡ closed top.routes s topic
    closed-else topic other = lowest-same next.fed s.fed (done_of next) (done_of s) (top.routes.writers topic) does.fed
        (λ w at. ap (λ (w : TaskState H). w.done) (does.others w (means.written_by topic w at).0 (λ e. other (sym (means.written_by topic w at).1 ∙ ap top.routes.output e))))

    some_writer : ¬ (top.routes.writers (top.routes.output t) ≡ [])
    some_writer = not_empty t (top.routes.writers (top.routes.output t)) (means.writes t is)

    closed-within : (u : TaskName) → IsTask top u → top.routes.output u ≡ top.routes.output t → closed top.routes next (top.routes.output t) ≤ done_of next u
    closed-within u of same = lowest-le next.fed (done_of next) (top.routes.writers (top.routes.output t)) u (subst (λ (o : ℕ). Contains (top.routes.writers o) u) same (means.writes u of))

    -- what waits with the outputs is what its task sent after the closed feed
    gathered-is : (u : TaskName) → IsTask top u → top.routes.output u ≡ top.routes.output t → (q : ℕ) →
        does.gathered u q ≡ sent_to top.routes u q (d.results u (closed top.routes s (top.routes.output t)) (done_of next u))
    gathered-is u of same q = by (which u t)
      where
        closed-t : closed top.routes s (top.routes.output t) ≤ done_of s t
        closed-t = lowest-le s.fed (done_of s) (top.routes.writers (top.routes.output t)) t (means.writes t is)

        own : does.gathered t q ≡ sent_to top.routes t q (d.results t (closed top.routes s (top.routes.output t)) (done_of next t))
        own =
            does.own q
            ∙ ap₂ (λ us vs. us ++ vs) (good.waiting_is_due t is q) (ap (sent_to top.routes t q) (due.outputs ∙ ap (λ (n : ℕ). d.results t n p.to) due.begins))
            ∙ sym (in_two t is (closed top.routes s (top.routes.output t)) (done_of s t) p.to closed-t forward q)
            ∙ ap (λ (n : ℕ). sent_to top.routes t q (d.results t (closed top.routes s (top.routes.output t)) n)) (sym does.done)

        by : (u ≡ t) ⊎ ¬ (u ≡ t) → does.gathered u q ≡ sent_to top.routes u q (d.results u (closed top.routes s (top.routes.output t)) (done_of next u))
        by (inl e) = subst (λ (v : TaskName). does.gathered v q ≡ sent_to top.routes v q (d.results v (closed top.routes s (top.routes.output t)) (done_of next v))) (sym e) own
        by (inr n) =
            does.of_others u of n q ∙ good.waiting_is_due u of q
            ∙ ap₂ (λ (o n : ℕ). sent_to top.routes u q (d.results u (closed top.routes s o) n)) same (sym (ap (λ (w : TaskState H). w.done) (does.others u of n)))

    waiting-after : (u : TaskName) → IsTask top u → (q : ℕ) → next.waiting u q ≡ sent_to top.routes u q (d.results u (closed top.routes next (top.routes.output u)) (done_of next u))
    waiting-after u of q = by (nat_which (top.routes.output u) (top.routes.output t))
      where
        by : (top.routes.output u ≡ top.routes.output t) ⊎ ¬ (top.routes.output u ≡ top.routes.output t) → next.waiting u q ≡ sent_to top.routes u q (d.results u (closed top.routes next (top.routes.output u)) (done_of next u))
        by (inl same) =
            does.waiting u of same q ∙ ap (after (closed top.routes next (top.routes.output t))) (gathered-is u of same q)
            ∙ after-sent u of (closed top.routes s (top.routes.output t)) (closed top.routes next (top.routes.output t)) (done_of next u) (closed-up (top.routes.output t)) (closed-within u of same) q
            ∙ ap (λ (o : ℕ). sent_to top.routes u q (d.results u (closed top.routes next o) (done_of next u))) (sym same)
        by (inr other) =
            does.waiting_elsewhere u of other q ∙ good.waiting_is_due u of q
            ∙ ap₂ (λ (c n : ℕ). sent_to top.routes u q (d.results u c n)) (sym (closed-else (top.routes.output u) other))
            (sym (ap (λ (w : TaskState H). w.done) (does.others u of (λ e. other (ap top.routes.output e)))))

    shown-here : (q : ℕ) → next.shown (top.routes.output t) q ≡ d.has (top.routes.output t) q (closed top.routes next (top.routes.output t))
    shown-here q =
        does.shown q
        ∙ ap₂ (λ us vs. us ++ map Said (merged vs)) (good.written_shown (top.routes.output t) q some_writer)
        (map-members (λ u. upto (closed top.routes next (top.routes.output t)) (does.gathered u q)) (λ u. sent_to top.routes u q (d.results u (closed top.routes s (top.routes.output t)) (closed top.routes next (top.routes.output t))))
        (top.routes.writers (top.routes.output t)) (λ u at. cut u (means.written_by (top.routes.output t) u at)))
        ∙ sym (means.written (top.routes.output t) q (closed top.routes s (top.routes.output t)) (closed top.routes next (top.routes.output t)) some_writer (closed-up (top.routes.output t)))
      where
        cut : (u : TaskName) → IsTask top u × (top.routes.output u ≡ top.routes.output t) →
            upto (closed top.routes next (top.routes.output t)) (does.gathered u q) ≡ sent_to top.routes u q (d.results u (closed top.routes s (top.routes.output t)) (closed top.routes next (top.routes.output t)))
        cut u of =
            ap (upto (closed top.routes next (top.routes.output t))) (gathered-is u of.0 of.1 q)
            ∙ upto-sent u of.0 (closed top.routes s (top.routes.output t)) (closed top.routes next (top.routes.output t)) (done_of next u) (closed-up (top.routes.output t)) (closed-within u of.0 of.1) q

    shown-after : (topic q : ℕ) → ¬ (top.routes.writers topic ≡ []) → next.shown topic q ≡ d.has topic q (closed top.routes next topic)
    shown-after topic q some = by (nat_which topic (top.routes.output t))
      where
        by : (topic ≡ top.routes.output t) ⊎ ¬ (topic ≡ top.routes.output t) → next.shown topic q ≡ d.has topic q (closed top.routes next topic)
        by (inl e) = subst (λ (o : ℕ). next.shown o q ≡ d.has o q (closed top.routes next o)) (sym e) (shown-here q)
        by (inr other) = does.shown_elsewhere topic other q ∙ good.written_shown topic q some ∙ ap (d.has topic q) (sym (closed-else topic other))

    bound-fed : bound top s t ≤ s.fed
    bound-fed = lowest-below s.fed s.fed (closed top.routes s) (top.inputs t) (omega arith) (λ topic _.
        lowest-below s.fed s.fed (done_of s) (top.routes.writers topic) (omega arith) (λ w at. good.done_fed w (means.written_by topic w at).0))

    -- applying a due proposal keeps a good state where the task itself is good afterwards
    pub applied-keeps : GoodTask top d t (bound top next t) (next.tasks t) → Good top d next
    applied-keeps task = record {
      source_shown = λ topic q source. does.shown_elsewhere topic (λ e. some_writer (sym (ap top.routes.writers e) ∙ source)) q
          ∙ good.source_shown topic q source ∙ ap (d.has topic q) (sym does.fed);
      none_later = subst (λ (n : ℕ). All (λ r. r.stamp.feed ≤ n) d.order) (sym does.fed) good.none_later;
      written_shown = shown-after;
      waiting_is_due = waiting-after;
      done_fed = λ u of. fed u of (which u t);
      good_tasks = λ u of. tasks u of (which u t);
    }
      where
        fed : (u : TaskName) → IsTask top u → (u ≡ t) ⊎ ¬ (u ≡ t) → done_of next u ≤ next.fed
        fed u of (inl e) = rw (e, does.done, does.fed) (omega (arith, due.in_bound, bound-fed))
        fed u of (inr n) = rw (ap (λ (w : TaskState H). w.done) (does.others u of n), does.fed) (good.done_fed u of)

        tasks : (u : TaskName) → IsTask top u → (u ≡ t) ⊎ ¬ (u ≡ t) → GoodTask top d u (bound top next u) (next.tasks u)
        tasks u of (inl e) = rw e task
        tasks u of (inr n) = rw (does.others u of n) (GoodTask-raised top d u (bound top s u) (bound top next u) (s.tasks u) (bound-up u) (good.good_tasks u of))

  pub commit-keeps : (t : TaskName) → IsTask top t → (s next : State H) → Good top d s → Commits top t s next → Good top d next
  commit-keeps t is s next good e = applied-keeps t is e.p s next good due e.applies task
    where
      mine : GoodTask top d t (bound top s t) (s.tasks t)
      mine = good.good_tasks t is

      step : InStep top t (s.tasks t) e.before (Some e.p)
      step = subst (InStep top t (s.tasks t) e.before) e.offered (mine.one_instance e.before e.here e.newest)

      due : IsDue top d t (bound top s t) (s.tasks t) e.p
      due = mine.proposal_is_due e.p (e.before, e.here, e.offered) (step.0 ∙ e.newest)

      is_free : (i : Instance H) → (next.tasks t).instance ≡ Some i → i ≡ record e.before { proposal = None }
      is_free i h = some_same i (record e.before { proposal = None }) (sym h ∙ e.free)

      none_left : (q : Proposal) → Proposes (next.tasks t) q → ⊥
      none_left q h = none_some q (sym (ap (λ (i : Instance H). i.proposal) (is_free h.0 h.1)) ∙ h.2)

      now : InStep top t (next.tasks t) (record e.before { proposal = None }) None
      now = (step.1 ∙ sym e.applies.done, step.2 ∙ sym e.applies.logs)

      task : GoodTask top d t (bound top next t) (next.tasks t)
      task = record {
        logs_stand = rw (e.applies.logs, e.applies.done) due.stands;
        logs_load = e.applies.logs_load mine.logs_load due.loads;
        done_within_inputs = rw e.applies.done (omega (arith, due.in_bound, bound-up t is e.p s next good due e.applies t));
        one_instance = λ i h new. subst (λ (j : Instance H). InStep top t (next.tasks t) j j.proposal) (sym (is_free i h)) now;
        held_are_older = rw (e.held, e.applies.same_newest) mine.held_are_older;
        proposal_is_due = λ q h _. absurd (none_left q h);
        none_newer = λ i h. rw (ap (λ (j : Instance H). j.generation) (is_free i h), e.applies.same_newest) (mine.none_newer e.before e.here);
        no_proposal_newer = λ q h. absurd (none_left q h);
      }
