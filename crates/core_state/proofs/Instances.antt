-- The events of one task keep a good state: advance, leave, restore and the offer of a held proposal.
use Rattle.std.specs.Prelude.{All}
use Rattle.std.proofs.Common.{◌≡◌, ◌∙◌, ap, sym, refl, subst, ℕ, List, [], ◌∷◌, ◌++◌, ◌+◌, ◌<◌, ◌≤◌, arith, Some, None}
use Rattle.std.proofs.lemmas.List.Elements.{All-weaker, All-append}
use Rattle.ksql_types.specs.declared.relation.TaskName.{TaskName}
use Rattle.core_state.specs.Events.{Advances, Leaves, Restores, Offers}
use Rattle.core_state.specs.Good.{Good, GoodTask, IsDue, InStep}
use Rattle.core_state.specs.Meaning.{Meaning, Means}
use Rattle.core_state.specs.State.{Instance, TaskState, State, Topology, Proposes, IsTask, closed, bound}
use Rattle.core_state.specs.declared.log.Proposal.{Proposal}
use Rattle.core_state.proofs.Lists.{some_same, none_some, All-without, All-middle, lowest-le}
use Rattle.core_state.proofs.Tasks.{only-keeps}

module _ {E H : Type 0} (top : Topology E H) (d : Meaning E) (means : Means top d) where
  pub leave-keeps : (t : TaskName) → IsTask top t → (s next : State H) → Good top d s → Leaves top t s next → Good top d next
  leave-keeps t is s next good e = only-keeps top d means t s next e.only (ap (λ (w : TaskState H). w.done) e.now) is good (rw e.now task)
    where
      mine : GoodTask top d t (bound top s t) (s.tasks t)
      mine = good.good_tasks t is

      task : GoodTask top d t (bound top s t) (record (s.tasks t) { newest = (s.tasks t).newest + 1; instance = None; held = (s.tasks t).held ++ e.kept })
      task = record {
        logs_stand = mine.logs_stand;
        logs_load = mine.logs_load;
        done_within_inputs = mine.done_within_inputs;
        one_instance = λ i h new. absurd (none_some i h);
        held_are_older = All-append (λ p. p.generation < (s.tasks t).newest + 1) (s.tasks t).held e.kept
            (All-weaker (λ p. p.generation < (s.tasks t).newest) (λ p. p.generation < (s.tasks t).newest + 1) (λ p h. omega (arith, h)) (s.tasks t).held mine.held_are_older)
            (All-weaker (Proposes (s.tasks t)) (λ p. p.generation < (s.tasks t).newest + 1) (λ p h. omega (arith, mine.no_proposal_newer p h)) e.kept e.kept_was);
        proposal_is_due = λ p h new. absurd (none_some h.0 h.1);
        none_newer = λ i h. absurd (none_some i h);
        no_proposal_newer = λ p h. absurd (none_some h.0 h.1);
      }

  pub restore-keeps : (t : TaskName) → IsTask top t → (s next : State H) → Good top d s → Restores top t s next → Good top d next
  restore-keeps t is s next good e = only-keeps top d means t s next e.only (ap (λ (w : TaskState H). w.done) e.now) is good (rw e.now task)
    where
      mine : GoodTask top d t (bound top s t) (s.tasks t)
      mine = good.good_tasks t is

      made : Instance H
      made = record { generation = (s.tasks t).newest; done = (s.tasks t).done; stores = top.replay t (s.tasks t).logs; proposal = None }

      w : TaskState H
      w = record (s.tasks t) { instance = Some made }

      none_proposed : (p : Proposal) → Proposes w p → ⊥
      none_proposed p h = none_some p (ap (λ (i : Instance H). i.proposal) (some_same made h.0 h.1) ∙ h.2)

      task : GoodTask top d t (bound top s t) w
      task = record {
        logs_stand = mine.logs_stand;
        logs_load = mine.logs_load;
        done_within_inputs = mine.done_within_inputs;
        one_instance = λ i h new. subst (λ (j : Instance H). InStep top t w j j.proposal) (some_same made i h) (refl, refl);
        held_are_older = mine.held_are_older;
        proposal_is_due = λ p h new. absurd (none_proposed p h);
        none_newer = λ i h. subst (λ (j : Instance H). j.generation ≤ (s.tasks t).newest) (some_same made i h) (omega arith);
        no_proposal_newer = λ p h. absurd (none_proposed p h);
      }

  -- a held proposal is older than the newest generation, so it is fenced
  pub offer-keeps : (t : TaskName) → IsTask top t → (s next : State H) → Good top d s → Offers top t s next → Good top d next
  offer-keeps t is s next good e = only-keeps top d means t s next (e.fenced older).0 (ap (λ (w : TaskState H). w.done) (e.fenced older).1) is good (rw (e.fenced older).1 task)
    where
      mine : GoodTask top d t (bound top s t) (s.tasks t)
      mine = good.good_tasks t is

      all_older : All (λ p. p.generation < (s.tasks t).newest) (e.earlier ++ e.p ∷ e.later)
      all_older = subst (All (λ p. p.generation < (s.tasks t).newest)) e.was_held mine.held_are_older

      older : e.p.generation < (s.tasks t).newest
      older = All-middle (λ p. p.generation < (s.tasks t).newest) e.earlier e.later e.p all_older

      task : GoodTask top d t (bound top s t) (record (s.tasks t) { held = e.earlier ++ e.later })
      task = record {
        logs_stand = mine.logs_stand;
        logs_load = mine.logs_load;
        done_within_inputs = mine.done_within_inputs;
        one_instance = mine.one_instance;
        held_are_older = All-without (λ p. p.generation < (s.tasks t).newest) e.earlier e.later e.p all_older;
        proposal_is_due = λ p h new. record {
          begins = (mine.proposal_is_due p h new).begins;
          rises = (mine.proposal_is_due p h new).rises;
          in_bound = (mine.proposal_is_due p h new).in_bound;
          outputs = (mine.proposal_is_due p h new).outputs;
          loads = (mine.proposal_is_due p h new).loads;
          stands = (mine.proposal_is_due p h new).stands;
        };
        none_newer = mine.none_newer;
        no_proposal_newer = mine.no_proposal_newer;
      }

  -- each partition shows the meaning up to the closed feed of its topic
  pub shown-all : (s : State H) → Good top d s → (topic q : ℕ) → s.shown topic q ≡ d.has topic q (closed top.routes s topic)
  shown-all s good topic q = by (top.routes.writers topic) refl
    where
      by : (ws : List TaskName) → top.routes.writers topic ≡ ws → s.shown topic q ≡ d.has topic q (closed top.routes s topic)
      by [] e = rw e (good.source_shown topic q e)
      by (w ∷ ws) e = good.written_shown topic q (λ none. absurd (cc (e, none)))

  pub advance-keeps : (t : TaskName) → IsTask top t → (s next : State H) → Good top d s → Advances top t s next → Good top d next
  advance-keeps t is s next good e = only-keeps top d means t s next e.only (ap (λ (w : TaskState H). w.done) e.now) is good (rw e.now task)
    where
      mine : GoodTask top d t (bound top s t) (s.tasks t)
      mine = good.good_tasks t is

      before : (e.before.done ≡ (s.tasks t).done) × (e.before.stores ≡ top.replay t (s.tasks t).logs)
      before = subst (InStep top t (s.tasks t) e.before) e.free (mine.one_instance e.before e.here e.newest)

      more : List E
      more = top.takes t (λ topic. s.shown topic t.part) e.p.from e.p.to

      begins : e.p.from ≡ (s.tasks t).done
      begins = e.from_done ∙ before.0

      next_entries : d.entries t e.p.to ≡ d.entries t e.p.from ++ more
      next_entries = means.taken t is (λ topic. s.shown topic t.part) e.p.from e.p.to (omega (arith, e.rises))
          (λ topic at. (closed top.routes s topic, rw e.to_bound (lowest-le s.fed (closed top.routes s) (top.inputs t) topic at), shown-all s good topic t.part))

      ran : (e.p.outputs ≡ top.gives t (d.entries t e.p.from) more) × top.Stands t e.after (d.entries t e.p.from ++ more)
      ran = e.runs.stands (d.entries t e.p.from) (rw (before.1, begins) mine.logs_stand)

      after : e.after ≡ top.replay t ((s.tasks t).logs ++ e.p.entries)
      after = sym (e.runs.replays (s.tasks t).logs (sym before.1))

      made : Instance H
      made = record { generation = e.before.generation; done = e.p.to; stores = e.after; proposal = Some e.p }

      w : TaskState H
      w = record (s.tasks t) { instance = Some made }

      due : IsDue top d t (bound top s t) w e.p
      due = record {
        begins = begins;
        rises = e.rises;
        in_bound = omega (arith, e.to_bound);
        outputs = ran.0 ∙ means.given t is e.p.from e.p.to more (omega (arith, e.rises)) next_entries;
        loads = e.runs.loads;
        stands = subst (λ (h : H). top.Stands t h (d.entries t e.p.to)) after (subst (top.Stands t e.after) (sym next_entries) ran.1);
      }

      is_mine : (p : Proposal) → Proposes w p → e.p ≡ p
      is_mine p h = some_same e.p p (ap (λ (i : Instance H). i.proposal) (some_same made h.0 h.1) ∙ h.2)

      task : GoodTask top d t (bound top s t) w
      task = record {
        logs_stand = mine.logs_stand;
        logs_load = mine.logs_load;
        done_within_inputs = mine.done_within_inputs;
        one_instance = λ i h new. subst (λ (j : Instance H). InStep top t w j j.proposal) (some_same made i h) (e.generation, refl, after);
        held_are_older = mine.held_are_older;
        proposal_is_due = λ p h new. subst (IsDue top d t (bound top s t) w) (is_mine p h) due;
        none_newer = λ i h. subst (λ (j : Instance H). j.generation ≤ (s.tasks t).newest) (some_same made i h) (mine.none_newer e.before e.here);
        no_proposal_newer = λ p h. subst (λ (q : Proposal). q.generation ≤ (s.tasks t).newest) (is_mine p h) (rw e.generation (mine.none_newer e.before e.here));
      }
