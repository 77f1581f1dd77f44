-- Each event keeps a good state, and the opening state is good.
use Rattle.std.specs.Prelude.{All, flat_map}
use Rattle.std.proofs.Common.{◌≡◌, ◌∙◌, ap, ap₂, sym, subst, ℕ, List, [], ◌∷◌, ◌++◌, ◌<◌, ◌≤◌, arith}
use Rattle.std.proofs.lemmas.List.{append-nil, append_assoc}
use Rattle.std.proofs.lemmas.List.Elements.{All-nil}
use Rattle.ksql_types.specs.declared.relation.TaskName.{TaskName}
use Rattle.ksql_place.specs.declared.change.SourceRecord.{SourceRecord}
use Rattle.core_state.specs.Events.{Event, feed, advance, commit, leave, restore, offer, records_of, Happens}
use Rattle.core_state.specs.Good.{Good, GoodTask, InStep, IsOpening}
use Rattle.core_state.specs.Law.{IsMeaning, AllHappen, EventsKeepGood, RunsAreGood, NumbersDecide}
use Rattle.core_state.specs.Meaning.{Meaning, Means, Opens}
use Rattle.core_state.specs.Routes.{sent_to}
use Rattle.core_state.specs.State.{State, Topology, IsTask, done_of, closed, bound}
use Rattle.core_state.proofs.Committing.{commit-keeps}
use Rattle.core_state.proofs.Feeding.{feed-keeps}
use Rattle.core_state.proofs.Instances.{advance-keeps, leave-keeps, restore-keeps, offer-keeps, shown-all}
use Rattle.core_state.proofs.Lists.{none_some, lowest-below, lowest-same}

module _ {E H : Type 0} (top : Topology E H) where
  -- numbers decide what is shown
  pub same-numbers : (d : Meaning E) → Means top d → NumbersDecide top d
  same-numbers d means s u good-s good-u fed done topic q =
      shown-all top d means s good-s topic q
      ∙ ap (d.has topic q) (lowest-same s.fed u.fed (done_of s) (done_of u) (top.routes.writers topic) fed (λ w at. done w (means.written_by topic w at).0))
      ∙ sym (shown-all top d means u good-u topic q)

  module _ (d : Meaning E) (means : Means top d) (opens : Opens top d) (s : State H) (is : IsOpening top s) where
    closed-none : (topic : ℕ) → closed top.routes s topic ≡ 0
    closed-none topic =
        let low : closed top.routes s topic ≤ 0 = lowest-below s.fed 0 (done_of s) (top.routes.writers topic) (omega (arith, is.fed)) (λ w at. omega (arith, is.done w (means.written_by topic w at).0)) in
        omega (arith, low)

    shown-none : (topic q : ℕ) → s.shown topic q ≡ d.has topic q (closed top.routes s topic)
    shown-none topic q = is.shown topic q ∙ sym (opens.has topic q) ∙ ap (d.has topic q) (sym (closed-none topic))

    opening-task : (t : TaskName) → IsTask top t → GoodTask top d t (bound top s t) (s.tasks t)
    opening-task t of = record {
      logs_stand = rw (is.logs t of, is.done t of) (opens.stands t of);
      logs_load = rw (is.logs t of) (All-nil (top.MayLoad t));
      done_within_inputs = rw (is.done t of) (omega arith);
      one_instance = λ i h new.
          let made = is.fresh t of i h in
          subst (InStep top t (s.tasks t) i) (sym made.3) (made.1 ∙ sym (is.done t of), made.2 ∙ ap (top.replay t) (sym (is.logs t of)));
      held_are_older = rw (is.held t of) (All-nil (λ p. p.generation < (s.tasks t).newest));
      proposal_is_due = λ p h new. absurd (none_some p (sym (is.fresh t of h.0 h.1).3 ∙ h.2));
      none_newer = λ i h. omega (arith, (is.fresh t of i h).0);
      no_proposal_newer = λ p h. absurd (none_some p (sym (is.fresh t of h.0 h.1).3 ∙ h.2));
    }

    pub opening-good : Good top d s
    opening-good = record {
      source_shown = λ topic q source. is.shown topic q ∙ sym (opens.has topic q) ∙ ap (d.has topic q) (sym is.fed);
      none_later = rw opens.order (All-nil (λ r. r.stamp.feed ≤ s.fed));
      written_shown = λ topic q some. shown-none topic q;
      waiting_is_due = λ t of q. is.waiting t of q ∙ ap (sent_to top.routes t q) (sym (opens.results t of)
          ∙ ap₂ (λ (c n : ℕ). d.results t c n) (sym (closed-none (top.routes.output t))) (sym (is.done t of)));
      done_fed = λ t of. rw (is.done t of) (omega arith);
      good_tasks = opening-task;
    }

  module _ (Fits : List SourceRecord → Type 0) (mean : List SourceRecord → Meaning E) (law : IsMeaning top Fits mean) where
    pub events-keep-good : EventsKeepGood top Fits mean
    events-keep-good order e s next fits good happens = by e fits happens
      where
        at : Fits (order ++ []) → Means top (mean order)
        at fits = law.means order (law.earlier order [] fits)

        kept : Good top (mean order) next → Good top (mean (order ++ [])) next
        kept now = rw (append-nil order) now

        by : (e : Event) → Fits (order ++ records_of e) → Happens top e s next → Good top (mean (order ++ records_of e)) next
        by (feed records) fits h =
            feed-keeps top (mean order) (mean (order ++ records)) (law.means order (law.earlier order records fits)) records s next good h
            (law.grows s.fed order records fits (subst (All (λ r. r.stamp.feed ≤ s.fed)) (law.of_order order) good.none_later) h.of_feed)
        by (advance t) fits h = kept (advance-keeps top (mean order) (at fits) t h.0 s next good h.1)
        by (commit t) fits h = kept (commit-keeps top (mean order) (at fits) t h.0 s next good h.1)
        by (leave t) fits h = kept (leave-keeps top (mean order) (at fits) t h.0 s next good h.1)
        by (restore t) fits h = kept (restore-keeps top (mean order) (at fits) t h.0 s next good h.1)
        by (offer t) fits h = kept (offer-keeps top (mean order) (at fits) t h.0 s next good h.1)

    runs-on : (es : List Event) (order : List SourceRecord) (s last : State H) → Fits (order ++ flat_map records_of es) → Good top (mean order) s → AllHappen top es s last →
        Good top (mean (order ++ flat_map records_of es)) last
    runs-on [] order s last fits good same = rw (append-nil order) (subst (Good top (mean order)) same good)
    runs-on (e ∷ es) order s last fits good h =
        let split : (order ++ records_of e) ++ flat_map records_of es ≡ order ++ flat_map records_of (e ∷ es) = append_assoc order (records_of e) (flat_map records_of es) in
        let more : Fits ((order ++ records_of e) ++ flat_map records_of es) = subst Fits (sym split) fits in
        let now : Good top (mean (order ++ records_of e)) h.0 = events-keep-good order e s h.0 (law.earlier (order ++ records_of e) (flat_map records_of es) more) good h.1 in
        subst (λ (o : List SourceRecord). Good top (mean o) last) split (runs-on es (order ++ records_of e) h.0 last more now h.2)

    pub runs-are-good : RunsAreGood top Fits mean
    runs-are-good es s last fits opening h =
        runs-on es [] s last fits (opening-good (mean []) (law.means [] (law.earlier [] (flat_map records_of es) fits)) law.opens s opening) h

    pub numbers-decide : (order : List SourceRecord) → Fits order → NumbersDecide top (mean order)
    numbers-decide order fits = same-numbers (mean order) (law.means order fits)
