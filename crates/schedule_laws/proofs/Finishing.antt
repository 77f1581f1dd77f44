-- A drain brings each task to the last feed, and the steps after it keep it there, until the next feed.
use Rattle.std.proofs.Common.{◌≡◌, ◌∙◌, refl, sym, ℕ, ◌+◌, Bool, true, false, true≢false, cond, List, [], ◌∷◌, ◌++◌, length, length-append, arith}
use Rattle.std.specs.Prelude.{Option, None, Some}
use Rattle.ksql_program.specs.Sound.{IsSound}
use Rattle.ksql_program.specs.declared.program.Item.{Item}
use Rattle.topic_files.specs.declared.topic.TopicLines.{TopicLines}
use Rattle.topology.specs.Tasks.{chain_of}
use Rattle.topology.specs.Topologies.{topology_of}
use Rattle.topology.specs.declared.schedule.Lined.{Lined}
use Rattle.topology.specs.declared.schedule.Step.{Step}
use Rattle.topology.specs.declared.schedule.Step.TheVariants as step
use Rattle.topology.specs.declared.topology.SubInput.{SubInput}
use Rattle.topology.specs.declared.topology.Topology.{Topology}
use Rattle.core_state.specs.Routes.{routes_of}
use Rattle.core_state.specs.declared.journal.JournalEntry.TheVariants as entry
use Rattle.wiring_laws.proofs.Wirings.{wired-well}
use Rattle.task_core.specs.Core.{inputs_at}
use Rattle.assignor.specs.Rule.{owner_of}
use Rattle.cluster_laws.specs.Progress.{Progress, after_line, after_step, after_steps, bound, closed, opening, round, rounds, takes_part}
use Rattle.schedule_laws.proofs.Draining.{AreDone, drained, lowest-all, rounds-fed}
use Rattle.ksql_cli.specs.Run.{progress}
use Rattle.schedule_laws.specs.Drained.{DrainsHaveWorkers, CanDrain, IsDone, drained_after, fed_by, drained_by, feeds_of, is_drained, then_drain}
use Rattle.schedule_laws.proofs.Owning.{IsStaffed, line-staffed, opening-staffed, staffed-owned}

-- ---- the last feed

step-fed : (t : Topology) (p : Progress) (s : Step) → (after_step t p s).fed ≡ p.fed + length (fed_by s)
step-fed t p step.FeedAll = refl
step-fed t p (step.Feed counts) = refl
step-fed t p (step.Round None stalled) = omega arith
step-fed t p (step.Round (Some lost) stalled) = omega arith
step-fed t p (step.Start worker) = omega arith
step-fed t p (step.Stop worker) = omega arith
step-fed t p (step.Lose task) = omega arith
step-fed t p step.Drain = let same = rounds-fed t (chain_of t.subs) p in omega (arith, same)
step-fed t p (step.Wake worker) = omega arith

pub steps-fed : (t : Topology) (p : Progress) (steps : List Lined) → (after_steps t p steps).fed ≡ p.fed + length (feeds_of steps)
steps-fed t p [] = omega arith
steps-fed t p (l ∷ ls) =
    let rest : (after_steps t (after_line t p l) ls).fed ≡ (after_line t p l).fed + length (feeds_of ls) = steps-fed t (after_line t p l) ls in
    let first : (after_line t p l).fed ≡ p.fed + length (fed_by l.step) = step-fed t (record p { journal = p.journal ++ entry.Step l.line ∷ [] }) l.step in
    let long : length (fed_by l.step ++ feeds_of ls) ≡ length (fed_by l.step) + length (feeds_of ls) = length-append (fed_by l.step) (feeds_of ls) in
    omega (arith, rest, first, long)

-- so many feeds a schedule has from the beginning on
pub all-fed : (items : List Item) (files : List TopicLines) (workers : ℕ) (steps : List Lined) → (progress items files workers steps).fed ≡ length (feeds_of steps)
all-fed items files workers steps =
    let is : (progress items files workers steps).fed ≡ 0 + length (feeds_of steps) = steps-fed (topology_of items) (opening (topology_of items) items files workers) steps in
    omega (arith, is)

-- ---- all tasks are done with the last feed

module _ (items : List Item) (sound : IsSound items) where
  abbrev top : Topology
  top = topology_of items

  -- then each topic is closed for it
  pub done-closed : (p : Progress) → AreDone items sound p → (topic : ℕ) → closed top p topic ≡ p.fed
  done-closed p done topic =
      lowest-all p.fed p.fed p.done ((routes_of top.topics).writers topic) refl (λ u writes. done u ((wired-well items sound).written_by topic u writes).0)

  -- and they stay so in a round, whoever is lost in it
  round-done : (lost : Option ℕ) (p : Progress) → AreDone items sound p → AreDone items sound (round lost top p)
  round-done lost p done u among = by (takes_part lost (owner_of p.owners u))
    where
      by : (b : Bool) → cond b (bound top p u) (p.done u) ≡ p.fed
      by true = lowest-all p.fed p.fed (λ (i : SubInput). closed top p i.topic) (inputs_at top u) refl (λ i reads. done-closed p done i.topic)
      by false = done u among

  drain-done : (p : Progress) → IsStaffed items p → CanDrain p → AreDone items sound (rounds top (chain_of top.subs) p)
  drain-done p staffed can u among =
      drained items sound p (staffed-owned items sound p staffed can) u among ∙ sym (rounds-fed top (chain_of top.subs) p)

  step-done : (p : Progress) (s : Step) (before : Bool) → IsStaffed items p → (before ≡ true → AreDone items sound p) → (s ≡ step.Drain → CanDrain p) →
      drained_after before s ≡ true → AreDone items sound (after_step top p s)
  step-done p step.FeedAll before staffed was can now = absurd (true≢false (sym now))
  step-done p (step.Feed counts) before staffed was can now = absurd (true≢false (sym now))
  step-done p (step.Round None stalled) before staffed was can now = round-done None p (was now)
  step-done p (step.Round (Some lost) stalled) before staffed was can now = round-done (Some lost) p (was now)
  step-done p (step.Start worker) before staffed was can now = was now
  step-done p (step.Stop worker) before staffed was can now = was now
  step-done p (step.Lose task) before staffed was can now = was now
  step-done p step.Drain before staffed was can now = drain-done p staffed (can refl)
  step-done p (step.Wake worker) before staffed was can now = was now

  steps-done : (steps : List Lined) (p : Progress) (before : Bool) → IsStaffed items p → (before ≡ true → AreDone items sound p) → DrainsHaveWorkers top p steps →
      drained_by before steps ≡ true → AreDone items sound (after_steps top p steps)
  steps-done [] p before staffed was have_workers now = was now
  steps-done (l ∷ ls) p before staffed was have_workers now =
      steps-done ls (after_line top p l) (drained_after before l.step) (line-staffed items p l staffed)
      (step-done (record p { journal = p.journal ++ entry.Step l.line ∷ [] }) l.step before (record { rising = staffed.rising; whole = staffed.whole }) was have_workers.0)
      have_workers.1 now

  -- ---- the laws

  finished : (p : Progress) (feed : ℕ) → p.fed ≡ feed → AreDone items sound p → IsDone items feed p
  finished p feed is done = record { done = λ u among. done u among ∙ is; closed = λ topic. done-closed p done topic ∙ is }

  pub schedule-drained : (files : List TopicLines) (workers : ℕ) (steps : List Lined) → DrainsHaveWorkers top (opening top items files workers) steps →
      is_drained steps ≡ true → IsDone items (length (feeds_of steps)) (progress items files workers steps)
  schedule-drained files workers steps have_workers drains =
      finished (progress items files workers steps) (length (feeds_of steps)) (all-fed items files workers steps)
      (steps-done steps (opening top items files workers) true (opening-staffed items files workers) (λ _ u among. refl) have_workers drains)

  -- the steps before a drain, and the drain
  then-drained : (steps : List Lined) (line : ℕ) (p : Progress) → IsStaffed items p → CanDrain (after_steps top p steps) →
      AreDone items sound (after_steps top p (then_drain steps line)) × ((after_steps top p (then_drain steps line)).fed ≡ p.fed + length (feeds_of steps))
  then-drained [] line p staffed can = (
    drain-done (record p { journal = p.journal ++ entry.Step line ∷ [] }) (record { rising = staffed.rising; whole = staffed.whole }) can,
    let same = rounds-fed top (chain_of top.subs) (record p { journal = p.journal ++ entry.Step line ∷ [] }) in omega (arith, same),
  )
  then-drained (l ∷ ls) line p staffed can =
      let rest = then-drained ls line (after_line top p l) (line-staffed items p l staffed) can in
      let first : (after_line top p l).fed ≡ p.fed + length (fed_by l.step) = step-fed top (record p { journal = p.journal ++ entry.Step l.line ∷ [] }) l.step in
      let long : length (fed_by l.step ++ feeds_of ls) ≡ length (fed_by l.step) + length (feeds_of ls) = length-append (fed_by l.step) (feeds_of ls) in
      let more = rest.1 in
      (rest.0, omega (arith, more, first, long))

  pub drain-finishes : (files : List TopicLines) (workers : ℕ) (steps : List Lined) (line : ℕ) → CanDrain (progress items files workers steps) →
      IsDone items (length (feeds_of steps)) (progress items files workers (then_drain steps line))
  drain-finishes files workers steps line can =
      let is = then-drained steps line (opening top items files workers) (opening-staffed items files workers) can in
      finished (progress items files workers (then_drain steps line)) (length (feeds_of steps)) (let fed : (progress items files workers (then_drain steps line)).fed ≡ 0 + length (feeds_of steps) = is.1 in omega (arith, fed)) is.0
