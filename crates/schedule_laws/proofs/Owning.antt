-- Where a worker is live, each task has an owner, after each step.
use Rattle.std.proofs.Common.{◌≡◌, ◌≢◌, sym, subst, ℕ, zero, suc, List, [], ◌∷◌, ◌++◌, map}
use Rattle.std.specs.Prelude.{Contains, None, Some}
use Rattle.std.specs.List.{range_with_len}
use Rattle.std.specs.List.Sorted.{IsStrictlyIncreasing}
use Rattle.ksql_program.specs.Sound.{IsSound}
use Rattle.ksql_program.specs.declared.program.Item.{Item}
use Rattle.topic_files.specs.declared.topic.TopicLines.{TopicLines}
use Rattle.topology.specs.Tasks.{chain_of, tasks_of}
use Rattle.topology.specs.Topologies.{subs, topology_of}
use Rattle.topology.specs.declared.schedule.Lined.{Lined}
use Rattle.topology.specs.declared.schedule.Step.{Step}
use Rattle.topology.specs.declared.schedule.Step.TheVariants as step
use Rattle.core_state.specs.declared.journal.JournalEntry.TheVariants as entry
use Rattle.assignor.proofs.Whole.{is_whole}
use Rattle.assignor.specs.declared.assignment.Owned.{Owned}
use Rattle.cluster_laws.specs.Progress.{Progress, after_assignment, after_line, after_step, before_workers, opening, round, rounds, with_worker, without_worker}
use Rattle.schedule_laws.proofs.Draining.{AreOwned, owned-some}
use Rattle.cluster_laws.proofs.LiveWorkers.{first-rising, with-rising, without-rising}

-- the live workers rise, and where there is one, all tasks have owners
pub record IsStaffed (items : List Item) (p : Progress) : Type 0 where
  pub rising : IsStrictlyIncreasing p.live
  pub whole : p.live ≢ [] → map (λ (o : Owned). o.task) p.owners ≡ tasks_of (subs items)

module _ (items : List Item) where
  assigned : (live : List ℕ) (p : Progress) → IsStrictlyIncreasing live → IsStaffed items (after_assignment (topology_of items) live p)
  assigned live p rising = record {
    rising = rising;
    whole = λ some. (is_whole p.owners live (tasks_of (subs items)) some rising).0;
  }

  rounds-staffed : (n : ℕ) (p : Progress) → IsStaffed items p → IsStaffed items (rounds (topology_of items) n p)
  rounds-staffed zero p is = is
  rounds-staffed (suc n) p is = rounds-staffed n (round None (topology_of items) p) (record { rising = is.rising; whole = is.whole })

  step-staffed : (p : Progress) (s : Step) → IsStaffed items p → IsStaffed items (after_step (topology_of items) p s)
  step-staffed p step.FeedAll is = record { rising = is.rising; whole = is.whole }
  step-staffed p (step.Feed counts) is = record { rising = is.rising; whole = is.whole }
  step-staffed p (step.Round None stalled) is = record { rising = is.rising; whole = is.whole }
  step-staffed p (step.Round (Some lost) stalled) is = assigned (without_worker lost p.live) (round (Some lost) (topology_of items) p) (without-rising lost p.live is.rising)
  step-staffed p (step.Start worker) is = assigned (with_worker worker p.live) p (with-rising worker p.live is.rising)
  step-staffed p (step.Stop worker) is = assigned (without_worker worker p.live) p (without-rising worker p.live is.rising)
  step-staffed p (step.Lose task) is = record { rising = is.rising; whole = is.whole }
  step-staffed p step.Drain is = rounds-staffed (chain_of (topology_of items).subs) p is
  step-staffed p (step.Wake worker) is = is

  -- also after a step with its line
  pub line-staffed : (p : Progress) (l : Lined) → IsStaffed items p → IsStaffed items (after_line (topology_of items) p l)
  line-staffed p l is = step-staffed (record p { journal = p.journal ++ entry.Step l.line ∷ [] }) l.step (record { rising = is.rising; whole = is.whole })

  pub opening-staffed : (files : List TopicLines) (workers : ℕ) → IsStaffed items (opening (topology_of items) items files workers)
  opening-staffed files workers = assigned (range_with_len 1 workers) (before_workers items files) (first-rising workers)

  -- so in a drain each task takes part
  pub staffed-owned : (sound : IsSound items) (p : Progress) → IsStaffed items p → p.live ≢ [] → AreOwned items sound p
  staffed-owned sound p is some u among = owned-some p.owners u (subst (λ us. Contains us u) (sym (is.whole some)) among)
