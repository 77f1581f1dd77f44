-- Good states of the core: what is shown and what waits is what the topology means up to the feeds that tasks
-- committed, each change once, and the changelogs stand for the entries of these feeds.
use Rattle.std.specs.Prelude.{◌≡◌, ℕ, ◌<◌, ◌≤◌, [], ◌++◌, All, Option, None, Some}
use Rattle.ksql_types.specs.declared.relation.TaskName.{TaskName}
use Rattle.core_state.specs.declared.log.Proposal.{Proposal}
use Rattle.core_state.specs.Meaning.{Meaning}
use Rattle.core_state.specs.Routes.{sent_to}
use Rattle.core_state.specs.State.{Instance, IsTask, Proposes, State, TaskState, Topology, bound, closed, done_of}

module _ {E H : Type 0} where
  -- the proposal due from a task that is done up to a feed and whose inputs are closed up to another
  pub record IsDue (top : Topology E H) (d : Meaning E) (t : TaskName) (most : ℕ) (w : TaskState H) (p : Proposal) : Type 0 where
    pub begins : p.from ≡ w.done
    pub rises : p.from < p.to
    pub in_bound : p.to ≤ most
    pub outputs : p.outputs ≡ d.results t p.from p.to
    pub loads : All (top.MayLoad t) p.entries
    pub stands : top.Stands t (top.replay t (w.logs ++ p.entries)) (d.entries t p.to)

  -- an instance in step with the broker, with or without a proposal
  abbrev pub InStep : Topology E H → TaskName → TaskState H → Instance H → Option Proposal → Type 0
  InStep top t w i None = (i.done ≡ w.done) × (i.stores ≡ top.replay t w.logs)
  InStep top t w i (Some p) = (p.generation ≡ i.generation) × (i.done ≡ p.to) × (i.stores ≡ top.replay t (w.logs ++ p.entries))

  -- the state of one task is good, given the feed up to which its inputs are closed
  pub record GoodTask (top : Topology E H) (d : Meaning E) (t : TaskName) (most : ℕ) (w : TaskState H) : Type 0 where
    pub logs_stand : top.Stands t (top.replay t w.logs) (d.entries t w.done)
    pub logs_load : All (top.MayLoad t) w.logs
    pub done_within_inputs : w.done ≤ most
    pub one_instance : (i : Instance H) → w.instance ≡ Some i → i.generation ≡ w.newest → InStep top t w i i.proposal
    pub held_are_older : All (λ p. p.generation < w.newest) w.held
    pub proposal_is_due : (p : Proposal) → Proposes w p → p.generation ≡ w.newest → IsDue top d t most w p
    pub none_newer : (i : Instance H) → w.instance ≡ Some i → i.generation ≤ w.newest
    pub no_proposal_newer : (p : Proposal) → Proposes w p → p.generation ≤ w.newest

  pub record Good (top : Topology E H) (d : Meaning E) (s : State H) : Type 0 where
    pub source_shown : (topic q : ℕ) → top.routes.writers topic ≡ [] → s.shown topic q ≡ d.has topic q s.fed
    pub none_later : All (λ r. r.stamp.feed ≤ s.fed) d.order
    pub written_shown : (topic q : ℕ) → ¬ (top.routes.writers topic ≡ []) → s.shown topic q ≡ d.has topic q (closed top.routes s topic)
    pub waiting_is_due : (t : TaskName) → IsTask top t → (q : ℕ) →
        s.waiting t q ≡ sent_to top.routes t q (d.results t (closed top.routes s (top.routes.output t)) (done_of s t))
    pub done_fed : (t : TaskName) → IsTask top t → done_of s t ≤ s.fed
    pub good_tasks : (t : TaskName) → IsTask top t → GoodTask top d t (bound top s t) (s.tasks t)

  -- nothing has happened yet: no feed, nothing shown, and instances, if any, with the stores of an empty changelog
  pub record IsOpening (top : Topology E H) (s : State H) : Type 0 where
    pub fed : s.fed ≡ 0
    pub shown : (topic q : ℕ) → s.shown topic q ≡ []
    pub waiting : (t : TaskName) → IsTask top t → (q : ℕ) → s.waiting t q ≡ []
    pub done : (t : TaskName) → IsTask top t → (s.tasks t).done ≡ 0
    pub newest : (t : TaskName) → IsTask top t → (s.tasks t).newest ≡ 1
    pub logs : (t : TaskName) → IsTask top t → (s.tasks t).logs ≡ []
    pub held : (t : TaskName) → IsTask top t → (s.tasks t).held ≡ []
    pub fresh : (t : TaskName) → IsTask top t → (i : Instance H) → (s.tasks t).instance ≡ Some i →
        (i.generation ≡ 1) × (i.done ≡ 0) × (i.stores ≡ top.replay t []) × (i.proposal ≡ None)
