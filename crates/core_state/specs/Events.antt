-- The events of the core, each as a relation between the state before it and the state after it.
use Rattle.std.specs.Prelude.{◌≡◌, ℕ, ◌+◌, ◌<◌, ◌≤◌, List, [], ◌∷◌, ◌++◌, map, filter, All, None, Some}
use Rattle.ksql_types.specs.declared.relation.StoreEntry.{StoreEntry}
use Rattle.ksql_types.specs.declared.relation.TaskName.{TaskName}
use Rattle.ksql_place.specs.declared.change.Change.{Change}
use Rattle.ksql_place.specs.declared.change.SourceRecord.{SourceRecord}
use Rattle.core_state.specs.declared.log.LogEntry.TheVariants.{Fed, Said}
use Rattle.core_state.specs.declared.log.Proposal.{Proposal}
use Rattle.core_state.specs.Routes.{merged, sent_to}
use Rattle.core_state.specs.State.{Instance, IsTask, Proposes, State, Topology, after, bound, closed, is_in, upto}

module _ {E H : Type 0} where
  -- only the state of one task changed
  pub record OnlyOf (top : Topology E H) (t : TaskName) (s next : State H) : Type 0 where
    pub fed : next.fed ≡ s.fed
    pub shown : (topic q : ℕ) → next.shown topic q ≡ s.shown topic q
    pub waiting : (u : TaskName) → IsTask top u → (q : ℕ) → next.waiting u q ≡ s.waiting u q
    pub others : (u : TaskName) → IsTask top u → ¬ (u ≡ t) → next.tasks u ≡ s.tasks u

  -- a feed of records
  pub record Feeds (top : Topology E H) (records : List SourceRecord) (s next : State H) : Type 0 where
    pub of_feed : All (λ r. r.stamp.feed ≡ s.fed + 1) records
    pub fed : next.fed ≡ s.fed + 1
    pub sources : (topic q : ℕ) → top.routes.writers topic ≡ [] → next.shown topic q ≡ s.shown topic q ++ map Fed (filter (is_in topic q) records)
    pub written : (topic q : ℕ) → ¬ (top.routes.writers topic ≡ []) → next.shown topic q ≡ s.shown topic q
    pub waiting : (u : TaskName) → IsTask top u → (q : ℕ) → next.waiting u q ≡ s.waiting u q
    pub tasks : (u : TaskName) → IsTask top u → next.tasks u ≡ s.tasks u

  -- A task with the stores `old` runs over further entries: it gives what they make it give, its stores then stand for
  -- the longer list, and its changelog entries turn a replay from the old stores into one of the new stores.
  pub record Runs (top : Topology E H) (t : TaskName) (old : H) (more : List E) (outputs : List Change) (entries : List StoreEntry) (new : H) : Type 0 where
    pub stands : (earlier : List E) → top.Stands t old earlier → (outputs ≡ top.gives t earlier more) × top.Stands t new (earlier ++ more)
    pub replays : (logs : List StoreEntry) → top.replay t logs ≡ old → top.replay t (logs ++ entries) ≡ new
    pub loads : All (top.MayLoad t) entries

  -- the newest generation's instance, which has no proposal, advances to the feed up to which its inputs are closed
  pub record Advances (top : Topology E H) (t : TaskName) (s next : State H) : Type 0 where
    pub before : Instance H
    pub after : H
    pub p : Proposal
    pub here : (s.tasks t).instance ≡ Some before
    pub newest : before.generation ≡ (s.tasks t).newest
    pub free : before.proposal ≡ None
    pub generation : p.generation ≡ before.generation
    pub from_done : p.from ≡ before.done
    pub rises : p.from < p.to
    pub to_bound : p.to ≡ bound top s t
    pub runs : Runs top t before.stores (top.takes t (λ topic. s.shown topic t.part) p.from p.to) p.outputs p.entries after
    pub only : OnlyOf top t s next
    pub now : next.tasks t ≡ record (s.tasks t) { instance = Some (record { generation = before.generation; done = p.to; stores = after; proposal = Some p }) }

  -- A proposal of a task takes effect at once: its progress, its outputs and its entries. The changelog may be any that
  -- replays to the same.
  pub record Applies (top : Topology E H) (t : TaskName) (p : Proposal) (s next : State H) : Type 0 where
    pub fed : next.fed ≡ s.fed
    pub others : (u : TaskName) → IsTask top u → ¬ (u ≡ t) → next.tasks u ≡ s.tasks u
    pub done : (next.tasks t).done ≡ p.to
    pub same_newest : (next.tasks t).newest ≡ (s.tasks t).newest
    pub logs : top.replay t (next.tasks t).logs ≡ top.replay t ((s.tasks t).logs ++ p.entries)
    pub logs_load : All (top.MayLoad t) (s.tasks t).logs → All (top.MayLoad t) p.entries → All (top.MayLoad t) (next.tasks t).logs
    -- the waiting changes of the task with the outputs added, and those of the other writers
    pub gathered : TaskName → ℕ → List Change
    pub own : (q : ℕ) → gathered t q ≡ s.waiting t q ++ sent_to top.routes t q p.outputs
    pub of_others : (u : TaskName) → IsTask top u → ¬ (u ≡ t) → (q : ℕ) → gathered u q ≡ s.waiting u q
    pub waiting : (u : TaskName) → IsTask top u → top.routes.output u ≡ top.routes.output t → (q : ℕ) → next.waiting u q ≡ after (closed top.routes next (top.routes.output t)) (gathered u q)
    pub waiting_elsewhere : (u : TaskName) → IsTask top u → ¬ (top.routes.output u ≡ top.routes.output t) → (q : ℕ) → next.waiting u q ≡ s.waiting u q
    pub shown : (q : ℕ) → next.shown (top.routes.output t) q ≡ s.shown (top.routes.output t) q
        ++ map Said (merged (map (λ u. upto (closed top.routes next (top.routes.output t)) (gathered u q)) (top.routes.writers (top.routes.output t))))
    pub shown_elsewhere : (topic : ℕ) → ¬ (topic ≡ top.routes.output t) → (q : ℕ) → next.shown topic q ≡ s.shown topic q

  -- the commit of the proposal of a newest-generation instance
  pub record Commits (top : Topology E H) (t : TaskName) (s next : State H) : Type 0 where
    pub before : Instance H
    pub p : Proposal
    pub here : (s.tasks t).instance ≡ Some before
    pub newest : before.generation ≡ (s.tasks t).newest
    pub offered : before.proposal ≡ Some p
    pub applies : Applies top t p s next
    pub free : (next.tasks t).instance ≡ Some (record before { proposal = None })
    pub held : (next.tasks t).held ≡ (s.tasks t).held

  -- the task leaves its owner: the generation rises, the instance is gone, and its proposal may be kept as a held one
  pub record Leaves (top : Topology E H) (t : TaskName) (s next : State H) : Type 0 where
    pub kept : List Proposal
    pub kept_was : All (Proposes (s.tasks t)) kept
    pub only : OnlyOf top t s next
    pub now : next.tasks t ≡ record (s.tasks t) { newest = (s.tasks t).newest + 1; instance = None; held = (s.tasks t).held ++ kept }

  -- an instance of the newest generation is restored from the changelog, if there is none
  pub record Restores (top : Topology E H) (t : TaskName) (s next : State H) : Type 0 where
    pub none_yet : (i : Instance H) → (s.tasks t).instance ≡ Some i → i.generation < (s.tasks t).newest
    pub only : OnlyOf top t s next
    pub now : next.tasks t ≡ record (s.tasks t) { instance = Some (record { generation = (s.tasks t).newest; done = (s.tasks t).done; stores = top.replay t (s.tasks t).logs; proposal = None }) }

  -- a held proposal is offered and is no longer held
  pub record Offers (top : Topology E H) (t : TaskName) (s next : State H) : Type 0 where
    pub p : Proposal
    pub earlier : List Proposal
    pub later : List Proposal
    pub was_held : (s.tasks t).held ≡ earlier ++ p ∷ later
    -- it is fenced exactly if its generation is below the newest
    pub fenced : p.generation < (s.tasks t).newest → OnlyOf top t s next × (next.tasks t ≡ record (s.tasks t) { held = earlier ++ later })
    pub committed : (s.tasks t).newest ≤ p.generation →
        Applies top t p s next × ((next.tasks t).instance ≡ (s.tasks t).instance) × ((next.tasks t).held ≡ earlier ++ later)

-- the events of the core
pub data Event : Type 0 where
  feed : List SourceRecord → Event
  advance : TaskName → Event
  commit : TaskName → Event
  leave : TaskName → Event
  restore : TaskName → Event
  offer : TaskName → Event

abbrev pub records_of : Event → List SourceRecord
records_of (feed records) = records
records_of (advance t) = []
records_of (commit t) = []
records_of (leave t) = []
records_of (restore t) = []
records_of (offer t) = []

abbrev pub Happens : {E H : Type 0} → Topology E H → Event → State H → State H → Type 0
Happens top (feed records) s next = Feeds top records s next
Happens top (advance t) s next = IsTask top t × Advances top t s next
Happens top (commit t) s next = IsTask top t × Commits top t s next
Happens top (leave t) s next = IsTask top t × Leaves top t s next
Happens top (restore t) s next = IsTask top t × Restores top t s next
Happens top (offer t) s next = IsTask top t × Offers top t s next
