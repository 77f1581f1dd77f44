-- Tasks that process their entries one by one and keep stores.
use Rattle.std.specs.Prelude.{◌≡◌, ℕ, ◌≤◌, Bool, IsTrue, false, List, [], ◌∷◌, ◌++◌, All, Contains}
use Rattle.std.specs.Cmp.{IsTotalOrder}
use Rattle.std.specs.Ordering.{is_gt}
use Rattle.ksql_types.specs.declared.relation.StoreEntry.{StoreEntry}
use Rattle.ksql_types.specs.declared.relation.TaskName.{TaskName}
use Rattle.ksql_place.specs.declared.change.Change.{Change}
use Rattle.core_state.specs.State.{Topology, feed_of}
use Rattle.core_state.specs.Wired.{Wiring, log_feed, wired}
use Rattle.core_state.specs.declared.log.LogEntry.{LogEntry}
use Rattle.core_state.specs.declared.log.LogEntry.TheVariants.{Said}

-- the results of processing entries one by one, each after the earlier ones
abbrev pub results_by : {E : Type 0} → (List E → E → List Change) → List E → List E → List Change
results_by one earlier [] = []
results_by one earlier (e ∷ es) = one earlier e ++ results_by one (earlier ++ e ∷ []) es

module _ {E : Type 0} where
  -- Tasks give what their entries give, one after another, and these changes have the feeds of their entries. Entries
  -- have the feeds of what they are made of, and their order keeps feeds together.
  pub record StepsWell (w : Wiring E) (one : TaskName → List E → E → List Change) : Type 0 where
    pub gives : (t : TaskName) (es us : List E) → w.gives t es us ≡ results_by (one t) es us
    pub keeps_feed : (t : TaskName) (es : List E) (e : E) → All (λ x. feed_of x ≡ w.feed e) (one t es e)
    pub entry_feed : (t : TaskName) (i : ℕ) (x : LogEntry) → All (λ e. w.feed e ≡ log_feed x) (w.entry t i x)
    pub total : (t : TaskName) → IsTotalOrder (w.entry_cmp t)
    pub rises : (t : TaskName) (x y : E) → is_gt (w.entry_cmp t x y) ≡ false → w.feed x ≤ w.feed y

module _ {E H : Type 0} where
  -- changelogs that replay to the same continue to do so, and the stores of an empty one stand for no entries
  pub record HoldsWell (w : Wiring E) (Stands : TaskName → H → List E → Type 0) (replay : TaskName → List StoreEntry → H) : Type 0 where
    pub goes_on : (t : TaskName) → Contains w.names t → (us vs more : List StoreEntry) → replay t us ≡ replay t vs → replay t (us ++ more) ≡ replay t (vs ++ more)
    pub fresh : (t : TaskName) → Contains w.names t → Stands t (replay t []) []

-- ---- stores that entries determine

-- how tasks keep stores H: the stores of some entries, those that a changelog replays to, and whether a changelog entry
-- may be loaded
pub record Holding (E H : Type 0) : Type 0 where
  pub stands : TaskName → List E → H
  pub replay : TaskName → List StoreEntry → H
  pub may_load : TaskName → StoreEntry → Bool

module _ {E H : Type 0} where
  -- the stores are those of the entries
  abbrev pub AreStores : Holding E H → TaskName → H → List E → Type 0
  AreStores hold t stores es = stores ≡ hold.stands t es

  -- the topology of tasks with this wiring and these stores
  abbrev pub held_by : Wiring E → Holding E H → Topology E H
  held_by w hold = wired w (AreStores hold) hold.replay (λ t x. IsTrue (hold.may_load t x))

-- ---- a task's loop

module _ {E H : Type 0} where
  -- A task processed some entries one by one, from the stores `old` to the stores now: for whatever list the old ones
  -- stand for, it gave what these entries give after this list, and the stores stand for the longer one.
  abbrev pub SoFar : Topology E H → TaskName → H → List E → List Change → H → Type 0
  SoFar top t old es given now = (earlier : List E) → top.Stands t old earlier → (given ≡ top.gives t earlier es) × top.Stands t now (earlier ++ es)

  -- one step of a task
  abbrev pub TakesStep : Topology E H → (TaskName → List E → E → List Change) → TaskName → H → E → List Change → H → Type 0
  TakesStep top one t before e given now = (earlier : List E) → top.Stands t before earlier → (given ≡ one t earlier e) × top.Stands t now (earlier ++ e ∷ [])

-- ---- bounds

-- a bound on the content of topics and on what tasks read: entries within it give changes within it
pub record KeepsBound {E : Type 0} (w : Wiring E) (one : TaskName → List E → E → List Change) (P : ℕ → LogEntry → Type 0) (Q : TaskName → E → Type 0) : Type 0 where
  pub taken : (t : TaskName) (i : ℕ) (x : LogEntry) → Contains (w.inputs t) i → P i x → All (Q t) (w.entry t i x)
  pub given : (t : TaskName) (es : List E) (e : E) → Contains w.names t → All (Q t) es → Q t e → All (λ y. P (w.routes.output t) (Said y)) (one t es e)
