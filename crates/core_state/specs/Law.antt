-- The law of the core: each event keeps a good state.
use Rattle.std.specs.Prelude.{◌≡◌, ℕ, ◌+◌, ◌≤◌, List, [], ◌∷◌, ◌++◌, flat_map, All}
use Rattle.ksql_types.specs.declared.relation.TaskName.{TaskName}
use Rattle.ksql_place.specs.declared.change.SourceRecord.{SourceRecord}
use Rattle.core_state.specs.Events.{Event, Happens, records_of}
use Rattle.core_state.specs.Good.{Good, IsOpening}
use Rattle.core_state.specs.Meaning.{Grows, Meaning, Means, Opens}
use Rattle.core_state.specs.State.{IsTask, State, Topology, done_of}

module _ {E H : Type 0} where
  -- the meaning of a topology for each order that fits
  pub record IsMeaning (top : Topology E H) (Fits : List SourceRecord → Type 0) (mean : List SourceRecord → Meaning E) : Type 0 where
    pub of_order : (order : List SourceRecord) → (mean order).order ≡ order
    pub means : (order : List SourceRecord) → Fits order → Means top (mean order)
    pub grows : (fed : ℕ) (order records : List SourceRecord) → Fits (order ++ records) →
        All (λ r. r.stamp.feed ≤ fed) order → All (λ r. r.stamp.feed ≡ fed + 1) records → Grows top fed records (mean order) (mean (order ++ records))
    pub opens : Opens top (mean [])
    pub earlier : (order records : List SourceRecord) → Fits (order ++ records) → Fits order

  -- the events happen one after another
  abbrev pub AllHappen : Topology E H → List Event → State H → State H → Type 0
  AllHappen top [] s last = s ≡ last
  AllHappen top (e ∷ es) s last = (next : State H) × Happens top e s next × AllHappen top es next last

  -- each event keeps a good state
  abbrev pub EventsKeepGood : Topology E H → (List SourceRecord → Type 0) → (List SourceRecord → Meaning E) → Type 0
  EventsKeepGood top Fits mean = (order : List SourceRecord) (e : Event) (s next : State H) → Fits (order ++ records_of e) →
      Good top (mean order) s → Happens top e s next → Good top (mean (order ++ records_of e)) next

  -- every state reachable from the opening state is good
  abbrev pub RunsAreGood : Topology E H → (List SourceRecord → Type 0) → (List SourceRecord → Meaning E) → Type 0
  RunsAreGood top Fits mean = (es : List Event) (s last : State H) → Fits (flat_map records_of es) →
      IsOpening top s → AllHappen top es s last → Good top (mean (flat_map records_of es)) last

  -- good states with the same last feed and the same progress of each task show the same
  abbrev pub NumbersDecide : Topology E H → Meaning E → Type 0
  NumbersDecide top d = (s u : State H) → Good top d s → Good top d u → s.fed ≡ u.fed → ((t : TaskName) → IsTask top t → done_of s t ≡ done_of u t) →
      (topic q : ℕ) → s.shown topic q ≡ u.shown topic q
