-- What happened to a cluster in one part of a step, and in the next.
use Rattle.std.proofs.Common.{◌≡◌, ◌∙◌, ap, refl, sym, subst, ℕ, List, [], ◌∷◌, ◌++◌, map, append_assoc}
use Rattle.std.proofs.lemmas.List.{append-nil}
use Rattle.ksql_place.specs.declared.change.SourceRecord.{SourceRecord}
use Rattle.ksql_program.specs.declared.program.Item.{Item}
use Rattle.topology.specs.Topologies.{topology_of}
use Rattle.core_state.specs.Events.{Event}
use Rattle.core_state.specs.Law.{AllHappen}
use Rattle.core_state.specs.declared.journal.JournalEntry.{JournalEntry}
use Rattle.core_state.specs.declared.journal.JournalEntry.TheVariants as entry
use Rattle.topic_log.specs.declared.shelves.Shelves.{Shelves}
use Rattle.task_core.specs.Core.{core_of}
use Rattle.task_core.specs.declared.task.Moved.{Moved}
use Rattle.cluster_core.specs.Cluster.{HasHappened, HasHappenedWith}
use Rattle.cluster_laws.specs.Tasks.{core_state_of, idle}
use Rattle.cluster_laws.specs.Told.{told}
use Rattle.cluster_core.specs.declared.cluster.Cluster.{Cluster}
use Rattle.cluster_laws.specs.declared.seats.Seat.{Seat}
use Rattle.cluster_laws.proofs.Telling.{happen-append, none-committing, told-append}

module _ (items : List Item) (records : List SourceRecord) where
  -- nothing happened
  pub none-happened : (c : Cluster) → HasHappened items records c c
  none-happened c = record { notes = []; journal = sym (append-nil c.journal.items); in_round = refl; happen = refl }

  module _ (ms : List Moved) (c : Cluster) where
    -- one part of a step and then another
    pub happened-on : (mid next : Cluster) → HasHappenedWith items records ms c mid → HasHappened items records mid next → HasHappenedWith items records ms c next
    happened-on mid next first second = record {
      notes = first.notes ++ second.notes;
      journal = second.journal ∙ ap (λ (es : List JournalEntry). es ++ second.notes) first.journal ∙ append_assoc c.journal.items first.notes second.notes;
      in_round = none-committing first.notes second.notes first.in_round second.in_round;
      happen =
          subst (λ (es : List Event). AllHappen (core_of (topology_of items)) es (core_state_of c.broker ms) (core_state_of next.broker (map (λ (s : Seat). idle s.task) next.seats.items)))
          (sym (told-append records first.notes second.notes second.in_round))
          (happen-append (core_of (topology_of items)) (told records first.notes) (told records second.notes) (core_state_of c.broker ms)
          (core_state_of mid.broker (map (λ (s : Seat). idle s.task) mid.seats.items)) (core_state_of next.broker (map (λ (s : Seat). idle s.task) next.seats.items)) first.happen second.happen);
    }

    -- from a cluster that differs in what is no part of the core
    pub happened-same : (mid next : Cluster) → mid.broker ≡ c.broker → mid.journal.items ≡ c.journal.items → HasHappenedWith items records ms mid next → HasHappenedWith items records ms c next
    happened-same mid next broker journal has = record {
      notes = has.notes;
      journal = has.journal ∙ ap (λ (es : List JournalEntry). es ++ has.notes) journal;
      in_round = has.in_round;
      happen =
          subst (λ (b : Shelves). AllHappen (core_of (topology_of items)) (told records has.notes) (core_state_of b ms) (core_state_of next.broker (map (λ (s : Seat). idle s.task) next.seats.items)))
          broker has.happen;
    }

    -- from a cluster that has noted the line of the step
    pub happened-begun : (line : ℕ) (mid next : Cluster) → mid.broker ≡ c.broker → mid.journal.items ≡ c.journal.items ++ entry.Step line ∷ [] → HasHappenedWith items records ms mid next →
        HasHappenedWith items records ms c next
    happened-begun line mid next broker journal has = record {
      notes = entry.Step line ∷ has.notes;
      journal = has.journal ∙ ap (λ (es : List JournalEntry). es ++ has.notes) journal ∙ append_assoc c.journal.items (entry.Step line ∷ []) has.notes;
      in_round = refl;
      happen =
          subst (λ (b : Shelves). AllHappen (core_of (topology_of items)) (told records has.notes) (core_state_of b ms) (core_state_of next.broker (map (λ (s : Seat). idle s.task) next.seats.items)))
          broker has.happen;
    }
