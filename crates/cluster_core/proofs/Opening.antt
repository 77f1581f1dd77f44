-- The cluster before any worker is there: its state is good.
use Rattle.std.proofs.Common.{◌≡◌, ◌∙◌, ap, refl, sym, subst, ◌<◌, List, [], ◌∷◌, map, arith, inl}
use Rattle.std.specs.List.{AllZip}
use Rattle.std.proofs.lemmas.List.Elements.{All-nil}
use Rattle.std.proofs.lemmas.Option.{none-some}
use Rattle.ksql_place.specs.declared.change.SourceRecord.{SourceRecord}
use Rattle.ksql_program.specs.Sound.{IsSound}
use Rattle.ksql_program.specs.declared.program.Item.{Item}
use Rattle.meaning_laws.specs.Bounds.{IsInTime, IsRecordOf}
use Rattle.short_laws.specs.Short.{HoldTexts, IsShortRecord, IsTextRecord}
use Rattle.topic_files.specs.declared.topic.TopicLines.{TopicLines}
use Rattle.topology.specs.Tasks.{chain_of}
use Rattle.topology.specs.Topologies.{topology_of}
use Rattle.topology.specs.declared.topology.Topology.{Topology}
use Rattle.short_laws.specs.Fed.{IsInItsPartition}
use Rattle.core_state.proofs.Events.{opening-good}
use Rattle.core_state.proofs.Lifting.{opened}
use Rattle.core_state.specs.Routes.{routes_of}
use Rattle.core_state.specs.Shelf.{Shelf, ShelfOpens}
use Rattle.core_state.specs.declared.journal.JournalEntry.TheVariants as entry
use Rattle.core_laws.proofs.Fitting.{core-meaning}
use Rattle.wiring_laws.proofs.Wirings.{wired-well}
use Rattle.core_laws.specs.Core.{meaning_in_core}
use Rattle.topic_log.specs.Shelves.{routes_in, shelf_of, topics_of}
use Rattle.task_core.specs.Core.{core_of}
use Rattle.task_core.specs.declared.task.Moved.{Moved}
use Rattle.feed_laws.specs.Feeds.{sources_of}
use Rattle.feed_laws.specs.Fitting.{AreSourcesOf, Fits, IsOfDeclared}
use Rattle.cluster_core.specs.Cluster.{HasCome, HasComeWith, IsKept, IsProgress}
use Rattle.cluster_laws.specs.Tasks.{idle}
use Rattle.cluster_laws.specs.Moves.{owned_of}
use Rattle.cluster_laws.specs.Progress.{before_workers}
use Rattle.cluster_core.specs.declared.cluster.Cluster.{Cluster}
use Rattle.cluster_laws.specs.declared.seats.Seat.{Seat}
use Rattle.cluster_core.proofs.Coming.{come-of}
use Rattle.cluster_laws.proofs.Running.{on_shelf, parts_of}
use Rattle.cluster_core.proofs.Tasks.{AreRunning}

-- ---- progress

nothing-fits : (items : List Item) → Fits items []
nothing-fits items = record {
  fed = record { rises = λ i j d low below. absurd (omega (arith, below)); columns = All-nil (IsRecordOf items); placed = All-nil (IsInItsPartition items) };
  declared = All-nil (IsOfDeclared items);
  in_time = All-nil IsInTime;
  short = All-nil IsShortRecord;
  text = All-nil IsTextRecord;
  counted = All-nil (λ (r : SourceRecord). 0 < r.stamp.feed);
}

pub opening-progress : (items : List Item) (files : List TopicLines) → AreSourcesOf items 0 (sources_of items files) → IsProgress items (before_workers items files)
opening-progress items files sources = record {
  sources = sources;
  order = nothing-fits items;
  none_later = λ k d below. absurd (omega (arith, below));
  live = λ k low. absurd (omega (arith, low));
  owned = inl refl;
}

module _ (items : List Item) (sound : IsSound items) where
  abbrev t : Topology
  t = topology_of items

  -- no task runs
  none-run : (b : Shelf) → ShelfOpens (routes_of t.topics) b → AreRunning items [] b []
  none-run b opens =
      let law = core-meaning items sound in
      record {
        apart = tt;
        among = tt;
        tasks = tt;
        named = tt;
        newest = tt;
        good = opening-good (core_of t) (meaning_in_core items []) (law.means [] (All-nil (λ (r : SourceRecord). 0 < r.stamp.feed))) law.opens (on_shelf b [])
            (opened (core_of t) (wired-well items sound).writes (parts_of b []) opens (λ u among. refl) (λ u among i none. absurd (none-some i none)));
      }

  -- what a cluster has before any worker
  pub record IsOpened (files : List TopicLines) (c : Cluster) : Type 0 where
    pub topology : c.topology ≡ t
    pub chain : c.chain ≡ chain_of t.subs
    pub topics : topics_of c.broker ≡ t.topics
    pub opens : ShelfOpens (routes_in c.broker) (shelf_of c.broker)
    pub live : c.live.items ≡ []
    pub seats : c.seats.items ≡ []
    pub rounds : c.rounds ≡ 0
    pub journal : c.journal.items ≡ entry.Step 0 ∷ []
    pub sources : AllZip IsKept c.sources.items (sources_of items files)

  pub opening-come : HoldTexts items → (files : List TopicLines) → AreSourcesOf items 0 (sources_of items files) → (c : Cluster) → IsOpened files c → HasCome items (before_workers items files) c
  opening-come texts files fits c is =
      subst (λ (ms : List Moved). HasComeWith items (before_workers items files) ms c) (sym (ap (map (λ (s : Seat). idle s.task)) is.seats))
      (come-of items (before_workers items files) [] c (record {
        texts = texts;
        progress = opening-progress items files fits;
        topology = is.topology;
        chain = is.chain ∙ ap (λ (x : Topology). chain_of x.subs) (sym is.topology);
        topics = is.topics ∙ ap (λ (x : Topology). x.topics) (sym is.topology);
        live = is.live;
        owners = ap (map owned_of) is.seats;
        running = sym (ap (map (λ (s : Seat). s.task)) is.seats);
        run = none-run (shelf_of c.broker) (begun is.opens);
        fed = is.opens.fed;
        newest = λ u among. (begun is.opens).newest u ((wired-well items sound).writes u among);
        done = λ u among. (begun is.opens).done u ((wired-well items sound).writes u among);
        rounds = is.rounds;
        journal = is.journal;
        sources = is.sources;
      }))
    where
      begun : ShelfOpens (routes_in c.broker) (shelf_of c.broker) → ShelfOpens (routes_of t.topics) (shelf_of c.broker)
      begun = subst (λ ts. ShelfOpens (routes_of ts) (shelf_of c.broker)) is.topics
