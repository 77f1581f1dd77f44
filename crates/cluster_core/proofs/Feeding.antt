-- A feed keeps the state of a cluster good, and its numbers are those of the feed.
use Rattle.std.proofs.Common.{◌≡◌, ◌∙◌, ap, refl, sym, subst, ℕ, ◌+◌, ◌≤◌, List, [], ◌∷◌, ◌++◌, length, map, get_or, arith}
use Rattle.std.specs.Prelude.{All, Contains, flat_map}
use Rattle.std.specs.List.{AllByRecursion, AllZip}
use Rattle.std.proofs.lemmas.List.Elements.{All-append, All-from_recursion, recursion_from_All}
use Rattle.ksql_place.specs.declared.change.SourceRecord.{SourceRecord}
use Rattle.ksql_program.specs.Sound.{IsSound}
use Rattle.ksql_program.specs.declared.program.Item.{Item}
use Rattle.meaning_laws.proofs.Lists.{All-weaker}
use Rattle.topology.specs.Tasks.{chain_of, tasks_of}
use Rattle.topology.specs.Topologies.{topology_of}
use Rattle.topology.specs.declared.topology.Topology.{Topology}
use Rattle.core_state.proofs.Lifting.{fed}
use Rattle.core_state.specs.Events.{Happens, feed as fed_event}
use Rattle.core_state.specs.Routes.{routes_of}
use Rattle.core_state.specs.Shelf.{Shelf, ShelfFeeds}
use Rattle.core_state.specs.declared.journal.JournalEntry.TheVariants as entry
use Rattle.core_laws.proofs.Fitting.{keeps-good}
use Rattle.wiring_laws.proofs.Wirings.{wired-well}
use Rattle.topic_log.specs.Shelves.{routes_in, shelf_of, topics_of}
use Rattle.task_core.specs.Core.{core_of}
use Rattle.task_core.specs.declared.task.Moved.{Moved}
use Rattle.feed_laws.specs.Feeds.{Source, after_feed, fed_of, records_of}
use Rattle.feed_laws.specs.Fitting.{AreSourcesOf, Fits, IsSourceOf}
use Rattle.cluster_core.specs.Cluster.{HasCome, HasComeWith, HasHappened, IsKept, IsProgress}
use Rattle.cluster_laws.specs.Tasks.{idle}
use Rattle.cluster_laws.specs.Moves.{owned_of}
use Rattle.cluster_laws.specs.Progress.{Progress, feed}
use Rattle.cluster_laws.specs.Feeding.{CanFeed}
use Rattle.cluster_core.specs.declared.cluster.Cluster.{Cluster}
use Rattle.cluster_laws.specs.declared.seats.Seat.{Seat}
use Rattle.cluster_core.specs.declared.sources.Source.{Source as Kept}
use Rattle.cluster_core.proofs.Coming.{come-of, done-come, idle-tasks, newest-come, running-of, topics-come}
use Rattle.cluster_laws.proofs.Running.{on_shelf, parts_of}
use Rattle.cluster_core.proofs.Tasks.{AreRunning, IsNewest}

-- ---- sources

can-feed : (items : List Item) (last : ℕ) (s : Source) → IsSourceOf items last s → CanFeed (last + 1) s
can-feed items last s is = record {
  some = is.some;
  few = is.few;
  none = λ k d below same. let early : (get_or s.before k d).stamp.feed ≤ last = is.before k d below in absurd (omega (arith, same, early));
}

-- sources can take the next feed
pub all-can-feed : (items : List Item) (last : ℕ) (ss : List Source) → AreSourcesOf items last ss → All (CanFeed (last + 1)) ss
all-can-feed items last ss are =
    All-from_recursion (CanFeed (last + 1)) ss
    (All-weaker (IsSourceOf items last) (CanFeed (last + 1)) (can-feed items last) ss (recursion_from_All (IsSourceOf items last) ss are.each))

-- what a feed brings, and what it leaves
module _ (items : List Item) (p : Progress) (count : Source → ℕ) (come : IsProgress items p) (ks : List Kept) (kept : AllZip IsKept ks p.sources) (n : ℕ) (number : n ≡ p.fed) where
  ready : All (CanFeed (n + 1)) p.sources
  ready = subst (λ m. All (CanFeed (m + 1)) p.sources) (sym number) (all-can-feed items p.fed p.sources come.sources)

  pub records-are : (records : List SourceRecord) → ((ss : List Source) → AllZip IsKept ks ss → All (CanFeed (n + 1)) ss → records ≡ flat_map (fed_of (n + 1) count) ss) →
      records ≡ flat_map (fed_of (p.fed + 1) count) p.sources
  records-are records each = each p.sources kept ready ∙ ap (λ m. flat_map (fed_of (m + 1) count) p.sources) number

  pub sources-are : (after : List Kept) → ((ss : List Source) → AllZip IsKept ks ss → All (CanFeed (n + 1)) ss → AllZip IsKept after (map (after_feed (n + 1) count) ss)) →
      AllZip IsKept after (map (after_feed (p.fed + 1) count) p.sources)
  sources-are after each = subst (λ m. AllZip IsKept after (map (after_feed (m + 1) count) p.sources)) number (each p.sources kept ready)

-- ---- progress

module _ (items : List Item) (p : Progress) (count : Source → ℕ) (come : IsProgress items p)
    (of_feed : All (λ r. r.stamp.feed ≡ p.fed + 1) (records_of (p.fed + 1) count p.sources))
    (fits : Fits items (p.order ++ records_of (p.fed + 1) count p.sources))
    (goes_on : AreSourcesOf items (p.fed + 1) (map (after_feed (p.fed + 1) count) p.sources)) where
  abbrev records : List SourceRecord
  records = records_of (p.fed + 1) count p.sources

  pub feed-progress : IsProgress items (feed count p)
  feed-progress = record {
    sources = goes_on;
    order = fits;
    live = come.live;
    owned = come.owned;
    none_later =
        All-append (λ (r : SourceRecord). r.stamp.feed ≤ p.fed + 1) p.order records
        (λ k d below. let early : (get_or p.order k d).stamp.feed ≤ p.fed = come.none_later k d below in omega (arith, early))
        (λ k d below. let now : (get_or records k d).stamp.feed ≡ p.fed + 1 = of_feed k d below in omega (arith, now));
  }

  -- ---- the state

  module _ (sound : IsSound items) where
    abbrev t : Topology
    t = topology_of items

    -- the feed is an event of the core
    feed-happens : (b next : Shelf) (ms : List Moved) → b.fed ≡ p.fed → ShelfFeeds (routes_of t.topics) records b next → Happens (core_of t) (fed_event records) (on_shelf b ms) (on_shelf next ms)
    feed-happens b next ms last feeds =
        fed (core_of t) (wired-well items sound).writes records (parts_of b ms) (parts_of next ms)
        (subst (λ n. All (λ r. r.stamp.feed ≡ n + 1) records) (sym last) of_feed) feeds (λ u among. refl) (λ u among. refl)

    -- running tasks keep running
    feed-run : (b next : Shelf) (ms : List Moved) → b.fed ≡ p.fed → ShelfFeeds (routes_of t.topics) records b next →
        AreRunning items p.order b ms → AreRunning items (p.order ++ records) next ms
    feed-run b next ms last feeds run = record {
      apart = run.apart;
      among = run.among;
      tasks = run.tasks;
      named = run.named;
      newest = newest-next ms run.among run.newest;
      good = keeps-good items sound p.order (fed_event records) (on_shelf b ms) (on_shelf next ms) fits.counted run.good (feed-happens b next ms last feeds);
    }
      where
        -- the generations stay the newest ones
        newest-next : (xs : List Moved) → AllByRecursion (λ (m : Moved). Contains (tasks_of t.subs) m.task.name) xs → AllByRecursion (IsNewest b) xs → AllByRecursion (IsNewest next) xs
        newest-next [] among newest = tt
        newest-next (m ∷ xs) among newest =
            (newest.0 ∙ sym (feeds.newest m.task.name ((wired-well items sound).writes m.task.name among.0)), newest-next xs among.1 newest.1)

    -- ---- the cluster

    -- what a feed does to a cluster
    pub record IsFed (c next : Cluster) : Type 0 where
      pub topology : next.topology ≡ c.topology
      pub chain : next.chain ≡ c.chain
      pub live : next.live.items ≡ c.live.items
      pub seats : next.seats.items ≡ c.seats.items
      pub rounds : next.rounds ≡ c.rounds
      pub topics : topics_of next.broker ≡ topics_of c.broker
      pub feeds : ShelfFeeds (routes_in c.broker) records (shelf_of c.broker) (shelf_of next.broker)
      pub journal : next.journal.items ≡ c.journal.items ++ entry.Fed (p.fed + 1) (length records) ∷ []
      pub sources : AllZip IsKept next.sources.items (map (after_feed (p.fed + 1) count) p.sources)

    feeds-so : (c next : Cluster) → HasCome items p c → IsFed c next → ShelfFeeds (routes_of t.topics) records (shelf_of c.broker) (shelf_of next.broker)
    feeds-so c next was is =
        subst (λ ts. ShelfFeeds (routes_of ts) records (shelf_of c.broker) (shelf_of next.broker)) (topics-come items p (map (λ (s : Seat). idle s.task) c.seats.items) c was) is.feeds

    -- what happened: the feed
    feed-happened : (c next : Cluster) → HasCome items p c → IsFed c next → HasHappened items records c next
    feed-happened c next was is = record {
      notes = entry.Fed (p.fed + 1) (length records) ∷ [];
      journal = is.journal;
      in_round = refl;
      happen = (
        on_shelf (shelf_of next.broker) (map (λ (s : Seat). idle s.task) c.seats.items),
        feed-happens (shelf_of c.broker) (shelf_of next.broker) (map (λ (s : Seat). idle s.task) c.seats.items) was.fed (feeds-so c next was is),
        ap (λ (ss : List Seat). on_shelf (shelf_of next.broker) (map (λ (s : Seat). idle s.task) ss)) (sym is.seats),
      );
    }

    feed-come : (c next : Cluster) → HasCome items p c → IsFed c next → HasCome items (feed count p) next
    feed-come c next was is =
        subst (λ (ss : List Seat). HasComeWith items (feed count p) (map (λ (s : Seat). idle s.task) ss) next) (sym is.seats)
        (come-of items (feed count p) waiting next (record {
          texts = was.texts;
          progress = feed-progress;
          topology = is.topology ∙ was.topology;
          chain = is.chain ∙ was.chain ∙ ap (λ (x : Topology). chain_of x.subs) (sym is.topology);
          topics = is.topics ∙ was.topics ∙ ap (λ (x : Topology). x.topics) (sym is.topology);
          live = is.live ∙ was.live;
          owners = ap (map owned_of) is.seats ∙ was.owners;
          running = idle-tasks c.seats.items ∙ sym (ap (map (λ (s : Seat). s.task)) is.seats);
          run = feed-run (shelf_of c.broker) (shelf_of next.broker) waiting was.fed feeds (running-of items p waiting c was);
          fed = is.feeds.fed ∙ ap (λ n. n + 1) was.fed;
          newest = λ u among. feeds.newest u ((wired-well items sound).writes u among) ∙ newest-come items p waiting c was u among;
          done = λ u among. feeds.done u ((wired-well items sound).writes u among) ∙ done-come items p waiting c was u among;
          rounds = is.rounds ∙ was.rounds;
          journal = is.journal ∙ ap (λ es. es ++ entry.Fed (p.fed + 1) (length records) ∷ []) was.journal;
          sources = is.sources;
        }))
      where
        waiting : List Moved
        waiting = map (λ (s : Seat). idle s.task) c.seats.items

        feeds : ShelfFeeds (routes_of t.topics) records (shelf_of c.broker) (shelf_of next.broker)
        feeds = feeds-so c next was is

    -- both
    pub fed-so : (c next : Cluster) → HasCome items p c → IsFed c next → HasCome items (feed count p) next × HasHappened items records c next
    fed-so c next was is = (feed-come c next was is, feed-happened c next was is)
