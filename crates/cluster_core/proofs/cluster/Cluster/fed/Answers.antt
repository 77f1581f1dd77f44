-- A feed: its records are in the broker's source partitions, and the state stays good.
use Rattle.std.proofs.Common.{◌≡◌, ◌∙◌, ap, ap₂, refl, sym, subst, ℕ, ◌+◌, ◌≤◌, List, [], ◌∷◌, ◌++◌, length, rules}
use Rattle.std.specs.Prelude.{All, flat_map}
use Rattle.std.specs.List.{AllByRecursion}
use Rattle.std.proofs.lemmas.List.Elements.{recursion_from_All}
use Rattle.ksql_place.specs.Ascending.{ascending}
use Rattle.ksql_place.specs.Order.{record_cmp}
use Rattle.ksql_place.specs.declared.change.SourceRecord.{SourceRecord}
use Rattle.ksql_program.specs.Sound.{IsSound}
use Rattle.ksql_program.specs.declared.program.Item.{Item}
use Rattle.meaning_laws.proofs.Lists.{All-weaker}
use Rattle.topology.specs.Topologies.{topology_of}
use Rattle.topology.specs.declared.topology.Topology.{Topology}
use Rattle.core_state.specs.Shelf.{ShelfFeeds}
use Rattle.core_state.specs.declared.journal.JournalEntry.TheVariants as entry
use Rattle.topic_log.specs.Feeding.{RiseApart}
use Rattle.topic_log.specs.Shelves.{IsSourcePart, routes_in, shelf_of, topics_of}
use Rattle.topic_log.specs.declared.shelves.Shelves.{Shelves}
use Rattle.feed_laws.specs.Feeds.{Source, fed_of, records_of}
use Rattle.feed_laws.specs.Fitting.{IsSourceOf}
use Rattle.cluster_core.specs.Cluster.{HasCome, HasHappened}
use Rattle.cluster_laws.specs.Progress.{Progress, feed, taken}
use Rattle.cluster_core.specs.declared.cluster.Cluster.{Cluster}
use Rattle.cluster_core.specs.declared.sources.Source.{Source as Kept}
use Rattle.cluster_laws.proofs.Apart.{fed-apart, fed-feeds, fed-many}
use Rattle.cluster_core.proofs.Feeding.{all-can-feed, fed-so, records-are, sources-are}
use Rattle.cluster_laws.proofs.SourceParts.{all-there, fed-there}
use Rattle.cluster_laws.proofs.Parts.{all-parts}
use Rattle.cluster_core.proofs.cluster.Cluster.fed.Goals as goal

-- the broker's topics are those of the program's topology
same-topics : (items : List Item) (p : Progress) (c : Cluster) → HasCome items p c → topics_of c.broker ≡ (topology_of items).topics
same-topics items p c come = come.topics ∙ ap (λ (t : Topology). t.topics) come.topology

each-source : (items : List Item) (p : Progress) (c : Cluster) → HasCome items p c → AllByRecursion (IsSourceOf items p.fed) p.sources
each-source items p c come = recursion_from_All (IsSourceOf items p.fed) p.sources come.progress.sources.each

pub feed-requires-clause-rises_apart : goal.feed-requires-clause-rises_apart
feed-requires-clause-rises_apart c =
    let items : List Item = c.requires.come.0 in
    let p : Progress = c.requires.come.1 in
    let come : HasCome items p c.args.self = c.requires.come.3 in
    let count : Source → ℕ = taken c.args.step.now in
    let records : c.in_ok-sources.records.items ≡ flat_map (fed_of (p.fed + 1) count) p.sources =
    records-are items p count come.progress c.args.self.sources.items come.sources c.fed-feed.result (c.fed-feed.ensures ∙ come.fed) c.in_ok-sources.records.items c.in_ok-sources.ensures.records in
    subst RiseApart (sym records)
    (fed-apart (p.fed + 1) count p.sources come.progress.sources.apart (all-can-feed items p.fed p.sources come.progress.sources) (c.feeds_fit.ensures.rises items p.fed count p.sources come.progress.sources).0)

pub feed-requires-clause-next_feed : goal.feed-requires-clause-next_feed
feed-requires-clause-next_feed c =
    let items : List Item = c.requires.come.0 in
    let p : Progress = c.requires.come.1 in
    let come : HasCome items p c.args.self = c.requires.come.3 in
    let count : Source → ℕ = taken c.args.step.now in
    let records : c.in_ok-sources.records.items ≡ flat_map (fed_of (p.fed + 1) count) p.sources =
    records-are items p count come.progress c.args.self.sources.items come.sources c.fed-feed.result (c.fed-feed.ensures ∙ come.fed) c.in_ok-sources.records.items c.in_ok-sources.ensures.records in
    subst (λ (rs : List SourceRecord). All (λ r. r.stamp.feed ≡ c.args.self.broker.fed + 1) rs) (sym records)
    (subst (λ (n : ℕ). All (λ (r : SourceRecord). r.stamp.feed ≡ n + 1) (flat_map (fed_of (p.fed + 1) count) p.sources)) (sym come.fed)
    (fed-feeds (p.fed + 1) count p.sources))

pub feed-requires-clause-sources : goal.feed-requires-clause-sources
feed-requires-clause-sources c =
    let items : List Item = c.requires.come.0 in
    let p : Progress = c.requires.come.1 in
    let come : HasCome items p c.args.self = c.requires.come.3 in
    let count : Source → ℕ = taken c.args.step.now in
    let b : Shelves = c.args.self.broker in
    let kept : List Kept = c.args.self.sources.items in
    let records : c.in_ok-sources.records.items ≡ flat_map (fed_of (p.fed + 1) count) p.sources =
    records-are items p count come.progress kept come.sources c.fed-feed.result (c.fed-feed.ensures ∙ come.fed) c.in_ok-sources.records.items c.in_ok-sources.ensures.records in
    let each : AllByRecursion (IsSourceOf items p.fed) p.sources = each-source items p c.args.self come in
    subst (λ (rs : List SourceRecord). All (λ r. IsSourcePart b r.stamp.topic r.stamp.part) rs) (sym records)
    (fed-there b (p.fed + 1) count p.sources
    (All-weaker (IsSourceOf items p.fed) (λ (s : Source). 1 ≤ s.relation.partitions) (λ s is. is.some) p.sources each)
    (all-there items c.requires.come.2 b (same-topics items p c.args.self come) (all-parts c.args.self.broker c.has_parts.ensures) p.fed p.sources each))

pub returns : goal.returns
returns c =
    let count : Source → ℕ = taken c.args.step.now in
    let old : Cluster = c.args.self in
    let next : Cluster = record {
      topology = old.topology;
      chain = old.chain;
      broker = c.feed.new.self;
      live = old.live;
      seats = old.seats;
      sources = c.in_ok-sources.sources;
      rounds = old.rounds;
      journal = c.push.new.self;
    } in
    let so : (items : List Item) (p : Progress) → IsSound items → HasCome items p old →
    HasCome items (feed count p) next × HasHappened items (records_of (p.fed + 1) count p.sources) old next = λ items p sound come.
    let number : c.fed-feed.result ≡ p.fed = c.fed-feed.ensures ∙ come.fed in
    let records : c.in_ok-sources.records.items ≡ flat_map (fed_of (p.fed + 1) count) p.sources =
    records-are items p count come.progress old.sources.items come.sources c.fed-feed.result number c.in_ok-sources.records.items c.in_ok-sources.ensures.records in
    let long : c.len.result ≡ length c.in_ok-sources.records.items = search rules in
    fed-so items p count come.progress (c.feeds_fit.ensures.rises items p.fed count p.sources come.progress.sources).1
    (c.feeds_fit.ensures.fits items p.fed count p.sources p.order come.progress.sources come.progress.order come.progress.none_later)
    (c.feeds_fit.ensures.goes_on items p.fed count p.sources come.progress.sources) sound old next come
    (record {
      topology = refl;
      chain = refl;
      live = refl;
      seats = refl;
      rounds = refl;
      topics = c.in_ok-feed.ensures.topics;
      feeds = subst (λ (rs : List SourceRecord). ShelfFeeds (routes_in old.broker) rs (shelf_of old.broker) (shelf_of c.feed.new.self)) (ap (ascending record_cmp) records) c.in_ok-feed.ensures.feeds;
      journal =
          c.in_ok-push.ensures.items
          ∙ ap₂ (λ (n m : ℕ). old.journal.items ++ entry.Fed (n + 1) m ∷ []) number (long ∙ ap length records ∙ fed-many (p.fed + 1) count p.sources);
      sources = sources-are items p count come.progress old.sources.items come.sources c.fed-feed.result number c.in_ok-sources.sources.items c.in_ok-sources.ensures.sources;
    }) in
    record {
      come = λ items p sound come. (so items p sound come).0;
      events = λ items p sound come. (so items p sound come).1;
    }
