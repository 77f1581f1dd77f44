-- The cluster before any worker.
use Rattle.std.proofs.Common.{◌∙◌, ap, refl, sym, subst, List}
use Rattle.std.specs.List.{AllZip}
use Rattle.ksql_program.specs.declared.program.Item.{Item}
use Rattle.topic_files.specs.declared.topic.TopicLines.{TopicLines}
use Rattle.topology.specs.Tasks.{chain_of}
use Rattle.topology.specs.declared.topology.Topology.{Topology}
use Rattle.core_state.specs.Shelf.{ShelfOpens}
use Rattle.topic_log.specs.Shelves.{AreTopics, routes_in, shelf_of, topics_of}
use Rattle.topic_log.specs.declared.shelves.Shelves.{Shelves}
use Rattle.feed_laws.specs.Feeds.{sources_of}
use Rattle.cluster_core.specs.Cluster.{IsKept}
use Rattle.cluster_core.specs.declared.cluster.Cluster.{Cluster}
use Rattle.cluster_core.proofs.Opening.{opening-come}
use Rattle.cluster_laws.proofs.Topics.{are-topics}
use Rattle.cluster_core.proofs.cluster.Cluster.empty.Goals as goal

pub new-requires : goal.new-requires
new-requires c =
    subst AreTopics (sym (c.items.ensures ∙ ap (λ (t : Topology). t.topics) c.requires.topology)) (are-topics c.args.program.now.items c.requires.sound)

pub returns : goal.returns
returns c =
    let items : List Item = c.args.program.now.items in
    let files : List TopicLines = c.args.files.items in
    let made : Cluster = record {
      topology = record { topics = c.args.topology.topics; subs = c.args.topology.subs };
      chain = c.in_ok-chain_of.field-0;
      broker = c.broker.inside.inner;
      live = c.new-2.result;
      seats = c.new-3.result;
      sources = c.in_ok-sources.sources;
      rounds = 0;
      journal = c.in_ok-vec.field-0;
    } in
    opening-come items c.requires.sound c.texts_are_utf8.ensures files (c.feeds_fit.ensures.begins items files c.requires.sound c.requires.files) made
    (record {
      topology = c.requires.topology;
      chain = c.in_ok-chain_of.ensures ∙ ap (λ (t : Topology). chain_of t.subs) c.requires.topology;
      topics = ap topics_of c.broker.view_is ∙ c.in_ok-broker.ensures.topics ∙ c.items.ensures ∙ ap (λ (t : Topology). t.topics) c.requires.topology;
      opens = subst (λ (b : Shelves). ShelfOpens (routes_in b) (shelf_of b)) (sym c.broker.view_is) c.in_ok-broker.ensures.opens;
      live = c.new-2.ensures.items;
      seats = c.new-3.ensures.items;
      rounds = refl;
      journal = c.in_ok-vec.ensures.items;
      sources = subst (λ (is : List Item). AllZip IsKept c.in_ok-sources.sources.items (sources_of is files)) c.items-2.ensures c.in_ok-sources.ensures;
    })
