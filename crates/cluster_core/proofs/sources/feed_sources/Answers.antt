-- One source is fed after another.
use Rattle.std.proofs.Common.{◌≡◌, ◌∙◌, sym, subst, ℕ, List, [], length}
use Rattle.std.specs.Vec.Iter.{into_iter_items}
use Rattle.std.proofs.lemmas.List.{nil_from_length}
use Rattle.ksql_place.specs.declared.change.SourceRecord.{SourceRecord}
use Rattle.feed_laws.specs.Feeds.{Source}
use Rattle.cluster_laws.specs.Progress.{taken}
use Rattle.cluster_core.specs.declared.sources.Source.{Source as Kept}
use Rattle.cluster_core.proofs.Sourcing.{AreFed, fed-all, fed-first, fed-next, fed-none}
use Rattle.cluster_core.proofs.sources.feed_sources.Goals as goal

pub loop-source-init : goal.loop-source-init
loop-source-init c = λ ss kept ready.
    let count : Source → ℕ = taken c.args.step.now in
    let left : into_iter_items c.into_iter-source-iterator.result ≡ c.args.sources.items = c.into_iter-source-iterator.ensures.into_iter_gives.0 in
    subst (λ (rs : List SourceRecord). AreFed c.args.feed count ss (into_iter_items c.into_iter-source-iterator.result) c.in_ok-after.after.items rs) (sym c.new-records.ensures.items)
    (subst (λ (ks : List Kept). AreFed c.args.feed count ss (into_iter_items c.into_iter-source-iterator.result) ks []) (sym c.in_ok-after.ensures.items)
    (subst (λ (ks : List Kept). AreFed c.args.feed count ss ks [] []) (sym left) (fed-none c.args.feed count ss c.args.sources.items kept ready)))

pub feed_source-requires : goal.feed_source-requires
feed_source-requires c =
    let known = c.requires.ready in
    let count : Source → ℕ = taken c.args.step.now in
    record {
      ready =
          fed-first c.args.feed count known.0 c.in-Some.source (into_iter_items c.next.new.self) c.loop-source.after.items c.loop-source.records.items
          (subst (λ (ks : List Kept). AreFed c.args.feed count known.0 ks c.loop-source.after.items c.loop-source.records.items) c.in-Some.ensures.steps.0
          (c.loop-source.invariant known.0 known.1 known.2));
    }

pub loop-source-preserved : goal.loop-source-preserved
loop-source-preserved c = λ ss kept ready.
    let count : Source → ℕ = taken c.args.step.now in
    let now : Kept = c.feed_source.new.source in
    subst (λ (ks : List Kept). AreFed c.args.feed count ss (into_iter_items c.next.new.self) ks c.feed_source.new.records.items) (sym c.in_ok-push.ensures.items)
    (fed-next c.args.feed count ss c.in-Some.source now (into_iter_items c.next.new.self) c.loop-source.after.items c.loop-source.records.items c.feed_source.new.records.items
    (λ s is can. (c.in_ok-feed_source.ensures.source s is can, c.in_ok-feed_source.ensures.records s is can))
    (subst (λ (ks : List Kept). AreFed c.args.feed count ss ks c.loop-source.after.items c.loop-source.records.items) c.in-Some.ensures.steps.0
    (c.loop-source.invariant ss kept ready)))

pub returns-clause-sources : goal.returns-clause-sources
returns-clause-sources c ss kept ready =
    let left : List Kept = into_iter_items c.loop-source.source-iterator in
    let ended : length left ≡ 0 = sym c.loop-source.source-iterator.rest.ok.0 ∙ c.in-None.ensures.steps.0 in
    (fed-all c.args.feed (taken c.args.step.now) ss left c.loop-source.after.items c.loop-source.records.items (nil_from_length left ended) (c.loop-source.invariant ss kept ready)).0

pub returns-clause-records : goal.returns-clause-records
returns-clause-records c ss kept ready =
    let left : List Kept = into_iter_items c.loop-source.source-iterator in
    let ended : length left ≡ 0 = sym c.loop-source.source-iterator.rest.ok.0 ∙ c.in-None.ensures.steps.0 in
    (fed-all c.args.feed (taken c.args.step.now) ss left c.loop-source.after.items c.loop-source.records.items (nil_from_length left ended) (c.loop-source.invariant ss kept ready)).1
