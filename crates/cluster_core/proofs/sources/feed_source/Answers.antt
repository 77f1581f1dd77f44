-- A source after a feed.
use Rattle.std.proofs.Common.{◌≡◌, ◌∙◌, ap, refl, sym, subst, ℕ, List, ◌++◌, length, take, min}
use Rattle.ksql_types.specs.declared.relation.Relation.{Relation}
use Rattle.topic_files.specs.declared.topic.Fed.{Fed}
use Rattle.topic_feeds.specs.Feeding.{fed_from}
use Rattle.topic_feeds.specs.Reaching.{Reaches}
use Rattle.cluster_laws.specs.Progress.{taken}
use Rattle.cluster_core.specs.declared.sources.Source.{Source as Kept}
use Rattle.cluster_core.proofs.Sourcing.{drop-least, kept-after, take-least}
use Rattle.cluster_core.proofs.sources.feed_source.Goals as goal

pub returns-clause-records : goal.returns-clause-records
returns-clause-records c s kept ready =
    let old : Kept = c.args.source.now in
    let n : ℕ = taken c.args.step.now s in
    let feds : c.in_ok-feds.feds ≡ take n s.left = c.in_ok-feds.ensures.taken ∙ take-least n c.taken_of-count.result old.left.items s.left kept.left (c.taken_of-count.ensures.value s kept) in
    c.in_ok-feed.ensures.records s.before (subst (λ (r : Relation). Reaches r s.before old.reached) (sym kept.relation) kept.reached) ready.none
    ∙ ap (λ (r : Relation). c.args.records.now.items ++ fed_from c.args.feed r s.before c.in_ok-feds.feds) kept.relation
    ∙ ap (λ (fs : List Fed). c.args.records.now.items ++ fed_from c.args.feed s.relation s.before fs) feds

pub returns-clause-source : goal.returns-clause-source
returns-clause-source c s kept ready =
    let old : Kept = c.args.source.now in
    let n : ℕ = taken c.args.step.now s in
    let value : c.taken_of-count.result ≡ min n (length s.left) = c.taken_of-count.ensures.value s kept in
    let feds : c.in_ok-feds.feds ≡ take n s.left = c.in_ok-feds.ensures.taken ∙ take-least n c.taken_of-count.result old.left.items s.left kept.left value in
    let new : Kept = record { relation = old.relation; reached = c.feed.new.self; left = c.take_feds.new.left } in
    let reached : Reaches old.relation (s.before ++ fed_from c.args.feed old.relation s.before c.in_ok-feds.feds) c.feed.new.self =
    c.in_ok-feed.ensures.reached s.before (subst (λ (r : Relation). Reaches r s.before old.reached) (sym kept.relation) kept.reached) ready.none in
    kept-after c.args.feed (taken c.args.step.now) old new s kept refl
    (subst (λ (fs : List Fed). Reaches s.relation (s.before ++ fed_from c.args.feed s.relation s.before fs) c.feed.new.self) feds
    (subst (λ (r : Relation). Reaches r (s.before ++ fed_from c.args.feed r s.before c.in_ok-feds.feds) c.feed.new.self) kept.relation reached))
    (c.in_ok-feds.ensures.left ∙ drop-least n c.taken_of-count.result old.left.items s.left kept.left value)
