-- Each record goes after those of its topic.
use Rattle.std.proofs.Common.{◌≡◌, ◌∙◌, ◌++◌, ◌∷◌, ◌+◌, [], List, ℕ, ap, sym, refl, subst, length, max, get_or, drop, replicate, slice_set, arith}
use Rattle.std.specs.Vec.{with_item}
use Rattle.std.specs.Vec.Iter.{into_iter_items}
use Rattle.std.proofs.lemmas.List.{append-nil, drop_all, length-replicate, get_or-replicate}
use Rattle.ksql_types.specs.Lane.{lane}
use Rattle.ksql_place.specs.declared.change.SourceRecord.{SourceRecord}
use Rattle.topic_files.specs.declared.topic.Fed.{Fed}
use Rattle.topic_feeds.specs.declared.feeding.Reached.{Reached}
use Rattle.topic_feeds.specs.Reaching.{Reaches}
use Rattle.topic_feeds.proofs.Reaching.{IsFed, fed-none, fed-next, fed-fits, fed-all, few_in_part, made, since-next}
use Rattle.topic_feeds.proofs.feeding.Reached.feed.Goals as goal

pub loop-fed-init : goal.loop-fed-init
loop-fed-init c =
    let feed : ℕ = c.args.feed in
    let relation = c.args.relation.now in
    let feds : List Fed = c.args.feds in
    let items : List SourceRecord = c.args.records.now.items in
    let highs : List ℕ = c.in_ok-highs.highs.items in
    let same : c.reserve.new.self.items ≡ items = c.in_ok-reserve.ensures.items in
    let none_since : drop (length items) c.reserve.new.self.items ≡ [] =
    ap (λ (rs : List SourceRecord). drop (length items) rs) same ∙ drop_all (length items) items (omega arith) in
    let left : into_iter_items c.into_iter-fed-iterator.result ≡ feds = c.into_iter-fed-iterator.ensures.into_iter_gives.0 ∙ c.into_items-fed-items.ensures in
    let zeros : highs ≡ replicate relation.partitions 0 = c.in_ok-highs.ensures.items_if_clones_equal (λ y same. same) in
    record {
      kept = same ∙ sym (ap (λ (rs : List SourceRecord). items ++ rs) none_since ∙ append-nil items);
      is_fed = λ before reaches none.
          subst (λ (since : List SourceRecord). IsFed feed relation feds before since (into_iter_items c.into_iter-fed-iterator.result) c.args.self.now highs) (sym none_since)
          (subst (λ (rest : List Fed). IsFed feed relation feds before [] rest c.args.self.now highs) (sym left)
          (fed-none feed relation feds before c.args.self.now highs reaches none
          (ap length zeros ∙ length-replicate relation.partitions 0)
          (λ part d below. ap (λ (xs : List ℕ). get_or xs part d) zeros ∙ get_or-replicate relation.partitions part 0 d below)));
    }

pub overflow_add-self : goal.overflow_add-self
overflow_add-self c =
    let known = c.requires.reached in
    let is_fed = c.loop-fed.invariant.is_fed known.0 known.1 known.2 in
    omega (arith, known.3, fed-fits c.args.feed c.args.relation.now c.args.feds known.0 _ _ _ _ is_fed)

pub overflow_add-offset : goal.overflow_add-offset
overflow_add-offset c =
    let known = c.requires.reached in
    let is_fed = c.loop-fed.invariant.is_fed known.0 known.1 known.2 in
    let all : List SourceRecord = known.0 ++ drop (length c.args.records.now.items) c.loop-fed.records.items in
    omega (
      arith,
      known.3,
      fed-fits c.args.feed c.args.relation.now c.args.feds known.0 _ _ _ _ is_fed,
      is_fed.reaches.count,
      few_in_part c.part_of-part.result all,
      c.index-offset.ensures ∙ is_fed.reaches.each c.part_of-part.result c.index-offset.result.now c.part_of-part.ensures.within,
    )

pub loop-fed-preserved : goal.loop-fed-preserved
loop-fed-preserved c =
    let feed : ℕ = c.args.feed in
    let relation = c.args.relation.now in
    let feds : List Fed = c.args.feds in
    let old : List SourceRecord = c.args.records.now.items in
    let items : List SourceRecord = c.loop-fed.records.items in
    let fed : Fed = c.in-Some.fed in
    let rest : List Fed = into_iter_items c.next.new.self in
    let part : ℕ = c.part_of-part.result in
    let high : ℕ = c.max-high.result in
    let offset : ℕ = c.index-offset.result.now in
    let reached : Reached = c.loop-fed.self in
    let highs : List ℕ = c.loop-fed.highs.items in
    let since : List SourceRecord = drop (length old) items in
    let now : Reached = record { count = reached.count + 1; parts = with_item reached.parts part (offset + 1) } in
    let now_highs : List ℕ = slice_set highs part high in
    let next = since-next old items c.push.new.self.items (made feed relation part high offset fed) c.loop-fed.invariant.kept c.in_ok-push.ensures.items in
    record {
      kept = next.0;
      is_fed = λ before reaches none.
          let is_fed : IsFed feed relation feds before since (fed ∷ rest) reached highs =
          subst (λ (left : List Fed). IsFed feed relation feds before since left reached highs) c.in-Some.ensures.steps.0 (c.loop-fed.invariant.is_fed before reaches none) in
          let part-is = c.part_of-part.ensures.value ∙ ap (lane fed.key relation.partitions) is_fed.reaches.count in
          let offset-is = c.index-offset.ensures ∙ is_fed.reaches.each part offset c.part_of-part.ensures.within in
          let high-is = c.max-high.ensures ∙ ap (λ (h : ℕ). max h fed.time) (c.index.ensures ∙ is_fed.are_highs.each part c.index.result.now c.part_of-part.ensures.within) in
          subst (λ (rs : List SourceRecord). IsFed feed relation feds before rs rest now now_highs) (sym next.1)
          (fed-next feed relation feds before since fed rest reached highs part high offset is_fed part-is c.part_of-part.ensures.within offset-is high-is
          now now_highs refl refl refl);
    }

pub returns-clause-records : goal.returns-clause-records
returns-clause-records c before reaches none =
    let is_fed = c.loop-fed.invariant.is_fed before reaches none in
    let rest : List Fed = into_iter_items c.loop-fed.fed-iterator in
    let ended : length rest ≡ 0 = sym c.loop-fed.fed-iterator.rest.ok.0 ∙ c.in-None.ensures.steps.0 in
    c.loop-fed.invariant.kept
    ∙ ap (λ (rs : List SourceRecord). c.args.records.now.items ++ rs) (fed-all c.args.feed c.args.relation.now c.args.feds before _ rest c.loop-fed.self c.loop-fed.highs.items is_fed ended)

pub returns-clause-reached : goal.returns-clause-reached
returns-clause-reached c before reaches none =
    let is_fed = c.loop-fed.invariant.is_fed before reaches none in
    let rest : List Fed = into_iter_items c.loop-fed.fed-iterator in
    let ended : length rest ≡ 0 = sym c.loop-fed.fed-iterator.rest.ok.0 ∙ c.in-None.ensures.steps.0 in
    subst (λ (rs : List SourceRecord). Reaches c.args.relation.now (before ++ rs) c.loop-fed.self)
    (fed-all c.args.feed c.args.relation.now c.args.feds before _ rest c.loop-fed.self c.loop-fed.highs.items is_fed ended)
    is_fed.reaches
