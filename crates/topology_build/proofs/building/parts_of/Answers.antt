use Rattle.std.proofs.Common.{◌≡◌, ◌∙◌, ap, sym, subst, ℕ, ◌+◌, ◌<◌, ◌≤◌, List, ◌∷◌, ◌++◌, length, drop, get_or, arith}
use Rattle.std.proofs.lemmas.List.{append-nil, drop_all, drop_more}
use Rattle.ksql_types.specs.declared.topic.TopicSpec.{TopicSpec}
use Rattle.ksql_program.specs.Program.{relation_of}
use Rattle.ksql_program.specs.declared.program.Item.{Item}
use Rattle.topology.specs.declared.stage.Stage.{Stage}
use Rattle.topology.specs.declared.topology.Sub.{Sub}
use Rattle.topology.specs.Topologies.{cut_topics, cuts_of, stages_at, subs_of}
use Rattle.topology_build.proofs.Counts.{count-subs, count-topics, item_cuts-few, item_stages-few}
use Rattle.topology_build.proofs.Numbers.{item_subs-next, item_topics-next}
use Rattle.topology_build.proofs.Sounds.{short-at}
use Rattle.topology_build.proofs.building.parts_of.Goals as goal

pub push_item-requires-clause-named : goal.push_item-requires-clause-named
push_item-requires-clause-named c =
    let items : List Item = c.args.program.now.items in
    let i : ℕ = c.loop-number.number in
    let item : Item = c.index-items-number.result in
    let inside : i < length items = omega (arith, c.loop-number-test.true, ap length c.items-items.ensures) in
    let at : item ≡ get_or items i item = c.index-items-number.is ∙ ap (λ (xs : List Item). get_or xs i item) c.items-items.ensures in
    subst (λ (x : Item). length (relation_of x).name ≤ 128) (sym at) (short-at items c.requires i item inside).short_name

pub loop-number-preserved : goal.loop-number-preserved
loop-number-preserved c =
    let items : List Item = c.args.program.now.items in
    let i : ℕ = c.loop-number.number in
    let item : Item = c.index-items-number.result in
    let subs : List Sub = c.loop-number.parts.subs.items in
    let cuts : List TopicSpec = c.loop-number.parts.cuts.items in
    let more_subs : List Sub = c.push_item.new.self.subs.items in
    let more_cuts : List TopicSpec = c.push_item.new.self.cuts.items in
    let stages : List Stage = stages_at items item in
    let rest : List Item = drop (i + 1) items in
    let inside : i < length items = omega (arith, c.loop-number-test.true, ap length c.items-items.ensures) in
    let at : item ≡ get_or items i item = c.index-items-number.is ∙ ap (λ (xs : List Item). get_or xs i item) c.items-items.ensures in
    let next : item ∷ rest ≡ drop i items = ap (λ (x : Item). x ∷ rest) at ∙ sym (drop_more items i item inside) in
    let counted_subs : length more_subs ≡ length subs + length stages = count-subs subs more_subs items i (length items + length cuts) (cuts_of stages) (length subs) stages c.in_ok-push_item.ensures.subs in
    let counted_cuts : length more_cuts ≡ length cuts + length (cuts_of stages) = count-topics cuts more_cuts (length items + length cuts) (length subs) (relation_of item).name stages c.in_ok-push_item.ensures.cuts in
    record {
      subs = item_subs-next items i (length items) (length cuts) subs more_subs (length more_cuts) item rest c.in_ok-push_item.ensures.subs counted_cuts
          ∙ ap (λ (left : List Item). subs ++ subs_of items i (length items + length cuts) (length subs) left) next
          ∙ c.loop-number.invariant.subs;
      cuts = item_topics-next items (length items) (length subs) cuts more_cuts (length more_subs) item rest c.in_ok-push_item.ensures.cuts counted_subs
          ∙ ap (λ (left : List Item). cuts ++ cut_topics items (length items + length cuts) (length subs) left) next
          ∙ c.loop-number.invariant.cuts;
      few_subs = omega (arith, counted_subs, item_stages-few items item, c.loop-number.invariant.few_subs);
      few_cuts = omega (arith, counted_cuts, item_cuts-few items item, c.loop-number.invariant.few_cuts);
    }

pub returns-clause-subs : goal.returns-clause-subs
unfolding subs_of
returns-clause-subs c =
    let items : List Item = c.args.program.now.items in
    let i : ℕ = c.loop-number.number in
    let subs : List Sub = c.loop-number.parts.subs.items in
    let cuts : List TopicSpec = c.loop-number.parts.cuts.items in
    let ended : length items ≤ i = omega (arith, c.loop-number-test.false, ap length c.items-items.ensures) in
    sym (append-nil subs)
    ∙ ap (λ (left : List Item). subs ++ subs_of items i (length items + length cuts) (length subs) left) (sym (drop_all i items ended))
    ∙ c.loop-number.invariant.subs

pub returns-clause-cuts : goal.returns-clause-cuts
unfolding cut_topics
returns-clause-cuts c =
    let items : List Item = c.args.program.now.items in
    let i : ℕ = c.loop-number.number in
    let subs : List Sub = c.loop-number.parts.subs.items in
    let cuts : List TopicSpec = c.loop-number.parts.cuts.items in
    let ended : length items ≤ i = omega (arith, c.loop-number-test.false, ap length c.items-items.ensures) in
    sym (append-nil cuts)
    ∙ ap (λ (left : List Item). cuts ++ cut_topics items (length items + length cuts) (length subs) left) (sym (drop_all i items ended))
    ∙ c.loop-number.invariant.cuts
