use Rattle.std.proofs.Common.{◌≡◌, ◌∙◌, ◌+◌, ◌++◌, ◌<◌, ◌≤◌, ap, ap₂, sym, subst, ℕ, List, length, max, take, get_or}
use Rattle.std.proofs.lemmas.List.{at_drop_all, append-nil}
use Rattle.ksql_place.specs.declared.stamp.Stamp.{Stamp}
use Rattle.ksql_place.specs.Order.{greatest, stamped}
use Rattle.ksql_place.proofs.Stamps.{greatest-take_more, stamped-step}
use Rattle.ksql_place.proofs.order.push_stamps.Goals as goal

pub loop-index-preserved : goal.loop-index-preserved
loop-index-preserved c =
    let part = c.args.part.now in
    let i = c.loop-index.index in
    let below : i < length part.times = subst (λ (ts : List ℕ). i < length ts) c.items-time-items.ensures c.loop-index-test.true in
    let high : c.max-high.result ≡ greatest (take (i + 1) part.times) =
    c.max-high.ensures
    ∙ ap₂ (λ (h : ℕ) (ts : List ℕ). max h (get_or ts i 0)) c.loop-index.invariant.greatest c.items-time-items.ensures
    ∙ sym (greatest-take_more part.times i below)
    in
    record {
      told =
          stamped-step c.args.feed part.topic part.part part.first part.times i c.max-high.result c.loop-index.stamps.items c.push.new.self.items below high c.in_ok-push.ensures.items
          ∙ c.loop-index.invariant.told;
      greatest = high;
    }

pub returns : goal.returns
unfolding stamped
returns c =
    let part = c.args.part.now in
    let i = c.loop-index.index in
    let behind : List ℕ → List Stamp = stamped c.args.feed part.topic part.part part.first (take i part.times) in
    let all = subst (λ (ts : List ℕ). length ts ≤ i) c.items-time-items.ensures c.loop-index-test.false in
    sym (append-nil c.loop-index.stamps.items)
    ∙ ap (λ (ss : List Stamp). c.loop-index.stamps.items ++ ss) (sym (at_drop_all behind part.times i all))
    ∙ c.loop-index.invariant.told
