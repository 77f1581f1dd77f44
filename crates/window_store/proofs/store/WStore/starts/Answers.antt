use Rattle.std.proofs.Common.{◌≡◌, ◌<◌, ◌≤◌, ◌^◌, ◌++◌, ℕ, List, All, AllPairs, Contains, filter, is_some, take, length, refl, sym, ap, ap₂, subst, ◌∙◌, arith}
use Rattle.std.proofs.lemmas.List.{take_at, append-nil}
use Rattle.std.proofs.lemmas.List.Elements.{All-nil, All-push, All-contains, All-contains_itself, All-weaker}
use Rattle.std.specs.BTreeMap.{keys}
use Rattle.std.specs.FinMap as finite
use Rattle.record_codec.specs.Spelling.{eight}
use Rattle.window_store.specs.Windows.{under}
use Rattle.window_store.proofs.HeldStarts.{is_held, is_some-copied, picked-more, passed-more, starts_have, start_bounded, passes, ascending}
use Rattle.window_store.proofs.store.WStore.starts.Goals as goal
use Rattle.window_store.proofs.store.WStore.starts.Goals.{After-is_some, In-None}

-- the bytes that are looked up
at_is : (c : After-is_some) → c.extend_from_slice.new.self.items ≡ under c.args.key.now c.in-Some.start.now
unfolding eight
at_is c =
    c.in_ok-extend_from_slice.ensures.items
    ∙ ap₂ (λ (key bytes : List ℕ). key ++ bytes) (c.truncate.ensures.items ∙ c.loop-start.invariant.at) c.to_be_bytes.ensures

key_stays : (c : After-is_some) → take (length c.args.key.now) c.extend_from_slice.new.self.items ≡ c.args.key.now
key_stays c =
    ap (take (length c.args.key.now)) (at_is c) ∙ take_at c.args.key.now (eight c.in-Some.start.now) (length c.args.key.now) refl

found_is : (c : After-is_some) → is_some c.get.result ≡ is_held c.self.inside.kept.map c.args.key.now c.in-Some.start.now
found_is c =
    sym (is_some-copied c.get.result)
    ∙ ap is_some (c.get.ensures ∙ ap (finite.get c.self.inside.kept.map) (c.deref.ensures.value ∙ at_is c))

pub loop-start-init : goal.loop-start-init
unfolding eight
loop-start-init c =
    let key = c.args.key.now in
    let test = is_held c.self.inside.kept.map key in
    let none = c.new-held.ensures.items in
    record {
      at = ap (take (length key)) (c.into_items-at.ensures ∙ c.in_ok-window_key.ensures) ∙ take_at key (eight 0) (length key) refl;
      fits = subst (All (λ start. start < 2 ^ 64)) (sym none) (All-nil (λ start. start < 2 ^ 64));
      held = ap₂ (λ (picked left : List ℕ). picked ++ filter test left) none (c.into_iter-start-iterator.ensures.into_iter_gives ∙ c.keys-start-items.ensures.rest);
    }

pub loop-start-preserved : goal.loop-start-preserved
loop-start-preserved c =
    let at = (goal.at.loop-start-preserved c).After-is_some in
    let test = is_held c.self.inside.kept.map c.args.key.now in
    record {
      at = key_stays at;
      fits = c.loop-start.invariant.fits;
      held = passed-more test c.loop-start.held.items c.loop-start.start-iterator c.next.new.self (filter test (keys c.self.inside.starts)) c.in-Some.start.now (c.if-is_some.ensures ∙ found_is at) c.in-Some.ensures.steps c.loop-start.invariant.held;
    }

pub loop-start-preserved-in_ok-push : goal.loop-start-preserved-in_ok-push
loop-start-preserved-in_ok-push c =
    let at = (goal.at.loop-start-preserved-in_ok-push c).After-is_some in
    let test = is_held c.self.inside.kept.map c.args.key.now in
    let start = c.in-Some.start.now in
    let fits : start < 2 ^ 64 = omega arith in
    record {
      at = key_stays at;
      fits = subst (All (λ start. start < 2 ^ 64)) (sym c.in_ok-push.ensures.items) (All-push (λ start. start < 2 ^ 64) c.loop-start.held.items start c.loop-start.invariant.fits fits);
      held =
          ap (λ items. items ++ filter test c.next.new.self) c.in_ok-push.ensures.items
          ∙ picked-more test c.loop-start.held.items c.loop-start.start-iterator c.next.new.self (filter test (keys c.self.inside.starts)) start (c.if-is_some.ensures ∙ found_is at) c.in-Some.ensures.steps c.loop-start.invariant.held;
    }

-- the starts that were picked
picked_is : (c : In-None) → c.loop-start.held.items ≡ filter (is_held c.self.inside.kept.map c.args.key.now) (keys c.self.inside.starts)
picked_is c =
    let test = is_held c.self.inside.kept.map c.args.key.now in
    sym (append-nil c.loop-start.held.items)
    ∙ ap (λ (left : List ℕ). c.loop-start.held.items ++ filter test left) (sym c.in-None.ensures.steps.0)
    ∙ c.loop-start.invariant.held

pub returns-clause-ascending : goal.returns-clause-ascending
returns-clause-ascending c =
    let at = (goal.at.returns-clause-ascending c).In-None in
    subst (AllPairs (λ start later. start < later)) (sym (picked_is at))
    (ascending (is_held c.self.inside.kept.map c.args.key.now) (keys c.self.inside.starts) c.keys-start-items.ensures.ordered)

pub returns-clause-held : goal.returns-clause-held
returns-clause-held c start low =
    let at = (goal.at.returns-clause-held c).In-None in
    let starts = keys c.self.inside.starts in
    let test = is_held c.self.inside.kept.map c.args.key.now in
    let same : test start ≡ is_held c.args.self.now.content.map c.args.key.now start = ap (λ w. is_held w.content.map c.args.key.now start) c.self.view_is in
    let fits : start < 2 ^ 64 = omega arith in (
      λ among. sym same ∙ passes test starts start (subst (λ (xs : List ℕ). Contains xs start) (picked_is at) among),
      λ is. subst (λ (xs : List ℕ). Contains xs start) (sym (picked_is at)) (starts_have c.self.inside.starts c.self.inside.kept c.args.key.now c.self.invariant start fits (same ∙ is)),
    )

pub returns-clause-bounded : goal.returns-clause-bounded
returns-clause-bounded c =
    let at = (goal.at.returns-clause-bounded c).In-None in
    let starts = keys c.self.inside.starts in
    let test = is_held c.self.inside.kept.map c.args.key.now in
    let picked = c.loop-start.held.items in
    All-weaker (Contains picked) (λ start. start ≤ 2 ^ 56)
    (λ start among.
    start_bounded c.self.inside.starts c.self.inside.kept c.args.key.now c.self.invariant start
    (All-contains (λ start. start < 2 ^ 64) picked start c.loop-start.invariant.fits among)
    (passes test starts start (subst (λ (xs : List ℕ). Contains xs start) (picked_is at) among)))
    picked (All-contains_itself picked)
