use Rattle.std.proofs.Common.{◌≡◌, ◌++◌, ◌∷◌, [], All, Contains, List, ℕ, subst, sym, ap, ◌∙◌}
use Rattle.std.proofs.lemmas.List.{take_all}
use Rattle.std.proofs.lemmas.List.Elements.{All-push}
use Rattle.std.specs.FinMap as finite
use Rattle.state_store.specs.Store.{Content}
use Rattle.window_store.specs.Windows.{IsWindowKey}
use Rattle.window_store.proofs.Removals.{IsGone, gone-more, left-more}
use Rattle.window_store.proofs.ending.delete_all.Goals as goal

pub returns-in_err-delete-clause-written : goal.returns-in_err-delete-clause-written
returns-in_err-delete-clause-written c =
    let P : Content → Type 0 = λ content. All IsWindowKey content.written in
    subst P (sym c.in_err-delete.ensures.kept) c.loop-key.invariant.written

pub loop-key-preserved : goal.loop-key-preserved
loop-key-preserved c =
    let keys = c.args.keys.now in
    let i = c.loop-key.key-index in
    let key = c.key-item.result in
    let old = c.loop-key.kept in
    let new = c.delete.new.self in
    let before = c.loop-key.invariant in
    let within = c.loop-key-test.true in
    let map : new.map ≡ finite.remove old.map key = c.in_ok-delete.ensures.map ∙ ap (finite.remove old.map) c.items.ensures in
    let written : new.written ≡ old.written ++ key ∷ [] = c.in_ok-delete.ensures.written ∙ ap (λ (key : List ℕ). old.written ++ key ∷ []) c.items.ensures in
    let window : IsWindowKey key = subst IsWindowKey (sym c.key-item.is) (c.requires.windows i key within) in
    let among : Contains keys key = (i, within, sym c.key-item.is) in
    record {
      gone = gone-more old.map new.map keys i key within c.key-item.is map before.gone;
      others = left-more keys c.args.kept.now.map old.map new.map key among map before.others;
      written = subst (All IsWindowKey) (sym written) (All-push IsWindowKey old.written key before.written window);
      base = λ base is. c.in_ok-delete.ensures.base base (before.base base is);
    }

pub returns-clause-gone : goal.returns-clause-gone
returns-clause-gone c =
    subst (All (IsGone c.loop-key.kept.map)) (take_all c.loop-key.key-index c.args.keys.now c.loop-key-test.false) c.loop-key.invariant.gone
