use Rattle.std.proofs.Common.{sym, ◌∙◌}
use Rattle.claim_table.proofs.Ends.{ends, moved_to}
use Rattle.claim_table.proofs.table.Round.close.Goals as goal

pub moved-requires-clause-full : goal.moved-requires-clause-full
moved-requires-clause-full g c = let v = c.close_with.ensures.values in
    let e = ends _ _ _ _ _ _ _ _ _ _ c.args.claims.items v.2 c.gathered-seat.ensures.view (sym c.args.claims.ok.0 ∙ c.requires.all) (sym c.close_with.result.slots.ok.0 ∙ c.close_with.ensures.counts.1) in (v.1, (e.values, e.are))

pub returns-clause-done : goal.returns-clause-done
returns-clause-done g c =
    let e = ends _ _ _ _ _ _ _ _ _ _ c.args.claims.items c.close_with.ensures.values.2 c.gathered-seat.ensures.view (sym c.args.claims.ok.0 ∙ c.requires.all) (sym c.close_with.result.slots.ok.0 ∙ c.close_with.ensures.counts.1) in
    (moved_to _ _ _ _ _ _ e c.moved.result.items c.moved.ensures).1

pub returns-clause-numbers : goal.returns-clause-numbers
returns-clause-numbers g c =
    let e = ends _ _ _ _ _ _ _ _ _ _ c.args.claims.items c.close_with.ensures.values.2 c.gathered-seat.ensures.view (sym c.args.claims.ok.0 ∙ c.requires.all) (sym c.close_with.result.slots.ok.0 ∙ c.close_with.ensures.counts.1) in
    (moved_to _ _ _ _ _ _ e c.moved.result.items c.moved.ensures).2

pub returns-clause-drawn : goal.returns-clause-drawn
returns-clause-drawn g c =
    let e = ends _ _ _ _ _ _ _ _ _ _ c.args.claims.items c.close_with.ensures.values.2 c.gathered-seat.ensures.view (sym c.args.claims.ok.0 ∙ c.requires.all) (sym c.close_with.result.slots.ok.0 ∙ c.close_with.ensures.counts.1) in e.drawn
