use Rattle.std.proofs.Common.{rules, arith, ℕ, ◌<◌, Bool, sym, ◌∙◌, subst}
use Rattle.claim_table.specs.declared.plays.View.{View}
use Rattle.claim_table.specs.Claims.{Sits, left_below}
use Rattle.claim_table.proofs.Draws.{draws}
use Rattle.claim_table.proofs.Sitting.{ends_weigh, fewer, sits_drawn}
use Rattle.claim_table.proofs.table.Round.draw.Goals as goal

pub fetch_add-found-requires : goal.fetch_add-found-requires
fetch_add-found-requires g c = let s = c.requires.1 in let one = s.part in (c.requires.0, search rules, draws _ _ _ _ _ _ _ _ (omega arith) s.planned (s.going c.if-claim.false))

pub returns-then-found-from-clause-claim : goal.returns-then-found-from-clause-claim
returns-then-found-from-clause-claim g c = let me = c.args.claim.now.seat.me in let me' = c.fetch_add-found.new.seat.me in let n : ℕ = c.args.self.now.table.shared.table_id.slots in let is = c.args.self.now.slots in
    let S = λ (b : Bool) (m : _). Sits g.T.Item.fresh c.args.self.now.table.shared.key.plan.value n b m in
    let low : c.fetch_add-found.result < n = omega arith in
    (c.fetch_add-found.ensures.0 ∙ c.requires.0, subst (λ (b : Bool). S b me') (sym c.if-claim.false) (sits_drawn _ _ n me me' _ (subst (λ (b : Bool). S b me) c.if-claim.false c.requires.1) c.fetch_add-found.ensures.2 low))

pub returns-then-found-from-clause-fewer : goal.returns-then-found-from-clause-fewer
returns-then-found-from-clause-fewer g c = let n : ℕ = c.args.self.now.table.shared.table_id.slots in let is = c.args.self.now.slots in let ms = c.args.claim.now.seat.me.0.drawn in let d = c.fetch_add-found.ensures.2 in
    subst (λ (v : View g.row.T-Plan.Denot). left_below n v.drawn < left_below n ms) (sym d.0) (fewer n c.fetch_add-found.result ms d.1 (omega arith))

pub returns-then-found-from-clause-ended : goal.returns-then-found-from-clause-ended
returns-then-found-from-clause-ended g c ended = absurd (ends_weigh _ _ ended (c.requires.1.going c.if-claim.false))

pub returns-else-found-from-clause-ended : goal.returns-else-found-from-clause-ended
returns-else-found-from-clause-ended g c ended = absurd (ends_weigh _ _ ended (c.requires.1.going c.if-claim.false))
