use Rattle.std.proofs.Common.{◌≡◌, sym, ◌∙◌, subst}
use Rattle.std.specs.Prelude.{Option, Some, None}
use Rattle.atomic_table.specs.Table.{Me}
use Rattle.claim_table.specs.declared.plays.View.{View}
use Rattle.claim_table.specs.Claims.{Sits}
use Rattle.claim_table.proofs.Holding.{front_value, now_front, same_but_first}
use Rattle.claim_table.proofs.Stands.{some_is}
use Rattle.claim_table.proofs.Sitting.{sits_brought, sits_taken}
use Rattle.claim_table.proofs.table.Round.take.Goals as goal

pub exchange-requires : goal.exchange-requires
exchange-requires g c = let w = c.requires.waiting in (c.bring.ensures.0 ∙ c.requires.claim.0, (Some w.0, now_front _ _ _ _ (λ k. (c.bring.ensures.2 k).1) c.requires.claim.1.once w.1))

pub unreachable-requires : goal.unreachable-requires
unreachable-requires g c = let w = c.requires.waiting in
    let e : c.exchange.result ≡ Some w.0 = front_value _ _ _ _ c.exchange.ensures.2 (now_front _ _ _ _ (λ k. (c.bring.ensures.2 k).1) c.requires.claim.1.once w.1) in let n : c.exchange.result ≡ None = c.in-None.is in cc

pub returns-clause-claim : goal.returns-clause-claim
returns-clause-claim g c = let S = λ (m : Me (Option g.row.T.Denot) (View g.row.T-Plan.Denot)). Sits g.T.Item.fresh c.args.self.now.table.shared.key.plan.value c.args.self.now.table.shared.table_id.slots c.args.claim.now.over m in (
  c.exchange.ensures.0 ∙ c.bring.ensures.0 ∙ c.requires.claim.0,
  subst S (sym c.exchange.ensures.3) (sits_taken _ _ _ _ c.bring.new.seat.me _ c.exchange.result (subst S (sym c.bring.ensures.2) (sits_brought _ _ _ _ c.args.claim.now.seat.me c.args.item c.requires.claim.1)) c.exchange.ensures.2),
)

pub returns-clause-fresh : goal.returns-clause-fresh
returns-clause-fresh g c = let w = c.requires.waiting in
    let e : c.exchange.result ≡ Some w.0 = front_value _ _ _ _ c.exchange.ensures.2 (now_front _ _ _ _ (λ k. (c.bring.ensures.2 k).1) c.requires.claim.1.once w.1) in
    subst (g.T.Item.fresh c.args.self.now.table.shared.key.plan.value c.args.item) (some_is _ _ (sym e ∙ c.in-Some.is)) (c.requires.claim.1.good c.args.item w.0 w.1)

pub returns-clause-items : goal.returns-clause-items
returns-clause-items g c = same_but_first _ _ _ _ c.bring.new.seat.me.1 _ (λ k. (c.bring.ensures.2 k).1) c.exchange.ensures.2 (λ k. (c.exchange.ensures.3 k).1)
