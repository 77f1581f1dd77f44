use Rattle.std.proofs.Common.{rules, arith, ◌≡◌, ℕ, ◌<◌, List, sym, ◌∙◌, subst}
use Rattle.std.specs.Prelude.{Option, Some, None}
use Rattle.atomic_table.specs.Table.{Me, rest}
use Rattle.claim_table.specs.declared.plays.View.{View}
use Rattle.claim_table.specs.Sums.{Has}
use Rattle.claim_table.specs.Rule.{Says, with_returned}
use Rattle.claim_table.specs.Held.{Holds, Once}
use Rattle.claim_table.specs.Steps.{front}
use Rattle.claim_table.specs.Claims.{Sits}
use Rattle.claim_table.proofs.Holding.{now_front, put_front, gone, brought_once, same_but_gone}
use Rattle.claim_table.proofs.Returns.{returns}
use Rattle.claim_table.proofs.Sitting.{sits_brought, sits_returned}
use Rattle.claim_table.proofs.table.Round.give_back.Goals as goal

pub exchange-requires : goal.exchange-requires
exchange-requires g c = (c.bring.ensures.0 ∙ c.requires.claim.0, (None, now_front _ _ _ _ (λ k. (c.bring.ensures.2 k).1) c.requires.claim.1.once c.requires.taken))

pub load-requires : goal.load-requires
load-requires g c = let s = c.requires.claim.1 in let i : ℕ = c.args.item in let n : ℕ = c.args.self.now.table.shared.table_id.slots in let x = c.exchange.new.seat.me in let me = c.args.claim.now.seat.me in let r = s.owes i None c.requires.taken in
    let back : me.0 ≡ x.0 = (λ k. (sym c.bring.ensures.2 k).0) ∙ (λ k. (sym c.exchange.ensures.3 k).0) in (
      c.exchange.ensures.0 ∙ c.bring.ensures.0 ∙ c.requires.claim.0,
      search rules,
      returns _ _ _ _ _ n _ i c.args.value x (let p : me.0.parts ≡ 1 = s.part in subst (λ (v : View g.row.T-Plan.Denot). 0 < v.parts) back (let q : 0 < me.0.parts = omega arith in q))
          (put_front i (Some c.args.value) x.1 c.bring.new.seat.me.1 (λ k. (c.exchange.ensures.3 k).1)) r.0
          (subst (λ (v : View g.row.T-Plan.Denot). Has v.drawn i) back r.1) c.requires.done (subst (λ (v : View g.row.T-Plan.Denot). Says v.numbered i (g.T.Item.number c.args.value)) back c.requires.number),
    )

pub returns-clause-claim : goal.returns-clause-claim
returns-clause-claim g c = let S = λ (m : Me (Option g.row.T.Denot) (View g.row.T-Plan.Denot)). Sits g.T.Item.fresh c.args.self.now.table.shared.key.plan.value c.args.self.now.table.shared.table_id.slots c.args.claim.now.over m in
    let b = c.bring.new.seat.me in let x = c.exchange.new.seat.me in let put = put_front c.args.item (Some c.args.value) x.1 b.1 (λ k. (c.exchange.ensures.3 k).1) in (
      c.load.ensures.0 ∙ c.exchange.ensures.0 ∙ c.bring.ensures.0 ∙ c.requires.claim.0,
      subst S (λ k. (sym (c.load.ensures.2.0 ∙ (λ j. with_returned (c.exchange.ensures.3 j).0 (front (put j)))) k, sym (c.load.ensures.2.1 ∙ (λ j. rest (c.exchange.ensures.3 j).1)) k))
          (sits_returned _ _ _ _ b c.args.item c.exchange.result (subst S (sym c.bring.ensures.2) (sits_brought _ _ _ _ c.args.claim.now.seat.me c.args.item c.requires.claim.1)) c.exchange.ensures.2),
    )

pub returns-clause-given : goal.returns-clause-given
returns-clause-given g c owed = let b = c.bring.new.seat.me in let is : c.load.new.seat.me.1 ≡ rest b.1 = c.load.ensures.2.1 ∙ (λ k. rest (c.exchange.ensures.3 k).1) in
    gone c.args.item _ owed.0 b.1 c.exchange.ensures.2 (subst Once (λ k. (sym c.bring.ensures.2 k).1) (brought_once c.args.item _ c.requires.claim.1.once))
    (subst (λ (l : List (ℕ × Option g.row.T.Denot)). Holds l c.args.item owed.0) is owed.1)

pub returns-clause-items : goal.returns-clause-items
returns-clause-items g c i s ne = let b = c.bring.new.seat.me in let is : c.load.new.seat.me.1 ≡ rest b.1 = c.load.ensures.2.1 ∙ (λ k. rest (c.exchange.ensures.3 k).1) in
    let r = same_but_gone c.args.item _ _ b.1 (λ k. (c.bring.ensures.2 k).1) c.exchange.ensures.2 i s ne in
    ((λ h. subst (λ (l : List (ℕ × Option g.row.T.Denot)). Holds l i s) (sym is) (r.0 h)), (λ h. r.1 (subst (λ (l : List (ℕ × Option g.row.T.Denot)). Holds l i s) is h)))
