use Rattle.std.proofs.Common.{rules, arith, ◌≡◌, ℕ, ◌<◌, List, ◌∷◌, sym, ap, ◌∙◌, subst}
use Rattle.std.specs.Prelude.{Option}
use Rattle.atomic_table.specs.Table.{Me}
use Rattle.claim_table.specs.declared.plays.View.{View}
use Rattle.claim_table.specs.Sums.{Has}
use Rattle.claim_table.specs.Rule.{firsts}
use Rattle.claim_table.specs.Held.{Holds}
use Rattle.claim_table.specs.Steps.{front}
use Rattle.claim_table.specs.Claims.{Sits}
use Rattle.claim_table.proofs.Holding.{now_front, brought_to, brought_from}
use Rattle.claim_table.proofs.Numbers.{numbers}
use Rattle.claim_table.proofs.Sitting.{sits_brought, sits_numbered}
use Rattle.claim_table.proofs.table.Round.commit_number.Goals as goal

pub fetch_add-number-requires : goal.fetch_add-number-requires
fetch_add-number-requires g c = let w = c.requires.owed in let s = c.requires.claim.1 in let i : ℕ = c.args.item in let n : ℕ = c.args.self.now.table.shared.table_id.slots in let b = c.bring.new.seat.me in let me = c.args.claim.now.seat.me in
    let first = now_front _ _ _ _ (λ k. (c.bring.ensures.2 k).1) s.once w.1 in let f : front b.1 ≡ i = ap front first in let back : me.0 ≡ b.0 = λ k. (sym c.bring.ensures.2 k).0 in let r = s.owes i w.0 w.1 in (
      c.bring.ensures.0 ∙ c.requires.claim.0,
      search rules,
      numbers _ _ _ _ _ n _ b (let p : me.0.parts ≡ 1 = s.part in subst (λ (v : View g.row.T-Plan.Denot). 0 < v.parts) back (let q : 0 < me.0.parts = omega arith in q))
          (subst (λ (z : View g.row.T-Plan.Denot × ℕ). Has z.0.drawn z.1) (λ k. (back k, sym f k)) r.1) (subst (λ (z : ℕ). z < n) (sym f) r.0)
          (subst (λ (z : View g.row.T-Plan.Denot × ℕ). ¬ Has (firsts z.0.numbered) z.1) (λ k. (back k, sym f k)) c.requires.first),
    )

pub overflow_cast-result : goal.overflow_cast-result
overflow_cast-result g c = let a = c.fetch_add-number.ensures.2.2 in let b = c.args.self.now.slots in let d = c.args.self.now.small in record { fits = omega arith }

pub returns-clause-claim : goal.returns-clause-claim
returns-clause-claim g c = let S = λ (m : Me (Option g.row.T.Denot) (View g.row.T-Plan.Denot)). Sits g.T.Item.fresh c.args.self.now.table.shared.key.plan.value c.args.self.now.table.shared.table_id.slots c.args.claim.now.over m in
    let b = c.bring.new.seat.me in let w = c.requires.owed in let s = c.requires.claim.1 in let f : front b.1 ≡ c.args.item = ap front (now_front _ _ _ _ (λ k. (c.bring.ensures.2 k).1) s.once w.1) in
    let has : Has b.0.drawn (front b.1) = subst (λ (z : View g.row.T-Plan.Denot × ℕ). Has z.0.drawn z.1) (λ k. ((sym c.bring.ensures.2 k).0, sym f k)) (s.owes c.args.item w.0 w.1).1 in (
      c.fetch_add-number.ensures.0 ∙ c.bring.ensures.0 ∙ c.requires.claim.0,
      subst S (λ k. (sym c.fetch_add-number.ensures.2.0 k, sym c.fetch_add-number.ensures.2.1 k)) (sits_numbered _ _ _ _ b _ _ has (subst S (sym c.bring.ensures.2) (sits_brought _ _ _ _ c.args.claim.now.seat.me c.args.item c.requires.claim.1))),
    )

pub returns-clause-numbers : goal.returns-clause-numbers
returns-clause-numbers g c = let w = c.requires.owed in let s = c.requires.claim.1 in let b = c.bring.new.seat.me in
    let f : front b.1 ≡ c.args.item = ap front (now_front _ _ _ _ (λ k. (c.bring.ensures.2 k).1) s.once w.1) in
    ap (λ (v : View g.row.T-Plan.Denot). v.numbered) c.fetch_add-number.ensures.2.0 ∙ (λ k. (f k, c.fetch_add-number.result) ∷ (c.bring.ensures.2 k).0.numbered)

pub returns-clause-items : goal.returns-clause-items
returns-clause-items g c i s = let is : c.fetch_add-number.new.seat.me.1 ≡ _ = c.fetch_add-number.ensures.2.1 ∙ (λ k. (c.bring.ensures.2 k).1) in
    ((λ h. subst (λ (l : List (ℕ × Option g.row.T.Denot)). Holds l i s) (sym is) (brought_to _ _ _ _ h)), (λ h. brought_from _ _ _ _ (subst (λ (l : List (ℕ × Option g.row.T.Denot)). Holds l i s) is h)))
