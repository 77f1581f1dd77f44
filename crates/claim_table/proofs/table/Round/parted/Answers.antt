use Rattle.std.proofs.Common.{rules, arith, ◌≡◌, ℕ, ◌+◌, ◌-◌, ◌<◌, false, [], sym, ap, ◌∙◌, subst, All}
use Rattle.std.proofs.lemmas.List.Elements.{All-push}
use Rattle.claim_table.specs.declared.plays.View.{View}
use Rattle.claim_table.specs.declared.table.Claim.{Claim}
use Rattle.claim_table.specs.Rule.{opened, parent, child}
use Rattle.claim_table.specs.Claims.{IsClaimOf, IsNew}
use Rattle.claim_table.proofs.Parting.{splits}
use Rattle.claim_table.proofs.Begins.{sits_new, is_new}
use Rattle.claim_table.proofs.table.Round.parted.Goals as goal

pub split_seat-part-requires : goal.split_seat-part-requires
split_seat-part-requires g c = let v = c.loop.seat.me.0 in let k : ℕ = c.args.claims + 1 - c.loop.counter in let is : v ≡ opened c.args.self.now.table.shared.key.plan.value k = λ j. (c.loop.invariant.seat j).0 in
    let parts : v.parts ≡ k = ap (λ (u : View g.row.T-Plan.Denot). u.parts) is in let test : c.loop.counter < c.args.claims = c.loop-test.true in
    (c.loop.invariant.table, search rules, splits _ _ _ _ _ _ v (omega arith) (ap (λ (u : View g.row.T-Plan.Denot). u.drawn) is) (ap (λ (u : View g.row.T-Plan.Denot). u.returned) is) (ap (λ (u : View g.row.T-Plan.Denot). u.numbered) is))

pub loop-preserved : goal.loop-preserved
loop-preserved g c = let plan = c.args.self.now.table.shared.key.plan.value in let k : ℕ = c.args.claims + 1 - c.loop.counter in let l : ℕ = c.loop.counter in let a : ℕ = c.args.claims in
    let made : Claim g.row.T.Denot g.row.T-Plan.Denot = record { seat = c.split_seat-part.result; over = false } in let is = c.loop.invariant.seat in
    let less : a + 1 - l - 1 ≡ a + 1 - (l + 1) = omega arith in
    let me : made.seat.me ≡ (opened plan 1, []) = c.split_seat-part.ensures.4 ∙ (λ j. (child (is j).0, [])) in record {
      table = c.split_seat-part.ensures.0 ∙ c.loop.invariant.table;
      seat = c.split_seat-part.ensures.2 ∙ (λ j. (parent (is j).0, (is j).1)) ∙ (λ j. (opened plan (less j), []));
      made = (let e = c.in_ok-push.ensures.len in let i = c.loop.invariant.made in omega arith);
      own = subst (All (IsClaimOf g.T.Item.fresh c.args.self.now)) (sym c.in_ok-push.ensures.items) (All-push (IsClaimOf g.T.Item.fresh c.args.self.now) c.loop.all.items made c.loop.invariant.own (c.split_seat-part.ensures.3 ∙ c.loop.invariant.table, sits_new _ _ _ _ me));
      unused = subst (All IsNew) (sym c.in_ok-push.ensures.items) (All-push IsNew c.loop.all.items made c.loop.invariant.unused (is_new plan made 1 me));
    }
