use Rattle.std.proofs.Common.{arith, ◌≡◌, length, sym, subst, ap, ◌∙◌}
use Rattle.std.specs.Prelude.{Some}
use Rattle.std.proofs.lemmas.List.{length-map}
use Rattle.claim_table.specs.declared.plays.Key.{Key}
use Rattle.claim_table.proofs.Begins.{opens}
use Rattle.claim_table.proofs.table.Round.new.Goals as goal

pub new-requires : goal.new-requires
new-requires g c = let few = c.requires.few in let fits = c.ranges.claims.fits in let from = c.from.ensures in let same = c.args.items.ok.0 in let now : c.of.result.value ≡ c.args.plan.now = c.of.ensures in
    opens _ _ _ _ _ c.args.items.items _ c.in_ok-slots.ensures (omega arith) (λ i x at. subst (λ (p : g.row.T-Plan.Denot). g.T.Item.fresh p i x) (sym now) (c.requires.fresh i x at))

pub invariant_of-round : goal.invariant_of-round
invariant_of-round g c = let ok = c.in-Ok.ensures.ok in let few = c.requires.few in let some = c.requires.some in let from = c.from.ensures in let len = c.len-count.ensures in
    let key : c.in-Ok.table.shared.key.claims ≡ c.from.result = ap (λ (k : Key g.row.T-Plan.Denot). k.claims) ok.5 in record {
      words = ok.0;
      slots = ok.1 ∙ ap length c.in_ok-slots.ensures ∙ length-map c.args.items.items Some ∙ sym c.args.items.ok.0 ∙ sym len;
      small = omega arith;
      claimed = omega arith;
    }
