use Rattle.std.proofs.Common.{rules, arith, ◌≡◌, List, [], ◌∷◌, ◌++◌, append_assoc, sym, ap, ◌∙◌, subst, All}
use Rattle.claim_table.specs.declared.table.Claim.{Claim}
use Rattle.claim_table.specs.Claims.{IsClaimOf, HasGivenBack, HasEnded, count_of}
use Rattle.claim_table.specs.Gathering.{Gathers}
use Rattle.claim_table.proofs.Parting.{joins}
use Rattle.claim_table.proofs.Together.{all_between, empty_hand, first_gathers, more_gathers}
use Rattle.claim_table.proofs.table.Round.gathered.Goals as goal

pub loop-claim-init : goal.loop-claim-init
loop-claim-init g c = let r = c.args.self.now in let x : Claim g.row.T.Denot g.row.T-Plan.Denot = c.in-Some.first in let split = c.in-Some.ensures.items in let cs = c.pop.new.self.items in
    let own = all_between (IsClaimOf g.T.Item.fresh r) cs [] x (subst (All (IsClaimOf g.T.Item.fresh r)) split c.requires.own) in
    let back = all_between (HasGivenBack r) cs [] x (subst (All (HasGivenBack r)) split c.requires.returned) in
    let ended = all_between (HasEnded r) cs [] x (subst (All (HasEnded r)) split c.requires.ended) in
    record { table = own.0; gone = (x ∷ [], omega arith, sym split, first_gathers g.T.Item.fresh r x own back ended) }

pub join_seat-requires : goal.join_seat-requires
join_seat-requires g c = let r = c.args.self.now in let x : Claim g.row.T.Denot g.row.T-Plan.Denot = c.in-Some-pop.claim in let cs = c.pop-in-loop-claim.new.self.items in let gone = c.loop-claim.invariant.gone in
    let split : cs ++ x ∷ gone.0 ≡ c.args.claims.items = sym (append_assoc cs (x ∷ []) gone.0) ∙ ap (λ (l : List (Claim g.row.T.Denot g.row.T-Plan.Denot)). l ++ gone.0) (sym c.in-Some-pop.ensures.items) ∙ gone.2 in
    let own = all_between (IsClaimOf g.T.Item.fresh r) cs gone.0 x (subst (All (IsClaimOf g.T.Item.fresh r)) (sym split) c.requires.own) in
    let back = all_between (HasGivenBack r) cs gone.0 x (subst (All (HasGivenBack r)) (sym split) c.requires.returned) in
    let ended = all_between (HasEnded r) cs gone.0 x (subst (All (HasEnded r)) (sym split) c.requires.ended) in
    let some = gone.1 in let parts = gone.3.parts in
    (c.loop-claim.invariant.table, own.0, empty_hand g.T.Item.fresh r x own back ended, search rules, joins _ _ _ _ _ _ _ c.loop-claim.seat.me.0 x.seat.me.0 (omega arith))

pub loop-claim-preserved : goal.loop-claim-preserved
loop-claim-preserved g c = let r = c.args.self.now in let x : Claim g.row.T.Denot g.row.T-Plan.Denot = c.in-Some-pop.claim in let cs = c.pop-in-loop-claim.new.self.items in let gone = c.loop-claim.invariant.gone in
    let split : cs ++ x ∷ gone.0 ≡ c.args.claims.items = sym (append_assoc cs (x ∷ []) gone.0) ∙ ap (λ (l : List (Claim g.row.T.Denot g.row.T-Plan.Denot)). l ++ gone.0) (sym c.in-Some-pop.ensures.items) ∙ gone.2 in
    let own = all_between (IsClaimOf g.T.Item.fresh r) cs gone.0 x (subst (All (IsClaimOf g.T.Item.fresh r)) (sym split) c.requires.own) in
    let back = all_between (HasGivenBack r) cs gone.0 x (subst (All (HasGivenBack r)) (sym split) c.requires.returned) in
    let ended = all_between (HasEnded r) cs gone.0 x (subst (All (HasEnded r)) (sym split) c.requires.ended) in record {
      table = c.join_seat.ensures.0 ∙ c.loop-claim.invariant.table;
      gone = (x ∷ gone.0, omega arith, split, subst (Gathers (count_of r) (x ∷ gone.0)) (λ k. (sym c.join_seat.ensures.2 k).0) (more_gathers g.T.Item.fresh r x own back ended gone.0 c.loop-claim.seat.me.0 gone.3));
    }
