use Rattle.std.proofs.Common.{◌≡◌, ℕ, ◌+◌}
use Rattle.claim_table.specs.declared.tests.parcel.Parcel.{Parcel}
use Rattle.claim_table.specs.Claims.{IsClaimOf, HasGivenBack, items_left}
use Rattle.claim_table.proofs.tests.seal.Given as goal

abbrev pub invariant-loop-place : goal.invariant-loop-place
invariant-loop-place l = record {
  claim : IsClaimOf (λ (first i : ℕ) (x : Parcel). x.label ≡ first + i) l.round l.claim;
  returned : HasGivenBack l.round l.claim;
}

abbrev pub decreases-loop-place : goal.decreases-loop-place
decreases-loop-place l = items_left l.round l.claim
