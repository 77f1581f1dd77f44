use Rattle.std.proofs.Common.{◌≡◌, ◌<◌, List, ◌++◌, length, vec_len}
use Rattle.claim_table.specs.declared.table.Claim.{Claim}
use Rattle.claim_table.specs.Claims.{count_of}
use Rattle.claim_table.specs.Gathering.{Gathers}
use Rattle.claim_table.proofs.table.Round.gathered.Given as goal

abbrev pub invariant-loop-claim : goal.invariant-loop-claim
invariant-loop-claim g l = record {
  table : l.seat.table_id ≡ l.self.table.shared.table_id;
  gone : (gone : List (Claim g.row.T.Denot g.row.T-Plan.Denot)) × (0 < length gone) × (l.claims.items ++ gone ≡ l.fn.claims.items) × Gathers (count_of l.self) gone l.seat.me.0;
}

abbrev pub decreases-loop-claim : goal.decreases-loop-claim
decreases-loop-claim g l = vec_len l.claims
