use Rattle.std.proofs.Common.{◌≡◌, ◌+◌, ◌-◌, [], All, vec_len}
use Rattle.claim_table.specs.Rule.{opened}
use Rattle.claim_table.specs.Claims.{IsClaimOf, IsNew, plan_of}
use Rattle.claim_table.proofs.table.Round.parted.Given as goal

abbrev pub invariant-loop : goal.invariant-loop
invariant-loop g l = record {
  table : l.seat.table_id ≡ l.self.table.shared.table_id;
  seat : l.seat.me ≡ (opened (plan_of l.self) (l.claims + 1 - l.counter), []);
  made : vec_len l.all + 1 ≡ l.counter;
  own : All (IsClaimOf g.T.Item.fresh l.self) l.all.items;
  unused : All IsNew l.all.items;
}
