use Rattle.std.proofs.Common.{◌≡◌, ℕ, ◌<◌, ◌≤◌, false, get_or, map, take, vec_len, vec_capacity}
use Rattle.std.specs.Prelude.{Some}
use Rattle.std.specs.Mem.Slots.{slots_items, slots_filled, slots_len}
use Rattle.std.specs.Mem.Slots.Ownership.{Filled}
use Rattle.claim_table.proofs.closing.moved.Given as goal

abbrev pub invariant-loop-slot : goal.invariant-loop-slot
invariant-loop-slot g l = record {
  items : slots_items l.closed.slots ≡ slots_items l.fn.closed.slots;
  count : slots_len l.closed.slots ≡ slots_len l.fn.closed.slots;
  full : Filled (slots_filled l.closed.slots) l.slot (slots_len l.closed.slots);
  empty : (k : ℕ) → k < l.slot → get_or (slots_filled l.closed.slots) k false ≡ false;
  made : map Some l.values.items ≡ take l.slot (slots_items l.closed.slots);
  long : vec_len l.values ≡ l.slot;
  room : slots_len l.closed.slots ≤ vec_capacity l.values;
}
