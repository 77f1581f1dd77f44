use Rattle.std.proofs.Common.{◌≡◌, ℕ, ◌+◌, vec_len}
use Rattle.std.specs.Prelude.{Some, slice_get}
use Rattle.claim_table.specs.declared.tests.parcel.Parcel.{Parcel}
use Rattle.claim_table.proofs.tests.parcels.Given as goal

abbrev pub invariant-loop-place : goal.invariant-loop-place
invariant-loop-place l = record {
  long : vec_len l.all ≡ l.place;
  labels : (i : ℕ) (x : Parcel) → slice_get l.all.items i ≡ Some x → x.label ≡ l.first + i;
}
