-- The order of values is total, and so is that of keys, whichever way they are read.
use Rattle.std.specs.Prelude.{◌≡◌, ℕ, ℤ, pos, List, [], Bool, false, refl}
use Rattle.std.proofs.Common.{subst}
use Rattle.std.specs.Cmp.{IsTotalOrder, bool_cmp_total, int_cmp_total, nat_cmp_total, on_total, then_total}
use Rattle.std.specs.Cmp.Lexicographic.{lists_total, nat_list_cmp_total, slice_cmp}
use Rattle.std.specs.declared.cmp.Ordering.{Ordering}
use Rattle.std.specs.declared.cmp.Ordering.TheVariants.{Less, Equal, Greater}
use Rattle.std.specs.Ordering.{bool_cmp, int_cmp, nat_cmp, on, ordering_then, then_cmp}
use Rattle.ksql_types.specs.declared.value.Value.{Value}
use Rattle.ksql_types.specs.declared.value.Value.TheVariants.{Null, Int, Big, Txt, Bool as Truth}
use Rattle.run_text.specs.Report.{cell_cmp, rank}

-- the number, the text and the truth of a value, one of which counts
abbrev number_of : Value → ℤ
number_of (Int n) = n
number_of (Big n) = n
number_of _ = pos 0

abbrev text_of : Value → List ℕ
text_of (Txt bytes) = bytes
text_of _ = []

abbrev truth_of : Value → Bool
truth_of (Truth b) = b
truth_of _ = false

-- the order of values by rank, number, text and truth
abbrev whole_cmp : Value → Value → Ordering
whole_cmp = then_cmp (on rank nat_cmp) (then_cmp (on number_of int_cmp) (then_cmp (on text_of (slice_cmp nat_cmp)) (on truth_of bool_cmp)))

whole_total : IsTotalOrder whole_cmp
whole_total = then_total (on_total rank nat_cmp_total) (then_total (on_total number_of int_cmp_total) (then_total (on_total text_of nat_list_cmp_total) (on_total truth_of bool_cmp_total)))

then-Equal : (o : Ordering) → ordering_then o Equal ≡ o
then-Equal Less = refl
then-Equal Equal = refl
then-Equal Greater = refl

whole-cell : (a b : Value) → whole_cmp a b ≡ cell_cmp a b
whole-cell (Int a) (Int b) = then-Equal (int_cmp a b)
whole-cell (Big a) (Big b) = then-Equal (int_cmp a b)
whole-cell (Txt a) (Txt b) = then-Equal (slice_cmp nat_cmp a b)
whole-cell Null Null = refl
whole-cell (Truth a) (Truth b) = refl
whole-cell _ _ = refl

pub cell_total : IsTotalOrder cell_cmp
cell_total = subst IsTotalOrder (λ i a b. whole-cell a b i) whole_total

pub keys_total : {A : Type 0} (cells : A → List Value) → IsTotalOrder (on cells (slice_cmp cell_cmp))
keys_total cells = on_total cells (lists_total cell_total)
