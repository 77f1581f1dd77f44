-- The order of keys, once all values of one were compared.
use Rattle.std.proofs.Common.{◌≡◌, ◌⊎◌, inl, inr, ◌+◌, ℕ, List, [], ◌∷◌, length, arith}
use Rattle.std.specs.Ordering.{nat_cmp}
use Rattle.std.specs.Cmp.Lexicographic.{slice_cmp}
use Rattle.std.proofs.lemmas.Bool.Decides.{nat_tests}
use Rattle.ksql_types.specs.declared.value.Value.{Value}
use Rattle.run_text.specs.Report.{cell_cmp}

-- once all values of one key were compared, the longer key is greater
pub cells-spent : (xs ys : List Value) (m n : ℕ) → (length xs ≡ 0) ⊎ (length ys ≡ 0) → m + length ys ≡ n + length xs → slice_cmp cell_cmp xs ys ≡ nat_cmp m n
cells-spent [] [] m n none same = grind (arith, nat_tests)
cells-spent [] (y ∷ ys) m n none same = grind (arith, nat_tests)
cells-spent (x ∷ xs) [] m n none same = grind (arith, nat_tests)
cells-spent (x ∷ xs) (y ∷ ys) m n (inl none) same = absurd (omega (arith, none))
cells-spent (x ∷ xs) (y ∷ ys) m n (inr none) same = absurd (omega (arith, none))
