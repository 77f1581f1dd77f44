use Rattle.std.proofs.Common.{◌≡◌, ◌+◌, length}
use Rattle.std.specs.Iterator.Adapters.{zip_first, zip_second}
use Rattle.std.specs.Slice.Iter.{iter_rest}
use Rattle.std.specs.Cmp.Lexicographic.{slice_cmp}
use Rattle.run_text.specs.Report.{cell_cmp}
use Rattle.run_text.proofs.rows.cmp_several.Given as goal

-- the values visited so far are equal, so the remaining ones decide
abbrev pub invariant-loop-first : goal.invariant-loop-first
invariant-loop-first l =
    let first = iter_rest (zip_first l.first-iterator) in
    let second = iter_rest (zip_second l.first-iterator) in
    record { same : slice_cmp cell_cmp l.a l.b ≡ slice_cmp cell_cmp first second; left : length l.a + length second ≡ length l.b + length first }
