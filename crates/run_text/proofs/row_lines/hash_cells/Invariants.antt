use Rattle.std.proofs.Common.{◌≡◌, take}
use Rattle.std.specs.Prelude.{fold}
use Rattle.run_text.specs.RowHash.{cells_fed}
use Rattle.run_text.proofs.row_lines.hash_cells.Given as goal

-- the values so far were fed
abbrev pub invariant-loop-cell : goal.invariant-loop-cell
invariant-loop-cell g l = l.state ≡ fold g.H.Hasher.write l.fn.state (cells_fed (take l.cell-index l.cells))
