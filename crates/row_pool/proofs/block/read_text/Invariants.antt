use Rattle.std.proofs.Common.{◌≡◌, ◌*◌, ◌++◌, min, length, take, drop}
use Rattle.row_pool.specs.Layout.{after, bytes_from}
use Rattle.row_pool.proofs.block.read_text.Given as goal

-- n pieces are read, and the rest is unchanged
abbrev pub invariant-loop-n : goal.invariant-loop-n
invariant-loop-n l = record {
  at : l.at ≡ after l.blocks l.first l.n;
  read : l.into ≡ take (min (64 * l.n) (length l.fn.into)) (bytes_from l.blocks l.first l.n) ++ drop (64 * l.n) l.fn.into;
}
