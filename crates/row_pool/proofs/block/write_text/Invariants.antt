use Rattle.std.proofs.Common.{◌≡◌, ◌*◌, length, drop}
use Rattle.row_pool.specs.Layout.{after}
use Rattle.row_pool.proofs.Written.{Written}
use Rattle.row_pool.proofs.block.write_text.Given as goal

-- n pieces are written, and the rest of the text is unchanged
abbrev pub invariant-loop : goal.invariant-loop
invariant-loop l = record {
  at : l.at ≡ after l.fn.blocks l.first l.counter;
  rest : l.rest ≡ drop (64 * l.counter) l.text;
  len : length l.blocks ≡ length l.fn.blocks;
  written : Written l.fn.blocks l.blocks l.first l.text l.counter;
}
