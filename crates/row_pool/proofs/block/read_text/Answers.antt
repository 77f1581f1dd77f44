use Rattle.std.proofs.Common.{◌≡◌, ◌-◌, ◌*◌, length, take, drop, arith, ap, ◌∙◌, length-take, length-drop}
use Rattle.row_pool.specs.Pool.{blocks_of}
use Rattle.row_pool.specs.Layout.{next_at, bytes_at, after}
use Rattle.row_pool.proofs.Links.{chain_inside, after_more}
use Rattle.row_pool.proofs.Written.{read_more}
use Rattle.row_pool.proofs.block.read_text.Goals as goal

pub bounds-blocks-at : goal.bounds-blocks-at
bounds-blocks-at c =
    rw c.loop-n.invariant.at (chain_inside c.args.blocks.now c.args.first (blocks_of (length c.args.into.now)) c.loop-n.n c.requires (omega arith))

pub offset_bounds-blocks-at : goal.offset_bounds-blocks-at
offset_bounds-blocks-at c =
    let inside = chain_inside c.args.blocks.now c.args.first (blocks_of (length c.args.into.now)) c.loop-n.n c.requires (omega arith) in
    rw c.loop-n.invariant.at (omega arith)

pub loop-n-preserved : goal.loop-n-preserved
loop-n-preserved c =
    let n = c.loop-n.n in
    let old = c.args.into.now in
    let into = c.loop-n.into in
    let blocks = c.args.blocks.now in
    let before = c.loop-n.invariant in
    let a = n * 64 in
    let k = c.min-end.result - a in
    let kept : length into ≡ length old = c.loop-n.auto.into in
    let bytes = bytes_at blocks c.loop-n.at in
    let len : length (take k (drop a into)) ≡ k = omega (arith, length-take k (drop a into), length-drop a into) in
    let piece : c.copy_to.new.piece ≡ take k (bytes_at blocks (after blocks c.args.first n)) =
    c.copy_to.ensures ∙ ap (λ x. take x bytes) len ∙ ap (λ x. take k (bytes_at blocks x)) before.at in
    record {
      at = ap (next_at blocks) before.at ∙ after_more blocks c.args.first n;
      read = read_more blocks c.args.first n a k old into c.copy_to.new.piece c.requires (omega arith) before.read (omega arith) (omega arith) piece;
    }
