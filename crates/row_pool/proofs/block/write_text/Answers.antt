use Rattle.std.proofs.Common.{◌≡◌, ◌+◌, ◌*◌, length, take, drop, arith, ap, ◌∙◌, length-set}
use Rattle.std.proofs.lemmas.List.{take_min, drop_min, drop-drop}
use Rattle.row_pool.specs.declared.block.Block.{Block}
use Rattle.row_pool.specs.Pool.{blocks_of}
use Rattle.row_pool.specs.Layout.{next_at}
use Rattle.row_pool.proofs.Links.{chain_inside, after_more}
use Rattle.row_pool.proofs.Written.{written_more}
use Rattle.row_pool.proofs.block.write_text.Goals as goal

pub bounds-blocks-at : goal.bounds-blocks-at
bounds-blocks-at c =
    rw (c.loop.invariant.at, c.loop.invariant.len) (chain_inside c.args.blocks.now c.args.first (blocks_of (length c.args.text.now)) c.loop.counter c.requires (omega arith))

pub offset_bounds-blocks-at : goal.offset_bounds-blocks-at
offset_bounds-blocks-at c =
    let inside = chain_inside c.args.blocks.now c.args.first (blocks_of (length c.args.text.now)) c.loop.counter c.requires (omega arith) in
    rw c.loop.invariant.at (omega arith)

pub loop-preserved : goal.loop-preserved
loop-preserved c =
    let n = c.loop.counter in
    let text = c.args.text.now in
    let old = c.args.blocks.now in
    let b = c.loop.blocks in
    let at = c.loop.at in
    let y = c.fill.new.self in
    let before = c.loop.invariant in
    let piece : c.split_at.result.0.now ≡ take 64 (drop (64 * n) text) =
    c.split_at.ensures.front ∙ ap (λ k. take k c.loop.rest.now) c.min.ensures ∙ take_min 64 c.loop.rest.now ∙ ap (take 64) before.rest in
    let ahead : 64 * n + 64 ≡ 64 * (n + 1) = omega arith in
    let next : y.next ≡ next_at b at = ap (λ (x : Block). x.next) c.fill.ensures in
    record {
      at = next ∙ before.written.links at ∙ ap (next_at old) before.at ∙ after_more old c.args.first n;
      rest = c.split_at.ensures.back ∙ ap (λ k. drop k c.loop.rest.now) c.min.ensures ∙ drop_min 64 c.loop.rest.now ∙ ap (drop 64) before.rest ∙ drop-drop 64 (64 * n) text ∙ ap (λ k. drop k text) ahead;
      len = length-set b at y ∙ before.len;
      written = written_more old b c.args.first at text c.split_at.result.0.now n y c.requires (omega arith) before.len before.written before.at piece next (ap (λ (x : Block). x.text_len) c.fill.ensures) (ap (λ (x : Block). x.bytes) c.fill.ensures);
    }
