use Rattle.std.proofs.Common.{◌≡◌, ◌+◌, ◌-◌, arith, ◌∙◌, ap}
use Rattle.row_pool.specs.Layout.{after, next_at}
use Rattle.row_pool.proofs.Links.{chain_inside, after_more}
use Rattle.row_pool.proofs.block.last_of.Goals as goal

pub offset_bounds-blocks-at : goal.offset_bounds-blocks-at
offset_bounds-blocks-at c =
    let inside = chain_inside c.args.blocks.now c.args.first c.args.count (c.loop.counter - 1) c.requires.chain (omega arith) in
    rw c.loop.invariant (omega arith)

pub bounds-blocks-at : goal.bounds-blocks-at
bounds-blocks-at c = rw c.loop.invariant (chain_inside c.args.blocks.now c.args.first c.args.count (c.loop.counter - 1) c.requires.chain (omega arith))

pub loop-preserved : goal.loop-preserved
loop-preserved c =
    let step : c.loop.counter - 1 + 1 ≡ c.loop.counter + 1 - 1 = omega arith in
    ap (next_at c.args.blocks.now) c.loop.invariant ∙ after_more c.args.blocks.now c.args.first (c.loop.counter - 1) ∙ ap (after c.args.blocks.now c.args.first) step
