use Rattle.std.proofs.Common.{◌<◌, ◌-◌, length, arith, length-set}
use Rattle.row_pool.specs.declared.block.Block.{Block}
use Rattle.row_pool.proofs.Links.{chain_inside}
use Rattle.row_pool.proofs.block.free_text.Goals as goal

pub bounds-blocks-last : goal.bounds-blocks-last
bounds-blocks-last c =
    rw c.last_of-last.ensures (chain_inside c.args.blocks.now c.args.first c.args.count (c.args.count - 1) c.requires.chain (omega arith))

pub offset_bounds-blocks-last : goal.offset_bounds-blocks-last
offset_bounds-blocks-last c =
    let inside = chain_inside c.args.blocks.now c.args.first c.args.count (c.args.count - 1) c.requires.chain (omega arith) in
    rw c.last_of-last.ensures (omega arith)

pub bounds-blocks-first : goal.bounds-blocks-first
bounds-blocks-first c =
    let inside : c.args.first < length c.args.blocks.now = chain_inside c.args.blocks.now c.args.first c.args.count 0 c.requires.chain c.requires.some in
    omega (arith, length-set {A = Block})

pub offset_bounds-blocks-first : goal.offset_bounds-blocks-first
offset_bounds-blocks-first c =
    let inside : c.args.first < length c.args.blocks.now = chain_inside c.args.blocks.now c.args.first c.args.count 0 c.requires.chain c.requires.some in
    omega arith
