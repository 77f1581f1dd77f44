use Rattle.std.proofs.Common.{List, length, Some, option_map, sym, ap, ◌∙◌, subst}
use Rattle.row_pool.specs.declared.block.Block.{Block}
use Rattle.row_pool.specs.Pool.{Texts, blocks_of, text_of}
use Rattle.row_pool.specs.Layout.{IsChain, text_from}
use Rattle.row_pool.proofs.Shares.{begins_with, text_chain, text_under}
use Rattle.row_pool.proofs.pool.Pool.get.Goals as goal

pub read_text-requires : goal.read_text-requires
read_text-requires c =
    let b = c.self.inside.blocks.items in
    let n = length c.args.into.now in
    let known = ap (option_map length) (ap (λ (t : Texts). text_of t c.ticket.inside.first) c.self.view_is ∙ ap (text_of c.args.self.now) c.ticket.view_is) ∙ c.requires in
    let begins = begins_with b c.self.inside.free c.self.inside.spare c.ticket.inside.first n c.self.invariant known in
    subst (λ (xs : List Block). IsChain xs c.ticket.inside.first (blocks_of n)) (sym c.deref.ensures.value) (text_chain b c.self.inside.free c.self.inside.spare c.ticket.inside.first n c.self.invariant begins)

pub returns : goal.returns
returns c =
    let b = c.self.inside.blocks.items in
    let n = length c.args.into.now in
    let first = c.ticket.inside.first in
    let seen = ap (λ (t : Texts). text_of t first) c.self.view_is ∙ ap (text_of c.args.self.now) c.ticket.view_is in
    let begins = begins_with b c.self.inside.free c.self.inside.spare first n c.self.invariant (ap (option_map length) seen ∙ c.requires) in
    sym seen ∙ text_under b first n begins ∙ ap (λ (xs : List Block). Some (text_from xs first n)) (sym c.deref.ensures.value) ∙ ap Some (sym c.read_text.ensures)
