use Rattle.std.proofs.Common.{◌≡◌, length, None, Some, IsTrue, is_some, option_map, arith, sym, ap, ◌∙◌, subst}
use Rattle.std.proofs.lemmas.List.{get_or_read}
use Rattle.row_pool.specs.declared.block.Block.{Block}
use Rattle.row_pool.specs.Pool.{Texts, text_of}
use Rattle.row_pool.specs.Layout.{no_block, len_at}
use Rattle.row_pool.proofs.Shares.{live_begins, len_at_inside, len_under}
use Rattle.row_pool.proofs.pool.Pool.text_len.Goals as goal

pub index-requires : goal.index-requires
index-requires c =
    let live = subst (λ (t : Texts). IsTrue (is_some (text_of t c.args.first))) (sym c.self.view_is) c.requires in
    let begins = live_begins c.self.inside.blocks.items c.args.first live in
    let inside = len_at_inside c.self.inside.blocks.items c.args.first begins.0 begins.1 in
    omega arith

pub unreachable-requires : goal.unreachable-requires
unreachable-requires c =
    let live = subst (λ (t : Texts). IsTrue (is_some (text_of t c.args.first))) (sym c.self.view_is) c.requires in
    let begins = live_begins c.self.inside.blocks.items c.args.first live in
    let inside = len_at_inside c.self.inside.blocks.items c.args.first begins.0 begins.1 in
    let read = get_or_read c.self.inside.blocks.items c.args.first c.index.result.now inside c.index.ensures no_block in
    let none : len_at c.self.inside.blocks.items c.args.first ≡ None = ap (λ (x : Block). x.text_len) (sym read) ∙ c.in-None.is in
    let some = begins.1 in
    cc

pub returns : goal.returns
returns c =
    let live = subst (λ (t : Texts). IsTrue (is_some (text_of t c.args.first))) (sym c.self.view_is) c.requires in
    let begins = live_begins c.self.inside.blocks.items c.args.first live in
    let inside = len_at_inside c.self.inside.blocks.items c.args.first begins.0 begins.1 in
    let read = get_or_read c.self.inside.blocks.items c.args.first c.index.result.now inside c.index.ensures no_block in
    let some : len_at c.self.inside.blocks.items c.args.first ≡ Some c.in-Some.len = ap (λ (x : Block). x.text_len) (sym read) ∙ c.in-Some.is in
    ap (λ (t : Texts). option_map length (text_of t c.args.first)) (sym c.self.view_is)
    ∙ len_under c.self.inside.blocks.items c.self.inside.free c.self.inside.spare c.args.first c.in-Some.len c.self.invariant some
