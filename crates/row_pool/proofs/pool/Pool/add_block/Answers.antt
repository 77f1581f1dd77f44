use Rattle.std.proofs.Common.{◌≡◌, ◌-◌, [], ◌∷◌, ◌++◌, length, arith, ap, ◌∙◌}
use Rattle.row_pool.specs.Pool.{Texts}
use Rattle.row_pool.specs.Layout.{texts_in}
use Rattle.row_pool.proofs.Steps.{grown_sound, grown_texts}
use Rattle.row_pool.proofs.pool.Pool.add_block.Goals as goal

pub invariant_of-self-2 : goal.invariant_of-self-2
invariant_of-self-2 c =
    let b = c.self.inside.blocks.items in
    let y = c.free.result in
    let items : c.push.new.self.items ≡ b ++ y ∷ [] = c.in_ok-push.ensures.items in
    let at : c.len.result - 1 ≡ length b = omega (arith, c.in_ok-push.ensures.len) in
    rw (items, at) (grown_sound b c.self.inside.free c.self.inside.spare y c.self.invariant c.free.ensures.next c.free.ensures.text_len c.free.ensures.len)

pub returns-clause-texts : goal.returns-clause-texts
returns-clause-texts c =
    ap texts_in c.in_ok-push.ensures.items
    ∙ grown_texts c.self.inside.blocks.items c.self.inside.free c.self.inside.spare c.free.result c.self.invariant c.free.ensures.next c.free.ensures.text_len c.free.ensures.len
    ∙ ap (λ (t : Texts). t.texts) c.self.view_is
