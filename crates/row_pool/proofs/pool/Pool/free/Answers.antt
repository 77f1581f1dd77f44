use Rattle.std.proofs.Common.{◌≡◌, ℕ, ◌+◌, List, length, refl, option_map, arith, sym, ap, ◌∙◌, subst}
use Rattle.std.proofs.lemmas.List.{with_items_is}
use Rattle.std.specs.FinMap.{get}
use Rattle.std.specs.Vec.{with_items}
use Rattle.row_pool.specs.declared.block.Block.{Block}
use Rattle.row_pool.specs.Pool.{Texts, blocks_of, blocks_in, text_of, blocks_under, used_blocks}
use Rattle.row_pool.specs.Layout.{IsFreed, texts_in, text_at}
use Rattle.row_pool.proofs.Shares.{begins_with, text_chain, size_under, get-texts_in}
use Rattle.row_pool.proofs.Steps.{sound_at, freed_here, freed_other, freed_blocks, freed_sound}
use Rattle.row_pool.proofs.pool.Pool.free.Goals as goal

pub free_text-requires-clause-chain : goal.free_text-requires-clause-chain
free_text-requires-clause-chain c =
    let old = c.self.inside.blocks.items in
    let first = c.ticket.inside.first in
    let len = c.text_len.result in
    let known = ap (λ (t : Texts). option_map length (text_of t first)) c.self.view_is ∙ c.text_len.ensures in
    let live = begins_with old c.self.inside.free c.self.inside.spare first len c.self.invariant known in
    rw (c.deref_mut.ensures.value, c.blocks_for-count.ensures) (text_chain old c.self.inside.free c.self.inside.spare first len c.self.invariant live)

pub invariant_of-self : goal.invariant_of-self
invariant_of-self c =
    let old = c.self.inside.blocks.items in
    let new = c.free_text.new.blocks in
    let first = c.ticket.inside.first in
    let free = c.self.inside.free in
    let spare = c.self.inside.spare in
    let len = c.text_len.result in
    let known = ap (λ (t : Texts). option_map length (text_of t first)) c.self.view_is ∙ c.text_len.ensures in
    let live = begins_with old free spare first len c.self.invariant known in
    let freed = subst (λ n. IsFreed old new first n free) c.blocks_for-count.ensures (subst (λ (b : List Block). IsFreed b new first c.blocks_for-count.result free) c.deref_mut.ensures.value c.free_text.ensures) in
    let items = with_items_is c.self.inside.blocks new (c.free_text.auto.blocks ∙ c.deref_mut.ensures.len) in
    sound_at new _ first _ (spare + blocks_of len) _ items refl (ap (λ n. spare + n) c.blocks_for-count.ensures) (freed_sound old new free spare first len c.self.invariant live freed)

pub returns : goal.returns
returns c =
    let old = c.self.inside.blocks.items in
    let new = c.free_text.new.blocks in
    let first = c.ticket.inside.first in
    let free = c.self.inside.free in
    let spare = c.self.inside.spare in
    let len = c.text_len.result in
    let known = ap (λ (t : Texts). option_map length (text_of t first)) c.self.view_is ∙ c.text_len.ensures in
    let live = begins_with old free spare first len c.self.invariant known in
    let freed = subst (λ n. IsFreed old new first n free) c.blocks_for-count.ensures (subst (λ (b : List Block). IsFreed b new first c.blocks_for-count.result free) c.deref_mut.ensures.value c.free_text.ensures) in
    let items = with_items_is c.self.inside.blocks new (c.free_text.auto.blocks ∙ c.deref_mut.ensures.len) in
    let under : blocks_under c.args.self.now c.args.ticket ≡ blocks_of len =
    ap (blocks_under c.args.self.now) (sym c.ticket.view_is) ∙ ap (λ (t : Texts). blocks_under t first) (sym c.self.view_is) ∙ size_under old free spare first len c.self.invariant live in
    let seen : (q : ℕ) → text_at old q ≡ text_of c.args.self.now q = λ q. sym (get-texts_in old q) ∙ ap (λ (t : Texts). text_of t q) c.self.view_is in
    let now : (q : ℕ) → get (texts_in (with_items c.self.inside.blocks new).items) q ≡ text_at new q = λ q. ap (λ (b : List Block). get (texts_in b) q) items ∙ get-texts_in new q in
    record {
      updates = record {
        changed = now c.args.ticket ∙ ap (text_at new) (sym c.ticket.view_is) ∙ freed_here old new free spare first len c.self.invariant live freed;
        others = λ q other. now q ∙ freed_other old new free spare first len c.self.invariant live freed q (λ e. other (e ∙ c.ticket.view_is)) ∙ seen q;
      };
      spare = omega (arith, ap (λ (t : Texts). t.spare) c.self.view_is);
      used =
          ap (λ (b : List Block). blocks_in (texts_in b) + blocks_under c.args.self.now c.args.ticket) items
          ∙ ap (λ n. blocks_in (texts_in new) + n) under
          ∙ sym (freed_blocks old new free spare first len c.self.invariant live freed)
          ∙ ap used_blocks c.self.view_is;
    }
