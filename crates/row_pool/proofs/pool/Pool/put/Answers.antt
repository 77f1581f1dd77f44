use Rattle.std.proofs.Common.{◌≡◌, ℕ, ◌+◌, ◌-◌, ◌≤◌, List, length, arith, rules, sym, ap, ◌∙◌, subst}
use Rattle.std.proofs.lemmas.List.{with_items_is}
use Rattle.std.specs.FinMap.{get}
use Rattle.std.specs.Vec.{with_items}
use Rattle.row_pool.specs.declared.block.Block.{Block}
use Rattle.row_pool.specs.Pool.{Texts, blocks_of, blocks_in, text_of, used_blocks}
use Rattle.row_pool.specs.Layout.{IsChain, IsPut, after, texts_in, text_at}
use Rattle.row_pool.proofs.Shares.{free_chain, get-texts_in}
use Rattle.row_pool.proofs.Steps.{sound_at, put_fresh, put_here, put_other, put_used, put_sound}
use Rattle.row_pool.proofs.pool.Pool.put.Goals as goal

-- there is room in the fields, too
room : (pool : Texts) (spare n : ℕ) → spare ≡ pool.spare → n ≤ pool.spare → n ≤ spare
room pool spare n is le = omega arith

pub put_text-self-inside-requires : goal.put_text-self-inside-requires
put_text-self-inside-requires c =
    let n = blocks_of (length c.args.text.now) in
    let spare = c.self.inside.spare in
    let fits = room c.args.self.now spare n (ap (λ (t : Texts). t.spare) c.self.view_is) c.requires in
    subst (λ (b : List Block). IsChain b c.self.inside.free n) (sym c.deref_mut.ensures.value) (free_chain c.self.inside.blocks.items c.self.inside.free spare n c.self.invariant fits)

pub invariant_of-self : goal.invariant_of-self
invariant_of-self c =
    let old = c.self.inside.blocks.items in
    let new = c.put_text-self-inside.new.blocks in
    let free = c.self.inside.free in
    let spare = c.self.inside.spare in
    let text = c.args.text.now in
    let fits = room c.args.self.now spare (blocks_of (length text)) (ap (λ (t : Texts). t.spare) c.self.view_is) c.requires in
    let put = subst (λ (b : List Block). IsPut b new free text) c.deref_mut.ensures.value c.put_text-self-inside.ensures.put in
    let items = with_items_is c.self.inside.blocks new (c.put_text-self-inside.auto.blocks ∙ c.deref_mut.ensures.len) in
    let behind = c.put_text-self-inside.ensures.behind ∙ ap (λ (b : List Block). after b free (blocks_of (length text))) c.deref_mut.ensures.value in
    sound_at new _ (after old free (blocks_of (length text))) _ (spare - blocks_of (length text)) _ items behind (ap (λ n. spare - n) c.blocks_for.ensures) (put_sound old new free spare text c.self.invariant fits put)

pub returns : goal.returns
returns c =
    let old = c.self.inside.blocks.items in
    let new = c.put_text-self-inside.new.blocks in
    let free = c.self.inside.free in
    let spare = c.self.inside.spare in
    let text = c.args.text.now in
    let fits = room c.args.self.now spare (blocks_of (length text)) (ap (λ (t : Texts). t.spare) c.self.view_is) c.requires in
    let put = subst (λ (b : List Block). IsPut b new free text) c.deref_mut.ensures.value c.put_text-self-inside.ensures.put in
    let items = with_items_is c.self.inside.blocks new (c.put_text-self-inside.auto.blocks ∙ c.deref_mut.ensures.len) in
    let seen : (q : ℕ) → text_at old q ≡ text_of c.args.self.now q = λ q. sym (get-texts_in old q) ∙ ap (λ (t : Texts). text_of t q) c.self.view_is in
    let now : (q : ℕ) → get (texts_in (with_items c.self.inside.blocks new).items) q ≡ text_at new q = λ q. ap (λ (b : List Block). get (texts_in b) q) items ∙ get-texts_in new q in
    record {
      fresh = ap (λ (t : Texts). text_of t free) (sym c.self.view_is) ∙ put_fresh old new free spare text c.self.invariant fits put;
      updates = record {
        changed = now free ∙ put_here old new free spare text c.self.invariant fits put;
        others = λ q other. now q ∙ put_other old new free spare text c.self.invariant fits put q other ∙ seen q;
      };
      spare = search rules;
      used = ap (λ (b : List Block). blocks_in (texts_in b)) items ∙ put_used old new free spare text c.self.invariant fits put ∙ ap (λ (t : Texts). used_blocks t + blocks_of (length text)) c.self.view_is;
    }
