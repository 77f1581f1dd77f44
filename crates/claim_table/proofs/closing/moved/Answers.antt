use Rattle.std.proofs.Common.{arith, ◌≡◌, ◌≢◌, ℕ, suc, ◌+◌, ◌<◌, Bool, false, true, List, map, take, length, set, get_or, get_or-set_other, get_or-set_same, sym, ap, ◌∙◌, subst}
use mathlib.Core.Logic.{dite}
use mathlib.Core.Option.{some}
use native.Mathlib.Decide.{ℕ_discrete}
use lib.ListN.{get_elem?}
use Rattle.std.specs.Prelude.{Option, Some}
use Rattle.std.specs.Mem.Slots.{slots_items, slots_filled, slots_len}
use Rattle.claim_table.proofs.Together.{is_there, takes_one}
use Rattle.claim_table.proofs.closing.moved.Goals as goal

pub unreachable-requires : goal.unreachable-requires
unreachable-requires g c = let all = c.requires.full.1 in
    is_there all.0 c.loop-slot.slot _ (subst (λ (l : List (Option g.row.T.Denot)). get_elem? l c.loop-slot.slot ≡ some c.take.result) (c.loop-slot.invariant.items ∙ all.1) c.take.ensures.value) c.in_default.is

pub loop-slot-preserved : goal.loop-slot-preserved
loop-slot-preserved g c = let inv = c.loop-slot.invariant in let i : ℕ = c.loop-slot.slot in let filled : List Bool = slots_filled c.loop-slot.closed.slots in let others = c.take.ensures.others in
    let n : ℕ = slots_len c.loop-slot.closed.slots in let long : n ≡ length filled = c.loop-slot.closed.slots.ok.1 in let test = c.loop-slot-test.true in let end = c.slot_count-slot-end.ensures in let same = inv.count in
    let inside : i < length filled = omega arith in let x = c.in-Some.value in record {
      items = others.0 ∙ inv.items;
      count = others.2 ∙ inv.count;
      full = λ k low high. (let ne : k ≢ i = λ e. omega arith in subst (λ (l : List Bool). get_or l k false ≡ true) (sym others.1) (get_or-set_other filled i k false false ne ∙ inv.full k (omega arith) (subst (λ (z : ℕ). k < z) others.2 high)));
      empty = λ k low. subst (λ (l : List Bool). get_or l k false ≡ false) (sym others.1) (dite (ℕ_discrete k i)
          (λ e. subst (λ (z : ℕ). get_or (set filled i false) z false ≡ false) (sym e) (get_or-set_same filled i false false inside))
          (λ ne. get_or-set_other filled i k false false ne ∙ inv.empty k (omega arith)));
      made = ap (map Some) c.in-Ok.ensures.items ∙ takes_one c.loop-slot.values.items (slots_items c.loop-slot.closed.slots) i x inv.made (c.take.ensures.value ∙ ap some c.in-Some.is)
          ∙ (λ k. take (let e : suc i ≡ i + 1 = omega arith in e k) (sym others.0 k));
      long = (let a = c.in-Ok.ensures.len in let b = inv.long in omega arith);
      room = (let a = c.in-Ok.ensures.capacity in let b = others.2 in let d = inv.room in omega arith);
    }
