use Rattle.std.proofs.Common.{◌≡◌, ◌∙◌, ◌⊎◌, length, sym, inl, inr}
use Rattle.std.specs.Iterator.Adapters.{zip_first, zip_second}
use Rattle.std.specs.Slice.Iter.{iter_rest}
use Rattle.run_text.proofs.RowLemmas.{cells-spent}
use Rattle.run_text.proofs.rows.cmp_several.Goals as goal

pub returns : goal.returns
returns c =
    let first = iter_rest (zip_first c.loop-first.first-iterator) in
    let second = iter_rest (zip_second c.loop-first.first-iterator) in
    let none : (length first ≡ 0) ⊎ (length second ≡ 0) =
    elim c.in-None.ensures.steps [ inl spent ↦ inl spent.1.0 | inr spent ↦ inr spent.1.0 ] in
    c.cmp.ensures ∙ sym (c.loop-first.invariant.same ∙ cells-spent first second _ _ none c.loop-first.invariant.left)
