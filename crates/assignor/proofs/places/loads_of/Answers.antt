use Rattle.std.proofs.Common.{◌≡◌, ◌∙◌, ◌+◌, ◌<◌, ◌^◌, ap, sym, subst, ℕ, List, length, take, get_or, All, arith}
use Rattle.std.specs.Prelude.{Option, None}
use Rattle.std.proofs.lemmas.List.{take_more}
use Rattle.assignor.specs.declared.loads.Load.{Load}
use Rattle.assignor.specs.Loads.{loads_of, with_more}
use Rattle.assignor.proofs.ListLemmas.{length-take-le, written_back}
use Rattle.assignor.proofs.LoadLemmas.{loads_of-fit, with_more-end}
use Rattle.assignor.proofs.places.loads_of.Goals as goal

pub add_task-requires : goal.add_task-requires
add_task-requires c =
    let front : List (Option ℕ) = take c.loop-place.place-index c.args.places.now in
    let few = length-take-le c.loop-place.place-index c.args.places.now in
    subst (All (λ (load : Load). load.tasks + 1 < 2 ^ 64)) (sym (c.deref_mut.ensures.value ∙ c.loop-place.invariant)) (loads_of-fit c.args.live.now front (omega (arith, few)))

pub loop-place-preserved : goal.loop-place-preserved
loop-place-preserved c =
    let live = c.args.live.now in
    let places = c.args.places.now in
    let i = c.loop-place.place-index in
    let place : Option ℕ = get_or places i None in
    let loads = c.loop-place.loads in
    let now = c.deref_mut.ensures in
    let same : length c.add_task.new.loads ≡ length loads.items = c.add_task.auto.loads ∙ ap length now.value in
    written_back loads.len c.add_task.new.loads loads.items same loads.ok.0
    ∙ c.add_task.ensures
    ∙ ap (with_more place) (now.value ∙ c.loop-place.invariant)
    ∙ with_more-end place live (take i places)
    ∙ ap (loads_of live) (sym (take_more places i None c.loop-place-test.true))
