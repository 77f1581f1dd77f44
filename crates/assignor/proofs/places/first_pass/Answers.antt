use Rattle.std.proofs.Common.{◌≡◌, ◌∙◌, ◌+◌, ◌<◌, ◌^◌, ◌++◌, ◌∷◌, [], ap, sym, subst, ℕ, List, length, drop, get_or, All, arith}
use Rattle.std.specs.Prelude.{Option, None}
use Rattle.std.proofs.lemmas.List.{at_drop_all, at_drop_more, length_push}
use Rattle.assignor.specs.declared.loads.Load.{Load}
use Rattle.assignor.specs.Rule.{first_pass, kept_place}
use Rattle.assignor.specs.Loads.{loads_of, kept_place_by, with_more}
use Rattle.assignor.proofs.ListLemmas.{written_back}
use Rattle.assignor.proofs.LoadLemmas.{loads_of-fit, kept_place_by-loads, with_more-end}
use Rattle.assignor.proofs.places.first_pass.Goals as goal

pub add_task-requires : goal.add_task-requires
add_task-requires c =
    let invariant = c.loop-owner.invariant in
    let count = invariant.count in
    subst (All (λ (load : Load). load.tasks + 1 < 2 ^ 64)) (sym (c.deref_mut.ensures.value ∙ invariant.loads)) (loads_of-fit c.args.live.now c.loop-owner.places.items (omega (arith, count)))

pub loop-owner-preserved : goal.loop-owner-preserved
unfolding first_pass
loop-owner-preserved c =
    let share = c.args.share in
    let live = c.args.live.now in
    let owners = c.args.owners.now in
    let i = c.loop-owner.owner-index in
    let owner : Option ℕ = get_or owners i None in
    let loads = c.loop-owner.loads in
    let places = c.loop-owner.places.items in
    let invariant = c.loop-owner.invariant in
    let count = invariant.count in
    let now = c.deref_mut.ensures in
    let place : c.kept_place-place.result ≡ kept_place share live places owner =
    c.kept_place-place.ensures ∙ ap (λ (ls : List Load). kept_place_by share ls owner) (c.deref.ensures.value ∙ invariant.loads) ∙ kept_place_by-loads share live places owner in
    let pushed = c.in_ok-push.ensures.items in
    let same : length c.add_task.new.loads ≡ length loads.items = c.add_task.auto.loads ∙ ap length now.value in
    record {
      places =
          ap (λ (ps : List (Option ℕ)). first_pass share live ps (drop (i + 1) owners)) (pushed ∙ ap (λ (last : Option ℕ). places ++ last ∷ []) place)
          ∙ sym (at_drop_more (first_pass share live places) owners i None c.loop-owner-test.true)
          ∙ invariant.places;
      loads =
          written_back loads.len c.add_task.new.loads loads.items same loads.ok.0
          ∙ c.add_task.ensures
          ∙ ap (with_more c.kept_place-place.result) (now.value ∙ invariant.loads)
          ∙ with_more-end c.kept_place-place.result live places
          ∙ ap (loads_of live) (sym pushed);
      count = ap length pushed ∙ length_push places c.kept_place-place.result ∙ ap (λ (n : ℕ). n + 1) count;
    }

pub returns : goal.returns
unfolding first_pass
returns c =
    sym (at_drop_all (first_pass c.args.share c.args.live.now c.loop-owner.places.items) c.args.owners.now c.loop-owner.owner-index c.loop-owner-test.false)
    ∙ c.loop-owner.invariant.places
