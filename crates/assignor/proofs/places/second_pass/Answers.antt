use Rattle.std.proofs.Common.{◌≡◌, ◌∙◌, ◌+◌, ◌<◌, ◌^◌, ◌++◌, ◌∷◌, [], ap, sym, subst, refl, ℕ, List, length, drop, get_or, All, arith, length-append, append_assoc}
use Rattle.std.specs.Prelude.{Option, None, Some}
use Rattle.std.proofs.lemmas.List.{at_drop_all, at_drop_more, length-drop, length_push}
use Rattle.assignor.specs.declared.loads.Load.{Load}
use Rattle.assignor.specs.Rule.{second_pass}
use Rattle.assignor.specs.Loads.{after_next, next_place, loads_of}
use Rattle.assignor.proofs.ListLemmas.{written_back}
use Rattle.assignor.proofs.LoadLemmas.{after_next-loads, lightest_worker-loads, loads_of-fit}
use Rattle.assignor.proofs.places.second_pass.Goals as goal

pub next_place-place-requires : goal.next_place-place-requires
next_place-place-requires c =
    let invariant = c.loop-place.invariant in
    let places = c.loop-place.places.items in
    let rest : List (Option ℕ) = drop c.loop-place.place-index c.args.kept.now in
    let count = invariant.count in
    let all = length-append places rest in
    let left = length-drop c.loop-place.place-index c.args.kept.now in
    subst (All (λ (load : Load). load.tasks + 1 < 2 ^ 64)) (sym (c.deref_mut.ensures.value ∙ invariant.loads)) (loads_of-fit c.args.live.now (places ++ rest) (omega (arith, count, all, left)))

-- the next task at its place
second_pass-step : (place : Option ℕ) (live : List ℕ) (before rest : List (Option ℕ)) →
    second_pass live (before ++ next_place place (loads_of live (before ++ place ∷ rest)) ∷ []) rest ≡ second_pass live before (place ∷ rest)
unfolding second_pass
second_pass-step (Some worker) live before rest = refl
second_pass-step None live before rest = ap (λ (w : Option ℕ). second_pass live (before ++ w ∷ []) rest) (lightest_worker-loads live (before ++ None ∷ rest))

pub loop-place-preserved : goal.loop-place-preserved
loop-place-preserved c =
    let live = c.args.live.now in
    let kept = c.args.kept.now in
    let i = c.loop-place.place-index in
    let place : Option ℕ = get_or kept i None in
    let rest : List (Option ℕ) = drop (i + 1) kept in
    let loads = c.loop-place.loads in
    let places = c.loop-place.places.items in
    let invariant = c.loop-place.invariant in
    let count = invariant.count in
    let test = c.loop-place-test.true in
    let before : c.deref_mut.result.now ≡ loads_of live (places ++ place ∷ rest) =
    c.deref_mut.ensures.value ∙ invariant.loads ∙ at_drop_more (λ (ps : List (Option ℕ)). loads_of live (places ++ ps)) kept i None test in
    let put : c.next_place-place.result ≡ next_place place (loads_of live (places ++ place ∷ rest)) = c.next_place-place.ensures.place ∙ ap (next_place place) before in
    let pushed = c.in_ok-push.ensures.items in
    let same : length c.next_place-place.new.loads ≡ length loads.items = c.next_place-place.auto.loads ∙ ap length c.deref_mut.ensures.value in
    record {
      places =
          ap (λ (ps : List (Option ℕ)). second_pass live ps rest) (pushed ∙ ap (λ (last : Option ℕ). places ++ last ∷ []) put)
          ∙ second_pass-step place live places rest
          ∙ sym (at_drop_more (second_pass live places) kept i None test)
          ∙ invariant.places;
      loads =
          written_back loads.len c.next_place-place.new.loads loads.items same loads.ok.0
          ∙ c.next_place-place.ensures.loads
          ∙ ap (after_next place) before
          ∙ after_next-loads place live places rest
          ∙ ap (λ (last : Option ℕ). loads_of live (places ++ last ∷ rest)) (sym put)
          ∙ ap (loads_of live) (sym (append_assoc places (c.next_place-place.result ∷ []) rest))
          ∙ ap (λ (ps : List (Option ℕ)). loads_of live (ps ++ rest)) (sym pushed);
      count = ap length pushed ∙ length_push places c.next_place-place.result ∙ ap (λ (n : ℕ). n + 1) count;
    }

pub returns : goal.returns
unfolding second_pass
returns c =
    sym (at_drop_all (second_pass c.args.live.now c.loop-place.places.items) c.args.kept.now c.loop-place.place-index c.loop-place-test.false)
    ∙ c.loop-place.invariant.places
