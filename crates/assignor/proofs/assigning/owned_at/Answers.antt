use Rattle.std.proofs.Common.{◌≡◌, ◌∙◌, ◌++◌, ◌∷◌, [], ap, ap₂, sym, refl, ℕ, List, append_assoc, inl, inr}
use Rattle.std.specs.Prelude.{Option}
use Rattle.std.proofs.lemmas.List.{append-nil, nil_from_length}
use Rattle.ksql_types.specs.declared.relation.TaskName.{TaskName}
use Rattle.assignor.specs.declared.assignment.Owned.{Owned}
use Rattle.assignor.specs.Rule.{owned_at}
use Rattle.assignor.proofs.assigning.owned_at.Goals as goal

pub loop-task-preserved-in-Continue-1 : goal.loop-task-preserved-in-Continue-1
unfolding owned_at
loop-task-preserved-in-Continue-1 c =
    let owned : List Owned = c.loop-task.owned.items in
    let pair : Owned = record { task = c.in-Some.task.now; worker = c.in-Some-place.worker } in
    let tasks : List TaskName = c.next.new.self.a.rest.now in
    let places : List (Option ℕ) = c.next.new.self.b.rest.now in
    let steps = c.in-Some.ensures.steps in
    ap (λ (pairs : List Owned). pairs ++ owned_at tasks places) c.in_ok-push.ensures.items
    ∙ append_assoc owned (pair ∷ []) (owned_at tasks places)
    ∙ ap (λ (pairs : List Owned). owned ++ pairs) (sym (ap₂ owned_at steps.0 (steps.1 ∙ ap (λ (place : Option ℕ). place ∷ places) c.in-Some-place.is)))
    ∙ c.loop-task.invariant

pub loop-task-preserved : goal.loop-task-preserved
unfolding owned_at
loop-task-preserved c =
    let places : List (Option ℕ) = c.next.new.self.b.rest.now in
    let steps = c.in-Some.ensures.steps in
    ap (λ (pairs : List Owned). c.loop-task.owned.items ++ pairs) (sym (ap₂ owned_at steps.0 (steps.1 ∙ ap (λ (place : Option ℕ). place ∷ places) c.in_default.is)))
    ∙ c.loop-task.invariant

owned_at-none : (tasks : List TaskName) → owned_at tasks [] ≡ []
unfolding owned_at
owned_at-none [] = refl
owned_at-none (task ∷ tasks) = refl

pub returns : goal.returns
unfolding owned_at
returns c =
    let owned : List Owned = c.loop-task.owned.items in
    let tasks : List TaskName = c.loop-task.task-iterator.a.rest.now in
    let places : List (Option ℕ) = c.loop-task.task-iterator.b.rest.now in
    let ended : owned_at tasks places ≡ [] = elim c.in-None.ensures.steps [
      | inl none ↦ ap (λ (left : List TaskName). owned_at left places) (nil_from_length tasks none.1.0)
      | inr none ↦ ap (owned_at tasks) (nil_from_length places none.1.0) ∙ owned_at-none tasks
    ] in
    sym (append-nil owned) ∙ ap (λ (pairs : List Owned). owned ++ pairs) (sym ended) ∙ c.loop-task.invariant
