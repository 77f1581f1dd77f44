-- The instances of tasks that run, found by their names.
use Rattle.std.proofs.Common.{◌≡◌, ◌∙◌, ap, ap₂, refl, sym, List, [], ◌∷◌, ◌++◌, Bool, true, false, eq-eqb, true≢false}
use Rattle.std.proofs.lemmas.Bool.{eqb-true}
use Rattle.std.specs.Prelude.{◌&&◌, ◌==◌, if◌then◌else◌, Option, Some, None}
use Rattle.std.specs.List.{AllByRecursion}
use Rattle.ksql_types.specs.declared.relation.TaskName.{TaskName}
use Rattle.operator.specs.Holding.{Maps}
use Rattle.core_state.specs.Shelf.{Parts, Shelf, state_of}
use Rattle.core_state.specs.State.{Instance, State}
use Rattle.task_core.specs.declared.task.Moved.{Moved}
use Rattle.cluster_laws.specs.Tasks.{instance_in, instance_of, is_named}

-- the core of a shelf and of tasks that run
abbrev pub parts_of : Shelf → List Moved → Parts (List Maps)
parts_of b running = record { shelf = b; instance = instance_in running; held = λ u. [] }

abbrev pub on_shelf : Shelf → List Moved → State (List Maps)
on_shelf b running = state_of (parts_of b running)

pub both-true : (a b : Bool) → (a && b) ≡ true → (a ≡ true) × (b ≡ true)
both-true true true is = (refl, refl)
both-true true false is = absurd (true≢false (sym is))
both-true false b is = absurd (true≢false (sym is))

pub named-itself : (u : TaskName) (m : Moved) → m.task.name ≡ u → is_named u m ≡ true
named-itself u m is = ap₂ (λ a b. a && b) (eq-eqb m.task.name.sub u.sub (ap (λ (v : TaskName). v.sub) is)) (eq-eqb m.task.name.part u.part (ap (λ (v : TaskName). v.part) is))

pub named-other : (u : TaskName) (m : Moved) → (m.task.name ≡ u → ⊥) → is_named u m ≡ false
named-other u m apart = by (is_named u m) refl
  where
    by : (b : Bool) → is_named u m ≡ b → b ≡ false
    by false is = refl
    by true is =
        let tests = both-true (m.task.name.sub == u.sub) (m.task.name.part == u.part) is in
        let sub = eqb-true m.task.name.sub u.sub tests.0 in
        let part = eqb-true m.task.name.part u.part tests.1 in
        absurd (apart (λ i. record { sub = sub i; part = part i }))

-- a task that no earlier one has the name of is found
pub instance-here : (front : List Moved) (m : Moved) (back : List Moved) → AllByRecursion (λ (x : Moved). x.task.name ≡ m.task.name → ⊥) front →
    instance_in (front ++ m ∷ back) m.task.name ≡ Some (instance_of m)
instance-here [] m back apart = ap (λ b. if b then Some (instance_of m) else instance_in back m.task.name) (named-itself m.task.name m refl)
instance-here (x ∷ front) m back apart =
    ap (λ b. if b then Some (instance_of x) else instance_in (front ++ m ∷ back) m.task.name) (named-other m.task.name x apart.0)
    ∙ instance-here front m back apart.1

-- other tasks are found as before after one of them changed
pub instance-else : (front : List Moved) (m next : Moved) (back : List Moved) (u : TaskName) → next.task.name ≡ m.task.name → (u ≡ m.task.name → ⊥) →
    instance_in (front ++ next ∷ back) u ≡ instance_in (front ++ m ∷ back) u
instance-else [] m next back u same apart =
    ap (λ b. if b then Some (instance_of next) else instance_in back u) (named-other u next (λ is. apart (sym is ∙ same)))
    ∙ sym (ap (λ b. if b then Some (instance_of m) else instance_in back u) (named-other u m (λ is. apart (sym is))))
instance-else (x ∷ front) m next back u same apart =
    ap (λ (o : Option (Instance (List Maps))). if is_named u x then Some (instance_of x) else o) (instance-else front m next back u same apart)

-- other tasks are found as before after one of them is gone
pub instance-without : (front : List Moved) (m : Moved) (back : List Moved) (u : TaskName) → (u ≡ m.task.name → ⊥) → instance_in (front ++ back) u ≡ instance_in (front ++ m ∷ back) u
instance-without [] m back u apart = sym (ap (λ b. if b then Some (instance_of m) else instance_in back u) (named-other u m (λ is. apart (sym is))))
instance-without (x ∷ front) m back u apart =
    ap (λ (o : Option (Instance (List Maps))). if is_named u x then Some (instance_of x) else o) (instance-without front m back u apart)

-- a task that none has the name of isn't found
pub instance-none : (running : List Moved) (u : TaskName) → AllByRecursion (λ (x : Moved). x.task.name ≡ u → ⊥) running → instance_in running u ≡ None
instance-none [] u apart = refl
instance-none (x ∷ xs) u apart = ap (λ b. if b then Some (instance_of x) else instance_in xs u) (named-other u x apart.0) ∙ instance-none xs u apart.1
