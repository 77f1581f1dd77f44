-- Events that journals tell of, one journal after another.
use Rattle.std.proofs.Common.{◌≡◌, ◌∙◌, ap, ap₂, refl, sym, subst, List, [], ◌∷◌, ◌++◌, map, append_assoc}
use Rattle.ksql_types.specs.declared.relation.TaskName.{TaskName}
use Rattle.ksql_place.specs.declared.change.SourceRecord.{SourceRecord}
use Rattle.core_state.specs.Events.{Event, advance, commit, feed, leave, offer, restore}
use Rattle.operator.specs.Holding.{Maps}
use Rattle.core_state.specs.Law.{AllHappen}
use Rattle.core_state.specs.Shelf.{Shelf}
use Rattle.core_state.specs.State.{State, Topology}
use Rattle.core_state.specs.declared.journal.JournalEntry.{JournalEntry}
use Rattle.core_state.specs.declared.journal.JournalEntry.TheVariants as entry
use Rattle.task_core.specs.declared.task.Moved.{Moved}
use Rattle.cluster_laws.specs.Told.{committing, told}
use Rattle.cluster_laws.proofs.Running.{on_shelf}

-- events happen, and then others
pub happen-append : {E H : Type 0} (top : Topology E H) (es fs : List Event) (s mid last : State H) → AllHappen top es s mid → AllHappen top fs mid last → AllHappen top (es ++ fs) s last
happen-append top [] fs s mid last same then = subst (λ (x : State _). AllHappen top fs x last) (sym same) then
happen-append top (e ∷ es) fs s mid last first then = (first.0, first.1, happen-append top es fs first.0 mid last first.2 then)

-- what happens to the tasks after one of them, which runs at its place
pub happen-along : {E : Type 0} (top : Topology E (List Maps)) (es : List Event) (b c : Shelf) (front : List Moved) (m : Moved) (xs ys : List Moved) →
    AllHappen top es (on_shelf b ((front ++ m ∷ []) ++ xs)) (on_shelf c ((front ++ m ∷ []) ++ ys)) → AllHappen top es (on_shelf b (front ++ m ∷ xs)) (on_shelf c (front ++ m ∷ ys))
happen-along top es b c front m xs ys happen =
    subst (λ (ms : List Moved). AllHappen top es (on_shelf b (front ++ m ∷ xs)) (on_shelf c ms)) (append_assoc front (m ∷ []) ys)
    (subst (λ (ms : List Moved). AllHappen top es (on_shelf b ms) (on_shelf c ((front ++ m ∷ []) ++ ys))) (append_assoc front (m ∷ []) xs) happen)

-- a journal before one that begins with no commit begins with the same commits
committing-append : (xs ys : List JournalEntry) → committing ys ≡ [] → committing (xs ++ ys) ≡ committing xs
committing-append [] ys none = none
committing-append (entry.Step line ∷ xs) ys none = refl
committing-append (entry.Round number ∷ xs) ys none = refl
committing-append (entry.Fed number many ∷ xs) ys none = refl
committing-append (entry.Committed t from to ∷ xs) ys none = ap (λ us. t ∷ us) (committing-append xs ys none)
committing-append (entry.Left t generation ∷ xs) ys none = refl
committing-append (entry.Restored t worker generation done ∷ xs) ys none = refl
committing-append (entry.Fenced t held newest ∷ xs) ys none = refl

pub none-committing : (xs ys : List JournalEntry) → committing xs ≡ [] → committing ys ≡ [] → committing (xs ++ ys) ≡ []
none-committing xs ys first second = committing-append xs ys second ∙ first

-- they tell of the events of the one and then of those of the other
pub told-append : (records : List SourceRecord) (xs ys : List JournalEntry) → committing ys ≡ [] → told records (xs ++ ys) ≡ told records xs ++ told records ys
told-append records [] ys none = refl
told-append records (entry.Step line ∷ xs) ys none = told-append records xs ys none
told-append records (entry.Round number ∷ xs) ys none =
    ap₂ (λ (us : List TaskName) (es : List Event). map advance us ++ es) (committing-append xs ys none) (told-append records xs ys none)
    ∙ sym (append_assoc (map advance (committing xs)) (told records xs) (told records ys))
told-append records (entry.Fed number many ∷ xs) ys none = ap (λ es. feed records ∷ es) (told-append records xs ys none)
told-append records (entry.Committed t from to ∷ xs) ys none = ap (λ es. commit t ∷ es) (told-append records xs ys none)
told-append records (entry.Left t generation ∷ xs) ys none = ap (λ es. leave t ∷ es) (told-append records xs ys none)
told-append records (entry.Restored t worker generation done ∷ xs) ys none = ap (λ es. restore t ∷ es) (told-append records xs ys none)
told-append records (entry.Fenced t held newest ∷ xs) ys none = ap (λ es. offer t ∷ es) (told-append records xs ys none)
