-- Changes that pass a test of stamps come first if the entries do.
use Rattle.std.proofs.Common.{◌≡◌, ◌∙◌, ap, sym, List, [], ◌∷◌, ◌++◌, Bool, true}
use Rattle.std.specs.List.{AllByRecursion}
use Rattle.ksql_place.specs.Ascending.{PassesFirst}
use Rattle.ksql_place.specs.declared.change.Change.{Change}
use Rattle.ksql_place.specs.declared.stamp.Stamp.{Stamp}
use Rattle.ksql_nodes.specs.Entries.{Entry, Step, results, from_side, through}
use Rattle.ksql_nodes.specs.Steps.{KeepsStamp}
use Rattle.ksql_nodes.proofs.Lists.{All-append}
use Rattle.meaning_laws.proofs.Lists.{All-weaker, first-map}

module _ (p : Stamp → Bool) where
  abbrev pub passes : Change → Bool
  passes c = p c.place.stamp

  abbrev pub enters : Entry → Bool
  enters e = p e.change.place.stamp

  -- where a stamp passes, an earlier one does
  abbrev pub PassesAfter : Stamp → Stamp → Type 0
  PassesAfter s t = p t ≡ true → p s ≡ true

  -- the changes of one stamp before those of later ones
  pub first-append : (s : Stamp) (now later : List Change) → AllByRecursion (λ c. c.place.stamp ≡ s) now → AllByRecursion (λ d. PassesAfter s d.place.stamp) later →
      PassesFirst passes later → PassesFirst passes (now ++ later)
  first-append s [] later same after first = first
  first-append s (c ∷ cs) later same after first = (
    All-append (λ d. PassesAfter c.place.stamp d.place.stamp) cs later
        (All-weaker (λ (d : Change). d.place.stamp ≡ s) (λ d. PassesAfter c.place.stamp d.place.stamp) (λ d is h. ap p (same.0 ∙ sym is) ∙ h) cs same.1)
        (All-weaker (λ (d : Change). PassesAfter s d.place.stamp) (λ d. PassesAfter c.place.stamp d.place.stamp) (λ d h is. ap p same.0 ∙ h is) later after),
    first-append s cs later same.1 after first,
  )

  results-after : (step : Step) → KeepsStamp step → (s : Stamp) (before es : List Entry) → AllByRecursion (λ e. PassesAfter s e.change.place.stamp) es →
      AllByRecursion (λ c. PassesAfter s c.place.stamp) (results step before es)
  results-after step keeps s before [] after = tt
  results-after step keeps s before (e ∷ es) after =
      All-append (λ c. PassesAfter s c.place.stamp) (step before e) (results step (before ++ e ∷ []) es)
      (All-weaker (λ (c : Change). c.place.stamp ≡ e.change.place.stamp) (λ c. PassesAfter s c.place.stamp) (λ c is h. after.0 (ap p (sym is) ∙ h)) (step before e) (keeps before e))
      (results-after step keeps s (before ++ e ∷ []) es after.1)

  results-first : (step : Step) → KeepsStamp step → (before es : List Entry) → PassesFirst enters es → PassesFirst passes (results step before es)
  results-first step keeps before [] first = tt
  results-first step keeps before (e ∷ es) first =
      first-append e.change.place.stamp (step before e) (results step (before ++ e ∷ []) es) (keeps before e)
      (results-after step keeps e.change.place.stamp (before ++ e ∷ []) es first.0) (results-first step keeps (before ++ e ∷ []) es first.1)

  pub through-first : (steps : List Step) → AllByRecursion KeepsStamp steps → (es : List Entry) → PassesFirst enters es → PassesFirst passes (through steps es)
  through-first [] keep es first = first-map passes (λ e. e.change) es first
  through-first (step ∷ steps) keep es first =
      through-first steps keep.1 (from_side 0 (results step [] es))
      (first-map enters (λ c. record { side = 0; change = c }) (results step [] es) (results-first step keep.0 [] es first))
