-- Results cut by a test of stamps.
use Rattle.std.proofs.Common.{◌≡◌, ◌∙◌, ap, ap₂, refl, sym, subst, List, [], ◌∷◌, ◌++◌, Bool, true, false, cond}
use Rattle.std.proofs.lemmas.List.Elements.{filter-append}
use Rattle.std.specs.Prelude.{filter}
use Rattle.std.specs.List.{AllByRecursion}
use Rattle.ksql_place.specs.Ascending.{PassesFirst}
use Rattle.ksql_place.specs.declared.change.Change.{Change}
use Rattle.ksql_place.specs.declared.stamp.Stamp.{Stamp}
use Rattle.ksql_nodes.specs.Entries.{Entry, Step, results, from_side, through}
use Rattle.ksql_nodes.specs.Steps.{followed_by, as_one, KeepsStamp}
use Rattle.ksql_nodes.proofs.Lists.{All-append}
use Rattle.ksql_nodes.proofs.Results.{entry, through-as_one}

abbrev passes : (Stamp → Bool) → Change → Bool
passes p c = p c.place.stamp

abbrev enters : (Stamp → Bool) → Entry → Bool
enters p e = p e.change.place.stamp

-- changes of one stamp pass all or none
filter-kept : (p : Stamp → Bool) (s : Stamp) (cs : List Change) → AllByRecursion (λ c. c.place.stamp ≡ s) cs → p s ≡ true → filter (passes p) cs ≡ cs
filter-kept p s [] same is = refl
filter-kept p s (c ∷ cs) same is =
    ap (λ b. cond b (c ∷ filter (passes p) cs) (filter (passes p) cs)) (ap p same.0 ∙ is) ∙ ap (λ rest. c ∷ rest) (filter-kept p s cs same.1 is)

filter-dropped : (p : Stamp → Bool) (s : Stamp) (cs : List Change) → AllByRecursion (λ c. c.place.stamp ≡ s) cs → p s ≡ false → filter (passes p) cs ≡ []
filter-dropped p s [] same is = refl
filter-dropped p s (c ∷ cs) same is =
    ap (λ b. cond b (c ∷ filter (passes p) cs) (filter (passes p) cs)) (ap p same.0 ∙ is) ∙ filter-dropped p s cs same.1 is

-- after an entry that doesn't pass none does
none-pass : (p : Stamp → Bool) (s : Stamp) (es : List Entry) → AllByRecursion (λ later. p later.change.place.stamp ≡ true → p s ≡ true) es → p s ≡ false →
    AllByRecursion (λ later. p later.change.place.stamp ≡ false) es
none-pass p s [] first is = tt
none-pass p s (e ∷ es) first is = (by (p e.change.place.stamp) first.0, none-pass p s es first.1 is)
  where
    by : (b : Bool) → (b ≡ true → p s ≡ true) → b ≡ false
    by false h = refl
    by true h = sym (h refl) ∙ is

filter-none : (p : Stamp → Bool) (es : List Entry) → AllByRecursion (λ later. p later.change.place.stamp ≡ false) es → filter (enters p) es ≡ []
filter-none p [] none = refl
filter-none p (e ∷ es) none = ap (λ b. cond b (e ∷ filter (enters p) es) (filter (enters p) es)) none.0 ∙ filter-none p es none.1

results-none : (p : Stamp → Bool) (step : Step) → KeepsStamp step → (before es : List Entry) → AllByRecursion (λ later. p later.change.place.stamp ≡ false) es →
    filter (passes p) (results step before es) ≡ []
results-none p step keeps before [] none = refl
results-none p step keeps before (e ∷ es) none =
    filter-append (passes p) (step before e) (results step (before ++ e ∷ []) es)
    ∙ ap₂ (λ xs ys. xs ++ ys) (filter-dropped p e.change.place.stamp (step before e) (keeps before e) none.0) (results-none p step keeps (before ++ e ∷ []) es none.1)

-- cutting the results is cutting the entries
results-cut : (p : Stamp → Bool) (step : Step) → KeepsStamp step → (before es : List Entry) → PassesFirst (enters p) es →
    filter (passes p) (results step before es) ≡ results step before (filter (enters p) es)
results-cut p step keeps before [] first = refl
results-cut p step keeps before (e ∷ es) first = by (p e.change.place.stamp) refl (results-cut p step keeps (before ++ e ∷ []) es first.1)
  where
    by : (b : Bool) → p e.change.place.stamp ≡ b →
        filter (passes p) (results step (before ++ e ∷ []) es) ≡ results step (before ++ e ∷ []) (filter (enters p) es) →
        filter (passes p) (step before e ++ results step (before ++ e ∷ []) es) ≡ results step before (cond b (e ∷ filter (enters p) es) (filter (enters p) es))
    by true is ih =
        filter-append (passes p) (step before e) (results step (before ++ e ∷ []) es)
        ∙ ap₂ (λ xs ys. xs ++ ys) (filter-kept p e.change.place.stamp (step before e) (keeps before e) is) ih
    by false is ih =
        let none : AllByRecursion (λ later. p later.change.place.stamp ≡ false) es = none-pass p e.change.place.stamp es first.0 is in
        results-none p step keeps before (e ∷ es) (is, none) ∙ ap (results step before) (sym (filter-none p es none))

-- a step after a step keeps the stamp
keeps-results : (step : Step) (s : Stamp) → KeepsStamp step → (before : List Entry) (cs : List Change) → AllByRecursion (λ c. c.place.stamp ≡ s) cs →
    AllByRecursion (λ c. c.place.stamp ≡ s) (results step before (from_side 0 cs))
keeps-results step s keeps before [] same = tt
keeps-results step s keeps before (c ∷ cs) same =
    All-append (λ d. d.place.stamp ≡ s) (step before (entry c)) (results step (before ++ entry c ∷ []) (from_side 0 cs))
    (subst (λ t. AllByRecursion (λ d. d.place.stamp ≡ t) (step before (entry c))) same.0 (keeps before (entry c)))
    (keeps-results step s keeps (before ++ entry c ∷ []) cs same.1)

followed_by-keeps : (first second : Step) → KeepsStamp first → KeepsStamp second → KeepsStamp (followed_by first second)
followed_by-keeps first second first_keeps second_keeps before e = keeps-results second e.change.place.stamp second_keeps (from_side 0 (results first [] before)) (first before e) (first_keeps before e)

as_one-keeps : (steps : List Step) → AllByRecursion KeepsStamp steps → KeepsStamp (as_one steps)
as_one-keeps [] all before e = (refl, tt)
as_one-keeps (step ∷ steps) all before e = followed_by-keeps step (as_one steps) all.0 (as_one-keeps steps all.1) before e

-- cutting what entries give is cutting the entries
pub through-cut : (p : Stamp → Bool) (steps : List Step) → AllByRecursion KeepsStamp steps → (es : List Entry) → PassesFirst (enters p) es →
    filter (passes p) (through steps es) ≡ through steps (filter (enters p) es)
through-cut p steps keeps es first =
    ap (filter (passes p)) (through-as_one steps es) ∙ results-cut p (as_one steps) (as_one-keeps steps keeps) [] es first
    ∙ sym (through-as_one steps (filter (enters p) es))
