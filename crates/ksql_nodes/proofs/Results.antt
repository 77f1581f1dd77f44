-- What steps give for entries, whatever a step gives for one.
use Rattle.std.proofs.Common.{◌≡◌, ◌∙◌, ap, refl, sym, List, [], ◌∷◌, ◌++◌, map, append_assoc}
use Rattle.std.proofs.lemmas.List.{append-nil, map-append}
use Rattle.ksql_place.specs.declared.change.Change.{Change}
use Rattle.ksql_nodes.specs.Entries.{Entry, Step, results, from_side, through}
use Rattle.ksql_nodes.specs.Steps.{followed_by, as_one}

-- the results on some entries and then others
pub results-append : {A B : Type 0} (step : List A → A → List B) (before xs ys : List A) →
    results step before (xs ++ ys) ≡ results step before xs ++ results step (before ++ xs) ys
results-append step before [] ys = ap (λ b. results step b ys) (sym (append-nil before))
results-append step before (x ∷ xs) ys =
    ap (λ rest. step before x ++ rest) (results-append step (before ++ x ∷ []) xs ys)
    ∙ sym (append_assoc (step before x) (results step (before ++ x ∷ []) xs) (results step ((before ++ x ∷ []) ++ xs) ys))
    ∙ ap (λ b. (step before x ++ results step (before ++ x ∷ []) xs) ++ results step b ys) (append_assoc before (x ∷ []) xs)

-- one entry more
pub results-more : {A B : Type 0} (step : List A → A → List B) (before es : List A) (e : A) →
    results step before (es ++ e ∷ []) ≡ results step before es ++ step (before ++ es) e
results-more step before es e =
    results-append step before es (e ∷ []) ∙ ap (λ rest. results step before es ++ rest) (append-nil (step (before ++ es) e))

abbrev pub entry : Change → Entry
entry c = record { side = 0; change = c }

-- two steps in a row act as one
pub results-followed_by : (first second : Step) (before es : List Entry) →
    results second (from_side 0 (results first [] before)) (from_side 0 (results first before es)) ≡ results (followed_by first second) before es
results-followed_by first second before [] = refl
results-followed_by first second before (e ∷ es) =
    let now : List Change = first before e in
    let later : List Change = results first (before ++ e ∷ []) es in
    let seen : List Entry = from_side 0 (results first [] before) in
    ap (results second seen) (map-append entry now later)
    ∙ results-append second seen (from_side 0 now) (from_side 0 later)
    ∙ ap (λ b. results second seen (from_side 0 now) ++ results second b (from_side 0 later))
    (sym (ap (map entry) (results-more first [] before e) ∙ map-append entry (results first [] before) now))
    ∙ ap (λ rest. results second seen (from_side 0 now) ++ rest) (results-followed_by first second (before ++ e ∷ []) es)

results-each : (before es : List Entry) → results (λ b e. e.change ∷ []) before es ≡ map (λ e. e.change) es
results-each before [] = refl
results-each before (e ∷ es) = ap (λ rest. e.change ∷ rest) (results-each (before ++ e ∷ []) es)

-- steps in a row act as one
pub through-as_one : (steps : List Step) (es : List Entry) → through steps es ≡ results (as_one steps) [] es
through-as_one [] es = sym (results-each [] es)
through-as_one (step ∷ steps) es =
    through-as_one steps (from_side 0 (results step [] es)) ∙ results-followed_by step (as_one steps) [] es
