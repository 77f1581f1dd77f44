-- The results on some entries are those that pass a test, if a result passes exactly if its entry does.
use Rattle.std.proofs.Common.{◌≡◌, ◌∙◌, ap, ap₂, refl, sym, List, [], ◌∷◌, ◌++◌, Bool, true, false, cond}
use Rattle.std.proofs.lemmas.List.{append-nil}
use Rattle.std.proofs.lemmas.List.Elements.{filter-append}
use Rattle.std.specs.Prelude.{filter}
use Rattle.std.specs.List.{AllByRecursion}
use Rattle.ksql_place.specs.declared.change.Change.{Change}
use Rattle.ksql_nodes.specs.Entries.{Entry, Step, results}
use Rattle.ksql_nodes.proofs.Lists.{All-append}

-- changes that all pass, or all fail
filter-evenly : (to : Change → Bool) (b : Bool) (cs : List Change) → AllByRecursion (λ c. to c ≡ b) cs → filter to cs ≡ cond b cs []
filter-evenly to true [] same = refl
filter-evenly to false [] same = refl
filter-evenly to true (c ∷ cs) same = ap₂ (λ b rest. cond b (c ∷ rest) rest) same.0 (filter-evenly to true cs same.1)
filter-evenly to false (c ∷ cs) same = ap₂ (λ b rest. cond b (c ∷ rest) rest) same.0 (filter-evenly to false cs same.1)

-- `own` is the step of the entries that pass, and `whole` that of all entries
pub divided : (Good : Entry → Type 0) (p : Entry → Bool) (to : Change → Bool) (own whole : Step) →
    ((before : List Entry) (e : Entry) → Good e → AllByRecursion (λ c. to c ≡ p e) (whole before e)) →
    ((before : List Entry) (e : Entry) → AllByRecursion Good before → Good e → p e ≡ true → own (filter p before) e ≡ whole before e) →
    (before es : List Entry) → AllByRecursion Good before → AllByRecursion Good es →
    results own (filter p before) (filter p es) ≡ filter to (results whole before es)
divided Good p to own whole each same before [] seen good = refl
divided Good p to own whole each same before (e ∷ es) seen good =
    by (p e) refl (filter-evenly to (p e) (whole before e) (each before e good.0))
    (divided Good p to own whole each same (before ++ e ∷ []) es (All-append Good before (e ∷ []) seen (good.0, tt)) good.1)
  where
    more : (b : Bool) → p e ≡ b → filter p (before ++ e ∷ []) ≡ filter p before ++ cond b (e ∷ []) []
    more b is = filter-append p before (e ∷ []) ∙ ap (λ d. filter p before ++ cond d (e ∷ []) []) is

    apart : filter to (whole before e ++ results whole (before ++ e ∷ []) es) ≡ filter to (whole before e) ++ filter to (results whole (before ++ e ∷ []) es)
    apart = filter-append to (whole before e) (results whole (before ++ e ∷ []) es)

    by : (b : Bool) → p e ≡ b → filter to (whole before e) ≡ cond b (whole before e) [] →
        results own (filter p (before ++ e ∷ [])) (filter p es) ≡ filter to (results whole (before ++ e ∷ []) es) →
        results own (filter p before) (cond b (e ∷ filter p es) (filter p es)) ≡ filter to (whole before e ++ results whole (before ++ e ∷ []) es)
    by true is kept ih =
        ap₂ (λ now given. now ++ results own given (filter p es)) (same before e seen good.0 is ∙ sym kept) (sym (more true is))
        ∙ ap (λ rest. filter to (whole before e) ++ rest) ih
        ∙ sym apart
    by false is kept ih =
        ap (λ given. results own given (filter p es)) (sym (more false is ∙ append-nil (filter p before)))
        ∙ ih
        ∙ sym (apart ∙ ap (λ now. now ++ filter to (results whole (before ++ e ∷ []) es)) kept)
