-- A task that processes its entries one by one.
use Rattle.std.proofs.Common.{◌≡◌, ◌∙◌, ap₂, sym, subst, List, [], ◌∷◌, ◌++◌}
use Rattle.std.proofs.lemmas.List.{append-nil, append_assoc}
use Rattle.ksql_types.specs.declared.relation.StoreEntry.{StoreEntry}
use Rattle.ksql_types.specs.declared.relation.TaskName.{TaskName}
use Rattle.ksql_place.specs.declared.change.Change.{Change}
use Rattle.core_state.specs.Whole.{TakesStep, SoFar, results_by, StepsWell}
use Rattle.core_state.specs.Wired.{wired, Wiring}
use Rattle.core_state.proofs.Whole.{results-append}

module _ {E H : Type 0} (w : Wiring E) (one : TaskName → List E → E → List Change) (steps : StepsWell w one)
    (Stands : TaskName → H → List E → Type 0) (replay : TaskName → List StoreEntry → H) (MayLoad : TaskName → StoreEntry → Type 0) (t : TaskName) where
  pub so_far-none : (old : H) → SoFar (wired w Stands replay MayLoad) t old [] [] old
  so_far-none old earlier stands = (sym (steps.gives t earlier []), subst (Stands t old) (sym (append-nil earlier)) stands)

  pub so_far-more : (old mid now : H) (es : List E) (e : E) (given more : List Change) → SoFar (wired w Stands replay MayLoad) t old es given mid →
      TakesStep (wired w Stands replay MayLoad) one t mid e more now → SoFar (wired w Stands replay MayLoad) t old (es ++ e ∷ []) (given ++ more) now
  so_far-more old mid now es e given more before step earlier stands =
      let whole : earlier ++ (es ++ e ∷ []) ≡ (earlier ++ es) ++ e ∷ [] = sym (append_assoc earlier es (e ∷ [])) in
      let was = before earlier stands in
      let is = step (earlier ++ es) was.1 in
      let one_more : results_by (one t) (earlier ++ es) (e ∷ []) ≡ one t (earlier ++ es) e = append-nil (one t (earlier ++ es) e) in (
        ap₂ (λ xs ys. xs ++ ys) (was.0 ∙ steps.gives t earlier es) (is.0 ∙ sym one_more)
            ∙ sym (results-append (one t) earlier es (e ∷ [])) ∙ sym (steps.gives t earlier (es ++ e ∷ [])),
        subst (Stands t now) (sym whole) is.1,
      )
