-- Parts, one more after them.
use Rattle.std.proofs.Common.{◌≡◌, Bool, ◌||◌, List, [], ◌∷◌, ◌++◌, Option, Some, None, false, true, refl, ap, ap₂, sym, ◌∙◌}
use Rattle.std.specs.Prelude.{option_map}
use Rattle.std.proofs.lemmas.List.Folds.{list_any-append}
use Rattle.std.proofs.lemmas.List.{map-append}
use Rattle.ksql_expr.specs.declared.typed.Typed.{Typed}
use Rattle.ksql_expr.specs.declared.typed.TypedWhen.{TypedWhen}
use Rattle.ksql_typing.specs.declared.judged.Judged.{Judged}
use Rattle.ksql_typing.specs.declared.judged.Parts.{Parts}
use Rattle.ksql_typing.specs.declared.judged.WhenParts.{WhenParts}
use Rattle.ksql_typing.specs.Judged.{JudgedWhen, after, trees, when_trees, AreOf, AreOfWhens, unknown, ambiguous, is_in_when, when}
use Rattle.ksql_typing.specs.Made.{typed_when}

pub trees-behind : (xs : List Judged) (x : Judged) → trees (xs ++ x ∷ []) ≡ after (trees xs) (λ ys. after x.tree (λ a. Some (ys ++ a ∷ [])))
trees-behind [] x = one x.tree
  where
    one : (o : Option Typed) → after o (λ a. after (Some []) (λ rest. Some (a ∷ rest))) ≡ after o (λ a. Some (a ∷ []))
    one None = refl
    one (Some a) = refl
trees-behind (y ∷ xs) x = step y.tree (trees xs) x.tree (trees (xs ++ x ∷ [])) (trees-behind xs x)
  where
    step : (o : Option Typed) (ys : Option (List Typed)) (p : Option Typed) (all : Option (List Typed))
        → all ≡ after ys (λ zs. after p (λ a. Some (zs ++ a ∷ [])))
        → after o (λ b. after all (λ rest. Some (b ∷ rest))) ≡ after (after o (λ b. after ys (λ rest. Some (b ∷ rest)))) (λ zs. after p (λ a. Some (zs ++ a ∷ [])))
    step None ys p all h = refl
    step (Some b) None p all h = ap (λ z. after z (λ rest. Some (b ∷ rest))) h
    step (Some b) (Some zs) None all h = ap (λ z. after z (λ rest. Some (b ∷ rest))) h
    step (Some b) (Some zs) (Some a) all h = ap (λ z. after z (λ rest. Some (b ∷ rest))) h

pub when_trees-behind : (ws : List JudgedWhen) (w : JudgedWhen)
    → when_trees (ws ++ w ∷ []) ≡ after (when_trees ws) (λ ys. after w.cond.tree (λ a. after w.result.tree (λ b. Some (ys ++ typed_when a b ∷ []))))
when_trees-behind [] w = one w.cond.tree w.result.tree
  where
    one : (o p : Option Typed) → after o (λ a. after p (λ b. after (Some []) (λ rest. Some (typed_when a b ∷ rest)))) ≡ after o (λ a. after p (λ b. Some (typed_when a b ∷ [])))
    one None p = refl
    one (Some a) None = refl
    one (Some a) (Some b) = refl
when_trees-behind (v ∷ ws) w = step v.cond.tree v.result.tree (when_trees ws) w.cond.tree w.result.tree (when_trees (ws ++ w ∷ [])) (when_trees-behind ws w)
  where
    step : (o q : Option Typed) (ys : Option (List TypedWhen)) (p r : Option Typed) (all : Option (List TypedWhen))
        → all ≡ after ys (λ zs. after p (λ a. after r (λ b. Some (zs ++ typed_when a b ∷ []))))
        → after o (λ b. after q (λ c. after all (λ rest. Some (typed_when b c ∷ rest))))
        ≡ after (after o (λ b. after q (λ c. after ys (λ rest. Some (typed_when b c ∷ rest))))) (λ zs. after p (λ a. after r (λ b. Some (zs ++ typed_when a b ∷ []))))
    step None q ys p r all h = refl
    step (Some b) None ys p r all h = refl
    step (Some b) (Some c) None p r all h = ap (λ z. after z (λ rest. Some (typed_when b c ∷ rest))) h
    step (Some b) (Some c) (Some zs) None r all h = ap (λ z. after z (λ rest. Some (typed_when b c ∷ rest))) h
    step (Some b) (Some c) (Some zs) (Some a) None all h = ap (λ z. after z (λ rest. Some (typed_when b c ∷ rest))) h
    step (Some b) (Some c) (Some zs) (Some a) (Some d) all h = ap (λ z. after z (λ rest. Some (typed_when b c ∷ rest))) h

or-false : (b : Bool) → (b || false) ≡ b
or-false true = refl
or-false false = refl

pub parts-behind : (p : Parts) (x : Judged) (r : Parts)
    → option_map (λ v. v.items) r.trees ≡ after (option_map (λ v. v.items) p.trees) (λ ys. after x.tree (λ a. Some (ys ++ a ∷ [])))
    → r.types.items ≡ p.types.items ++ x.types ∷ [] → r.unknown ≡ (p.unknown || x.unknown) → r.ambiguous ≡ (p.ambiguous || x.ambiguous)
    → (xs : List Judged) → AreOf p xs → AreOf r (xs ++ x ∷ [])
parts-behind p x r tr ty un am xs h = record {
  trees_are = tr ∙ ap (λ ts. after ts (λ ys. after x.tree (λ a. Some (ys ++ a ∷ [])))) h.trees_are ∙ sym (trees-behind xs x);
  types_are = ty ∙ ap (λ ts. ts ++ x.types ∷ []) h.types_are ∙ sym (map-append (λ j. j.types) xs (x ∷ []));
  unknown_is = un ∙ ap₂ (λ a b. a || b) h.unknown_is (sym (or-false x.unknown)) ∙ sym (list_any-append unknown xs (x ∷ []));
  ambiguous_is = am ∙ ap₂ (λ a b. a || b) h.ambiguous_is (sym (or-false x.ambiguous)) ∙ sym (list_any-append ambiguous xs (x ∷ []));
}

pub whens-behind : (p : WhenParts) (x y : Judged) (r : WhenParts)
    → option_map (λ v. v.items) r.trees
    ≡ after (option_map (λ v. v.items) p.trees) (λ ys. after x.tree (λ a. after y.tree (λ b. Some (ys ++ typed_when a b ∷ []))))
    → r.conds.items ≡ p.conds.items ++ x.types ∷ [] → r.results.items ≡ p.results.items ++ y.types ∷ []
    → r.unknown ≡ (p.unknown || (x.unknown || y.unknown)) → r.ambiguous ≡ (p.ambiguous || (x.ambiguous || y.ambiguous))
    → (ws : List JudgedWhen) → AreOfWhens p ws → AreOfWhens r (ws ++ when x y ∷ [])
whens-behind p x y r tr co re un am ws h = record {
  trees_are = tr ∙ ap (λ ts. after ts (λ ys. after x.tree (λ a. after y.tree (λ b. Some (ys ++ typed_when a b ∷ []))))) h.trees_are
      ∙ sym (when_trees-behind ws (when x y));
  conds_are = co ∙ ap (λ ts. ts ++ x.types ∷ []) h.conds_are ∙ sym (map-append (λ w. w.cond.types) ws (when x y ∷ []));
  results_are = re ∙ ap (λ ts. ts ++ y.types ∷ []) h.results_are ∙ sym (map-append (λ w. w.result.types) ws (when x y ∷ []));
  unknown_is = un ∙ ap₂ (λ a b. a || b) h.unknown_is (sym (or-false (x.unknown || y.unknown))) ∙ sym (list_any-append (is_in_when unknown) ws (when x y ∷ []));
  ambiguous_is = am ∙ ap₂ (λ a b. a || b) h.ambiguous_is (sym (or-false (x.ambiguous || y.ambiguous))) ∙ sym (list_any-append (is_in_when ambiguous) ws (when x y ∷ []));
}
