-- Consecutive columns, and trees that are the same.
use Rattle.std.proofs.Common.{◌≡◌, ◌∙◌, ap, sym, refl, ℕ, zero, suc, ◌+◌, Bool, true, false, IsTrue, List, [], ◌∷◌, length}
use Rattle.std.specs.Prelude.{◌↔◌, ◌&&◌, ◌≢◌}
use Rattle.ksql_expr.specs.declared.typed.Typed.{Typed}
use Rattle.grouped_expressions.specs.Same.{same_tree}
use Rattle.grouped_expressions.proofs.Equality.{equal-trees, same-trees}
use Rattle.topology.specs.Stages.{are_columns_from, is_column}

-- what a test of two trees says
pub decided-trees : (r : Bool) (a b : Typed) → (IsTrue r ↔ (a ≡ b)) → same_tree a b ≡ r
decided-trees true a b h = same-trees a b (h.0 refl)
decided-trees false a b h = at (same_tree a b) refl
  where
    at : (s : Bool) → same_tree a b ≡ s → s ≡ false
    at false k = refl
    at true k = sym (h.1 (equal-trees a b k))

and-false : (b : Bool) → (b && false) ≡ false
and-false true = refl
and-false false = refl

-- as many expressions as columns
pub columns-as-many : (number count : ℕ) (es : List Typed) → length es ≢ count → false ≡ are_columns_from number count es
columns-as-many number zero [] other = absurd (other refl)
columns-as-many number (suc n) [] other = refl
columns-as-many number zero (e ∷ es) other = refl
columns-as-many number (suc n) (e ∷ es) other =
    sym (and-false (is_column number e)) ∙ ap (λ (b : Bool). is_column number e && b) (columns-as-many (number + 1) n es (λ is. other (ap suc is)))
