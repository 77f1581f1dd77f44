-- Typed trees of some expressions, and of one more after them.
use Rattle.std.proofs.Common.{◌≡◌, ℕ, ◌+◌, ◌<◌, ◌≤◌, arith, List, [], ◌∷◌, ◌++◌, length, map, take, get_or, subst, sym, ◌∙◌, refl, ap, ap₂, add-one}
use Rattle.std.proofs.Math.Seq.{take-suc}
use Rattle.std.proofs.lemmas.Grind.{common_steps}
use Rattle.std.proofs.lemmas.List.{map_push}
use Rattle.expression_trees.specs.declared.tree.Expr.{Expr}
use Rattle.ksql_expr.specs.declared.typed.Typed.{Typed}
use Rattle.ksql_program.specs.declared.query.Agg.{Agg}
use Rattle.ksql_scopes.specs.declared.scope.Scope.{Scope}
use Rattle.ksql_typing.specs.Standing.{IsTypedTree}
use Rattle.ksql_clauses.specs.declared.items.Named.{Named}
use denote.Bor.{Bor}
use Rattle.ksql_analyse.specs.Judgement.{AreAggs, AreTypedTrees, agg_form, exprs}

pub trees-push : (s : Scope) (es : List Expr) (xs : List Typed) (a : Expr) (x : Typed) → AreTypedTrees s es xs → IsTypedTree s a x
    → AreTypedTrees s (es ++ a ∷ []) (xs ++ x ∷ [])
trees-push s [] [] a x are is = (is, tt)
trees-push s [] (y ∷ xs) a x are is = absurd are
trees-push s (b ∷ es) [] a x are is = absurd are
trees-push s (b ∷ es) (y ∷ xs) a x are is = (are.0, trees-push s es xs a x are.1 is)

-- one more in a loop over the expressions
pub trees-next : (s : Scope) (es : List Expr) (i : ℕ) (xs ys : List Typed) (a : Expr) (x : Typed) → i < length es → AreTypedTrees s (take i es) xs
    → ys ≡ xs ++ x ∷ [] → a ≡ get_or es i a → IsTypedTree s a x → AreTypedTrees s (take (i + 1) es) ys
trees-next s es i xs ys a x within are pushed item is =
    subst (λ (zs : List Typed). AreTypedTrees s (take (i + 1) es) zs) (sym pushed)
    (subst (λ (n : ℕ). AreTypedTrees s (take n es) (xs ++ x ∷ [])) (sym (add-one i))
    (subst (λ (fs : List Expr). AreTypedTrees s fs (xs ++ x ∷ [])) (sym (take-suc es i a within))
    (trees-push s (take i es) xs (get_or es i a) x are (subst (λ (b : Expr). IsTypedTree s b x) item is))))

-- one more in a loop over the aggregates
pub agg-next : (s : Scope) (es : List Expr) (i : ℕ) (gs hs : List Agg) (a : Expr) (g : Agg) (x : Typed) → i < length es → AreAggs s (take i es) gs
    → hs ≡ gs ++ g ∷ [] → a ≡ get_or es i a → IsTypedTree s a x → x.node ≡ agg_form g → AreAggs s (take (i + 1) es) hs
agg-next s es i gs hs a g x within are pushed item is node = (
  are.0 ++ x ∷ [],
  trees-next s es i are.0 (are.0 ++ x ∷ []) a x within are.1 refl item is,
  map_push (λ (y : Typed). y.node) are.0 x ∙ ap₂ (λ os o. os ++ o ∷ []) are.2 node ∙ sym (map_push agg_form gs g) ∙ ap (map agg_form) (sym pushed),
)

-- all of a list is taken at its end
pub all-taken : {A : Type 0} (xs : List A) (n : ℕ) → length xs ≤ n → take n xs ≡ xs
all-taken xs n within = grind (arith, common_steps, within)

-- one more in a loop over borrowed columns
abbrev pub lent-exprs : List (Bor Named) → List Expr
lent-exprs cs = exprs (map (λ c. c.now) cs)

lent-push : (cs : List (Bor Named)) (c : Bor Named) → lent-exprs (cs ++ c ∷ []) ≡ lent-exprs cs ++ c.now.expr ∷ []
lent-push [] c = refl
lent-push (d ∷ cs) c = ap (λ (es : List Expr). d.now.expr ∷ es) (lent-push cs c)

pub column-trees-next : (s : Scope) (cs : List (Bor Named)) (i : ℕ) (xs ys : List Typed) (c : Bor Named) (x : Typed) → i < length cs
    → AreTypedTrees s (lent-exprs (take i cs)) xs → ys ≡ xs ++ x ∷ [] → c ≡ get_or cs i c → IsTypedTree s c.now.expr x
    → AreTypedTrees s (lent-exprs (take (i + 1) cs)) ys
column-trees-next s cs i xs ys c x within are pushed item is =
    subst (λ (zs : List Typed). AreTypedTrees s (lent-exprs (take (i + 1) cs)) zs) (sym pushed)
    (subst (λ (n : ℕ). AreTypedTrees s (lent-exprs (take n cs)) (xs ++ x ∷ [])) (sym (add-one i))
    (subst (λ (ds : List (Bor Named)). AreTypedTrees s (lent-exprs ds) (xs ++ x ∷ [])) (sym (take-suc cs i c within))
    (subst (λ (es : List Expr). AreTypedTrees s es (xs ++ x ∷ [])) (sym (lent-push (take i cs) (get_or cs i c)))
    (trees-push s (lent-exprs (take i cs)) xs (get_or cs i c).now.expr x are (subst (λ (d : Bor Named). IsTypedTree s d.now.expr x) item is)))))
