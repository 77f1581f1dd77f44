-- The trees of expressions with a type: there is one for each expression, and it has a type.
use Rattle.std.proofs.Common.{◌≡◌, ◌∙◌, suc, List, [], ◌∷◌, All, map, length, is_some, refl, ap, sym, subst}
use Rattle.std.proofs.lemmas.List.{length-map}
use Rattle.std.proofs.lemmas.List.Elements.{All-nil, All-cons, All-head, All-tail, All-map, All-weaker, All-from_recursion, recursion_from_All}
use denote.Bor.{Bor}
use Rattle.expression_trees.specs.declared.tree.Expr.{Expr}
use Rattle.statement_trees.specs.declared.tree.Select.{Select}
use Rattle.ksql_expr.specs.declared.typed.Typed.{Typed}
use Rattle.ksql_expr.specs.declared.typed.TypedNode.{TypedNode}
use Rattle.ksql_scopes.specs.declared.scope.Scope.{Scope}
use Rattle.ksql_typing.specs.Standing.{IsTypedTree}
use Rattle.ksql_typing.proofs.OneTyping.{one-tree}
use Rattle.ksql_clauses.specs.declared.items.Named.{Named}
use Rattle.ksql_clauses.specs.declared.sources.Known.{Known}
use Rattle.ksql_clauses.specs.Items.{result_columns}
use Rattle.ksql_clauses.specs.Keys.{key_columns, value_columns}
use Rattle.ksql_clauses.specs.Keys.{key_places, needs}
use Rattle.ksql_rules.proofs.Within.{All-unmap}
use Rattle.grouped_expressions.specs.Grouped.{after}
use Rattle.ksql_analyse.specs.Judgement.{AreTypedTrees, exprs}
use Rattle.ksql_analyse.specs.Typable.{AreColumnTrees, IsValue, IsValued}
use Rattle.ksql_analyse.proofs.sound.SoundColumns.{besides-each, keys-each}
use Rattle.ksql_analyse.proofs.forms.TreesAfter.{kept-type}

-- ---- trees

valued-tree : (s : Scope) (a : Expr) (x : Typed) → IsValued s a → IsTypedTree s a x → IsValue x
valued-tree s a x h k = ap (λ y. is_some y.ty) (one-tree s a x h.typable.tree k h.typable.is) ∙ h.value

pub trees-valued : (s : Scope) (es : List Expr) (xs : List Typed) → All (IsValued s) es → AreTypedTrees s es xs → All IsValue xs
trees-valued s [] [] h k = All-nil IsValue
trees-valued s [] (x ∷ xs) h k = absurd k
trees-valued s (a ∷ es) [] h k = absurd k
trees-valued s (a ∷ es) (x ∷ xs) h k =
    All-cons IsValue x xs (valued-tree s a x (All-head (IsValued s) a es h) k.0) (trees-valued s es xs (All-tail (IsValued s) a es h) k.1)

pub trees-counted : (s : Scope) (es : List Expr) (xs : List Typed) → AreTypedTrees s es xs → length es ≡ length xs
trees-counted s [] [] h = refl
trees-counted s [] (x ∷ xs) h = absurd h
trees-counted s (a ∷ es) [] h = absurd h
trees-counted s (a ∷ es) (x ∷ xs) h = ap suc (trees-counted s es xs h.1)

-- the trees of columns' expressions
pub own-trees : (s : Scope) (cs : List Named) (xs : List Typed) → All (λ c. IsValued s c.expr) cs → AreTypedTrees s (exprs cs) xs → AreColumnTrees cs xs
own-trees s cs xs h k = record {
  counted = sym (length-map cs (λ (c : Named). c.expr)) ∙ trees-counted s (exprs cs) xs k;
  values = trees-valued s (exprs cs) xs (All-map (IsValued s) (λ (c : Named). c.expr) cs h) k;
}

-- and what these become after a grouping
pub trees-after : (columns : List TypedNode) (cs : List Named) (xs : List Typed) → AreColumnTrees cs xs → AreColumnTrees cs (map (after columns) xs)
trees-after columns cs xs h = record {
  counted = h.counted ∙ sym (length-map xs (after columns));
  values = All-map IsValue (after columns) xs (All-weaker IsValue (λ x. IsValue (after columns x)) (λ x k. ap is_some (kept-type columns x) ∙ k) xs h.values);
}

-- ---- columns of a result, as borrowed ones

module _ (P : Named → Type 0) (q : Select) (ks : List Known) (lent : List (Bor Named)) where
  pub keys-lent : map (λ c. c.now) lent ≡ key_columns q ks → All P (result_columns q ks) → All (λ c. P c.now) lent
  keys-lent are h =
      All-unmap P (λ c. c.now) lent (subst (All P) (sym are)
      (All-from_recursion P (key_columns q ks) (keys-each P (result_columns q ks) (recursion_from_All P (result_columns q ks) h) (needs q ks))))

  pub values-lent : map (λ c. c.now) lent ≡ value_columns q ks → All P (result_columns q ks) → All (λ c. P c.now) lent
  values-lent are h =
      All-unmap P (λ c. c.now) lent (subst (All P) (sym are)
      (All-from_recursion P (value_columns q ks) (besides-each P (key_places q ks) (result_columns q ks) (recursion_from_All P (result_columns q ks) h))))
