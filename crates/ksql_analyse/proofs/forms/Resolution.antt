-- What resolved names leave as it is: whatever doesn't look at names.
use Rattle.std.proofs.Common.{◌≡◌, ℕ, Bool, true, false, ◌&&◌, if◌then◌else◌, List, [], ◌∷◌, map, Option, Some, None, refl, ap, ap₂, sym, ◌∙◌}
use Rattle.std.specs.Prelude.{option_map, filter}
use Rattle.std.specs.List.{AllByRecursion as Each}
use Rattle.expression_trees.specs.declared.tree.Expr.{Expr}
use Rattle.expression_trees.specs.declared.tree.Expr.TheVariants as e
use Rattle.expression_trees.specs.declared.tree.Expr.TheOpen.{Expr-F, WhenText-F}
use Rattle.expression_trees.specs.declared.tree.WhenText.{WhenText}
use Rattle.ksql_scopes.specs.declared.scope.Scope.{Scope}
use Rattle.ksql_scopes.specs.declared.scope.ScopeColumn.{ScopeColumn}
use Rattle.ksql_scopes.specs.Scope.{is_known_as}
use Rattle.ksql_scopes.specs.Uses.{calls, calls_step, of_when, is_small, small_step}
use Rattle.ksql_scopes.specs.Resolved.{resolved, resolved_when, written_for, is_row_time}
use Rattle.ksql_scopes.proofs.Resolving as r
use Rattle.expression_trees.proofs.Folds as f
use Rattle.expression_trees.proofs.Folds.{perhaps_folded}
use Rattle.ksql_scopes.proofs.Induction.{IfThere, InWhen, induction}

-- ---- a name stays a name

pub record IsName (a : Expr) : Type 0 where
  pub qualifier : Option (List ℕ)
  pub name : List ℕ
  pub is : a ≡ e.Name qualifier name

written-name : (s : Scope) (q : Option (List ℕ)) (name : List ℕ) (cs : List ScopeColumn) → IsName (written_for s q name cs)
written-name s q name [] = at (is_row_time s q name)
  where
    at : (b : Bool) → IsName (if b then e.Name None name else e.Name q name)
    at true = record { qualifier = None; name = name; is = refl }
    at false = record { qualifier = q; name = name; is = refl }
written-name s q name (c ∷ cs) = record { qualifier = c.alias; name = name; is = refl }

pub resolved-name : (s : Scope) (q : Option (List ℕ)) (name : List ℕ) → IsName (resolved s (e.Name q name))
resolved-name s q name =
    let k = written-name s q name (filter (is_known_as q name) s.columns) in
    record { qualifier = k.qualifier; name = k.name; is = r.resolved-Name s q name ∙ k.is }

-- ---- folds that don't look at names

module _ (A B : Type 0) (step : Expr-F A B → A) (when : WhenText-F A B → B)
    (blind : (q : Option (List ℕ)) (name : List ℕ) (p : Option (List ℕ)) (other : List ℕ) → step (Expr-F.Name q name) ≡ step (Expr-F.Name p other)) (s : Scope) where
  abbrev folded : Expr → A
  folded = f.folded A B step when

  abbrev folded_when : WhenText → B
  folded_when = f.folded_when A B step when

  abbrev IsKept : Expr → Type 0
  IsKept a = folded (resolved s a) ≡ folded a

  each-kept : (es : List Expr) → Each IsKept es → map folded (map (resolved s) es) ≡ map folded es
  each-kept [] k = refl
  each-kept (a ∷ es) k = ap₂ (λ x xs. x ∷ xs) k.0 (each-kept es k.1)

  when-kept : (w : WhenText) → InWhen IsKept w → folded_when (resolved_when s w) ≡ folded_when w
  when-kept w k =
      ap folded_when (r.resolved-when s w) ∙ f.fold-when A B step when (record { cond = resolved s w.cond; result = resolved s w.result })
      ∙ ap₂ (λ x y. when (record { cond = x; result = y })) k.0 k.1 ∙ sym (f.fold-when A B step when w)

  whens-kept : (ws : List WhenText) → Each (InWhen IsKept) ws → map folded_when (map (resolved_when s) ws) ≡ map folded_when ws
  whens-kept [] k = refl
  whens-kept (w ∷ ws) k = ap₂ (λ x xs. x ∷ xs) (when-kept w k.0) (whens-kept ws k.1)

  part-kept : (x : Option Expr) → IfThere IsKept x → perhaps_folded folded (option_map (resolved s) x) ≡ perhaps_folded folded x
  part-kept None k = refl
  part-kept (Some a) k = ap Some k

  name-kept : (q : Option (List ℕ)) (name : List ℕ) → IsKept (e.Name q name)
  name-kept q name =
      let k = resolved-name s q name in
      ap folded k.is ∙ f.fold-Name A B step when k.qualifier k.name ∙ blind k.qualifier k.name q name ∙ sym (f.fold-Name A B step when q name)

  case-kept : (x : Option Expr) (ws : List WhenText) (z : Option Expr) → IfThere IsKept x → Each (InWhen IsKept) ws → IfThere IsKept z → IsKept (e.Case x ws z)
  case-kept x ws z kx kws kz =
      ap folded (r.resolved-Case s x ws z) ∙ f.fold-Case A B step when (option_map (resolved s) x) (map (resolved_when s) ws) (option_map (resolved s) z)
      ∙ ap₂ (λ y os. step (Expr-F.Case y os (perhaps_folded folded (option_map (resolved s) z)))) (part-kept x kx) (whens-kept ws kws)
      ∙ ap (λ y. step (Expr-F.Case (perhaps_folded folded x) (map folded_when ws) y)) (part-kept z kz) ∙ sym (f.fold-Case A B step when x ws z)

  pub fold-resolved : (a : Expr) → IsKept a
  fold-resolved = induction IsKept (record {
    digits = λ n. ap folded (r.resolved-Digits s n);
    text = λ c. ap folded (r.resolved-Text s c);
    truth = λ b. ap folded (r.resolved-Truth s b);
    null = ap folded (r.resolved-Null s);
    name = name-kept;
    sign = λ m a k. ap folded (r.resolved-Sign s m a) ∙ f.fold-Sign A B step when m (resolved s a) ∙ ap (λ x. step (Expr-F.Sign m x)) k ∙ sym (f.fold-Sign A B step when m a);
    binary = λ o a b k l. ap folded (r.resolved-Binary s o a b) ∙ f.fold-Binary A B step when o (resolved s a) (resolved s b)
        ∙ ap₂ (λ x y. step (Expr-F.Binary o x y)) k l ∙ sym (f.fold-Binary A B step when o a b);
    not = λ a k. ap folded (r.resolved-Not s a) ∙ f.fold-Not A B step when (resolved s a) ∙ ap (λ x. step (Expr-F.Not x)) k ∙ sym (f.fold-Not A B step when a);
    is_null = λ m a k. ap folded (r.resolved-IsNull s m a) ∙ f.fold-IsNull A B step when m (resolved s a) ∙ ap (λ x. step (Expr-F.IsNull m x)) k
        ∙ sym (f.fold-IsNull A B step when m a);
    between = λ m a b c k l j. ap folded (r.resolved-Between s m a b c) ∙ f.fold-Between A B step when m (resolved s a) (resolved s b) (resolved s c)
        ∙ ap₂ (λ x y. step (Expr-F.Between m x y (folded (resolved s c)))) k l ∙ ap (λ z. step (Expr-F.Between m (folded a) (folded b) z)) j
        ∙ sym (f.fold-Between A B step when m a b c);
    one_of = λ m a es k l. ap folded (r.resolved-OneOf s m a es) ∙ f.fold-OneOf A B step when m (resolved s a) (map (resolved s) es)
        ∙ ap₂ (λ x xs. step (Expr-F.OneOf m x xs)) k (each-kept es l) ∙ sym (f.fold-OneOf A B step when m a es);
    like = λ m a p k. ap folded (r.resolved-Like s m a p) ∙ f.fold-Like A B step when m (resolved s a) p ∙ ap (λ x. step (Expr-F.Like m x p)) k
        ∙ sym (f.fold-Like A B step when m a p);
    cast = λ a to k. ap folded (r.resolved-Cast s a to) ∙ f.fold-Cast A B step when (resolved s a) to ∙ ap (λ x. step (Expr-F.Cast x to)) k
        ∙ sym (f.fold-Cast A B step when a to);
    case = case-kept;
    call = λ g star es k. ap folded (r.resolved-Call s g star es) ∙ f.fold-Call A B step when g star (map (resolved s) es)
        ∙ ap (λ xs. step (Expr-F.Call g star xs)) (each-kept es k) ∙ sym (f.fold-Call A B step when g star es);
  })

pub calls-resolved : (s : Scope) (a : Expr) → calls (resolved s a) ≡ calls a
unfolding calls
calls-resolved s a = fold-resolved (List (List ℕ)) (List (List ℕ)) calls_step of_when (λ q n p o. refl) s a

pub small-resolved : (s : Scope) (a : Expr) → is_small (resolved s a) ≡ is_small a
unfolding is_small
small-resolved s a = fold-resolved Bool Bool small_step (λ w. w.cond && w.result) (λ q n p o. refl) s a
