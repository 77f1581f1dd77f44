-- The parts of an expression whose literals keep their limits keep theirs.
use Rattle.std.proofs.Common.{◌≡◌, ℕ, Bool, true, ◌&&◌, List, [], ◌∷◌, map, Option, Some, None, nat_le, length, refl, ap, ap₂, sym, ◌∙◌}
use Rattle.ksql_types.specs.declared.operator.BinaryOp.{BinaryOp}
use Rattle.ksql_types.specs.declared.value.SqlType.{SqlType}
use Rattle.expression_trees.specs.declared.tree.Expr.{Expr}
use Rattle.expression_trees.specs.declared.tree.Expr.TheVariants as e
use Rattle.expression_trees.specs.declared.tree.WhenText.{WhenText}
use Rattle.ksql_scopes.specs.Uses.{is_small, IsSmall, small_step, all_hold, holds_perhaps, are_small, are_whens_small, is_small_perhaps}
use Rattle.expression_trees.proofs.Folds as f
use Rattle.expression_trees.proofs.Folds.{perhaps_folded}
use Rattle.std.proofs.lemmas.Bool.{and_parts}

small_when : WhenText → Bool
small_when = f.folded_when Bool Bool small_step (λ w. w.cond && w.result)

each : (es : List Expr) → all_hold (map is_small es) ≡ are_small es
each [] = refl
each (a ∷ es) = ap (λ b. is_small a && b) (each es)

each_when : (ws : List WhenText) → all_hold (map small_when ws) ≡ are_whens_small ws
unfolding small_when is_small
each_when [] = refl
each_when (w ∷ ws) = ap₂ (λ a b. a && b) (f.fold-when Bool Bool small_step (λ w. w.cond && w.result) w) (each_when ws)

maybe : (x : Option Expr) → holds_perhaps (perhaps_folded is_small x) ≡ is_small_perhaps x
maybe None = refl
maybe (Some a) = refl

-- ---- what is small, by the parts

pub is_small-OneOf : (n : Bool) (a : Expr) (es : List Expr) → is_small (e.OneOf n a es) ≡ (is_small a && are_small es)
unfolding is_small
is_small-OneOf n a es = f.fold-OneOf Bool Bool small_step (λ w. w.cond && w.result) n a es ∙ ap (λ b. is_small a && b) (each es)

pub is_small-Case : (o : Option Expr) (ws : List WhenText) (z : Option Expr)
    → is_small (e.Case o ws z) ≡ (is_small_perhaps o && are_whens_small ws && is_small_perhaps z)
unfolding is_small small_when
is_small-Case o ws z =
    f.fold-Case Bool Bool small_step (λ w. w.cond && w.result) o ws z
    ∙ ap₂ (λ a b. a && b) (ap₂ (λ a b. a && b) (maybe o) (each_when ws)) (maybe z)

pub is_small-Call : (g : List ℕ) (star : Bool) (es : List Expr) → is_small (e.Call g star es) ≡ are_small es
unfolding is_small
is_small-Call g star es = f.fold-Call Bool Bool small_step (λ w. w.cond && w.result) g star es ∙ each es

-- ---- the parts of what is small

module _ (x : Expr) (h : IsSmall x) where
  turned : (y : Expr) (b : Bool) → x ≡ y → is_small y ≡ b → b ≡ true
  turned y b k l = sym l ∙ ap is_small (sym k) ∙ h

  pub small-Digits : (n : ℕ) → x ≡ e.Digits n → nat_le n 9223372036854775807 ≡ true
  unfolding is_small
  small-Digits n k = turned (e.Digits n) (nat_le n 9223372036854775807) k (f.fold-Digits Bool Bool small_step (λ w. w.cond && w.result) n)

  pub small-Sign : (m : Bool) (a : Expr) → x ≡ e.Sign m a → is_small a ≡ true
  unfolding is_small
  small-Sign m a k = turned (e.Sign m a) (is_small a) k (f.fold-Sign Bool Bool small_step (λ w. w.cond && w.result) m a)

  pub small-Binary : (o : BinaryOp) (a b : Expr) → x ≡ e.Binary o a b → (is_small a ≡ true) × (is_small b ≡ true)
  unfolding is_small
  small-Binary o a b k = and_parts (is_small a) (is_small b)
      (turned (e.Binary o a b) (is_small a && is_small b) k (f.fold-Binary Bool Bool small_step (λ w. w.cond && w.result) o a b))

  pub small-Not : (a : Expr) → x ≡ e.Not a → is_small a ≡ true
  unfolding is_small
  small-Not a k = turned (e.Not a) (is_small a) k (f.fold-Not Bool Bool small_step (λ w. w.cond && w.result) a)

  pub small-IsNull : (m : Bool) (a : Expr) → x ≡ e.IsNull m a → is_small a ≡ true
  unfolding is_small
  small-IsNull m a k = turned (e.IsNull m a) (is_small a) k (f.fold-IsNull Bool Bool small_step (λ w. w.cond && w.result) m a)

  pub small-Between : (m : Bool) (a b c : Expr) → x ≡ e.Between m a b c → (is_small a ≡ true) × (is_small b ≡ true) × (is_small c ≡ true)
  unfolding is_small
  small-Between m a b c k =
      let r = and_parts (is_small a && is_small b) (is_small c)
      (turned (e.Between m a b c) (is_small a && is_small b && is_small c) k (f.fold-Between Bool Bool small_step (λ w. w.cond && w.result) m a b c)) in
      let l = and_parts (is_small a) (is_small b) r.0 in
      (l.0, l.1, r.1)

  pub small-OneOf : (m : Bool) (a : Expr) (es : List Expr) → x ≡ e.OneOf m a es → (is_small a ≡ true) × (are_small es ≡ true)
  small-OneOf m a es k = and_parts (is_small a) (are_small es)
      (turned (e.OneOf m a es) (is_small a && are_small es) k (is_small-OneOf m a es))

  pub small-Like : (m : Bool) (a : Expr) (p : List ℕ) → x ≡ e.Like m a p → is_small a ≡ true
  unfolding is_small
  small-Like m a p k = (and_parts (is_small a) (nat_le (length p) 65536)
      (turned (e.Like m a p) (is_small a && nat_le (length p) 65536) k (f.fold-Like Bool Bool small_step (λ w. w.cond && w.result) m a p))).0

  pub small-Cast : (a : Expr) (to : SqlType) → x ≡ e.Cast a to → is_small a ≡ true
  unfolding is_small
  small-Cast a to k = turned (e.Cast a to) (is_small a) k (f.fold-Cast Bool Bool small_step (λ w. w.cond && w.result) a to)

  pub small-Case : (o : Option Expr) (ws : List WhenText) (z : Option Expr) → x ≡ e.Case o ws z
      → (is_small_perhaps o ≡ true) × (are_whens_small ws ≡ true) × (is_small_perhaps z ≡ true)
  small-Case o ws z k =
      let r = and_parts (is_small_perhaps o && are_whens_small ws) (is_small_perhaps z)
      (turned (e.Case o ws z) (is_small_perhaps o && are_whens_small ws && is_small_perhaps z) k (is_small-Case o ws z)) in
      let l = and_parts (is_small_perhaps o) (are_whens_small ws) r.0 in
      (l.0, l.1, r.1)

  pub small-Call : (g : List ℕ) (star : Bool) (es : List Expr) → x ≡ e.Call g star es → are_small es ≡ true
  small-Call g star es k = turned (e.Call g star es) (are_small es) k (is_small-Call g star es)
