-- The equations of a fold over expressions: one for each form.
use Rattle.std.proofs.Common.{◌≡◌, ℕ, List, map, Bool, Option, Some, None, ap, sym, ◌∙◌}
use Rattle.ksql_types.specs.declared.operator.BinaryOp.{BinaryOp}
use Rattle.ksql_types.specs.declared.value.SqlType.{SqlType}
use Rattle.expression_trees.specs.declared.tree.Expr.{Expr, fold-Expr, fold-roll-Expr}
use Rattle.expression_trees.specs.declared.tree.Expr.TheVariants as e
use Rattle.expression_trees.specs.declared.tree.Expr.TheVariants.{rolls-Digits, rolls-Text, rolls-Truth, rolls-Null, rolls-Name, rolls-Sign, rolls-Binary, rolls-Not, rolls-IsNull, rolls-Between, rolls-OneOf, rolls-Like, rolls-Cast, rolls-Case, rolls-Call}
use Rattle.expression_trees.specs.declared.tree.Expr.TheOpen.{Expr-F, WhenText-F}
use Rattle.expression_trees.specs.declared.tree.WhenText.{WhenText, fold-WhenText, fold-roll-WhenText}

-- a part that may be left out, folded
abbrev pub perhaps_folded : {X Y : Type 0} → (X → Y) → Option X → Option Y
perhaps_folded f None = None
perhaps_folded f (Some x) = Some (f x)

module _ (A B : Type 0) (step : Expr-F A B → A) (when : WhenText-F A B → B) where
  abbrev pub folded : Expr → A
  folded = fold-Expr A B step when

  abbrev pub folded_when : WhenText → B
  folded_when = fold-WhenText A B step when

  pub fold-Digits : (number : ℕ) → folded (e.Digits number) ≡ step (Expr-F.Digits number)
  fold-Digits number = ap folded (sym (rolls-Digits number)) ∙ fold-roll-Expr A B step when (Expr-F.Digits number)

  pub fold-Text : (content : List ℕ) → folded (e.Text content) ≡ step (Expr-F.Text content)
  fold-Text content = ap folded (sym (rolls-Text content)) ∙ fold-roll-Expr A B step when (Expr-F.Text content)

  pub fold-Truth : (b : Bool) → folded (e.Truth b) ≡ step (Expr-F.Truth b)
  fold-Truth b = ap folded (sym (rolls-Truth b)) ∙ fold-roll-Expr A B step when (Expr-F.Truth b)

  pub fold-Null : folded e.Null ≡ step Expr-F.Null
  fold-Null = ap folded (sym rolls-Null) ∙ fold-roll-Expr A B step when Expr-F.Null

  pub fold-Name : (q : Option (List ℕ)) (name : List ℕ) → folded (e.Name q name) ≡ step (Expr-F.Name q name)
  fold-Name q name = ap folded (sym (rolls-Name q name)) ∙ fold-roll-Expr A B step when (Expr-F.Name q name)

  pub fold-Sign : (minus : Bool) (a : Expr) → folded (e.Sign minus a) ≡ step (Expr-F.Sign minus (folded a))
  fold-Sign minus a = ap folded (sym (rolls-Sign minus a)) ∙ fold-roll-Expr A B step when (Expr-F.Sign minus a)

  pub fold-Binary : (o : BinaryOp) (a : Expr) (b : Expr) → folded (e.Binary o a b) ≡ step (Expr-F.Binary o (folded a) (folded b))
  fold-Binary o a b = ap folded (sym (rolls-Binary o a b)) ∙ fold-roll-Expr A B step when (Expr-F.Binary o a b)

  pub fold-Not : (a : Expr) → folded (e.Not a) ≡ step (Expr-F.Not (folded a))
  fold-Not a = ap folded (sym (rolls-Not a)) ∙ fold-roll-Expr A B step when (Expr-F.Not a)

  pub fold-IsNull : (n : Bool) (a : Expr) → folded (e.IsNull n a) ≡ step (Expr-F.IsNull n (folded a))
  fold-IsNull n a = ap folded (sym (rolls-IsNull n a)) ∙ fold-roll-Expr A B step when (Expr-F.IsNull n a)

  pub fold-Between : (n : Bool) (a : Expr) (b : Expr) (c : Expr) → folded (e.Between n a b c) ≡ step (Expr-F.Between n (folded a) (folded b) (folded c))
  fold-Between n a b c = ap folded (sym (rolls-Between n a b c)) ∙ fold-roll-Expr A B step when (Expr-F.Between n a b c)

  pub fold-OneOf : (n : Bool) (a : Expr) (cs : List Expr) → folded (e.OneOf n a cs) ≡ step (Expr-F.OneOf n (folded a) (map folded cs))
  fold-OneOf n a cs = ap folded (sym (rolls-OneOf n a cs)) ∙ fold-roll-Expr A B step when (Expr-F.OneOf n a cs)

  pub fold-Like : (n : Bool) (a : Expr) (pattern : List ℕ) → folded (e.Like n a pattern) ≡ step (Expr-F.Like n (folded a) pattern)
  fold-Like n a pattern = ap folded (sym (rolls-Like n a pattern)) ∙ fold-roll-Expr A B step when (Expr-F.Like n a pattern)

  pub fold-Cast : (a : Expr) (to : SqlType) → folded (e.Cast a to) ≡ step (Expr-F.Cast (folded a) to)
  fold-Cast a to = ap folded (sym (rolls-Cast a to)) ∙ fold-roll-Expr A B step when (Expr-F.Cast a to)

  pub fold-Call : (f : List ℕ) (star : Bool) (args : List Expr) → folded (e.Call f star args) ≡ step (Expr-F.Call f star (map folded args))
  fold-Call f star args = ap folded (sym (rolls-Call f star args)) ∙ fold-roll-Expr A B step when (Expr-F.Call f star args)

  pub fold-Case : (x : Option Expr) (ws : List WhenText) (z : Option Expr)
      → folded (e.Case x ws z) ≡ step (Expr-F.Case (perhaps_folded folded x) (map folded_when ws) (perhaps_folded folded z))
  fold-Case None ws None = ap folded (sym (rolls-Case None ws None)) ∙ fold-roll-Expr A B step when (Expr-F.Case None ws None)
  fold-Case None ws (Some z) = ap folded (sym (rolls-Case None ws (Some z))) ∙ fold-roll-Expr A B step when (Expr-F.Case None ws (Some z))
  fold-Case (Some x) ws None = ap folded (sym (rolls-Case (Some x) ws None)) ∙ fold-roll-Expr A B step when (Expr-F.Case (Some x) ws None)
  fold-Case (Some x) ws (Some z) = ap folded (sym (rolls-Case (Some x) ws (Some z))) ∙ fold-roll-Expr A B step when (Expr-F.Case (Some x) ws (Some z))

  pub fold-when : (w : WhenText) → folded_when w ≡ when (record { cond = folded w.cond; result = folded w.result })
  fold-when w = fold-roll-WhenText A B step when (record { cond = w.cond; result = w.result })
