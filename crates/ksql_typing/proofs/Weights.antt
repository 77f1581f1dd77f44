-- A number that falls with each call in a walk over an expression: three for each expression in it.
use Rattle.std.proofs.Common.{◌≡◌, ℕ, ◌+◌, ◌<◌, ◌≤◌, Bool, List, map, length, Option, Some, None, get_or, refl, ap, ap₂, sym, ◌∙◌, subst, arith}
use Rattle.std.specs.List.{sum, sum_by}
use Rattle.std.proofs.lemmas.List.Sums.{sum-map, get_or-le-sum_by}
use Rattle.ksql_types.specs.declared.operator.BinaryOp.{BinaryOp}
use Rattle.ksql_types.specs.declared.value.SqlType.{SqlType}
use Rattle.expression_trees.specs.declared.tree.Expr.{Expr, fold-Expr}
use Rattle.expression_trees.specs.declared.tree.Expr.TheVariants as e
use Rattle.expression_trees.specs.declared.tree.Expr.TheOpen.{Expr-F, WhenText-F}
use Rattle.expression_trees.specs.declared.tree.WhenText.{WhenText}
use Rattle.expression_trees.proofs.Folds as f
use Rattle.expression_trees.proofs.Folds.{perhaps_folded}

abbrev or_zero : Option ℕ → ℕ
or_zero None = 0
or_zero (Some n) = n

abbrev parts_weight : Expr-F ℕ ℕ → ℕ
parts_weight (Expr-F.Digits number) = 0
parts_weight (Expr-F.Text content) = 0
parts_weight (Expr-F.Truth truth) = 0
parts_weight Expr-F.Null = 0
parts_weight (Expr-F.Name qualifier name) = 0
parts_weight (Expr-F.Sign minus a) = a
parts_weight (Expr-F.Binary o a b) = a + b
parts_weight (Expr-F.Not a) = a
parts_weight (Expr-F.IsNull negated a) = a
parts_weight (Expr-F.Between negated a low high) = a + low + high
parts_weight (Expr-F.OneOf negated a choices) = a + sum choices
parts_weight (Expr-F.Like negated a pattern) = a
parts_weight (Expr-F.Cast a to) = a
parts_weight (Expr-F.Case operand whens otherwise) = or_zero operand + sum whens + or_zero otherwise
parts_weight (Expr-F.Call name star args) = sum args

abbrev step : Expr-F ℕ ℕ → ℕ
step form = parts_weight form + 3

abbrev when_step : WhenText-F ℕ ℕ → ℕ
when_step w = w.cond + w.result

pub weight : Expr → ℕ
weight = fold-Expr ℕ ℕ step when_step

pub weight_when : WhenText → ℕ
weight_when = f.folded_when ℕ ℕ step when_step

abbrev pub weight_perhaps : Option Expr → ℕ
weight_perhaps None = 0
weight_perhaps (Some a) = weight a

maybe : (o : Option Expr) → or_zero (perhaps_folded weight o) ≡ weight_perhaps o
maybe None = refl
maybe (Some a) = refl

-- ---- the weights of the forms

module _ (x : Expr) where
  pub weight-Sign : (m : Bool) (a : Expr) → x ≡ e.Sign m a → weight x ≡ weight a + 3
  unfolding weight
  weight-Sign m a k = ap weight k ∙ f.fold-Sign ℕ ℕ step when_step m a

  pub weight-Binary : (o : BinaryOp) (a b : Expr) → x ≡ e.Binary o a b → weight x ≡ weight a + weight b + 3
  unfolding weight
  weight-Binary o a b k = ap weight k ∙ f.fold-Binary ℕ ℕ step when_step o a b

  pub weight-Not : (a : Expr) → x ≡ e.Not a → weight x ≡ weight a + 3
  unfolding weight
  weight-Not a k = ap weight k ∙ f.fold-Not ℕ ℕ step when_step a

  pub weight-IsNull : (m : Bool) (a : Expr) → x ≡ e.IsNull m a → weight x ≡ weight a + 3
  unfolding weight
  weight-IsNull m a k = ap weight k ∙ f.fold-IsNull ℕ ℕ step when_step m a

  pub weight-Between : (m : Bool) (a b c : Expr) → x ≡ e.Between m a b c → weight x ≡ weight a + weight b + weight c + 3
  unfolding weight
  weight-Between m a b c k = ap weight k ∙ f.fold-Between ℕ ℕ step when_step m a b c

  pub weight-OneOf : (m : Bool) (a : Expr) (es : List Expr) → x ≡ e.OneOf m a es → weight x ≡ weight a + sum_by weight es + 3
  unfolding weight
  weight-OneOf m a es k = ap weight k ∙ f.fold-OneOf ℕ ℕ step when_step m a es ∙ ap (λ n. weight a + n + 3) (sum-map weight es)

  pub weight-Like : (m : Bool) (a : Expr) (pattern : List ℕ) → x ≡ e.Like m a pattern → weight x ≡ weight a + 3
  unfolding weight
  weight-Like m a pattern k = ap weight k ∙ f.fold-Like ℕ ℕ step when_step m a pattern

  pub weight-Cast : (a : Expr) (to : SqlType) → x ≡ e.Cast a to → weight x ≡ weight a + 3
  unfolding weight
  weight-Cast a to k = ap weight k ∙ f.fold-Cast ℕ ℕ step when_step a to

  pub weight-Case : (o : Option Expr) (ws : List WhenText) (z : Option Expr) → x ≡ e.Case o ws z
      → weight x ≡ weight_perhaps o + sum_by weight_when ws + weight_perhaps z + 3
  unfolding weight weight_when
  weight-Case o ws z k = ap weight k ∙ f.fold-Case ℕ ℕ step when_step o ws z
      ∙ ap (λ n. n + sum (map weight_when ws) + or_zero (perhaps_folded weight z) + 3) (maybe o)
      ∙ ap₂ (λ n m. weight_perhaps o + n + m + 3) (sum-map weight_when ws) (maybe z)

  pub weight-Call : (g : List ℕ) (star : Bool) (es : List Expr) → x ≡ e.Call g star es → weight x ≡ sum_by weight es + 3
  unfolding weight
  weight-Call g star es k = ap weight k ∙ f.fold-Call ℕ ℕ step when_step g star es ∙ ap (λ n. n + 3) (sum-map weight es)

weight-when : (w : WhenText) → weight_when w ≡ weight w.cond + weight w.result
unfolding weight weight_when
weight-when w = f.fold-when ℕ ℕ step when_step w

-- ---- what is below a measure

pub one_below : (t w a b : ℕ) → w ≡ t → w ≡ a + 3 → b ≡ a → b < t
one_below t w a b k l m = omega arith

pub two_below : (t w a b c d : ℕ) → w ≡ t → w ≡ a + b + 3 → c ≡ a → d ≡ b → c + d + 1 < t
two_below t w a b c d k l m n = omega arith

pub one_and_more_below : (t w a b c d : ℕ) → w ≡ t → w ≡ a + b + 3 → c ≡ a → d ≡ b → c + d + 2 < t
one_and_more_below t w a b c d k l m n = omega arith

pub three_below : (t w a b c d g h : ℕ) → w ≡ t → w ≡ a + b + c + 3 → d ≡ a → g ≡ b → h ≡ c → d + g + h + 1 < t
three_below t w a b c d g h k l m n o = omega arith

pub case_below : (t w a b c d : ℕ) → w ≡ t → w ≡ a + b + c + 3 → d ≡ b → a + d + c + 2 < t
case_below t w a b c d k l m = omega arith

pub call_below : (t w a b : ℕ) → w ≡ t → w ≡ a + 3 → b ≡ a → b + 2 < t
call_below t w a b k l m = omega arith

pub item_below : (t : ℕ) (xs : List Expr) (i : ℕ) (x : Expr) → sum_by weight xs + 1 ≡ t → i < length xs → x ≡ get_or xs i x → weight x < t
item_below t xs i x k l m =
    let n : weight x ≤ sum_by weight xs = subst (λ y. weight y ≤ sum_by weight xs) (sym m) (get_or-le-sum_by weight xs i x l) in
    omega arith

pub when_below : (t : ℕ) (ws : List WhenText) (i : ℕ) (w : WhenText) → sum_by weight_when ws + 1 ≡ t → i < length ws → w ≡ get_or ws i w
    → (weight w.cond < t) × (weight w.result < t)
when_below t ws i w k l m =
    let n : weight_when w ≤ sum_by weight_when ws = subst (λ v. weight_when v ≤ sum_by weight_when ws) (sym m) (get_or-le-sum_by weight_when ws i w l) in
    let o = weight-when w in
    (omega arith, omega arith)
