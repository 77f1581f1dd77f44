-- Whether a function that passes is called in an expression, form by form.
use Rattle.std.proofs.Common.{◌≡◌, ℕ, List, [], ◌∷◌, ◌++◌, ◌||◌, map, Bool, false, Option, Some, None, refl, ap, ap₂, ◌∙◌}
use Rattle.std.specs.Prelude.{option_map}
use Rattle.std.specs.List.{list_any}
use Rattle.std.proofs.lemmas.List.Folds.{list_any-append}
use Rattle.ksql_types.specs.declared.operator.BinaryOp.{BinaryOp}
use Rattle.ksql_types.specs.declared.value.SqlType.{SqlType}
use Rattle.expression_trees.specs.declared.tree.Expr.{Expr}
use Rattle.expression_trees.specs.declared.tree.Expr.TheVariants as e
use Rattle.expression_trees.specs.declared.tree.WhenText.{WhenText}
use Rattle.ksql_scopes.specs.Uses.{calls, calls_step, of_when, all_of, perhaps}
use Rattle.expression_trees.specs.Parts.{any_of, any_perhaps}
use Rattle.expression_trees.proofs.Folds as folds
use Rattle.expression_trees.proofs.Folds.{perhaps_folded}

abbrev pub calls_one : (List ℕ → Bool) → Expr → Bool
calls_one p x = list_any p (calls x)

any-all_of : (p : List ℕ → Bool) (cs : List Expr) → list_any p (all_of (map calls cs)) ≡ any_of (map (calls_one p) cs)
any-all_of p [] = refl
any-all_of p (c ∷ cs) = list_any-append p (calls c) (all_of (map calls cs)) ∙ ap (λ b. calls_one p c || b) (any-all_of p cs)

abbrev when_calls : WhenText → List (List ℕ)
when_calls = folds.folded_when (List (List ℕ)) (List (List ℕ)) calls_step of_when

one_when : (p : List ℕ → Bool) (w : WhenText) → list_any p (when_calls w) ≡ (calls_one p w.cond || calls_one p w.result)
unfolding calls
one_when p w = ap (list_any p) (folds.fold-when (List (List ℕ)) (List (List ℕ)) calls_step of_when w) ∙ list_any-append p (calls w.cond) (calls w.result)

any-whens : (p : List ℕ → Bool) (ws : List WhenText) → list_any p (all_of (map when_calls ws)) ≡ any_of (map (λ w. calls_one p w.cond || calls_one p w.result) ws)
any-whens p [] = refl
any-whens p (w ∷ ws) = list_any-append p (when_calls w) (all_of (map when_calls ws)) ∙ ap₂ (λ a b. a || b) (one_when p w) (any-whens p ws)

any-perhaps : (p : List ℕ → Bool) (y : Option Expr) → list_any p (perhaps (perhaps_folded calls y)) ≡ any_perhaps (option_map (calls_one p) y)
any-perhaps p None = refl
any-perhaps p (Some y) = refl

pub calls-Digits : (p : List ℕ → Bool) (x : Expr) (number : ℕ) → x ≡ e.Digits number → calls_one p x ≡ (false)
unfolding calls
calls-Digits p x number is = ap (calls_one p) is ∙ ap (list_any p) (folds.fold-Digits (List (List ℕ)) (List (List ℕ)) calls_step of_when number)

pub calls-Text : (p : List ℕ → Bool) (x : Expr) (content : List ℕ) → x ≡ e.Text content → calls_one p x ≡ (false)
unfolding calls
calls-Text p x content is = ap (calls_one p) is ∙ ap (list_any p) (folds.fold-Text (List (List ℕ)) (List (List ℕ)) calls_step of_when content)

pub calls-Truth : (p : List ℕ → Bool) (x : Expr) (b : Bool) → x ≡ e.Truth b → calls_one p x ≡ (false)
unfolding calls
calls-Truth p x b is = ap (calls_one p) is ∙ ap (list_any p) (folds.fold-Truth (List (List ℕ)) (List (List ℕ)) calls_step of_when b)

pub calls-Null : (p : List ℕ → Bool) (x : Expr) → x ≡ e.Null → calls_one p x ≡ (false)
unfolding calls
calls-Null p x is = ap (calls_one p) is ∙ ap (list_any p) (folds.fold-Null (List (List ℕ)) (List (List ℕ)) calls_step of_when)

pub calls-Name : (p : List ℕ → Bool) (x : Expr) (q : Option (List ℕ)) (name : List ℕ) → x ≡ e.Name q name → calls_one p x ≡ (false)
unfolding calls
calls-Name p x q name is = ap (calls_one p) is ∙ ap (list_any p) (folds.fold-Name (List (List ℕ)) (List (List ℕ)) calls_step of_when q name)

pub calls-Sign : (p : List ℕ → Bool) (x : Expr) (minus : Bool) (a : Expr) → x ≡ e.Sign minus a → calls_one p x ≡ (calls_one p a)
unfolding calls
calls-Sign p x minus a is = ap (calls_one p) is ∙ ap (list_any p) (folds.fold-Sign (List (List ℕ)) (List (List ℕ)) calls_step of_when minus a)

pub calls-Binary : (p : List ℕ → Bool) (x : Expr) (o : BinaryOp) (a : Expr) (b : Expr) → x ≡ e.Binary o a b → calls_one p x ≡ (calls_one p a || calls_one p b)
unfolding calls
calls-Binary p x o a b is = ap (calls_one p) is ∙ ap (list_any p) (folds.fold-Binary (List (List ℕ)) (List (List ℕ)) calls_step of_when o a b) ∙ list_any-append p (calls a) (calls b)

pub calls-Not : (p : List ℕ → Bool) (x : Expr) (a : Expr) → x ≡ e.Not a → calls_one p x ≡ (calls_one p a)
unfolding calls
calls-Not p x a is = ap (calls_one p) is ∙ ap (list_any p) (folds.fold-Not (List (List ℕ)) (List (List ℕ)) calls_step of_when a)

pub calls-IsNull : (p : List ℕ → Bool) (x : Expr) (n : Bool) (a : Expr) → x ≡ e.IsNull n a → calls_one p x ≡ (calls_one p a)
unfolding calls
calls-IsNull p x n a is = ap (calls_one p) is ∙ ap (list_any p) (folds.fold-IsNull (List (List ℕ)) (List (List ℕ)) calls_step of_when n a)

pub calls-Between : (p : List ℕ → Bool) (x : Expr) (n : Bool) (a : Expr) (b : Expr) (c : Expr) → x ≡ e.Between n a b c → calls_one p x ≡ (calls_one p a || calls_one p b || calls_one p c)
unfolding calls
calls-Between p x n a b c is = ap (calls_one p) is ∙ ap (list_any p) (folds.fold-Between (List (List ℕ)) (List (List ℕ)) calls_step of_when n a b c) ∙ list_any-append p (calls a ++ calls b) (calls c) ∙ ap (λ y. y || calls_one p c) (list_any-append p (calls a) (calls b))

pub calls-OneOf : (p : List ℕ → Bool) (x : Expr) (n : Bool) (a : Expr) (cs : List Expr) → x ≡ e.OneOf n a cs → calls_one p x ≡ (calls_one p a || any_of (map (calls_one p) cs))
unfolding calls
calls-OneOf p x n a cs is = ap (calls_one p) is ∙ ap (list_any p) (folds.fold-OneOf (List (List ℕ)) (List (List ℕ)) calls_step of_when n a cs) ∙ list_any-append p (calls a) (all_of (map calls cs)) ∙ ap (λ b. calls_one p a || b) (any-all_of p cs)

pub calls-Like : (p : List ℕ → Bool) (x : Expr) (n : Bool) (a : Expr) (pattern : List ℕ) → x ≡ e.Like n a pattern → calls_one p x ≡ (calls_one p a)
unfolding calls
calls-Like p x n a pattern is = ap (calls_one p) is ∙ ap (list_any p) (folds.fold-Like (List (List ℕ)) (List (List ℕ)) calls_step of_when n a pattern)

pub calls-Cast : (p : List ℕ → Bool) (x : Expr) (a : Expr) (to : SqlType) → x ≡ e.Cast a to → calls_one p x ≡ (calls_one p a)
unfolding calls
calls-Cast p x a to is = ap (calls_one p) is ∙ ap (list_any p) (folds.fold-Cast (List (List ℕ)) (List (List ℕ)) calls_step of_when a to)

pub calls-Call : (p : List ℕ → Bool) (x : Expr) (f : List ℕ) (star : Bool) (args : List Expr) → x ≡ e.Call f star args → calls_one p x ≡ (p f || any_of (map (calls_one p) args))
unfolding calls
calls-Call p x f star args is = ap (calls_one p) is ∙ ap (list_any p) (folds.fold-Call (List (List ℕ)) (List (List ℕ)) calls_step of_when f star args) ∙ ap (λ b. p f || b) (any-all_of p args)

pub calls-Case : (p : List ℕ → Bool) (x : Expr) (y : Option Expr) (ws : List WhenText) (z : Option Expr) → x ≡ e.Case y ws z
    → calls_one p x ≡ (any_perhaps (option_map (calls_one p) y) || any_of (map (λ w. calls_one p w.cond || calls_one p w.result) ws) || any_perhaps (option_map (calls_one p) z))
unfolding calls
calls-Case p x y ws z is =
    ap (calls_one p) is ∙ ap (list_any p) (folds.fold-Case (List (List ℕ)) (List (List ℕ)) calls_step of_when y ws z)
    ∙ list_any-append p (perhaps (perhaps_folded calls y) ++ all_of (map when_calls ws)) (perhaps (perhaps_folded calls z))
    ∙ ap₂ (λ a b. a || b)
    (list_any-append p (perhaps (perhaps_folded calls y)) (all_of (map when_calls ws)) ∙ ap₂ (λ a b. a || b) (any-perhaps p y) (any-whens p ws))
    (any-perhaps p z)
