-- Whether an expression passes, form by form.
use Rattle.std.proofs.Common.{◌≡◌, ℕ, List, ◌||◌, map, Bool, false, Option, Some, None}
use Rattle.std.specs.Prelude.{option_map}
use Rattle.ksql_types.specs.declared.operator.BinaryOp.{BinaryOp}
use Rattle.ksql_types.specs.declared.value.SqlType.{SqlType}
use Rattle.expression_trees.specs.declared.tree.Expr.{Expr}
use Rattle.expression_trees.specs.declared.tree.Expr.TheVariants as e
use Rattle.expression_trees.specs.declared.tree.WhenText.{WhenText}
use Rattle.expression_trees.specs.Parts.{passes, any_part, any_of, any_perhaps}
use Rattle.expression_trees.proofs.Forms as p

pub passes-decided : (decide : Expr → Option (Bool)) (x : Expr) (v : Bool) → decide x ≡ Some v → passes decide x ≡ v
unfolding passes
passes-decided decide = p.at-decided (Bool) (Bool) decide (any_part) (λ a b. a || b)

pub passes-Digits : (decide : Expr → Option (Bool)) (x : Expr) (number : ℕ) → x ≡ e.Digits number → decide x ≡ None → passes decide x ≡ false
unfolding passes
passes-Digits decide = p.at-Digits (Bool) (Bool) decide (any_part) (λ a b. a || b)

pub passes-Text : (decide : Expr → Option (Bool)) (x : Expr) (content : List ℕ) → x ≡ e.Text content → decide x ≡ None → passes decide x ≡ false
unfolding passes
passes-Text decide = p.at-Text (Bool) (Bool) decide (any_part) (λ a b. a || b)

pub passes-Truth : (decide : Expr → Option (Bool)) (x : Expr) (b : Bool) → x ≡ e.Truth b → decide x ≡ None → passes decide x ≡ false
unfolding passes
passes-Truth decide = p.at-Truth (Bool) (Bool) decide (any_part) (λ a b. a || b)

pub passes-Null : (decide : Expr → Option (Bool)) (x : Expr) → x ≡ e.Null → decide x ≡ None → passes decide x ≡ false
unfolding passes
passes-Null decide = p.at-Null (Bool) (Bool) decide (any_part) (λ a b. a || b)

pub passes-Name : (decide : Expr → Option (Bool)) (x : Expr) (q : Option (List ℕ)) (name : List ℕ) → x ≡ e.Name q name → decide x ≡ None → passes decide x ≡ false
unfolding passes
passes-Name decide = p.at-Name (Bool) (Bool) decide (any_part) (λ a b. a || b)

pub passes-Sign : (decide : Expr → Option (Bool)) (x : Expr) (minus : Bool) (a : Expr) → x ≡ e.Sign minus a → decide x ≡ None → passes decide x ≡ passes decide a
unfolding passes
passes-Sign decide = p.at-Sign (Bool) (Bool) decide (any_part) (λ a b. a || b)

pub passes-Binary : (decide : Expr → Option (Bool)) (x : Expr) (o : BinaryOp) (a : Expr) (b : Expr) → x ≡ e.Binary o a b → decide x ≡ None → passes decide x ≡ passes decide a || passes decide b
unfolding passes
passes-Binary decide = p.at-Binary (Bool) (Bool) decide (any_part) (λ a b. a || b)

pub passes-Not : (decide : Expr → Option (Bool)) (x : Expr) (a : Expr) → x ≡ e.Not a → decide x ≡ None → passes decide x ≡ passes decide a
unfolding passes
passes-Not decide = p.at-Not (Bool) (Bool) decide (any_part) (λ a b. a || b)

pub passes-IsNull : (decide : Expr → Option (Bool)) (x : Expr) (n : Bool) (a : Expr) → x ≡ e.IsNull n a → decide x ≡ None → passes decide x ≡ passes decide a
unfolding passes
passes-IsNull decide = p.at-IsNull (Bool) (Bool) decide (any_part) (λ a b. a || b)

pub passes-Between : (decide : Expr → Option (Bool)) (x : Expr) (n : Bool) (a : Expr) (b : Expr) (c : Expr) → x ≡ e.Between n a b c → decide x ≡ None → passes decide x ≡ passes decide a || passes decide b || passes decide c
unfolding passes
passes-Between decide = p.at-Between (Bool) (Bool) decide (any_part) (λ a b. a || b)

pub passes-OneOf : (decide : Expr → Option (Bool)) (x : Expr) (n : Bool) (a : Expr) (cs : List Expr) → x ≡ e.OneOf n a cs → decide x ≡ None → passes decide x ≡ passes decide a || any_of (map (passes decide) cs)
unfolding passes
passes-OneOf decide = p.at-OneOf (Bool) (Bool) decide (any_part) (λ a b. a || b)

pub passes-Like : (decide : Expr → Option (Bool)) (x : Expr) (n : Bool) (a : Expr) (pattern : List ℕ) → x ≡ e.Like n a pattern → decide x ≡ None → passes decide x ≡ passes decide a
unfolding passes
passes-Like decide = p.at-Like (Bool) (Bool) decide (any_part) (λ a b. a || b)

pub passes-Cast : (decide : Expr → Option (Bool)) (x : Expr) (a : Expr) (to : SqlType) → x ≡ e.Cast a to → decide x ≡ None → passes decide x ≡ passes decide a
unfolding passes
passes-Cast decide = p.at-Cast (Bool) (Bool) decide (any_part) (λ a b. a || b)

pub passes-Call : (decide : Expr → Option (Bool)) (x : Expr) (f : List ℕ) (star : Bool) (args : List Expr) → x ≡ e.Call f star args → decide x ≡ None → passes decide x ≡ any_of (map (passes decide) args)
unfolding passes
passes-Call decide = p.at-Call (Bool) (Bool) decide (any_part) (λ a b. a || b)

pub passes-Case : (decide : Expr → Option (Bool)) (x : Expr) (y : Option Expr) (ws : List WhenText) (z : Option Expr) → x ≡ e.Case y ws z → decide x ≡ None
    → passes decide x ≡ any_perhaps (option_map (passes decide) y) || any_of (map (λ w. passes decide w.cond || passes decide w.result) ws) || any_perhaps (option_map (passes decide) z)
unfolding passes
passes-Case decide = p.at-Case (Bool) (Bool) decide (any_part) (λ a b. a || b)

pub ruleset passes_forms = (passes-Digits, passes-Text, passes-Truth, passes-Null, passes-Name, passes-Sign, passes-Binary, passes-Not, passes-IsNull, passes-Between, passes-OneOf, passes-Like, passes-Cast, passes-Call, passes-Case)
