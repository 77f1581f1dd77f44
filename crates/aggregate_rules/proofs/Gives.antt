-- What an expression gives, form by form.
use Rattle.std.proofs.Common.{◌≡◌, ℕ, List, [], ◌++◌, map, Bool, Option, Some, None}
use Rattle.std.specs.Prelude.{option_map}
use Rattle.ksql_types.specs.declared.operator.BinaryOp.{BinaryOp}
use Rattle.ksql_types.specs.declared.value.SqlType.{SqlType}
use Rattle.expression_trees.specs.declared.tree.Expr.{Expr}
use Rattle.expression_trees.specs.declared.tree.Expr.TheVariants as e
use Rattle.expression_trees.specs.declared.tree.WhenText.{WhenText}
use Rattle.ksql_scopes.specs.Uses.{gathered, all_of, perhaps}
use Rattle.aggregate_rules.specs.Grouping.{gives}
use Rattle.expression_trees.proofs.Forms as p

pub gives-decided : (decide : Expr → Option (List Expr)) (x : Expr) (v : List Expr) → decide x ≡ Some v → gives decide x ≡ v
unfolding gives
gives-decided decide = p.at-decided (List Expr) (List Expr) decide (gathered) (λ a b. a ++ b)

pub gives-Digits : (decide : Expr → Option (List Expr)) (x : Expr) (number : ℕ) → x ≡ e.Digits number → decide x ≡ None → gives decide x ≡ []
unfolding gives
gives-Digits decide = p.at-Digits (List Expr) (List Expr) decide (gathered) (λ a b. a ++ b)

pub gives-Text : (decide : Expr → Option (List Expr)) (x : Expr) (content : List ℕ) → x ≡ e.Text content → decide x ≡ None → gives decide x ≡ []
unfolding gives
gives-Text decide = p.at-Text (List Expr) (List Expr) decide (gathered) (λ a b. a ++ b)

pub gives-Truth : (decide : Expr → Option (List Expr)) (x : Expr) (b : Bool) → x ≡ e.Truth b → decide x ≡ None → gives decide x ≡ []
unfolding gives
gives-Truth decide = p.at-Truth (List Expr) (List Expr) decide (gathered) (λ a b. a ++ b)

pub gives-Null : (decide : Expr → Option (List Expr)) (x : Expr) → x ≡ e.Null → decide x ≡ None → gives decide x ≡ []
unfolding gives
gives-Null decide = p.at-Null (List Expr) (List Expr) decide (gathered) (λ a b. a ++ b)

pub gives-Name : (decide : Expr → Option (List Expr)) (x : Expr) (q : Option (List ℕ)) (name : List ℕ) → x ≡ e.Name q name → decide x ≡ None → gives decide x ≡ []
unfolding gives
gives-Name decide = p.at-Name (List Expr) (List Expr) decide (gathered) (λ a b. a ++ b)

pub gives-Sign : (decide : Expr → Option (List Expr)) (x : Expr) (minus : Bool) (a : Expr) → x ≡ e.Sign minus a → decide x ≡ None → gives decide x ≡ gives decide a
unfolding gives
gives-Sign decide = p.at-Sign (List Expr) (List Expr) decide (gathered) (λ a b. a ++ b)

pub gives-Binary : (decide : Expr → Option (List Expr)) (x : Expr) (o : BinaryOp) (a : Expr) (b : Expr) → x ≡ e.Binary o a b → decide x ≡ None → gives decide x ≡ gives decide a ++ gives decide b
unfolding gives
gives-Binary decide = p.at-Binary (List Expr) (List Expr) decide (gathered) (λ a b. a ++ b)

pub gives-Not : (decide : Expr → Option (List Expr)) (x : Expr) (a : Expr) → x ≡ e.Not a → decide x ≡ None → gives decide x ≡ gives decide a
unfolding gives
gives-Not decide = p.at-Not (List Expr) (List Expr) decide (gathered) (λ a b. a ++ b)

pub gives-IsNull : (decide : Expr → Option (List Expr)) (x : Expr) (n : Bool) (a : Expr) → x ≡ e.IsNull n a → decide x ≡ None → gives decide x ≡ gives decide a
unfolding gives
gives-IsNull decide = p.at-IsNull (List Expr) (List Expr) decide (gathered) (λ a b. a ++ b)

pub gives-Between : (decide : Expr → Option (List Expr)) (x : Expr) (n : Bool) (a : Expr) (b : Expr) (c : Expr) → x ≡ e.Between n a b c → decide x ≡ None → gives decide x ≡ gives decide a ++ gives decide b ++ gives decide c
unfolding gives
gives-Between decide = p.at-Between (List Expr) (List Expr) decide (gathered) (λ a b. a ++ b)

pub gives-OneOf : (decide : Expr → Option (List Expr)) (x : Expr) (n : Bool) (a : Expr) (cs : List Expr) → x ≡ e.OneOf n a cs → decide x ≡ None → gives decide x ≡ gives decide a ++ all_of (map (gives decide) cs)
unfolding gives
gives-OneOf decide = p.at-OneOf (List Expr) (List Expr) decide (gathered) (λ a b. a ++ b)

pub gives-Like : (decide : Expr → Option (List Expr)) (x : Expr) (n : Bool) (a : Expr) (pattern : List ℕ) → x ≡ e.Like n a pattern → decide x ≡ None → gives decide x ≡ gives decide a
unfolding gives
gives-Like decide = p.at-Like (List Expr) (List Expr) decide (gathered) (λ a b. a ++ b)

pub gives-Cast : (decide : Expr → Option (List Expr)) (x : Expr) (a : Expr) (to : SqlType) → x ≡ e.Cast a to → decide x ≡ None → gives decide x ≡ gives decide a
unfolding gives
gives-Cast decide = p.at-Cast (List Expr) (List Expr) decide (gathered) (λ a b. a ++ b)

pub gives-Call : (decide : Expr → Option (List Expr)) (x : Expr) (f : List ℕ) (star : Bool) (args : List Expr) → x ≡ e.Call f star args → decide x ≡ None → gives decide x ≡ all_of (map (gives decide) args)
unfolding gives
gives-Call decide = p.at-Call (List Expr) (List Expr) decide (gathered) (λ a b. a ++ b)

pub gives-Case : (decide : Expr → Option (List Expr)) (x : Expr) (y : Option Expr) (ws : List WhenText) (z : Option Expr) → x ≡ e.Case y ws z → decide x ≡ None
    → gives decide x ≡ perhaps (option_map (gives decide) y) ++ all_of (map (λ w. gives decide w.cond ++ gives decide w.result) ws) ++ perhaps (option_map (gives decide) z)
unfolding gives
gives-Case decide = p.at-Case (List Expr) (List Expr) decide (gathered) (λ a b. a ++ b)

pub ruleset gives_forms = (gives-Digits, gives-Text, gives-Truth, gives-Null, gives-Name, gives-Sign, gives-Binary, gives-Not, gives-IsNull, gives-Between, gives-OneOf, gives-Like, gives-Cast, gives-Call, gives-Case)
