-- What an expression becomes, form by form.
use Rattle.std.proofs.Common.{◌≡◌, ℕ, List, map, Bool, Option, Some, None, Result, IfOk, sym, subst, ◌∙◌}
use Rattle.std.specs.Prelude.{option_map}
use Rattle.ksql_types.specs.declared.operator.BinaryOp.{BinaryOp}
use Rattle.ksql_types.specs.declared.value.SqlType.{SqlType}
use Rattle.expression_trees.specs.declared.tree.Expr.{Expr, roll-Expr}
use Rattle.expression_trees.specs.declared.tree.Expr.TheVariants as e
use Rattle.expression_trees.specs.declared.tree.Expr.TheVariants.{rolls-Digits, rolls-Text, rolls-Truth, rolls-Null, rolls-Name, rolls-Sign, rolls-Binary, rolls-Not, rolls-IsNull, rolls-Between, rolls-OneOf, rolls-Like, rolls-Cast, rolls-Case, rolls-Call}
use Rattle.expression_trees.specs.declared.tree.WhenText.{WhenText, roll-WhenText}
use Rattle.expression_trees.specs.Parts.{becomes, when_becomes}
use Rattle.expression_trees.proofs.Forms as p

-- what equal parts give
pub moved : {A E : Type 0} (r : Result A E) (a b : A) → b ≡ a → IfOk r (λ x. x ≡ a) → IfOk r (λ x. x ≡ b)
moved r a b h = subst (λ z. IfOk r (λ x. x ≡ z)) (sym h)

pub becomes-decided : (decide : Expr → Option Expr) (x : Expr) (v : Expr) → decide x ≡ Some v → becomes decide x ≡ v
unfolding becomes
becomes-decided decide = p.at-decided Expr WhenText decide roll-Expr (λ a b. roll-WhenText (record { cond = a; result = b }))

pub becomes-Digits : (decide : Expr → Option Expr) (x : Expr) (number : ℕ) → x ≡ e.Digits number → decide x ≡ None → becomes decide x ≡ e.Digits number
unfolding becomes
becomes-Digits decide x number is none = p.at-Digits Expr WhenText decide roll-Expr (λ a b. roll-WhenText (record { cond = a; result = b })) x number is none ∙ rolls-Digits number

pub becomes-Text : (decide : Expr → Option Expr) (x : Expr) (content : List ℕ) → x ≡ e.Text content → decide x ≡ None → becomes decide x ≡ e.Text content
unfolding becomes
becomes-Text decide x content is none = p.at-Text Expr WhenText decide roll-Expr (λ a b. roll-WhenText (record { cond = a; result = b })) x content is none ∙ rolls-Text content

pub becomes-Truth : (decide : Expr → Option Expr) (x : Expr) (b : Bool) → x ≡ e.Truth b → decide x ≡ None → becomes decide x ≡ e.Truth b
unfolding becomes
becomes-Truth decide x b is none = p.at-Truth Expr WhenText decide roll-Expr (λ a b. roll-WhenText (record { cond = a; result = b })) x b is none ∙ rolls-Truth b

pub becomes-Null : (decide : Expr → Option Expr) (x : Expr) → x ≡ e.Null → decide x ≡ None → becomes decide x ≡ e.Null
unfolding becomes
becomes-Null decide x is none = p.at-Null Expr WhenText decide roll-Expr (λ a b. roll-WhenText (record { cond = a; result = b })) x is none ∙ rolls-Null

pub becomes-Name : (decide : Expr → Option Expr) (x : Expr) (q : Option (List ℕ)) (name : List ℕ) → x ≡ e.Name q name → decide x ≡ None → becomes decide x ≡ e.Name q name
unfolding becomes
becomes-Name decide x q name is none = p.at-Name Expr WhenText decide roll-Expr (λ a b. roll-WhenText (record { cond = a; result = b })) x q name is none ∙ rolls-Name q name

pub becomes-Sign : (decide : Expr → Option Expr) (x : Expr) (minus : Bool) (a : Expr) → x ≡ e.Sign minus a → decide x ≡ None → becomes decide x ≡ e.Sign minus (becomes decide a)
unfolding becomes
becomes-Sign decide x minus a is none = p.at-Sign Expr WhenText decide roll-Expr (λ a b. roll-WhenText (record { cond = a; result = b })) x minus a is none ∙ rolls-Sign minus (becomes decide a)

pub becomes-Binary : (decide : Expr → Option Expr) (x : Expr) (o : BinaryOp) (a : Expr) (b : Expr) → x ≡ e.Binary o a b → decide x ≡ None → becomes decide x ≡ e.Binary o (becomes decide a) (becomes decide b)
unfolding becomes
becomes-Binary decide x o a b is none = p.at-Binary Expr WhenText decide roll-Expr (λ a b. roll-WhenText (record { cond = a; result = b })) x o a b is none ∙ rolls-Binary o (becomes decide a) (becomes decide b)

pub becomes-Not : (decide : Expr → Option Expr) (x : Expr) (a : Expr) → x ≡ e.Not a → decide x ≡ None → becomes decide x ≡ e.Not (becomes decide a)
unfolding becomes
becomes-Not decide x a is none = p.at-Not Expr WhenText decide roll-Expr (λ a b. roll-WhenText (record { cond = a; result = b })) x a is none ∙ rolls-Not (becomes decide a)

pub becomes-IsNull : (decide : Expr → Option Expr) (x : Expr) (n : Bool) (a : Expr) → x ≡ e.IsNull n a → decide x ≡ None → becomes decide x ≡ e.IsNull n (becomes decide a)
unfolding becomes
becomes-IsNull decide x n a is none = p.at-IsNull Expr WhenText decide roll-Expr (λ a b. roll-WhenText (record { cond = a; result = b })) x n a is none ∙ rolls-IsNull n (becomes decide a)

pub becomes-Between : (decide : Expr → Option Expr) (x : Expr) (n : Bool) (a : Expr) (b : Expr) (c : Expr) → x ≡ e.Between n a b c → decide x ≡ None → becomes decide x ≡ e.Between n (becomes decide a) (becomes decide b) (becomes decide c)
unfolding becomes
becomes-Between decide x n a b c is none = p.at-Between Expr WhenText decide roll-Expr (λ a b. roll-WhenText (record { cond = a; result = b })) x n a b c is none ∙ rolls-Between n (becomes decide a) (becomes decide b) (becomes decide c)

pub becomes-OneOf : (decide : Expr → Option Expr) (x : Expr) (n : Bool) (a : Expr) (cs : List Expr) → x ≡ e.OneOf n a cs → decide x ≡ None → becomes decide x ≡ e.OneOf n (becomes decide a) (map (becomes decide) cs)
unfolding becomes
becomes-OneOf decide x n a cs is none = p.at-OneOf Expr WhenText decide roll-Expr (λ a b. roll-WhenText (record { cond = a; result = b })) x n a cs is none ∙ rolls-OneOf n (becomes decide a) (map (becomes decide) cs)

pub becomes-Like : (decide : Expr → Option Expr) (x : Expr) (n : Bool) (a : Expr) (pattern : List ℕ) → x ≡ e.Like n a pattern → decide x ≡ None → becomes decide x ≡ e.Like n (becomes decide a) pattern
unfolding becomes
becomes-Like decide x n a pattern is none = p.at-Like Expr WhenText decide roll-Expr (λ a b. roll-WhenText (record { cond = a; result = b })) x n a pattern is none ∙ rolls-Like n (becomes decide a) pattern

pub becomes-Cast : (decide : Expr → Option Expr) (x : Expr) (a : Expr) (to : SqlType) → x ≡ e.Cast a to → decide x ≡ None → becomes decide x ≡ e.Cast (becomes decide a) to
unfolding becomes
becomes-Cast decide x a to is none = p.at-Cast Expr WhenText decide roll-Expr (λ a b. roll-WhenText (record { cond = a; result = b })) x a to is none ∙ rolls-Cast (becomes decide a) to

pub becomes-Call : (decide : Expr → Option Expr) (x : Expr) (f : List ℕ) (star : Bool) (args : List Expr) → x ≡ e.Call f star args → decide x ≡ None → becomes decide x ≡ e.Call f star (map (becomes decide) args)
unfolding becomes
becomes-Call decide x f star args is none = p.at-Call Expr WhenText decide roll-Expr (λ a b. roll-WhenText (record { cond = a; result = b })) x f star args is none ∙ rolls-Call f star (map (becomes decide) args)

pub becomes-Case : (decide : Expr → Option Expr) (x : Expr) (y : Option Expr) (ws : List WhenText) (z : Option Expr) → x ≡ e.Case y ws z → decide x ≡ None
    → becomes decide x ≡ e.Case (option_map (becomes decide) y) (map (when_becomes decide) ws) (option_map (becomes decide) z)
unfolding becomes
becomes-Case decide x y ws z is none =
    p.at-Case Expr WhenText decide roll-Expr (λ a b. roll-WhenText (record { cond = a; result = b })) x y ws z is none
    ∙ rolls-Case (option_map (becomes decide) y) (map (when_becomes decide) ws) (option_map (becomes decide) z)
