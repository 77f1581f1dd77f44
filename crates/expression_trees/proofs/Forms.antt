-- What is found of an expression by what is decided of it as a whole, or else by its parts: one equation for each form.
use Rattle.std.proofs.Common.{◌≡◌, ℕ, List, [], ◌∷◌, map, Bool, Option, Some, None, refl, ap, ap₂, sym, ◌∙◌}
use Rattle.std.specs.Prelude.{option_map, unwrap_or}
use Rattle.ksql_types.specs.declared.operator.BinaryOp.{BinaryOp}
use Rattle.ksql_types.specs.declared.value.SqlType.{SqlType}
use Rattle.expression_trees.specs.declared.tree.Expr.{Expr, para-Expr, para-roll-Expr, map-Expr, out-Expr, roll-Expr, roll-out-Expr}
use Rattle.expression_trees.specs.declared.tree.Expr.TheVariants as e
use Rattle.expression_trees.specs.declared.tree.Expr.TheVariants.{rolls-Digits, rolls-Text, rolls-Truth, rolls-Null, rolls-Name, rolls-Sign, rolls-Binary, rolls-Not, rolls-IsNull, rolls-Between, rolls-OneOf, rolls-Like, rolls-Cast, rolls-Case, rolls-Call}
use Rattle.expression_trees.specs.declared.tree.Expr.TheOpen.{Expr-F, WhenText-F}
use Rattle.expression_trees.specs.declared.tree.WhenText.{WhenText, para-WhenText, para-roll-WhenText}
use Rattle.expression_trees.specs.Parts.{whole, found, decided_or}

module _ (A B : Type 0) (decide : Expr → Option A) (together : Expr-F A B → A) (when : A → A → B) where
  abbrev pub step : Expr-F (Expr × A) (WhenText × B) → A
  step = decided_or A B decide together

  abbrev pub of_when : WhenText-F (Expr × A) (WhenText × B) → B
  of_when w = when w.cond.1 w.result.1

  abbrev pub all : Expr → A
  all = para-Expr A B step of_when

  abbrev pub all_when : WhenText → B
  all_when w = when (all w.cond) (all w.result)

  abbrev pub pairs : Expr-F Expr WhenText → Expr-F (Expr × A) (WhenText × B)
  pairs d = map-Expr Expr WhenText (Expr × A) (WhenText × B) (λ y. (y, all y)) (λ y. (y, para-WhenText A B step of_when y)) d

  firsts : (cs : List Expr) → map (λ (a : Expr × A). a.0) (map (λ y. (y, all y)) cs) ≡ cs
  firsts [] = refl
  firsts (c ∷ cs) = ap (λ os. c ∷ os) (firsts cs)

  seconds : (cs : List Expr) → map (λ (a : Expr × A). a.1) (map (λ y. (y, all y)) cs) ≡ map all cs
  seconds [] = refl
  seconds (c ∷ cs) = ap (λ os. all c ∷ os) (seconds cs)

  first_whens : (ws : List WhenText) → map (λ (w : WhenText × B). w.0) (map (λ y. (y, para-WhenText A B step of_when y)) ws) ≡ ws
  first_whens [] = refl
  first_whens (w ∷ ws) = ap (λ os. w ∷ os) (first_whens ws)

  second_whens : (ws : List WhenText) → map (λ (w : WhenText × B). w.1) (map (λ y. (y, para-WhenText A B step of_when y)) ws) ≡ map all_when ws
  second_whens [] = refl
  second_whens (w ∷ ws) = ap₂ (λ b os. b ∷ os) (para-roll-WhenText A B step of_when (record { cond = w.cond; result = w.result })) (second_whens ws)

  whole-pairs : (d : Expr-F Expr WhenText) → whole A B (pairs d) ≡ roll-Expr d
  whole-pairs (Expr-F.Digits number) = refl
  whole-pairs (Expr-F.Text content) = refl
  whole-pairs (Expr-F.Truth truth) = refl
  whole-pairs Expr-F.Null = refl
  whole-pairs (Expr-F.Name q name) = refl
  whole-pairs (Expr-F.Sign minus a) = refl
  whole-pairs (Expr-F.Binary o a b) = refl
  whole-pairs (Expr-F.Not a) = refl
  whole-pairs (Expr-F.IsNull n a) = refl
  whole-pairs (Expr-F.Between n a b c) = refl
  whole-pairs (Expr-F.OneOf n a cs) = ap (λ os. roll-Expr (Expr-F.OneOf n a os)) (firsts cs)
  whole-pairs (Expr-F.Like n a pattern) = refl
  whole-pairs (Expr-F.Cast a to) = refl
  whole-pairs (Expr-F.Case None ws None) = ap (λ os. roll-Expr (Expr-F.Case None os None)) (first_whens ws)
  whole-pairs (Expr-F.Case None ws (Some z)) = ap (λ os. roll-Expr (Expr-F.Case None os (Some z))) (first_whens ws)
  whole-pairs (Expr-F.Case (Some x) ws None) = ap (λ os. roll-Expr (Expr-F.Case (Some x) os None)) (first_whens ws)
  whole-pairs (Expr-F.Case (Some x) ws (Some z)) = ap (λ os. roll-Expr (Expr-F.Case (Some x) os (Some z))) (first_whens ws)
  whole-pairs (Expr-F.Call f star args) = ap (λ os. roll-Expr (Expr-F.Call f star os)) (firsts args)

  at-roll : (d : Expr-F Expr WhenText) → all (roll-Expr d) ≡ unwrap_or (decide (roll-Expr d)) (together (found A B (pairs d)))
  at-roll d = para-roll-Expr A B step of_when d ∙ ap (λ y. unwrap_or (decide y) (together (found A B (pairs d)))) (whole-pairs d)

  -- what is decided
  pub at-decided : (x : Expr) (v : A) → decide x ≡ Some v → all x ≡ v
  at-decided x v is =
      ap all (sym (roll-out-Expr x)) ∙ at-roll (out-Expr x)
      ∙ ap (λ y. unwrap_or (decide y) (together (found A B (pairs (out-Expr x))))) (roll-out-Expr x)
      ∙ ap (λ o. unwrap_or o (together (found A B (pairs (out-Expr x))))) is

  at-form : (x : Expr) (d : Expr-F Expr WhenText) → x ≡ roll-Expr d → decide x ≡ None → all x ≡ together (found A B (pairs d))
  at-form x d is none =
      ap all is ∙ at-roll d ∙ ap (λ o. unwrap_or o (together (found A B (pairs d)))) (ap decide (sym is) ∙ none)

  pub at-Digits : (x : Expr) (number : ℕ) → x ≡ e.Digits number → decide x ≡ None → all x ≡ together (Expr-F.Digits number)
  at-Digits x number is none = at-form x (Expr-F.Digits number) (is ∙ sym (rolls-Digits number)) none

  pub at-Text : (x : Expr) (content : List ℕ) → x ≡ e.Text content → decide x ≡ None → all x ≡ together (Expr-F.Text content)
  at-Text x content is none = at-form x (Expr-F.Text content) (is ∙ sym (rolls-Text content)) none

  pub at-Truth : (x : Expr) (b : Bool) → x ≡ e.Truth b → decide x ≡ None → all x ≡ together (Expr-F.Truth b)
  at-Truth x b is none = at-form x (Expr-F.Truth b) (is ∙ sym (rolls-Truth b)) none

  pub at-Null : (x : Expr) → x ≡ e.Null → decide x ≡ None → all x ≡ together Expr-F.Null
  at-Null x is none = at-form x Expr-F.Null (is ∙ sym rolls-Null) none

  pub at-Name : (x : Expr) (q : Option (List ℕ)) (name : List ℕ) → x ≡ e.Name q name → decide x ≡ None → all x ≡ together (Expr-F.Name q name)
  at-Name x q name is none = at-form x (Expr-F.Name q name) (is ∙ sym (rolls-Name q name)) none

  pub at-Sign : (x : Expr) (minus : Bool) (a : Expr) → x ≡ e.Sign minus a → decide x ≡ None → all x ≡ together (Expr-F.Sign minus (all a))
  at-Sign x minus a is none = at-form x (Expr-F.Sign minus a) (is ∙ sym (rolls-Sign minus a)) none

  pub at-Binary : (x : Expr) (o : BinaryOp) (a : Expr) (b : Expr) → x ≡ e.Binary o a b → decide x ≡ None → all x ≡ together (Expr-F.Binary o (all a) (all b))
  at-Binary x o a b is none = at-form x (Expr-F.Binary o a b) (is ∙ sym (rolls-Binary o a b)) none

  pub at-Not : (x : Expr) (a : Expr) → x ≡ e.Not a → decide x ≡ None → all x ≡ together (Expr-F.Not (all a))
  at-Not x a is none = at-form x (Expr-F.Not a) (is ∙ sym (rolls-Not a)) none

  pub at-IsNull : (x : Expr) (n : Bool) (a : Expr) → x ≡ e.IsNull n a → decide x ≡ None → all x ≡ together (Expr-F.IsNull n (all a))
  at-IsNull x n a is none = at-form x (Expr-F.IsNull n a) (is ∙ sym (rolls-IsNull n a)) none

  pub at-Between : (x : Expr) (n : Bool) (a : Expr) (b : Expr) (c : Expr) → x ≡ e.Between n a b c → decide x ≡ None → all x ≡ together (Expr-F.Between n (all a) (all b) (all c))
  at-Between x n a b c is none = at-form x (Expr-F.Between n a b c) (is ∙ sym (rolls-Between n a b c)) none

  pub at-OneOf : (x : Expr) (n : Bool) (a : Expr) (cs : List Expr) → x ≡ e.OneOf n a cs → decide x ≡ None → all x ≡ together (Expr-F.OneOf n (all a) (map all cs))
  at-OneOf x n a cs is none = at-form x (Expr-F.OneOf n a cs) (is ∙ sym (rolls-OneOf n a cs)) none ∙ ap (λ os. together (Expr-F.OneOf n (all a) os)) (seconds cs)

  pub at-Like : (x : Expr) (n : Bool) (a : Expr) (pattern : List ℕ) → x ≡ e.Like n a pattern → decide x ≡ None → all x ≡ together (Expr-F.Like n (all a) pattern)
  at-Like x n a pattern is none = at-form x (Expr-F.Like n a pattern) (is ∙ sym (rolls-Like n a pattern)) none

  pub at-Cast : (x : Expr) (a : Expr) (to : SqlType) → x ≡ e.Cast a to → decide x ≡ None → all x ≡ together (Expr-F.Cast (all a) to)
  at-Cast x a to is none = at-form x (Expr-F.Cast a to) (is ∙ sym (rolls-Cast a to)) none

  pub at-Call : (x : Expr) (f : List ℕ) (star : Bool) (args : List Expr) → x ≡ e.Call f star args → decide x ≡ None → all x ≡ together (Expr-F.Call f star (map all args))
  at-Call x f star args is none = at-form x (Expr-F.Call f star args) (is ∙ sym (rolls-Call f star args)) none ∙ ap (λ os. together (Expr-F.Call f star os)) (seconds args)

  pub at-Case : (x : Expr) (y : Option Expr) (ws : List WhenText) (z : Option Expr) → x ≡ e.Case y ws z → decide x ≡ None
      → all x ≡ together (Expr-F.Case (option_map all y) (map all_when ws) (option_map all z))
  at-Case x None ws None is none = at-form x (Expr-F.Case None ws None) (is ∙ sym (rolls-Case None ws None)) none ∙ ap (λ os. together (Expr-F.Case None os None)) (second_whens ws)
  at-Case x None ws (Some z) is none = at-form x (Expr-F.Case None ws (Some z)) (is ∙ sym (rolls-Case None ws (Some z))) none ∙ ap (λ os. together (Expr-F.Case None os (Some (all z)))) (second_whens ws)
  at-Case x (Some y) ws None is none = at-form x (Expr-F.Case (Some y) ws None) (is ∙ sym (rolls-Case (Some y) ws None)) none ∙ ap (λ os. together (Expr-F.Case (Some (all y)) os None)) (second_whens ws)
  at-Case x (Some y) ws (Some z) is none = at-form x (Expr-F.Case (Some y) ws (Some z)) (is ∙ sym (rolls-Case (Some y) ws (Some z))) none ∙ ap (λ os. together (Expr-F.Case (Some (all y)) os (Some (all z)))) (second_whens ws)
