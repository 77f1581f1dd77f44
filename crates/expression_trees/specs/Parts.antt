-- An expression by its parts.
use Rattle.std.specs.Prelude.{Bool, false, ◌||◌, List, Option, Some, None, unwrap_or}
use Rattle.std.specs.List.{list_any}
use Rattle.expression_trees.specs.declared.tree.Expr.{Expr, para-Expr, map-Expr, roll-Expr}
use Rattle.expression_trees.specs.declared.tree.Expr.TheOpen.{Expr-F}
use Rattle.expression_trees.specs.declared.tree.WhenText.{WhenText, roll-WhenText}

abbrev pub any_of : List Bool → Bool
any_of bs = list_any (λ b. b) bs

abbrev pub any_perhaps : Option Bool → Bool
any_perhaps None = false
any_perhaps (Some b) = b

-- whether one of a form's parts passes
abbrev pub any_part : Expr-F Bool Bool → Bool
any_part (Expr-F.Digits number) = false
any_part (Expr-F.Text content) = false
any_part (Expr-F.Truth truth) = false
any_part Expr-F.Null = false
any_part (Expr-F.Name qualifier name) = false
any_part (Expr-F.Sign minus a) = a
any_part (Expr-F.Binary o a b) = a || b
any_part (Expr-F.Not a) = a
any_part (Expr-F.IsNull negated a) = a
any_part (Expr-F.Between negated a low high) = a || low || high
any_part (Expr-F.OneOf negated a choices) = a || any_of choices
any_part (Expr-F.Like negated a pattern) = a
any_part (Expr-F.Cast a to) = a
any_part (Expr-F.Case operand whens otherwise) = any_perhaps operand || any_of whens || any_perhaps otherwise
any_part (Expr-F.Call name star args) = any_of args

-- a form whose parts are paired with what was found of them: the expression, and the form of what was found
abbrev pub whole : (A B : Type 0) → Expr-F (Expr × A) (WhenText × B) → Expr
whole A B form = roll-Expr (map-Expr (Expr × A) (WhenText × B) Expr WhenText (λ a. a.0) (λ w. w.0) form)

abbrev pub found : (A B : Type 0) → Expr-F (Expr × A) (WhenText × B) → Expr-F A B
found A B form = map-Expr (Expr × A) (WhenText × B) A B (λ a. a.1) (λ w. w.1) form

-- the decision for an expression as a whole, or else what its parts give together
abbrev pub decided_or : (A B : Type 0) → (Expr → Option A) → (Expr-F A B → A) → Expr-F (Expr × A) (WhenText × B) → A
decided_or A B decide together form = unwrap_or (decide (whole A B form)) (together (found A B form))

-- whether an expression passes: by its decision, or else if one of its parts passes
unfoldable pub passes : (Expr → Option Bool) → Expr → Bool
passes decide = para-Expr Bool Bool (decided_or Bool Bool decide any_part) (λ w. w.cond.1 || w.result.1)

-- an expression after replacement: its replacement as a whole, or else itself with its parts replaced
unfoldable pub becomes : (Expr → Option Expr) → Expr → Expr
becomes decide =
    para-Expr Expr WhenText (decided_or Expr WhenText decide roll-Expr) (λ w. roll-WhenText (record { cond = w.cond.1; result = w.result.1 }))

abbrev pub when_becomes : (Expr → Option Expr) → WhenText → WhenText
when_becomes decide w = roll-WhenText (record { cond = becomes decide w.cond; result = becomes decide w.result })
