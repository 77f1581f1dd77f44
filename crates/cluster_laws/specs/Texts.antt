-- Whether the parts of an expression contain a text literal that isn't valid UTF-8.
use Rattle.std.specs.Prelude.{◌≡◌, ◌||◌, Bool, false}
use Rattle.ksql_expr.specs.declared.typed.TypedNode.{TypedNode, fold-TypedNode}
use Rattle.ksql_expr.specs.declared.typed.TypedWhen.{TypedWhen, fold-TypedWhen}
use Rattle.ksql_expr.specs.Aggregates.{node_holds}
use Rattle.short_laws.specs.Short.{is_other_text}

unfoldable pub form_holds_other_text : TypedNode → Bool
form_holds_other_text = fold-TypedNode Bool Bool Bool (node_holds is_other_text) (λ e. e.node) (λ w. w.cond || w.result)

unfoldable pub when_holds_other_text : TypedWhen → Bool
when_holds_other_text = fold-TypedWhen Bool Bool Bool (node_holds is_other_text) (λ e. e.node) (λ w. w.cond || w.result)

-- each text literal in the form of an expression is valid UTF-8
abbrev pub FormHoldsTexts : TypedNode → Type 0
FormHoldsTexts form = form_holds_other_text form ≡ false

-- each text literal in a WHEN is valid UTF-8
abbrev pub WhenHoldsTexts : TypedWhen → Type 0
WhenHoldsTexts when = when_holds_other_text when ≡ false
