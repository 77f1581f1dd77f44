-- The aggregates in an expression, one after the other.
use Rattle.std.proofs.Common.{◌≡◌, Bool, true, false, if◌then◌else◌, List, [], ◌∷◌, ◌++◌, Some, None, ap, sym, ◌∙◌}
use Rattle.std.proofs.lemmas.List.{append-nil, append_assoc}
use Rattle.expression_trees.specs.declared.tree.Expr.{Expr}
use Rattle.aggregate_rules.specs.Grouping.{is_aggregate_call, whole_aggregate}

pub is_whole : (x : Expr) (b : Bool) → b ≡ is_aggregate_call x → b ≡ true → whole_aggregate x ≡ Some (x ∷ [])
is_whole x b h k = ap (λ (y : Bool). if y then Some (x ∷ []) else None) (sym h ∙ k)

pub is_not_whole : (x : Expr) (b : Bool) → b ≡ is_aggregate_call x → b ≡ false → whole_aggregate x ≡ None
is_not_whole x b h k = ap (λ (y : Bool). if y then Some (x ∷ []) else None) (sym h ∙ k)

pub behind-nothing : (xs ys : List Expr) → ys ≡ [] → xs ≡ xs ++ ys
behind-nothing xs ys h = sym (ap (λ zs. xs ++ zs) h ∙ append-nil xs)

pub two-behind : (xs ys zs a b g : List Expr) → ys ≡ xs ++ a → zs ≡ ys ++ b → g ≡ a ++ b → zs ≡ xs ++ g
two-behind xs ys zs a b g p q e = q ∙ ap (λ l. l ++ b) p ∙ append_assoc xs a b ∙ ap (λ l. xs ++ l) (sym e)

pub three-behind : (xs ys zs ws a b c g : List Expr) → ys ≡ xs ++ a → zs ≡ ys ++ b → ws ≡ zs ++ c → g ≡ a ++ b ++ c → ws ≡ xs ++ g
three-behind xs ys zs ws a b c g p q r e = two-behind xs zs ws (a ++ b) c g (q ∙ ap (λ l. l ++ b) p ∙ append_assoc xs a b) r e
