-- The typed trees of expressions without aggregates and with short literals are sound; so is a condition.
use Rattle.std.proofs.Common.{◌≡◌, Bool, true, false, List, [], ◌∷◌, ◌++◌, map, Option, Some, None, refl, ap, sym, ◌∙◌, subst}
use Rattle.std.specs.List.{list_any, AllByRecursion as Each}
use Rattle.ksql_types.specs.declared.relation.Column.{Column}
use Rattle.ksql_types.specs.declared.relation.Kind.{Kind}
use Rattle.ksql_types.specs.declared.value.SqlType.{SqlType}
use Rattle.ksql_types.specs.declared.value.SqlType.TheVariants as sql
use Rattle.expression_trees.specs.declared.tree.Expr.{Expr}
use Rattle.ksql_expr.specs.declared.typed.Typed.{Typed}
use Rattle.ksql_expr.specs.Rules.{fits}
use Rattle.ksql_program.specs.Sound.{IsSoundOver, AreColumns, IsCondition}
use Rattle.ksql_scopes.specs.declared.scope.Scope.{Scope}
use Rattle.ksql_scopes.specs.Scope.{column_types}
use Rattle.ksql_typing.specs.Standing.{HasType, CanBeTrue}
use Rattle.ksql_scopes.specs.Uses.{IsSmall}
use Rattle.ksql_typing.specs.Standing.{IsTypedTree}
use Rattle.ksql_typing.proofs.OneTyping.{checked, one-tree}
use Rattle.aggregate_rules.specs.Grouping.{has_aggregate}
use Rattle.ksql_clauses.specs.Sources.{there}
use Rattle.ksql_rules.specs.Breaks.{IfThere}
use Rattle.ksql_analyse.specs.Judgement.{IsTypedPart, AreTypedTrees}
use Rattle.ksql_analyse.proofs.forms.Bearing.{no-aggregate-held, short-texts-held}
use Rattle.ksql_analyse.proofs.lists.Distinct.{or-false}
use Rattle.ksql_analyse.proofs.forms.Timeless.{IsScopeOver, time-over}

-- an expression without an aggregate whose literals keep their limits
abbrev pub IsPlain : Expr → Type 0
IsPlain a = (has_aggregate a ≡ false) × IsSmall a

pub tree-sound : (over : Kind) (s : Scope) → IsScopeOver over s → (a : Expr) (x : Typed) → IsPlain a → IsTypedTree s a x → IsSoundOver over (column_types s) x
tree-sound over s scope a x p h = record {
  typed = checked s a x h;
  plain = no-aggregate-held s a x h p.0;
  short = short-texts-held s a x h p.1;
  timeless = time-over over s a x scope h;
}

-- the columns of some expressions
pub columns-sound : (over : Kind) (s : Scope) → IsScopeOver over s → (types : List (Option SqlType)) → column_types s ≡ types
    → (es : List Expr) (xs : List Typed) (cs : List Column) → Each IsPlain es → AreTypedTrees s es xs → map (λ c. Some c.ty) cs ≡ map (λ x. x.ty) xs
    → AreColumns over types xs cs
columns-sound over s scope types same [] [] [] k h e = tt
columns-sound over s scope types same [] [] (c ∷ cs) k h e = absurd (cc (e))
columns-sound over s scope types same [] (x ∷ xs) cs k h e = absurd h
columns-sound over s scope types same (a ∷ es) [] cs k h e = absurd h
columns-sound over s scope types same (a ∷ es) (x ∷ xs) [] k h e = absurd (cc (e))
columns-sound over s scope types same (a ∷ es) (x ∷ xs) (c ∷ cs) k h e =
    let first : Some c.ty ≡ x.ty = cc (e) in
    let rest : map (λ d. Some d.ty) cs ≡ map (λ y. y.ty) xs = cc (e) in
    (subst (λ t. IsSoundOver over t x) same (tree-sound over s scope a x k.0 h.0), sym first, columns-sound over s scope types same es xs cs k.1 h.1 rest)

-- ---- conditions

pub stable : (b : Bool) → ¬ ¬ (b ≡ true) → b ≡ true
stable true h = refl
stable false h = absurd (h (λ k. cc (k)))

-- a tree has each type that its expression can have
pub type-is : (s : Scope) (a : Expr) (x : Typed) (t : Option SqlType) → IsTypedTree s a x → HasType s a t → x.ty ≡ t
type-is s a x t h k = ap (λ y. y.ty) (one-tree s a x k.0 h (k.1, h.1)) ∙ k.2

pub condition-sound : (over : Kind) (s : Scope) → IsScopeOver over s → (types : List (Option SqlType)) → column_types s ≡ types
    → (a : Option Expr) (x : Option Typed) → IsTypedPart s a x → Each IsPlain (there a) → ¬ ¬ IfThere (CanBeTrue s) a → IsCondition over types x
condition-sound over s scope types same None None h k l = tt
condition-sound over s scope types same None (Some x) h k l = absurd h
condition-sound over s scope types same (Some a) None h k l = absurd h
condition-sound over s scope types same (Some a) (Some x) h k l = (
  subst (λ t. IsSoundOver over t x) same (tree-sound over s scope a x k.0 h),
  stable (fits sql.Bool x.ty) (λ no. l (λ can. no (ap (fits sql.Bool) (type-is s a x can.0 h can.1) ∙ can.2))),
)

-- ---- what a query's expressions are

pub each-false : {A : Type 0} (p : A → Bool) (xs : List A) → list_any p xs ≡ false → Each (λ x. p x ≡ false) xs
each-false p [] h = tt
each-false p (x ∷ xs) h = let r = or-false (p x) (list_any p xs) h in (r.0, each-false p xs r.1)

pub each-both : {A : Type 0} (P Q : A → Type 0) (xs : List A) → Each P xs → Each Q xs → Each (λ x. P x × Q x) xs
each-both P Q [] k l = tt
each-both P Q (x ∷ xs) k l = ((k.0, l.0), each-both P Q xs k.1 l.1)

pub each-front : {A : Type 0} (P : A → Type 0) (xs ys : List A) → Each P (xs ++ ys) → Each P xs
each-front P [] ys k = tt
each-front P (x ∷ xs) ys k = (k.0, each-front P xs ys k.1)

pub each-behind : {A : Type 0} (P : A → Type 0) (xs ys : List A) → Each P (xs ++ ys) → Each P ys
each-behind P [] ys k = k
each-behind P (x ∷ xs) ys k = each-behind P xs ys k.1
