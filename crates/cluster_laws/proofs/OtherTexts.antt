-- Which expressions hold a text that isn't of UTF-8, form by form.
use Rattle.std.proofs.Common.{◌≡◌, ◌∙◌, ap, ap₂, refl, sym, ℕ, Bool, false, List, [], ◌∷◌, map}
use Rattle.std.specs.Prelude.{◌||◌, not, All, Option, Some, None, IfSome}
use Rattle.std.specs.List.{AllByRecursion, list_any}
use Rattle.std.proofs.lemmas.List.Elements.{recursion_from_All}
use Rattle.std.proofs.lemmas.Str.{is_utf8-from_IsUtf8}
use Rattle.ksql_types.specs.declared.operator.BinaryOp.{BinaryOp}
use Rattle.ksql_types.specs.declared.relation.Window.{Window}
use Rattle.ksql_types.specs.declared.value.SqlType.{SqlType}
use Rattle.ksql_types.specs.declared.value.Value.{Value}
use Rattle.ksql_types.specs.declared.value.Value.TheVariants as value
use Rattle.ksql_expr.specs.Aggregates.{node_holds}
use Rattle.ksql_expr.specs.declared.typed.AggFun.{AggFun}
use Rattle.ksql_expr.specs.declared.typed.Fun.{Fun}
use Rattle.ksql_expr.specs.declared.typed.Typed.{Typed, fold-roll-Typed}
use Rattle.ksql_expr.specs.declared.typed.TypedNode.{TypedNode, fold-roll-TypedNode, map-TypedNode, roll-TypedNode}
use Rattle.ksql_expr.specs.declared.typed.TypedNode.TheVariants as n
use Rattle.ksql_expr.specs.declared.typed.TypedNode.TheOpen.{TypedNode-F}
use Rattle.ksql_expr.specs.declared.typed.TypedWhen.{TypedWhen, fold-roll-TypedWhen}
use Rattle.ksql_program.specs.declared.program.Item.{Item}
use Rattle.ksql_program.specs.declared.query.Agg.{Agg}
use Rattle.ksql_program.specs.declared.query.Shape.{Shape}
use Rattle.ksql_program.specs.declared.query.Shape.TheVariants as shape
use Rattle.short_laws.specs.Short.{HoldTexts, HoldsInItem, HoldsInShape, HoldsTexts, IsText, holds_other_text, is_other_text}
use Rattle.cluster_laws.specs.Texts.{FormHoldsTexts, WhenHoldsTexts, form_holds_other_text, when_holds_other_text}

neither : (x y : Bool) → x ≡ false → y ≡ false → (x || y) ≡ false
neither x y first second = ap₂ (λ a b. a || b) first second

none-of : {A : Type 0} (f : A → Bool) (xs : List A) → AllByRecursion (λ x. f x ≡ false) xs → list_any (λ b. b) (map f xs) ≡ false
none-of f [] all = refl
none-of f (x ∷ xs) all = neither (f x) (list_any (λ b. b) (map f xs)) all.0 (none-of f xs all.1)

none-in : {A : Type 0} (f : A → Bool) (xs : List A) → All (λ x. f x ≡ false) xs → list_any (λ b. b) (map f xs) ≡ false
none-in f xs all = none-of f xs (recursion_from_All (λ x. f x ≡ false) xs all)

-- ---- trees

abbrev parts : TypedNode-F TypedNode Typed TypedWhen → TypedNode-F Bool Bool Bool
parts d = map-TypedNode TypedNode Typed TypedWhen Bool Bool Bool form_holds_other_text holds_other_text when_holds_other_text d

at-roll : (d : TypedNode-F TypedNode Typed TypedWhen) → form_holds_other_text (roll-TypedNode d) ≡ node_holds is_other_text (parts d)
unfolding form_holds_other_text holds_other_text when_holds_other_text
at-roll d = fold-roll-TypedNode Bool Bool Bool (node_holds is_other_text) (λ e. e.node) (λ w. w.cond || w.result) d

of-form : (form : TypedNode) (d : TypedNode-F TypedNode Typed TypedWhen) → form ≡ roll-TypedNode d → node_holds is_other_text (parts d) ≡ false → FormHoldsTexts form
of-form form d is none = ap form_holds_other_text is ∙ at-roll d ∙ none

pub texts-tree : (e : Typed) → FormHoldsTexts e.node → HoldsTexts e
unfolding form_holds_other_text holds_other_text
texts-tree e none = fold-roll-Typed Bool Bool Bool (node_holds is_other_text) (λ x. x.node) (λ w. w.cond || w.result) (record { ty = e.ty; node = e.node }) ∙ none

pub texts-when : (w : TypedWhen) → HoldsTexts w.cond → HoldsTexts w.result → WhenHoldsTexts w
unfolding holds_other_text when_holds_other_text
texts-when w first second =
    fold-roll-TypedWhen Bool Bool Bool (node_holds is_other_text) (λ x. x.node) (λ v. v.cond || v.result) (record { cond = w.cond; result = w.result })
    ∙ neither (holds_other_text w.cond) (holds_other_text w.result) first second

-- ---- forms

literal : (v : Value) → IsText v → is_other_text (TypedNode-F.Literal v) ≡ false
literal (value.Txt t) text = ap not (is_utf8-from_IsUtf8 t text)
literal value.Null text = refl
literal (value.Int i) text = refl
literal (value.Big i) text = refl
literal (value.Bool b) text = refl

pub texts-Literal : (form : TypedNode) (x : Value) → form ≡ n.Literal x → IsText x → FormHoldsTexts form
texts-Literal form x is text = of-form form (TypedNode-F.Literal x) (is ∙ sym (n.rolls-Literal x)) (literal x text)

pub texts-Column : (form : TypedNode) (i : ℕ) → form ≡ n.Column i → FormHoldsTexts form
texts-Column form i is = of-form form (TypedNode-F.Column i) (is ∙ sym (n.rolls-Column i)) refl

pub texts-RowTime : (form : TypedNode) → form ≡ n.RowTime → FormHoldsTexts form
texts-RowTime form is = of-form form TypedNode-F.RowTime (is ∙ sym n.rolls-RowTime) refl

pub texts-Sign : (form : TypedNode) (m : Bool) (x : Typed) → form ≡ n.Sign m x → HoldsTexts x → FormHoldsTexts form
texts-Sign form m x is none = of-form form (TypedNode-F.Sign m x) (is ∙ sym (n.rolls-Sign m x)) none

pub texts-Binary : (form : TypedNode) (o : BinaryOp) (x y : Typed) → form ≡ n.Binary o x y → HoldsTexts x → HoldsTexts y → FormHoldsTexts form
texts-Binary form o x y is first second =
    of-form form (TypedNode-F.Binary o x y) (is ∙ sym (n.rolls-Binary o x y)) (neither (holds_other_text x) (holds_other_text y) first second)

pub texts-Not : (form : TypedNode) (x : Typed) → form ≡ n.Not x → HoldsTexts x → FormHoldsTexts form
texts-Not form x is none = of-form form (TypedNode-F.Not x) (is ∙ sym (n.rolls-Not x)) none

pub texts-IsNull : (form : TypedNode) (m : Bool) (x : Typed) → form ≡ n.IsNull m x → HoldsTexts x → FormHoldsTexts form
texts-IsNull form m x is none = of-form form (TypedNode-F.IsNull m x) (is ∙ sym (n.rolls-IsNull m x)) none

pub texts-Between : (form : TypedNode) (m : Bool) (x y z : Typed) → form ≡ n.Between m x y z → HoldsTexts x → HoldsTexts y → HoldsTexts z → FormHoldsTexts form
texts-Between form m x y z is first second third =
    of-form form (TypedNode-F.Between m x y z) (is ∙ sym (n.rolls-Between m x y z))
    (neither (holds_other_text x || holds_other_text y) (holds_other_text z) (neither (holds_other_text x) (holds_other_text y) first second) third)

pub texts-OneOf : (form : TypedNode) (m : Bool) (x : Typed) (xs : List Typed) → form ≡ n.OneOf m x xs → HoldsTexts x → All HoldsTexts xs → FormHoldsTexts form
texts-OneOf form m x xs is first all =
    of-form form (TypedNode-F.OneOf m x xs) (is ∙ sym (n.rolls-OneOf m x xs))
    (neither (holds_other_text x) (list_any (λ b. b) (map holds_other_text xs)) first (none-in holds_other_text xs all))

pub texts-Like : (form : TypedNode) (m : Bool) (x : Typed) (pattern : List ℕ) → form ≡ n.Like m x pattern → HoldsTexts x → FormHoldsTexts form
texts-Like form m x pattern is none = of-form form (TypedNode-F.Like m x pattern) (is ∙ sym (n.rolls-Like m x pattern)) none

pub texts-Cast : (form : TypedNode) (x : Typed) (to : SqlType) → form ≡ n.Cast x to → HoldsTexts x → FormHoldsTexts form
texts-Cast form x to is none = of-form form (TypedNode-F.Cast x to) (is ∙ sym (n.rolls-Cast x to)) none

pub texts-Case : (form : TypedNode) (x : Option Typed) (ws : List TypedWhen) (z : Option Typed) → form ≡ n.Case x ws z →
    IfSome x HoldsTexts → All WhenHoldsTexts ws → IfSome z HoldsTexts → FormHoldsTexts form
texts-Case form None ws None is first all last =
    of-form form (TypedNode-F.Case None ws None) (is ∙ sym (n.rolls-Case None ws None))
    (neither (list_any (λ b. b) (map when_holds_other_text ws)) false (none-in when_holds_other_text ws all) refl)
texts-Case form None ws (Some z) is first all last =
    of-form form (TypedNode-F.Case None ws (Some z)) (is ∙ sym (n.rolls-Case None ws (Some z)))
    (neither (list_any (λ b. b) (map when_holds_other_text ws)) (holds_other_text z) (none-in when_holds_other_text ws all) last)
texts-Case form (Some x) ws None is first all last =
    of-form form (TypedNode-F.Case (Some x) ws None) (is ∙ sym (n.rolls-Case (Some x) ws None))
    (neither (holds_other_text x || list_any (λ b. b) (map when_holds_other_text ws)) false
    (neither (holds_other_text x) (list_any (λ b. b) (map when_holds_other_text ws)) first (none-in when_holds_other_text ws all)) refl)
texts-Case form (Some x) ws (Some z) is first all last =
    of-form form (TypedNode-F.Case (Some x) ws (Some z)) (is ∙ sym (n.rolls-Case (Some x) ws (Some z)))
    (neither (holds_other_text x || list_any (λ b. b) (map when_holds_other_text ws)) (holds_other_text z)
    (neither (holds_other_text x) (list_any (λ b. b) (map when_holds_other_text ws)) first (none-in when_holds_other_text ws all)) last)

pub texts-Call : (form : TypedNode) (f : Fun) (xs : List Typed) → form ≡ n.Call f xs → All HoldsTexts xs → FormHoldsTexts form
texts-Call form f xs is all = of-form form (TypedNode-F.Call f xs) (is ∙ sym (n.rolls-Call f xs)) (none-in holds_other_text xs all)

pub texts-Aggregate : (form : TypedNode) (f : AggFun) (x : Option Typed) → form ≡ n.Aggregate f x → FormHoldsTexts form
texts-Aggregate form f None is = of-form form (TypedNode-F.Aggregate f None) (is ∙ sym (n.rolls-Aggregate f None)) refl
texts-Aggregate form f (Some x) is = of-form form (TypedNode-F.Aggregate f (Some x)) (is ∙ sym (n.rolls-Aggregate f (Some x))) refl

pub ruleset texts_forms = (texts-tree, texts-when, texts-Literal, texts-Column, texts-RowTime, texts-Sign, texts-Binary, texts-Not, texts-IsNull, texts-Between, texts-OneOf, texts-Like, texts-Cast, texts-Case, texts-Call, texts-Aggregate)

-- ---- queries

pub texts-plain : (s : Shape) (ks vs : List Typed) → s ≡ shape.Plain ks vs → All HoldsTexts ks → All HoldsTexts vs → HoldsInShape HoldsTexts s
texts-plain s ks vs is keys values = rw is (recursion_from_All HoldsTexts ks keys, recursion_from_All HoldsTexts vs values)

pub texts-group : (s : Shape) (ks : List Typed) (w : Option Window) (gs : List Agg) (h : Option Typed) (vs : List Typed) → s ≡ shape.Group ks w gs h vs →
    All HoldsTexts ks → All (λ a. IfSome a.arg HoldsTexts) gs → IfSome h HoldsTexts → All HoldsTexts vs → HoldsInShape HoldsTexts s
texts-group s ks w gs h vs is keys aggs having values =
    rw is (recursion_from_All HoldsTexts ks keys, recursion_from_All (λ (a : Agg). IfSome a.arg HoldsTexts) gs aggs, having, recursion_from_All HoldsTexts vs values)

pub ruleset shape_forms = (texts-plain, texts-group)

pub texts-items : (items : List Item) → All (HoldsInItem HoldsTexts) items → HoldTexts items
texts-items items all = recursion_from_All (HoldsInItem HoldsTexts) items all

pub ruleset item_lists = (texts-items)
