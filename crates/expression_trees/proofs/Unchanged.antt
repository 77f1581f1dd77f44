-- An expression becomes itself where nothing is replaced.
use Rattle.std.proofs.Common.{◌≡◌, List, [], ◌∷◌, map, Option, Some, None, refl, ap, ap₂, sym, subst, ◌∙◌}
use Rattle.std.specs.Prelude.{option_map}
use Rattle.expression_trees.specs.declared.tree.Expr.{Expr, map-Expr, roll-Expr, ind-Expr}
use Rattle.expression_trees.specs.declared.tree.Expr.TheOpen.{Expr-F, WhenText-F}
use Rattle.expression_trees.specs.declared.tree.Expr.TheVariants as e
use Rattle.expression_trees.specs.declared.tree.Expr.TheVariants.{rolls-Digits, rolls-Text, rolls-Truth, rolls-Null, rolls-Name, rolls-Sign, rolls-Binary, rolls-Not, rolls-IsNull, rolls-Between, rolls-OneOf, rolls-Like, rolls-Cast, rolls-Case, rolls-Call}
use Rattle.expression_trees.specs.declared.tree.WhenText.{WhenText, roll-WhenText}
use Rattle.expression_trees.specs.Parts.{becomes, when_becomes}
use Rattle.expression_trees.proofs.Becoming.{becomes-Digits, becomes-Text, becomes-Truth, becomes-Null, becomes-Name, becomes-Sign, becomes-Binary, becomes-Not, becomes-IsNull, becomes-Between, becomes-OneOf, becomes-Like, becomes-Cast, becomes-Case, becomes-Call}

abbrev nothing : Expr → Option Expr
nothing a = None

abbrev Part : Type 0
Part = (a : Expr) × (becomes nothing a ≡ a)

abbrev PartWhen : Type 0
PartWhen = (w : WhenText) × (when_becomes nothing w ≡ w)

abbrev form_of : Expr-F Part PartWhen → Expr-F Expr WhenText
form_of y = map-Expr Part PartWhen Expr WhenText (λ a. a.0) (λ w. w.0) y

each : (cs : List Part) → map (becomes nothing) (map (λ (c : Part). c.0) cs) ≡ map (λ (c : Part). c.0) cs
each [] = refl
each (c ∷ cs) = ap₂ (λ a os. a ∷ os) c.1 (each cs)

each_when : (ws : List PartWhen) → map (when_becomes nothing) (map (λ (w : PartWhen). w.0) ws) ≡ map (λ (w : PartWhen). w.0) ws
each_when [] = refl
each_when (w ∷ ws) = ap₂ (λ a os. a ∷ os) w.1 (each_when ws)

stays : (y : Expr-F Part PartWhen) → becomes nothing (roll-Expr (form_of y)) ≡ roll-Expr (form_of y)
stays (Expr-F.Digits n) = becomes-Digits nothing _ n (rolls-Digits n) refl ∙ sym (rolls-Digits n)
stays (Expr-F.Text s) = becomes-Text nothing _ s (rolls-Text s) refl ∙ sym (rolls-Text s)
stays (Expr-F.Truth b) = becomes-Truth nothing _ b (rolls-Truth b) refl ∙ sym (rolls-Truth b)
stays Expr-F.Null = becomes-Null nothing _ rolls-Null refl ∙ sym rolls-Null
stays (Expr-F.Name q n) = becomes-Name nothing _ q n (rolls-Name q n) refl ∙ sym (rolls-Name q n)
stays (Expr-F.Sign m a) = becomes-Sign nothing _ m a.0 (rolls-Sign m a.0) refl ∙ ap (λ x. e.Sign m x) a.1 ∙ sym (rolls-Sign m a.0)
stays (Expr-F.Binary o a b) =
    becomes-Binary nothing _ o a.0 b.0 (rolls-Binary o a.0 b.0) refl ∙ ap₂ (λ x y. e.Binary o x y) a.1 b.1 ∙ sym (rolls-Binary o a.0 b.0)
stays (Expr-F.Not a) = becomes-Not nothing _ a.0 (rolls-Not a.0) refl ∙ ap (λ x. e.Not x) a.1 ∙ sym (rolls-Not a.0)
stays (Expr-F.IsNull n a) = becomes-IsNull nothing _ n a.0 (rolls-IsNull n a.0) refl ∙ ap (λ x. e.IsNull n x) a.1 ∙ sym (rolls-IsNull n a.0)
stays (Expr-F.Between n a b c) =
    becomes-Between nothing _ n a.0 b.0 c.0 (rolls-Between n a.0 b.0 c.0) refl ∙ (λ i. e.Between n (a.1 i) (b.1 i) (c.1 i))
    ∙ sym (rolls-Between n a.0 b.0 c.0)
stays (Expr-F.OneOf n a cs) =
    let es = map (λ (c : Part). c.0) cs in
    becomes-OneOf nothing _ n a.0 es (rolls-OneOf n a.0 es) refl ∙ ap₂ (λ x os. e.OneOf n x os) a.1 (each cs) ∙ sym (rolls-OneOf n a.0 es)
stays (Expr-F.Like n a s) = becomes-Like nothing _ n a.0 s (rolls-Like n a.0 s) refl ∙ ap (λ x. e.Like n x s) a.1 ∙ sym (rolls-Like n a.0 s)
stays (Expr-F.Cast a t) = becomes-Cast nothing _ a.0 t (rolls-Cast a.0 t) refl ∙ ap (λ x. e.Cast x t) a.1 ∙ sym (rolls-Cast a.0 t)
stays (Expr-F.Call f star cs) =
    let es = map (λ (c : Part). c.0) cs in
    becomes-Call nothing _ f star es (rolls-Call f star es) refl ∙ ap (λ os. e.Call f star os) (each cs) ∙ sym (rolls-Call f star es)
stays (Expr-F.Case x ws y) = of_case x y
  where
    vs : List WhenText
    vs = map (λ (w : PartWhen). w.0) ws

    case : (x y : Option Expr) → option_map (becomes nothing) x ≡ x → option_map (becomes nothing) y ≡ y
        → becomes nothing (roll-Expr (Expr-F.Case x vs y)) ≡ roll-Expr (Expr-F.Case x vs y)
    case x y h k =
        becomes-Case nothing _ x vs y (rolls-Case x vs y) refl ∙ (λ i. e.Case (h i) (each_when ws i) (k i)) ∙ sym (rolls-Case x vs y)

    of_case : (x y : Option Part) → becomes nothing (roll-Expr (form_of (Expr-F.Case x ws y))) ≡ roll-Expr (form_of (Expr-F.Case x ws y))
    of_case None None = case None None refl refl
    of_case None (Some b) = case None (Some b.0) refl (ap Some b.1)
    of_case (Some a) None = case (Some a.0) None (ap Some a.1) refl
    of_case (Some a) (Some b) = case (Some a.0) (Some b.0) (ap Some a.1) (ap Some b.1)

pub unchanged : (a : Expr) → becomes nothing a ≡ a
unchanged = ind-Expr (λ a. becomes nothing a ≡ a) (λ w. when_becomes nothing w ≡ w)
    (λ x y is. subst (λ (d : Expr-F Expr WhenText). becomes nothing (roll-Expr d) ≡ roll-Expr d) is (stays y))
    (λ x y is. subst (λ (d : WhenText-F Expr WhenText). when_becomes nothing (roll-WhenText d) ≡ roll-WhenText d) is
    (ap₂ (λ c r. roll-WhenText (record { cond = c; result = r })) y.cond.1 y.result.1))

pub unchanged_when : (w : WhenText) → when_becomes nothing w ≡ w
unchanged_when w = ap₂ (λ c r. roll-WhenText (record { cond = c; result = r })) (unchanged w.cond) (unchanged w.result)
