-- Two expressions are the same exactly if they are equal.
use Rattle.std.proofs.Common.{◌≡◌, ℕ, Bool, true, false, ◌&&◌, List, [], ◌∷◌, map, Option, Some, None, refl, ap, ap₂, sym, subst, ◌∙◌}
use Rattle.std.specs.Prelude.{bytes_eq}
use denote.Enum.Bare.{same_true, true_same}
use Rattle.std.proofs.lemmas.Bool.{eqb-true, eq-eqb, false≢true}
use Rattle.std.proofs.lemmas.Slice.Eq.{bytes_eq-Decides}
use Rattle.ksql_types.specs.declared.operator.BinaryOp.{BinaryOp}
use Rattle.ksql_types.specs.contracts.operator.BinaryOp.{the_type as the_op}
use Rattle.ksql_types.specs.declared.value.SqlType.{SqlType}
use Rattle.ksql_types.specs.contracts.value.SqlType.{the_type as the_sql_type}
use Rattle.expression_trees.specs.declared.tree.Expr.{Expr, map-Expr, out-Expr, roll-Expr, out-roll-Expr, roll-out-Expr, fold-roll-Expr, ind-Expr}
use Rattle.expression_trees.specs.declared.tree.Expr.TheOpen.{Expr-F, WhenText-F}
use Rattle.expression_trees.specs.declared.tree.WhenText.{WhenText, roll-WhenText}
use Rattle.expression_trees.proofs.Folds as f
use Rattle.expression_trees.specs.Same.{Test, same_expr, same_when_text, same_form, same_when, same_part, same_parts, same_truth, same_name, same_op, same_type}

-- ---- tests

three : {A B C D : Type 0} (f : A → B → C → D) {a x : A} {b y : B} {c z : C} → a ≡ x → b ≡ y → c ≡ z → f a b c ≡ f x y z
three f {x = x} {y = y} {c = c} h k l = ap₂ (λ u v. f u v c) h k ∙ ap (λ w. f x y w) l

first-holds : (p q : Bool) → (p && q) ≡ true → p ≡ true
first-holds true q h = refl
first-holds false q h = absurd (false≢true h)

last-holds : (p q : Bool) → (p && q) ≡ true → q ≡ true
last-holds true q h = h
last-holds false q h = absurd (false≢true h)

both-hold : (p q : Bool) → p ≡ true → q ≡ true → (p && q) ≡ true
both-hold p q h k = ap (λ x. x && q) h ∙ k

texts : (s t : List ℕ) → bytes_eq s t ≡ true → s ≡ t
texts s t = (bytes_eq-Decides s t).0

text-self : (s : List ℕ) → bytes_eq s s ≡ true
text-self s = (bytes_eq-Decides s s).1 refl

truths : (a b : Bool) → same_truth a b ≡ true → a ≡ b
truths true b h = sym h
truths false true h = absurd (false≢true h)
truths false false h = refl

truth-self : (a : Bool) → same_truth a a ≡ true
truth-self true = refl
truth-self false = refl

names : (a b : Option (List ℕ)) → same_name a b ≡ true → a ≡ b
names None None h = refl
names (Some s) (Some t) h = ap Some (texts s t h)
names None (Some t) h = absurd (false≢true h)
names (Some s) None h = absurd (false≢true h)

name-self : (a : Option (List ℕ)) → same_name a a ≡ true
name-self None = refl
name-self (Some s) = text-self s

types : (s t : SqlType) → same_type s t ≡ true → s ≡ t
types s t = same_true the_sql_type tt s t

type-self : (t : SqlType) → same_type t t ≡ true
type-self t = true_same the_sql_type t t refl

ops : (o p : BinaryOp) → same_op o p ≡ true → o ≡ p
ops o p = same_true the_op tt o p

op-self : (o : BinaryOp) → same_op o o ≡ true
op-self o = true_same the_op o o refl

-- ---- forms

-- an expression that is the same only as itself
record IsItself (a : Expr) : Type 0 where
  only : (b : Expr) → same_expr a b ≡ true → a ≡ b
  self : same_expr a a ≡ true

record IsItselfWhen (a : WhenText) : Type 0 where
  only : (b : WhenText) → same_when_text a b ≡ true → a ≡ b
  self : same_when_text a a ≡ true

abbrev Part : Type 0
Part = (a : Expr) × IsItself a

abbrev PartWhen : Type 0
PartWhen = (a : WhenText) × IsItselfWhen a

abbrev form_of : Expr-F Part PartWhen → Expr-F Expr WhenText
form_of y = map-Expr Part PartWhen Expr WhenText (λ a. a.0) (λ w. w.0) y

abbrev tests_of : Expr-F Expr WhenText → Expr-F (Test Expr) (Test WhenText)
tests_of d = map-Expr Expr WhenText (Test Expr) (Test WhenText) same_expr same_when_text d

parts : (cs : List Part) (es : List Expr) → same_parts (map same_expr (map (λ (c : Part). c.0) cs)) es ≡ true → map (λ (c : Part). c.0) cs ≡ es
parts [] [] h = refl
parts (c ∷ cs) (x ∷ xs) h = ap₂ (λ y ys. y ∷ ys) (c.1.only x (first-holds _ _ h)) (parts cs xs (last-holds (same_expr c.0 x) _ h))
parts [] (x ∷ xs) h = absurd (false≢true h)
parts (c ∷ cs) [] h = absurd (false≢true h)

parts-self : (cs : List Part) → same_parts (map same_expr (map (λ (c : Part). c.0) cs)) (map (λ (c : Part). c.0) cs) ≡ true
parts-self [] = refl
parts-self (c ∷ cs) = both-hold _ _ c.1.self (parts-self cs)

whens : (cs : List PartWhen) (ws : List WhenText) → same_parts (map same_when_text (map (λ (c : PartWhen). c.0) cs)) ws ≡ true → map (λ (c : PartWhen). c.0) cs ≡ ws
whens [] [] h = refl
whens (c ∷ cs) (x ∷ xs) h = ap₂ (λ y ys. y ∷ ys) (c.1.only x (first-holds _ _ h)) (whens cs xs (last-holds (same_when_text c.0 x) _ h))
whens [] (x ∷ xs) h = absurd (false≢true h)
whens (c ∷ cs) [] h = absurd (false≢true h)

whens-self : (cs : List PartWhen) → same_parts (map same_when_text (map (λ (c : PartWhen). c.0) cs)) (map (λ (c : PartWhen). c.0) cs) ≡ true
whens-self [] = refl
whens-self (c ∷ cs) = both-hold _ _ c.1.self (whens-self cs)

nothing : (o : Option Expr) → same_part {A = Expr} None o ≡ true → None ≡ o
nothing None h = refl
nothing (Some a) h = absurd (false≢true h)

something : (c : Part) (o : Option Expr) → same_part (Some (same_expr c.0)) o ≡ true → Some c.0 ≡ o
something c None h = absurd (false≢true h)
something c (Some a) h = ap Some (c.1.only a h)

forms : (y : Expr-F Part PartWhen) (z : Expr-F Expr WhenText) → same_form (tests_of (form_of y)) z ≡ true → form_of y ≡ z
forms (Expr-F.Digits m) (Expr-F.Digits n) h = ap (λ x. Expr-F.Digits x) (eqb-true m n h)
forms (Expr-F.Text s) (Expr-F.Text t) h = ap (λ x. Expr-F.Text x) (texts s t h)
forms (Expr-F.Truth a) (Expr-F.Truth b) h = ap (λ x. Expr-F.Truth x) (truths a b h)
forms Expr-F.Null Expr-F.Null h = refl
forms (Expr-F.Name q m) (Expr-F.Name r n) h = ap₂ (λ x y. Expr-F.Name x y) (names q r (first-holds _ _ h)) (texts m n (last-holds (same_name q r) _ h))
forms (Expr-F.Sign m x) (Expr-F.Sign n a) h = ap₂ (λ u v. Expr-F.Sign u v) (truths m n (first-holds _ _ h)) (x.1.only a (last-holds (same_truth m n) _ h))
forms (Expr-F.Not x) (Expr-F.Not a) h = ap (λ u. Expr-F.Not u) (x.1.only a h)
forms (Expr-F.IsNull m x) (Expr-F.IsNull n a) h = ap₂ (λ u v. Expr-F.IsNull u v) (truths m n (first-holds _ _ h)) (x.1.only a (last-holds (same_truth m n) _ h))
forms (Expr-F.Cast x s) (Expr-F.Cast a t) h = ap₂ (λ u v. Expr-F.Cast u v) (x.1.only a (first-holds _ _ h)) (types s t (last-holds (same_expr x.0 a) _ h))
forms (Expr-F.Binary o x y) (Expr-F.Binary p a b) h =
    let both : (same_op o p && same_expr x.0 a) ≡ true = first-holds _ _ h in
    three (λ u v w. Expr-F.Binary u v w) (ops o p (first-holds _ _ both)) (x.1.only a (last-holds (same_op o p) _ both)) (y.1.only b (last-holds (same_op o p && same_expr x.0 a) _ h))
forms (Expr-F.Between m x y z) (Expr-F.Between n a b c) h =
    let front : (same_truth m n && same_expr x.0 a && same_expr y.0 b) ≡ true = first-holds _ _ h in
    let both : (same_truth m n && same_expr x.0 a) ≡ true = first-holds _ _ front in
    ap₂ (λ u v. Expr-F.Between u v y.0 z.0) (truths m n (first-holds _ _ both)) (x.1.only a (last-holds (same_truth m n) _ both))
    ∙ ap₂ (λ u v. Expr-F.Between n a u v) (y.1.only b (last-holds (same_truth m n && same_expr x.0 a) _ front)) (z.1.only c (last-holds (same_truth m n && same_expr x.0 a && same_expr y.0 b) _ h))
forms (Expr-F.OneOf m x xs) (Expr-F.OneOf n a es) h =
    let both : (same_truth m n && same_expr x.0 a) ≡ true = first-holds _ _ h in
    three (λ u v w. Expr-F.OneOf u v w) (truths m n (first-holds _ _ both)) (x.1.only a (last-holds (same_truth m n) _ both)) (parts xs es (last-holds (same_truth m n && same_expr x.0 a) _ h))
forms (Expr-F.Like m x s) (Expr-F.Like n a t) h =
    let both : (same_truth m n && same_expr x.0 a) ≡ true = first-holds _ _ h in
    three (λ u v w. Expr-F.Like u v w) (truths m n (first-holds _ _ both)) (x.1.only a (last-holds (same_truth m n) _ both)) (texts s t (last-holds (same_truth m n && same_expr x.0 a) _ h))
forms (Expr-F.Case None ws None) (Expr-F.Case a vs b) h =
    let both : (same_part {A = Expr} None a && same_parts (map same_when_text (map (λ (c : PartWhen). c.0) ws)) vs) ≡ true = first-holds _ _ h in
    three (λ u v w. Expr-F.Case u v w) (nothing a (first-holds _ _ both)) (whens ws vs (last-holds (same_part {A = Expr} None a) _ both)) (nothing b (last-holds (same_part {A = Expr} None a && same_parts (map same_when_text (map (λ (c : PartWhen). c.0) ws)) vs) _ h))
forms (Expr-F.Case None ws (Some y)) (Expr-F.Case a vs b) h =
    let both : (same_part {A = Expr} None a && same_parts (map same_when_text (map (λ (c : PartWhen). c.0) ws)) vs) ≡ true = first-holds _ _ h in
    three (λ u v w. Expr-F.Case u v w) (nothing a (first-holds _ _ both)) (whens ws vs (last-holds (same_part {A = Expr} None a) _ both)) (something y b (last-holds (same_part {A = Expr} None a && same_parts (map same_when_text (map (λ (c : PartWhen). c.0) ws)) vs) _ h))
forms (Expr-F.Case (Some x) ws None) (Expr-F.Case a vs b) h =
    let both : (same_part (Some (same_expr x.0)) a && same_parts (map same_when_text (map (λ (c : PartWhen). c.0) ws)) vs) ≡ true = first-holds _ _ h in
    three (λ u v w. Expr-F.Case u v w) (something x a (first-holds _ _ both)) (whens ws vs (last-holds (same_part (Some (same_expr x.0)) a) _ both)) (nothing b (last-holds (same_part (Some (same_expr x.0)) a && same_parts (map same_when_text (map (λ (c : PartWhen). c.0) ws)) vs) _ h))
forms (Expr-F.Case (Some x) ws (Some y)) (Expr-F.Case a vs b) h =
    let both : (same_part (Some (same_expr x.0)) a && same_parts (map same_when_text (map (λ (c : PartWhen). c.0) ws)) vs) ≡ true = first-holds _ _ h in
    three (λ u v w. Expr-F.Case u v w) (something x a (first-holds _ _ both)) (whens ws vs (last-holds (same_part (Some (same_expr x.0)) a) _ both)) (something y b (last-holds (same_part (Some (same_expr x.0)) a && same_parts (map same_when_text (map (λ (c : PartWhen). c.0) ws)) vs) _ h))
forms (Expr-F.Call f m xs) (Expr-F.Call g n es) h =
    let both : (bytes_eq f g && same_truth m n) ≡ true = first-holds _ _ h in
    three (λ u v w. Expr-F.Call u v w) (texts f g (first-holds _ _ both)) (truths m n (last-holds (bytes_eq f g) _ both)) (parts xs es (last-holds (bytes_eq f g && same_truth m n) _ h))
forms y z h = absurd (false≢true h)

form-self : (y : Expr-F Part PartWhen) → same_form (tests_of (form_of y)) (form_of y) ≡ true
form-self (Expr-F.Digits m) = eq-eqb m m refl
form-self (Expr-F.Text s) = text-self s
form-self (Expr-F.Truth a) = truth-self a
form-self Expr-F.Null = refl
form-self (Expr-F.Name q m) = both-hold _ _ (name-self q) (text-self m)
form-self (Expr-F.Sign m x) = both-hold _ _ (truth-self m) x.1.self
form-self (Expr-F.Binary o x y) = both-hold _ _ (both-hold _ _ (op-self o) x.1.self) y.1.self
form-self (Expr-F.Not x) = x.1.self
form-self (Expr-F.IsNull m x) = both-hold _ _ (truth-self m) x.1.self
form-self (Expr-F.Between m x y z) = both-hold _ _ (both-hold _ _ (both-hold _ _ (truth-self m) x.1.self) y.1.self) z.1.self
form-self (Expr-F.OneOf m x xs) = both-hold _ _ (both-hold _ _ (truth-self m) x.1.self) (parts-self xs)
form-self (Expr-F.Like m x s) = both-hold _ _ (both-hold _ _ (truth-self m) x.1.self) (text-self s)
form-self (Expr-F.Cast x t) = both-hold _ _ x.1.self (type-self t)
form-self (Expr-F.Case None ws None) = both-hold _ _ (both-hold _ _ refl (whens-self ws)) refl
form-self (Expr-F.Case None ws (Some y)) = both-hold _ _ (both-hold _ _ refl (whens-self ws)) y.1.self
form-self (Expr-F.Case (Some x) ws None) = both-hold _ _ (both-hold _ _ x.1.self (whens-self ws)) refl
form-self (Expr-F.Case (Some x) ws (Some y)) = both-hold _ _ (both-hold _ _ x.1.self (whens-self ws)) y.1.self
form-self (Expr-F.Call f m xs) = both-hold _ _ (both-hold _ _ (text-self f) (truth-self m)) (parts-self xs)

-- ---- expressions

abbrev step : Expr-F (Test Expr) (Test WhenText) → Test Expr
step form b = same_form form (out-Expr b)

same-when : (v w : WhenText) → same_when_text v w ≡ (same_expr v.cond w.cond && same_expr v.result w.result)
unfolding same_expr same_when_text
same-when v w = ap (λ g. g w) (f.fold-when (Test Expr) (Test WhenText) step same_when v)

at-roll : (d : Expr-F Expr WhenText) (b : Expr) → same_expr (roll-Expr d) b ≡ same_form (tests_of d) (out-Expr b)
unfolding same_expr same_when_text
at-roll d b = ap (λ g. g b) (fold-roll-Expr (Test Expr) (Test WhenText) step same_when d)

roll-itself : (y : Expr-F Part PartWhen) → IsItself (roll-Expr (form_of y))
roll-itself y = record {
  only = λ b h. ap roll-Expr (forms y (out-Expr b) (sym (at-roll (form_of y) b) ∙ h)) ∙ roll-out-Expr b;
  self = at-roll (form_of y) (roll-Expr (form_of y)) ∙ ap (same_form (tests_of (form_of y))) (out-roll-Expr (form_of y)) ∙ form-self y;
}

when-itself : (x y : Part) → IsItselfWhen (roll-WhenText (record { cond = x.0; result = y.0 }))
when-itself x y = record {
  only = λ b h. let both : (same_expr x.0 b.cond && same_expr y.0 b.result) ≡ true = sym (same-when (roll-WhenText (record { cond = x.0; result = y.0 })) b) ∙ h in
      ap₂ (λ c r. roll-WhenText (record { cond = c; result = r })) (x.1.only b.cond (first-holds _ _ both)) (y.1.only b.result (last-holds (same_expr x.0 b.cond) _ both));
  self = same-when (roll-WhenText (record { cond = x.0; result = y.0 })) (roll-WhenText (record { cond = x.0; result = y.0 })) ∙ both-hold _ _ x.1.self y.1.self;
}

itself : (a : Expr) → IsItself a
itself = ind-Expr IsItself IsItselfWhen
    (λ x y is. subst (λ (d : Expr-F Expr WhenText). IsItself (roll-Expr d)) is (roll-itself y))
    (λ x y is. subst (λ (d : WhenText-F Expr WhenText). IsItselfWhen (roll-WhenText d)) is (when-itself y.cond y.result))

pub equal : (a b : Expr) → same_expr a b ≡ true → a ≡ b
equal a b h = (itself a).only b h

pub same : (a b : Expr) → a ≡ b → same_expr a b ≡ true
same a b h = subst (λ (x : Expr). same_expr a x ≡ true) h (itself a).self
