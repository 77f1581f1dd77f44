-- What stands for an expression whose functions are known is the tree that is made of it, and has its types on a row of
-- the scope.
use Rattle.std.proofs.Common.{◌≡◌, ℕ, Bool, true, false, not, ◌&&◌, if◌then◌else◌, List, [], ◌∷◌, ◌++◌, map, Option, Some, None, is_some, refl, ap, ap₂, ◌∙◌, subst, nat_le}
use Rattle.std.specs.Prelude.{option_map, pos}
use Rattle.std.proofs.lemmas.Bool.{both_ways}
use Rattle.std.proofs.lemmas.List.{map-append}
use Rattle.ksql_types.specs.declared.value.SqlType.{SqlType}
use Rattle.ksql_types.specs.declared.value.SqlType.TheVariants as sql
use Rattle.ksql_types.specs.declared.value.Value.TheVariants as value
use Rattle.expression_trees.specs.declared.tree.Expr.{Expr}
use Rattle.expression_trees.specs.declared.tree.Expr.TheVariants as ex
use Rattle.ksql_expr.specs.declared.typed.AggFun.{AggFun}
use Rattle.ksql_expr.specs.declared.typed.AggFun.TheVariants.{Count}
use Rattle.ksql_expr.specs.declared.typed.Fun.{Fun}
use Rattle.ksql_expr.specs.declared.typed.Typed.{Typed}
use Rattle.ksql_expr.specs.declared.typed.TypedNode.{TypedNode}
use Rattle.ksql_expr.specs.declared.typed.TypedNode.TheVariants as n
use Rattle.ksql_expr.specs.declared.typed.TypedWhen.{TypedWhen}
use Rattle.ksql_expr.specs.Rules.{type_of, case_type, typed}
use Rattle.ksql_expr.specs.Typing as w
use Rattle.ksql_expr.specs.Typing.{HasTypes, of, truth, types, results}
use Rattle.ksql_scopes.specs.declared.scope.Scope.{Scope}
use Rattle.ksql_scopes.specs.Functions.{function_of, aggregate_of, is_unknown}
use Rattle.ksql_scopes.specs.Scope.{meanings, inside, seen}
use Rattle.ksql_scopes.specs.Uses.{calls, all_of}
use Rattle.ksql_scopes.specs.Uses as uses
use Rattle.ksql_scopes.proofs.Disjoint.{no-aggregate}
use Rattle.ksql_scopes.proofs.Equations as q
use Rattle.expression_trees.proofs.Folds.{perhaps_folded}
use Rattle.ksql_typing.specs.Judged.{after}
use Rattle.ksql_typing.specs.Made as m
use Rattle.ksql_typing.specs.Made.{made, all_there, perhaps_there, with_type, truth_where, name_tree, named_tree}
use Rattle.ksql_typing.specs.Standing as st
use Rattle.ksql_typing.specs.Standing.{Stands, Pair, digits_type, digits_value, type_of_case, with_otherwise}
use Rattle.ksql_typing.proofs.Equations as forms
use Rattle.ksql_typing.proofs.Known.{Known, one-known, two-known, three-known, call-known}

-- what a name stands for is typed
abbrev pub AreMeaningsTyped : List (Option SqlType) → Scope → Type 0
AreMeaningsTyped cs s =
    (qualifier : Option (List ℕ)) (name : List ℕ) (form : TypedNode) (t : SqlType) → meanings s qualifier name ≡ (form, t) ∷ []
    → HasTypes cs (w.one (of (Some t) form))

abbrev pub Gives : List (Option SqlType) → Scope → Pair → Type 0
Gives cs s (st.one a x) = (made a s ≡ Some x) × HasTypes cs (w.one x)
Gives cs s (st.perhaps a x) = (perhaps_there s (perhaps_folded made a) ≡ Some x) × HasTypes cs (w.perhaps x)
Gives cs s (st.each es xs) = (all_there s (map made es) ≡ Some xs) × HasTypes cs (w.each xs)
Gives cs s (st.whens ws ys) = (all_there s (map forms.made_when ws) ≡ Some ys) × HasTypes cs (w.whens ys)

-- a form made of one, two or three parts
of-one : {A B : Type 0} (o : Option A) (x : A) (f : A → Option B) (r : B) → o ≡ Some x → f x ≡ Some r → after o f ≡ Some r
of-one o x f r k l = ap (λ v. after v f) k ∙ l

of-two : {A B C : Type 0} (o : Option A) (x : A) (p : Option B) (y : B) (f : A → B → Option C) (r : C)
    → o ≡ Some x → p ≡ Some y → f x y ≡ Some r → after o (λ a. after p (f a)) ≡ Some r
of-two o x p y f r k l j = ap (λ v. after v (λ a. after p (f a))) k ∙ of-one p y (f x) r l j

of-three : {A B C D : Type 0} (o : Option A) (x : A) (p : Option B) (y : B) (v : Option C) (z : C) (f : A → B → C → Option D) (r : D)
    → o ≡ Some x → p ≡ Some y → v ≡ Some z → f x y z ≡ Some r → after o (λ a. after p (λ b. after v (f a b))) ≡ Some r
of-three o x p y v z f r k l i j = ap (λ u. after u (λ a. after p (λ b. after v (f a b)))) k ∙ of-two p y v z (f x) r l i j

typed-form : {o : Option (Option SqlType)} {t : Option SqlType} (form : TypedNode) → o ≡ Some t → with_type o form ≡ Some (of t form)
typed-form form k = ap (λ v. with_type v form) k

truth-form : {b : Bool} (form : TypedNode) → b ≡ true → truth_where b form ≡ Some (truth form)
truth-form form k = ap (λ v. truth_where v form) k

digits-typed : (number : ℕ) → type_of (digits_value number) ≡ Some (digits_type number)
digits-typed number = at (nat_le number 2147483647)
  where
    at : (b : Bool) → type_of (if b then value.Int (pos number) else value.Big (pos number)) ≡ Some (if b then sql.Int else sql.Big)
    at true = refl
    at false = refl

-- digits as a literal
pub digits-tree : (number : ℕ) → of (type_of (digits_value number)) (n.Literal (digits_value number)) ≡ of (Some (digits_type number)) (n.Literal (digits_value number))
digits-tree number = ap (λ t. of t (n.Literal (digits_value number))) (digits-typed number)

result-types : (ws : List TypedWhen) → types (map (λ v. v.result) ws) ≡ map (λ v. v.result.ty) ws
result-types [] = refl
result-types (y ∷ ws) = ap (λ ts. y.result.ty ∷ ts) (result-types ws)

results-typed : (ws : List TypedWhen) (z : Option Typed) → types (results ws z) ≡ with_otherwise (map (λ v. v.result.ty) ws) (option_map (λ e. e.ty) z)
results-typed ws None = result-types ws
results-typed ws (Some z) = map-append (λ e. e.ty) (map (λ v. v.result) ws) (z ∷ []) ∙ ap (λ ts. ts ++ z.ty ∷ []) (result-types ws)

-- the type of a CASE
pub case-typed : (x : Option Typed) (ys : List TypedWhen) (z : Option Typed) {t : Option SqlType} → type_of_case x ys z ≡ Some t
    → case_type (option_map (λ e. e.ty) x) (map (λ v. v.cond.ty) ys) (types (results ys z)) ≡ Some t
case-typed x ys z k = ap (case_type (option_map (λ e. e.ty) x) (map (λ v. v.cond.ty) ys)) (results-typed ys z) ∙ k

call-made : (f : List ℕ) (star : Bool) (es : List Expr) (s : Scope) (o : Option AggFun) (p : Option Fun) → aggregate_of f ≡ o → function_of f ≡ p
    → made (ex.Call f star es) s ≡ after (all_there (seen (not (is_some o) && s.windowed) s) (map made es)) (named_tree o p star)
call-made f star es s o p k l =
    forms.made-Call f star es s ∙ ap₂ (λ a b. after (all_there (seen (not (is_some a) && s.windowed) s) (map made es)) (named_tree a b star)) k l

pub gives : {cs : List (Option SqlType)} {s : Scope} {p : Pair} → AreMeaningsTyped cs s → AreMeaningsTyped cs (inside s)
    → Stands s p → Known p → Gives cs s p
gives {cs} {s} f g (st.digits {number = number}) u = (
  forms.made-Digits number s ∙ ap Some (digits-tree number),
  subst (λ x. HasTypes cs (w.one x)) (digits-tree number) w.literal,
)
gives {cs} {s} f g (st.text {content = content}) u = (forms.made-Text content s, w.literal {x = value.Txt content})
gives {cs} {s} f g (st.truth {b = b}) u = (forms.made-Truth b s, w.literal {x = value.Bool b})
gives {cs} {s} f g st.null u = (forms.made-Null s, w.literal {x = value.Null})
gives {cs} {s} f g (st.name {q = qualifier} {found = found} {form = form} {t = t} e) u =
    (forms.made-Name qualifier found s ∙ ap name_tree e, f qualifier found form t e)
gives {cs} {s} f g (st.sign {minus = minus} {a = a} {x = x} {t = t} i e) u =
    let r = gives f g i (one-known (q.calls-Sign minus a) u) in
    let form = n.Sign minus x in (
      forms.made-Sign minus a s ∙ of-one (made a s) x (m.sign_tree minus) (of (Some t) form) r.0 (typed-form form (ap typed e)),
      w.sign r.1 e,
    )
gives {cs} {s} f g (st.binary {o = o} {a = a} {b = b} {x = x} {y = y} {t = t} i j e) u =
    let p = two-known (calls a) (calls b) (q.calls-Binary o a b) u in
    let r = gives f g i p.0 in
    let r2 = gives f g j p.1 in
    let form = n.Binary o x y in (
      forms.made-Binary o a b s ∙ of-two (made a s) x (made b s) y (m.binary_tree o) (of (Some t) form) r.0 r2.0 (typed-form form (ap typed e)),
      w.binary r.1 r2.1 e,
    )
gives {cs} {s} f g (st.not {a = a} {x = x} i e) u =
    let r = gives f g i (one-known (q.calls-Not a) u) in
    let form = n.Not x in
    (forms.made-Not a s ∙ of-one (made a s) x m.not_tree (truth form) r.0 (truth-form form e), w.not r.1 e)
gives {cs} {s} f g (st.is_null {negated = negated} {a = a} {x = x} i) u =
    let r = gives f g i (one-known (q.calls-IsNull negated a) u) in
    (forms.made-IsNull negated a s ∙ of-one (made a s) x (m.is_null_tree negated) (truth (n.IsNull negated x)) r.0 refl, w.is_null r.1)
gives {cs} {s} f g (st.between {negated = negated} {a = a} {low = b} {high = c} {x = x} {y = y} {z = z} i j l e) u =
    let p = three-known (calls a) (calls b) (calls c) (q.calls-Between negated a b c) u in
    let r = gives f g i p.0 in
    let r2 = gives f g j p.1 in
    let r3 = gives f g l p.2 in
    let form = n.Between negated x y z in (
      forms.made-Between negated a b c s
          ∙ of-three (made a s) x (made b s) y (made c s) z (m.between_tree negated) (truth form) r.0 r2.0 r3.0 (truth-form form e),
      w.between r.1 r2.1 r3.1 e,
    )
gives {cs} {s} f g (st.one_of {negated = negated} {a = a} {es = es} {x = x} {xs = xs} i j e) u =
    let p = two-known (calls a) (all_of (map calls es)) (q.calls-OneOf negated a es) u in
    let r = gives f g i p.0 in
    let r2 = gives f g j p.1 in
    let form = n.OneOf negated x xs in (
      forms.made-OneOf negated a es s
          ∙ of-two (made a s) x (all_there s (map made es)) xs (m.one_of_tree negated) (truth form) r.0 r2.0 (truth-form form e),
      w.one_of r.1 r2.1 e,
    )
gives {cs} {s} f g (st.like {negated = negated} {a = a} {pattern = pattern} {x = x} i e) u =
    let r = gives f g i (one-known (q.calls-Like negated a pattern) u) in
    let form = n.Like negated x pattern in
    (forms.made-Like negated a pattern s ∙ of-one (made a s) x (m.like_tree negated pattern) (truth form) r.0 (truth-form form e), w.like r.1 e)
gives {cs} {s} f g (st.cast {a = a} {to = to} {x = x} i e) u =
    let r = gives f g i (one-known (q.calls-Cast a to) u) in
    let tree = of (Some to) (n.Cast x to) in
    (forms.made-Cast a to s ∙ of-one (made a s) x (m.cast_tree to) tree r.0 (ap (λ b. if b then Some tree else None) e), w.cast r.1 e)
gives {cs} {s} f g (st.case {operand = a} {otherwise = b} {ws = ws} {x = x} {z = z} {ys = ys} {t = t} i j l e) u =
    let p = three-known (uses.perhaps (perhaps_folded calls a)) (all_of (map q.calls_when ws)) (uses.perhaps (perhaps_folded calls b)) (q.calls-Case a ws b) u in
    let r = gives f g i p.0 in
    let r2 = gives f g j p.1 in
    let r3 = gives f g l p.2 in
    let form = n.Case x ys z in (
      forms.made-Case a ws b s
          ∙ of-three (perhaps_there s (perhaps_folded made a)) x (all_there s (map forms.made_when ws)) ys (perhaps_there s (perhaps_folded made b)) z
          m.case_tree (of t form) r.0 r2.0 r3.0 (typed-form form e),
      w.case r.1 r2.1 r3.1 (case-typed x ys z e),
    )
gives {cs} {s} f g (st.call {f = name} {args = es} {found = found} {xs = xs} {t = t} e i h) u =
    let r = gives f g i (call-known name false es u).1 in
    let form = n.Call found xs in (
      call-made name false es s None (Some found) (no-aggregate name found e) e
          ∙ of-one (all_there s (map made es)) xs (named_tree None (Some found) false) (of t form) r.0 (typed-form form h),
      w.call r.1 h,
    )
gives {cs} {s} f g (st.count_all {f = name} e) u = (call-made name true [] s (Some Count) (function_of name) e refl, w.aggregate w.left_out refl)
gives {cs} {s} f g (st.aggregate {f = name} {a = a} {found = found} {x = x} {t = t} e i h) u =
    let r = gives g g i (two-known (calls a) [] refl (call-known name false (a ∷ []) u).1).0 in
    let form = n.Aggregate found (Some x) in (
      call-made name false (a ∷ []) s (Some found) (function_of name) e refl
          ∙ of-one (all_there (inside s) (made a ∷ [])) (x ∷ []) (named_tree (Some found) (function_of name) false) (of t form)
          (ap (λ o. after o (λ v. Some (v ∷ []))) r.0) (typed-form form h),
      w.aggregate (w.there r.1) h,
    )
gives f g (st.unknown {f = name} {star = star} {args = es} e i) u = absurd (both_ways (is_unknown name) (call-known name star es u).0 e)
gives f g st.left_out u = (refl, w.left_out)
gives f g (st.there i) u =
    let r = gives f g i u in
    (ap (λ o. after o (λ v. Some (Some v))) r.0, w.there r.1)
gives f g st.none u = (refl, w.none)
gives {cs} {s} f g (st.more {a = a} {es = es} {x = x} {xs = xs} i j) u =
    let p = two-known (calls a) (all_of (map calls es)) refl u in
    let r = gives f g i p.0 in
    let r2 = gives f g j p.1 in
    (of-two (made a s) x (all_there s (map made es)) xs (λ v vs. Some (v ∷ vs)) (x ∷ xs) r.0 r2.0 refl, w.more r.1 r2.1)
gives f g st.no_when u = (refl, w.no_when)
gives {cs} {s} f g (st.more_whens {w = v} {ws = ws} {y = y} {ys = ys} i j l) u =
    let p = two-known (q.calls_when v) (all_of (map q.calls_when ws)) refl u in
    let p2 = two-known (calls v.cond) (calls v.result) (q.calls-when v) p.0 in
    let r = gives f g i p2.0 in
    let r2 = gives f g j p2.1 in
    let r3 = gives f g l p.1 in (
      of-two (forms.made_when v s) y (all_there s (map forms.made_when ws)) ys (λ z zs. Some (z ∷ zs)) (y ∷ ys)
          (forms.made-when v s ∙ of-two (made v.cond s) y.cond (made v.result s) y.result (λ z zs. Some (m.typed_when z zs)) y r.0 r2.0 refl) r3.0 refl,
      w.more_whens r.1 r2.1 r3.1,
    )
