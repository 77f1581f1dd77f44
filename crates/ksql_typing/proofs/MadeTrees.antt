-- The tree that is made of an expression stands for it, and each function in the expression is known.
use Rattle.std.proofs.Common.{◌≡◌, ℕ, Bool, true, false, not, ◌&&◌, if◌then◌else◌, List, [], ◌∷◌, map, Option, Some, None, is_some, refl, ap, sym, ◌∙◌, subst}
use Rattle.std.specs.List.{AllByRecursion as Each}
use Rattle.std.proofs.lemmas.Option.{same_Some}
use Rattle.ksql_types.specs.declared.value.SqlType.{SqlType}
use Rattle.ksql_types.specs.declared.value.SqlType.TheVariants as sql
use Rattle.expression_trees.specs.declared.tree.Expr.{Expr}
use Rattle.expression_trees.specs.declared.tree.Expr.TheVariants as ex
use Rattle.expression_trees.specs.declared.tree.WhenText.{WhenText}
use Rattle.ksql_expr.specs.declared.typed.AggFun.{AggFun}
use Rattle.ksql_expr.specs.declared.typed.AggFun.TheVariants as agg
use Rattle.ksql_expr.specs.declared.typed.Fun.{Fun}
use Rattle.ksql_expr.specs.declared.typed.Typed.{Typed}
use Rattle.ksql_expr.specs.declared.typed.TypedNode.{TypedNode}
use Rattle.ksql_expr.specs.declared.typed.TypedNode.TheVariants as n
use Rattle.ksql_expr.specs.declared.typed.TypedWhen.{TypedWhen}
use Rattle.ksql_expr.specs.Rules.{fits, binary_type, sign_type, can_cast, fun_type, agg_type, is_between_typed, is_in_typed, typed}
use Rattle.ksql_expr.specs.Typing.{of, truth, types}
use Rattle.ksql_scopes.specs.declared.scope.Scope.{Scope}
use Rattle.ksql_scopes.specs.Functions.{function_of, aggregate_of}
use Rattle.ksql_scopes.specs.Scope.{Meaning, meanings, inside, seen}
use Rattle.ksql_scopes.specs.Uses.{calls, all_of}
use Rattle.ksql_scopes.specs.Uses as uses
use Rattle.ksql_scopes.proofs.Disjoint.{known-function, known-aggregate}
use Rattle.ksql_scopes.proofs.Equations as names
use Rattle.ksql_scopes.proofs.Induction.{IfThere, InWhen, Steps, induction}
use Rattle.expression_trees.proofs.Folds.{perhaps_folded}
use Rattle.ksql_typing.specs.Judged.{after}
use Rattle.ksql_typing.specs.Made as m
use Rattle.ksql_typing.specs.Made.{made, all_there, perhaps_there, with_type, truth_where, name_tree, named_tree, agg_call_tree, fun_call_tree}
use Rattle.ksql_typing.specs.Standing as st
use Rattle.ksql_typing.specs.Standing.{Stands, IsTypedTree, type_of_case}
use Rattle.ksql_typing.proofs.Equations as q
use Rattle.ksql_typing.proofs.Known.{AreKnown, of-one-known, of-two-known, of-three-known, of-call-known}
use Rattle.ksql_typing.proofs.Making.{digits-tree}

abbrev pub MakesTree : Expr → Type 0
MakesTree a = (s : Scope) (x : Typed) → made a s ≡ Some x → IsTypedTree s a x

-- ---- what a form was made of

after-is : {A B : Type 0} (o : Option A) (f : A → Option B) (r : B) → after o f ≡ Some r → (x : A) × (o ≡ Some x) × (f x ≡ Some r)
after-is None f r k = absurd (cc (k))
after-is (Some x) f r k = (x, refl, k)

form-is : (o : Option (Option SqlType)) (form : TypedNode) (x : Typed) → with_type o form ≡ Some x
    → (t : Option SqlType) × (o ≡ Some t) × (of t form ≡ x)
form-is None form x k = absurd (cc (k))
form-is (Some t) form x k = (t, refl, same_Some _ _ k)

typed-form-is : (o : Option SqlType) (form : TypedNode) (x : Typed) → with_type (typed o) form ≡ Some x
    → (u : SqlType) × (o ≡ Some u) × (of (Some u) form ≡ x)
typed-form-is None form x k = absurd (cc (k))
typed-form-is (Some u) form x k = (u, refl, same_Some _ _ k)

truth-is : (b : Bool) (form : TypedNode) (x : Typed) → truth_where b form ≡ Some x → (b ≡ true) × (truth form ≡ x)
truth-is true form x k = (refl, same_Some _ _ k)
truth-is false form x k = absurd (cc (k))

cast-is : (b : Bool) (to : SqlType) (form : TypedNode) (x : Typed) → (if b then Some (of (Some to) form) else None) ≡ Some x
    → (b ≡ true) × (of (Some to) form ≡ x)
cast-is true to form x k = (refl, same_Some _ _ k)
cast-is false to form x k = absurd (cc (k))

is-tree : {s : Scope} {a : Expr} {y x : Typed} → y ≡ x → Stands s (st.one a y) → AreKnown (calls a) → IsTypedTree s a x
is-tree {s} {a} e k l = (subst (λ z. Stands s (st.one a z)) e k, l)

-- ---- parts

-- what a list was made of
one-more : {A : Type 0} (o : Option A) (rest : Option (List A)) (xs : List A) → after o (λ x. after rest (λ v. Some (x ∷ v))) ≡ Some xs
    → (x : A) × (v : List A) × (o ≡ Some x) × (rest ≡ Some v) × (x ∷ v ≡ xs)
one-more None rest xs k = absurd (cc (k))
one-more (Some x) None xs k = absurd (cc (k))
one-more (Some x) (Some v) xs k = (x, v, refl, refl, same_Some _ _ k)

each-made : (es : List Expr) → Each MakesTree es → (s : Scope) (xs : List Typed) → all_there s (map made es) ≡ Some xs
    → Stands s (st.each es xs) × AreKnown (all_of (map calls es))
each-made [] d s xs k = (subst (λ v. Stands s (st.each [] v)) (same_Some _ _ k) st.none, refl)
each-made (a ∷ es) d s xs k =
    let r = one-more (made a s) (all_there s (map made es)) xs k in
    let p = d.0 s r.0 r.2 in
    let p2 = each-made es d.1 s r.1 r.3 in
    (subst (λ v. Stands s (st.each (a ∷ es) v)) r.4 (st.more p.0 p2.0), of-two-known (calls a) (all_of (map calls es)) refl p.1 p2.1)

when-is : (o p : Option Typed) (y : TypedWhen) → after o (λ x. after p (λ z. Some (m.typed_when x z))) ≡ Some y
    → (x : Typed) × (z : Typed) × (o ≡ Some x) × (p ≡ Some z) × (m.typed_when x z ≡ y)
when-is None p y k = absurd (cc (k))
when-is (Some x) None y k = absurd (cc (k))
when-is (Some x) (Some z) y k = (x, z, refl, refl, same_Some _ _ k)

whens-made : (ws : List WhenText) → Each (InWhen MakesTree) ws → (s : Scope) (ys : List TypedWhen) → all_there s (map q.made_when ws) ≡ Some ys
    → Stands s (st.whens ws ys) × AreKnown (all_of (map names.calls_when ws))
whens-made [] d s ys k = (subst (λ v. Stands s (st.whens [] v)) (same_Some _ _ k) st.no_when, refl)
whens-made (u ∷ ws) d s ys k =
    let r = one-more (q.made_when u s) (all_there s (map q.made_when ws)) ys k in
    let c = when-is (made u.cond s) (made u.result s) r.0 (sym (q.made-when u s) ∙ r.2) in
    let y = m.typed_when c.0 c.1 in
    let p = d.0.0 s c.0 c.2 in
    let p2 = d.0.1 s c.1 c.3 in
    let p3 = whens-made ws d.1 s r.1 r.3 in (
      subst (λ v. Stands s (st.whens (u ∷ ws) v)) (ap (λ v. v ∷ r.1) c.4 ∙ r.4) (st.more_whens {y = y} p.0 p2.0 p3.0),
      of-two-known (names.calls_when u) (all_of (map names.calls_when ws)) refl
          (of-two-known (calls u.cond) (calls u.result) (names.calls-when u) p.1 p2.1) p3.1,
    )

perhaps-made : (a : Option Expr) → IfThere MakesTree a → (s : Scope) (x : Option Typed) → perhaps_there s (perhaps_folded made a) ≡ Some x
    → Stands s (st.perhaps a x) × AreKnown (uses.perhaps (perhaps_folded calls a))
perhaps-made None d s x k = (subst (λ v. Stands s (st.perhaps None v)) (same_Some _ _ k) st.left_out, refl)
perhaps-made (Some a) d s x k =
    let r = after-is (made a s) (λ v. Some (Some v)) x k in
    let p = d s r.0 r.1 in
    (subst (λ v. Stands s (st.perhaps (Some a) v)) (same_Some _ _ r.2) (st.there p.0), p.1)

-- ---- names

name-made : (s : Scope) (qualifier : Option (List ℕ)) (name : List ℕ) (x : Typed) (ms : List Meaning)
    → meanings s qualifier name ≡ ms → name_tree ms ≡ Some x → Stands s (st.one (ex.Name qualifier name) x)
name-made s qualifier name x [] i k = absurd (cc (k))
name-made s qualifier name x (v ∷ []) i k = subst (λ z. Stands s (st.one (ex.Name qualifier name) z)) (same_Some _ _ k) (st.name i)
name-made s qualifier name x (v ∷ o ∷ ms) i k = absurd (cc (k))

-- ---- calls

-- only COUNT takes a star, and nothing else
starred : (f : AggFun) (x : Typed) (xs : List Typed) → agg_call_tree f true (x ∷ xs) ≡ None
starred agg.CountAll x xs = refl
starred agg.Count x xs = refl
starred agg.Sum x xs = refl
starred agg.Min x xs = refl
starred agg.Max x xs = refl
starred agg.Latest x xs = refl
starred agg.Earliest x xs = refl

bare : (f : AggFun) → agg_call_tree f false [] ≡ None
bare agg.CountAll = refl
bare agg.Count = refl
bare agg.Sum = refl
bare agg.Min = refl
bare agg.Max = refl
bare agg.Latest = refl
bare agg.Earliest = refl

-- one argument at most
many : (f : AggFun) (x y : Typed) (xs : List Typed) → agg_call_tree f false (x ∷ y ∷ xs) ≡ None
many agg.CountAll x y xs = refl
many agg.Count x y xs = refl
many agg.Sum x y xs = refl
many agg.Min x y xs = refl
many agg.Max x y xs = refl
many agg.Latest x y xs = refl
many agg.Earliest x y xs = refl

never : {A B : Type 0} (o : Option B) (x : B) → o ≡ None → o ≡ Some x → A
never o x k l = let e : None ≡ Some x = sym k ∙ l in absurd (cc (e))

too-many : {A : Type 0} (f : AggFun) (x : Typed) (ys : List Typed) (y : Typed) (zs xs : List Typed) (r : Typed)
    → x ∷ ys ≡ xs → y ∷ zs ≡ ys → agg_call_tree f false xs ≡ Some r → A
too-many f x ys y zs xs r k l j =
    never (agg_call_tree f false (x ∷ y ∷ zs)) r (many f x y zs) (ap (agg_call_tree f false) (ap (λ v. x ∷ v) l ∙ k) ∙ j)

counted : (f : List ℕ) (found : AggFun) → aggregate_of f ≡ Some found → (s : Scope) (x : Typed) → agg_call_tree found true [] ≡ Some x
    → IsTypedTree s (ex.Call f true []) x
counted f agg.Count i s x k = is-tree (same_Some _ _ k) (st.count_all i) (of-call-known f true [] (known-aggregate f agg.Count i) refl)
counted f agg.CountAll i s x k = absurd (cc (k))
counted f agg.Sum i s x k = absurd (cc (k))
counted f agg.Min i s x k = absurd (cc (k))
counted f agg.Max i s x k = absurd (cc (k))
counted f agg.Latest i s x k = absurd (cc (k))
counted f agg.Earliest i s x k = absurd (cc (k))

agg-made : (f : List ℕ) (star : Bool) (es : List Expr) → Each MakesTree es → (s : Scope) (found : AggFun) → aggregate_of f ≡ Some found
    → (x : Typed) (xs : List Typed) → all_there (inside s) (map made es) ≡ Some xs → agg_call_tree found star xs ≡ Some x → IsTypedTree s (ex.Call f star es) x
agg-made f true [] d s found i x xs k l =
    counted f found i s x (ap (agg_call_tree found true) (same_Some _ _ k) ∙ l)
agg-made f false [] d s found i x xs k l =
    never (agg_call_tree found false []) x (bare found) (ap (agg_call_tree found false) (same_Some _ _ k) ∙ l)
agg-made f true (a ∷ es) d s found i x xs k l =
    let r = one-more (made a (inside s)) (all_there (inside s) (map made es)) xs k in
    never (agg_call_tree found true (r.0 ∷ r.1)) x (starred found r.0 r.1) (ap (agg_call_tree found true) r.4 ∙ l)
agg-made f false (a ∷ []) d s found i x xs k l =
    let r = after-is (made a (inside s)) (λ y. Some (y ∷ [])) xs k in
    let t = form-is (agg_type found (Some r.0.ty)) (n.Aggregate found (Some r.0)) x (ap (agg_call_tree found false) (same_Some _ _ r.2) ∙ l) in
    let p = d.0 (inside s) r.0 r.1 in
    is-tree t.2 (st.aggregate i p.0 t.1) (of-call-known f false (a ∷ []) (known-aggregate f found i) (of-two-known (calls a) [] refl p.1 refl))
agg-made f false (a ∷ b ∷ es) d s found i x xs k l =
    let r = one-more (made a (inside s)) (all_there (inside s) (map made (b ∷ es))) xs k in
    let r2 = one-more (made b (inside s)) (all_there (inside s) (map made es)) r.1 r.3 in
    too-many found r.0 r.1 r2.0 r2.1 xs x r.4 r2.4 l

fun-made : (f : List ℕ) (star : Bool) (es : List Expr) → Each MakesTree es → (s : Scope) (found : Fun) → function_of f ≡ Some found → (x : Typed) (xs : List Typed)
    → all_there s (map made es) ≡ Some xs → fun_call_tree found star xs ≡ Some x → IsTypedTree s (ex.Call f star es) x
fun-made f true es d s found i x xs k l = absurd (cc (l))
fun-made f false es d s found i x xs k l =
    let t = form-is (fun_type found (types xs)) (n.Call found xs) x l in
    let p = each-made es d s xs k in
    is-tree t.2 (st.call i p.0 t.1) (of-call-known f false es (known-function f found i) p.1)

call-is : (f : List ℕ) (star : Bool) (es : List Expr) → Each MakesTree es → (s : Scope) (x : Typed) (o : Option AggFun) (p : Option Fun)
    → aggregate_of f ≡ o → function_of f ≡ p
    → after (all_there (seen (not (is_some o) && s.windowed) s) (map made es)) (named_tree o p star) ≡ Some x → IsTypedTree s (ex.Call f star es) x
call-is f star es d s x (Some found) p i j k =
    let r = after-is (all_there (inside s) (map made es)) (named_tree (Some found) p star) x k in
    agg-made f star es d s found i x r.0 r.1 r.2
call-is f star es d s x None (Some found) i j k =
    let r = after-is (all_there s (map made es)) (named_tree None (Some found) star) x k in
    fun-made f star es d s found j x r.0 r.1 r.2
call-is f star es d s x None None i j k =
    let r = after-is (all_there s (map made es)) (named_tree None None star) x k in
    absurd (cc (r.2))

-- ---- each form

steps : Steps MakesTree
steps = record {
  digits = λ number s x k. is-tree (sym (digits-tree number) ∙ same_Some _ _ (sym (q.made-Digits number s) ∙ k)) st.digits (of-one-known (names.calls-Digits number) refl);
  text = λ content s x k. is-tree (same_Some _ _ (sym (q.made-Text content s) ∙ k)) st.text (of-one-known (names.calls-Text content) refl);
  truth = λ b s x k. is-tree (same_Some _ _ (sym (q.made-Truth b s) ∙ k)) st.truth (of-one-known (names.calls-Truth b) refl);
  null = λ s x k. is-tree (same_Some _ _ (sym (q.made-Null s) ∙ k)) st.null (of-one-known names.calls-Null refl);
  name = λ qualifier name s x k. (
    name-made s qualifier name x (meanings s qualifier name) refl (sym (q.made-Name qualifier name s) ∙ k),
    of-one-known (names.calls-Name qualifier name) refl,
  );
  sign = λ minus a d s x k.
      let r = after-is (made a s) (m.sign_tree minus) x (sym (q.made-Sign minus a s) ∙ k) in
      let t = typed-form-is (sign_type r.0.ty) (n.Sign minus r.0) x r.2 in
      let p = d s r.0 r.1 in
      is-tree t.2 (st.sign p.0 t.1) (of-one-known (names.calls-Sign minus a) p.1);
  binary = λ o a b d d2 s x k.
      let r = after-is (made a s) (λ v. after (made b s) (m.binary_tree o v)) x (sym (q.made-Binary o a b s) ∙ k) in
      let r2 = after-is (made b s) (m.binary_tree o r.0) x r.2 in
      let t = typed-form-is (binary_type o r.0.ty r2.0.ty) (n.Binary o r.0 r2.0) x r2.2 in
      let p = d s r.0 r.1 in
      let p2 = d2 s r2.0 r2.1 in
      is-tree t.2 (st.binary p.0 p2.0 t.1) (of-two-known (calls a) (calls b) (names.calls-Binary o a b) p.1 p2.1);
  not = λ a d s x k.
      let r = after-is (made a s) m.not_tree x (sym (q.made-Not a s) ∙ k) in
      let t = truth-is (fits sql.Bool r.0.ty) (n.Not r.0) x r.2 in
      let p = d s r.0 r.1 in
      is-tree t.1 (st.not p.0 t.0) (of-one-known (names.calls-Not a) p.1);
  is_null = λ negated a d s x k.
      let r = after-is (made a s) (m.is_null_tree negated) x (sym (q.made-IsNull negated a s) ∙ k) in
      let p = d s r.0 r.1 in
      is-tree (same_Some _ _ r.2) (st.is_null p.0) (of-one-known (names.calls-IsNull negated a) p.1);
  between = λ negated a b c d d2 d3 s x k.
      let r = after-is (made a s) (λ u. after (made b s) (λ v. after (made c s) (m.between_tree negated u v))) x (sym (q.made-Between negated a b c s) ∙ k) in
      let r2 = after-is (made b s) (λ v. after (made c s) (m.between_tree negated r.0 v)) x r.2 in
      let r3 = after-is (made c s) (m.between_tree negated r.0 r2.0) x r2.2 in
      let t = truth-is (is_between_typed r.0.ty r2.0.ty r3.0.ty) (n.Between negated r.0 r2.0 r3.0) x r3.2 in
      let p = d s r.0 r.1 in
      let p2 = d2 s r2.0 r2.1 in
      let p3 = d3 s r3.0 r3.1 in
      is-tree t.1 (st.between p.0 p2.0 p3.0 t.0) (of-three-known (calls a) (calls b) (calls c) (names.calls-Between negated a b c) p.1 p2.1 p3.1);
  one_of = λ negated a es d d2 s x k.
      let r = after-is (made a s) (λ v. after (all_there s (map made es)) (m.one_of_tree negated v)) x (sym (q.made-OneOf negated a es s) ∙ k) in
      let r2 = after-is (all_there s (map made es)) (m.one_of_tree negated r.0) x r.2 in
      let t = truth-is (is_in_typed r.0.ty (types r2.0)) (n.OneOf negated r.0 r2.0) x r2.2 in
      let p = d s r.0 r.1 in
      let p2 = each-made es d2 s r2.0 r2.1 in
      is-tree t.1 (st.one_of p.0 p2.0 t.0) (of-two-known (calls a) (all_of (map calls es)) (names.calls-OneOf negated a es) p.1 p2.1);
  like = λ negated a pattern d s x k.
      let r = after-is (made a s) (m.like_tree negated pattern) x (sym (q.made-Like negated a pattern s) ∙ k) in
      let t = truth-is (fits sql.Text r.0.ty) (n.Like negated r.0 pattern) x r.2 in
      let p = d s r.0 r.1 in
      is-tree t.1 (st.like p.0 t.0) (of-one-known (names.calls-Like negated a pattern) p.1);
  cast = λ a to d s x k.
      let r = after-is (made a s) (m.cast_tree to) x (sym (q.made-Cast a to s) ∙ k) in
      let t = cast-is (can_cast r.0.ty to) to (n.Cast r.0 to) x r.2 in
      let p = d s r.0 r.1 in
      is-tree t.1 (st.cast p.0 t.0) (of-one-known (names.calls-Cast a to) p.1);
  case = λ a ws b d d2 d3 s x k.
      let operand = perhaps_there s (perhaps_folded made a) in
      let whens = all_there s (map q.made_when ws) in
      let otherwise = perhaps_there s (perhaps_folded made b) in
      let r = after-is operand (λ u. after whens (λ v. after otherwise (m.case_tree u v))) x (sym (q.made-Case a ws b s) ∙ k) in
      let r2 = after-is whens (λ v. after otherwise (m.case_tree r.0 v)) x r.2 in
      let r3 = after-is otherwise (m.case_tree r.0 r2.0) x r2.2 in
      let t = form-is (type_of_case r.0 r2.0 r3.0) (n.Case r.0 r2.0 r3.0) x r3.2 in
      let p = perhaps-made a d s r.0 r.1 in
      let p2 = whens-made ws d2 s r2.0 r2.1 in
      let p3 = perhaps-made b d3 s r3.0 r3.1 in
      is-tree t.2 (st.case p.0 p2.0 p3.0 t.1)
      (of-three-known (uses.perhaps (perhaps_folded calls a)) (all_of (map names.calls_when ws)) (uses.perhaps (perhaps_folded calls b)) (names.calls-Case a ws b) p.1 p2.1 p3.1);
  call = λ f star args d s x k. call-is f star args d s x (aggregate_of f) (function_of f) refl refl (sym (q.made-Call f star args s) ∙ k);
}

pub makes-tree : (a : Expr) → MakesTree a
makes-tree = induction MakesTree steps
