-- For each type in the set of an expression there is a tree of that type.
use Rattle.std.proofs.Common.{◌≡◌, ℕ, Bool, true, false, not, ◌&&◌, ◌||◌, if◌then◌else◌, List, [], ◌∷◌, map, Option, Some, None, is_some, refl, ap, ap₂, sym, ◌∙◌}
use Rattle.std.specs.Prelude.{option_map}
use Rattle.std.specs.List.{list_all, AllByRecursion as Each}
use Rattle.ksql_types.specs.declared.value.SqlType.{SqlType}
use Rattle.ksql_types.specs.declared.value.SqlType.TheVariants as sql
use Rattle.expression_trees.specs.declared.tree.Expr.{Expr}
use Rattle.expression_trees.specs.declared.tree.Expr.TheVariants as e
use Rattle.expression_trees.specs.declared.tree.WhenText.{WhenText}
use Rattle.ksql_expr.specs.declared.typed.AggFun.{AggFun}
use Rattle.ksql_expr.specs.declared.typed.AggFun.TheVariants as agg
use Rattle.ksql_expr.specs.declared.typed.Fun.{Fun}
use Rattle.ksql_expr.specs.Rules.{fits, binary_type, sign_type, can_cast, agg_type, can_be_when, joint_type, are_comparable, is_between_typed, is_in_typed, case_type, fun_type, typed}
use Rattle.ksql_type_sets.specs.declared.possible.Types.{Types}
use Rattle.ksql_expr.specs.declared.typed.Typed.{Typed}
use Rattle.ksql_expr.specs.declared.typed.TypedNode.TheVariants as n
use Rattle.ksql_expr.specs.declared.typed.TypedWhen.{TypedWhen}
use Rattle.ksql_expr.specs.Typing.{of, types}
use Rattle.ksql_scopes.specs.declared.scope.Scope.{Scope}
use Rattle.ksql_scopes.specs.Functions.{function_of, aggregate_of, is_unknown}
use Rattle.ksql_typing.specs.Possible.{possible, each_of, perhaps_of, conds_of, results_of, name_types}
use Rattle.ksql_type_sets.specs.Sets.{has, collect, where_found, no_types, is_same, is_found, some_in, each_in, call_types, agg_call_types, fun_types, joint_types, can_be_whens, with_otherwise_types, is_some_in}
use Rattle.ksql_scopes.specs.Scope.{Meaning, meanings, inside, seen}
use Rattle.ksql_typing.specs.Made.{typed_when}
use Rattle.ksql_typing.specs.Standing as st
use Rattle.ksql_typing.specs.Standing.{Stands, HasType, type_of_case, with_otherwise}
use Rattle.ksql_typing.proofs.Equations as q
use Rattle.expression_trees.proofs.Folds.{perhaps_folded}
use Rattle.ksql_scopes.proofs.Induction.{IfThere, InWhen, Steps, induction}
use Rattle.ksql_typing.proofs.Possibly.{PerhapsHas}
use Rattle.ksql_type_sets.proofs.Sets.{AllHave, has-collect, is-same, some-in, each-in, found-is, all-front, joint-is, fun-is}
use Rattle.std.proofs.lemmas.Bool.{and_parts}

abbrev pub Decides : Expr → Type 0
Decides a = (s : Scope) (t : Option SqlType) → has (possible a s) t ≡ true → HasType s a t

-- ---- sets

in-set : {a b : Types} (t : Option SqlType) → a ≡ b → has a t ≡ true → has b t ≡ true
in-set t i k = ap (λ z. has z t) (sym i) ∙ k

passes : (p : Option SqlType → Bool) (t : Option SqlType) → has (collect p) t ≡ true → p t ≡ true
passes p t k = sym (has-collect p t) ∙ k

where-is : (b : Bool) (u t : Option SqlType) → has (where_found b u) t ≡ true → (b ≡ true) × (u ≡ t)
where-is b u t k =
    let r = and_parts b (is_same u t) (passes (λ v. b && is_same u v) t k) in
    (r.0, is-same u t r.1)

no-type : (t : Option SqlType) → has no_types t ≡ true → ⊥
no-type t k = let r = where-is false None t k in let i : false ≡ true = r.0 in absurd (cc (i))

sure-is : {s : Scope} {a : Expr} {x : Typed} (t : Option SqlType) → Stands s (st.one a x) → has (where_found true x.ty) t ≡ true → HasType s a t
sure-is {x = x} t k l = (x, k, (where-is true x.ty t l).1)

typed-is : (o : Option SqlType) (t : Option SqlType) → typed o ≡ Some t → (u : SqlType) × (o ≡ Some u) × (Some u ≡ t)
typed-is None t k = absurd (cc (k))
typed-is (Some u) t k = (u, refl, cc)

-- ---- parts

each-decides : (es : List Expr) → Each Decides es → (s : Scope) (ts : List (Option SqlType)) → AllHave (each_of (map possible es) s) ts
    → (xs : List Typed) × Stands s (st.each es xs) × (types xs ≡ ts)
each-decides [] d s [] k = ([], st.none, refl)
each-decides [] d s (t ∷ ts) k = absurd k
each-decides (a ∷ es) d s [] k = absurd k
each-decides (a ∷ es) d s (t ∷ ts) k =
    let p = d.0 s t k.0 in
    let r = each-decides es d.1 s ts k.1 in
    (p.0 ∷ r.0, st.more p.1 r.1, ap₂ (λ u us. u ∷ us) p.2 r.2)

whens-decide : (ws : List WhenText) → Each (InWhen Decides) ws → (s : Scope) (xs ys : List (Option SqlType))
    → AllHave (conds_of (each_of (map q.possible_when ws) s)) xs → AllHave (results_of (each_of (map q.possible_when ws) s)) ys
    → (zs : List TypedWhen) × Stands s (st.whens ws zs) × (map (λ z. z.cond.ty) zs ≡ xs) × (map (λ z. z.result.ty) zs ≡ ys)
whens-decide [] d s [] [] k l = ([], st.no_when, refl, refl)
whens-decide [] d s [] (y ∷ ys) k l = absurd l
whens-decide [] d s (x ∷ xs) ys k l = absurd k
whens-decide (w ∷ ws) d s [] ys k l = absurd k
whens-decide (w ∷ ws) d s (x ∷ xs) [] k l = absurd l
whens-decide (w ∷ ws) d s (x ∷ xs) (y ∷ ys) k l =
    let p = d.0.0 s x (ap (λ v. has v.0 x) (sym (q.possible-when w s)) ∙ k.0) in
    let p2 = d.0.1 s y (ap (λ v. has v.1 y) (sym (q.possible-when w s)) ∙ l.0) in
    let r = whens-decide ws d.1 s xs ys k.1 l.1 in
    (typed_when p.0 p2.0 ∷ r.0, st.more_whens {y = typed_when p.0 p2.0} p.1 p2.1 r.1, ap₂ (λ u us. u ∷ us) p.2 r.2, ap₂ (λ u us. u ∷ us) p2.2 r.3)

perhaps-decides : (a : Option Expr) → IfThere Decides a → (s : Scope) (u : Option (Option SqlType))
    → PerhapsHas (perhaps_of (perhaps_folded possible a) s) u → (x : Option Typed) × Stands s (st.perhaps a x) × (option_map (λ e. e.ty) x ≡ u)
perhaps-decides None d s None k = (None, st.left_out, refl)
perhaps-decides None d s (Some t) k = absurd k
perhaps-decides (Some a) d s None k = absurd k
perhaps-decides (Some a) d s (Some t) k = let p = d s t k in (Some p.0, st.there p.1, ap Some p.2)

-- ---- names

name-decides : (s : Scope) (qualifier : Option (List ℕ)) (name : List ℕ) (t : Option SqlType) (ms : List Meaning) → meanings s qualifier name ≡ ms
    → has (name_types ms) t ≡ true → HasType s (e.Name qualifier name) t
name-decides s qualifier name t [] i k = absurd (no-type t k)
name-decides s qualifier name t (m ∷ []) i k = sure-is t (st.name i) k
name-decides s qualifier name t (m ∷ o ∷ ms) i k = absurd (no-type t k)

-- ---- CASE

whens-can : (x : Option Types) (conds : List Types) → can_be_whens x conds ≡ true
    → (u : Option (Option SqlType)) × PerhapsHas x u × (ts : List (Option SqlType)) × AllHave conds ts × (list_all (can_be_when u) ts ≡ true)
whens-can None conds k =
    let r = each-in (can_be_when None) conds k in
    (None, tt, r.0, r.1, r.2)
whens-can (Some a) conds k =
    let x = some-in a (λ v. each_in (can_be_when (Some v)) conds) k in
    let r = each-in (can_be_when (Some x.0)) conds x.2 in
    (Some x.0, x.1, r.0, r.1, r.2)

results-can : (sets : List Types) (z : Option Types) (ts : List (Option SqlType)) → AllHave (with_otherwise_types sets z) ts
    → (us : List (Option SqlType)) × (v : Option (Option SqlType)) × AllHave sets us × PerhapsHas z v × (ts ≡ with_otherwise us v)
results-can sets None ts k = (ts, None, k, tt, refl)
results-can sets (Some a) ts k =
    let r = all-front sets a ts k in
    (r.0, Some r.1, r.3, r.4, r.2)

-- ---- calls

-- only COUNT takes a star, and nothing else
starred : (g : AggFun) (a : Types) (sets : List Types) → agg_call_types g true (a ∷ sets) ≡ no_types
starred agg.CountAll a sets = refl
starred agg.Count a sets = refl
starred agg.Sum a sets = refl
starred agg.Min a sets = refl
starred agg.Max a sets = refl
starred agg.Latest a sets = refl
starred agg.Earliest a sets = refl

agg-decides : (f : List ℕ) (star : Bool) (es : List Expr) → Each Decides es → (s : Scope) (t : Option SqlType) (g : AggFun) → aggregate_of f ≡ Some g
    → has (agg_call_types g star (each_of (map possible es) (inside s))) t ≡ true → HasType s (e.Call f star es) t
agg-decides f false [] d s t g i k = absurd (no-type t k)
agg-decides f false (a ∷ []) d s t g i k =
    let x = some-in (possible a (inside s)) (λ u. is_found (agg_type g (Some u)) t)
    (passes (λ v. some_in (possible a (inside s)) (λ u. is_found (agg_type g (Some u)) v)) t k) in
    let p = d.0 (inside s) x.0 x.1 in
    (of t (n.Aggregate g (Some p.0)), st.aggregate i p.1 (ap (λ u. agg_type g (Some u)) p.2 ∙ found-is (agg_type g (Some x.0)) t x.2), refl)
agg-decides f false (a ∷ b ∷ es) d s t g i k = absurd (no-type t k)
agg-decides f true [] d s t agg.Count i k = sure-is t (st.count_all i) k
agg-decides f true [] d s t agg.CountAll i k = absurd (no-type t k)
agg-decides f true [] d s t agg.Sum i k = absurd (no-type t k)
agg-decides f true [] d s t agg.Min i k = absurd (no-type t k)
agg-decides f true [] d s t agg.Max i k = absurd (no-type t k)
agg-decides f true [] d s t agg.Latest i k = absurd (no-type t k)
agg-decides f true [] d s t agg.Earliest i k = absurd (no-type t k)
agg-decides f true (a ∷ es) d s t g i k = absurd (no-type t (in-set t (starred g (possible a (inside s)) (each_of (map possible es) (inside s))) k))

fun-decides : (f : List ℕ) (star : Bool) (es : List Expr) → Each Decides es → (s : Scope) (t : Option SqlType) (g : Fun) → function_of f ≡ Some g
    → has (if star then no_types else fun_types g (each_of (map possible es) s)) t ≡ true → HasType s (e.Call f star es) t
fun-decides f true es d s t g i k = absurd (no-type t k)
fun-decides f false es d s t g i k =
    let r = fun-is g (each_of (map possible es) s) t k in
    let p = each-decides es d s r.0 r.1 in
    (of t (n.Call g p.0), st.call i p.1 (ap (fun_type g) p.2 ∙ r.2), refl)

unknown-decides : (f : List ℕ) (star : Bool) (es : List Expr) → Each Decides es → (s : Scope) (t : Option SqlType) → is_unknown f ≡ true
    → has (call_types None None star (each_of (map possible es) s)) t ≡ true → HasType s (e.Call f star es) t
unknown-decides f star es d s t i k =
    let sets = each_of (map possible es) s in
    let r = each-in (λ u. true) sets (passes (λ u. list_all is_some_in sets) t k) in
    (of t n.RowTime, st.unknown i (each-decides es d s r.0 r.1).1, refl)

call-decides : (f : List ℕ) (star : Bool) (es : List Expr) → Each Decides es → (s : Scope) (t : Option SqlType) (o : Option AggFun) (p : Option Fun)
    → aggregate_of f ≡ o → function_of f ≡ p → has (call_types o p star (each_of (map possible es) (seen (not (is_some o) && s.windowed) s))) t ≡ true
    → HasType s (e.Call f star es) t
call-decides f star es d s t (Some g) p i j k = agg-decides f star es d s t g i k
call-decides f star es d s t None (Some g) i j k = fun-decides f star es d s t g j k
call-decides f star es d s t None None i j k = unknown-decides f star es d s t (ap₂ (λ u v. not (is_some u || is_some v)) j i) k

-- ---- each form

steps : Steps Decides
steps = record {
  digits = λ number s t k. sure-is t st.digits (in-set t (q.possible-Digits number s) k);
  text = λ content s t k. sure-is t st.text (in-set t (q.possible-Text content s) k);
  truth = λ b s t k. sure-is t st.truth (in-set t (q.possible-Truth b s) k);
  null = λ s t k. sure-is t st.null (in-set t (q.possible-Null s) k);
  name = λ qualifier found s t k.
      name-decides s qualifier found t (meanings s qualifier found) refl (in-set t (q.possible-Name qualifier found s) k);
  sign = λ minus a d s t k.
      let x = some-in (possible a s) (λ v. is_found (typed (sign_type v)) t)
      (passes (λ u. some_in (possible a s) (λ v. is_found (typed (sign_type v)) u)) t (in-set t (q.possible-Sign minus a s) k)) in
      let u = typed-is (sign_type x.0) t (found-is (typed (sign_type x.0)) t x.2) in
      let p = d s x.0 x.1 in
      (of (Some u.0) (n.Sign minus p.0), st.sign p.1 (ap sign_type p.2 ∙ u.1), u.2);
  binary = λ o a b d d2 s t k.
      let x = some-in (possible a s) (λ v. some_in (possible b s) (λ w. is_found (typed (binary_type o v w)) t))
      (passes (λ u. some_in (possible a s) (λ v. some_in (possible b s) (λ w. is_found (typed (binary_type o v w)) u))) t
      (in-set t (q.possible-Binary o a b s) k)) in
      let y = some-in (possible b s) (λ w. is_found (typed (binary_type o x.0 w)) t) x.2 in
      let u = typed-is (binary_type o x.0 y.0) t (found-is (typed (binary_type o x.0 y.0)) t y.2) in
      let p = d s x.0 x.1 in
      let p2 = d2 s y.0 y.1 in
      (of (Some u.0) (n.Binary o p.0 p2.0), st.binary p.1 p2.1 (ap₂ (binary_type o) p.2 p2.2 ∙ u.1), u.2);
  not = λ a d s t k.
      let r = where-is (some_in (possible a s) (fits sql.Bool)) (Some sql.Bool) t (in-set t (q.possible-Not a s) k) in
      let x = some-in (possible a s) (fits sql.Bool) r.0 in
      let p = d s x.0 x.1 in
      (of (Some sql.Bool) (n.Not p.0), st.not p.1 (ap (fits sql.Bool) p.2 ∙ x.2), r.1);
  is_null = λ m a d s t k.
      let r = where-is (is_some_in (possible a s)) (Some sql.Bool) t (in-set t (q.possible-IsNull m a s) k) in
      let x = some-in (possible a s) (λ u. true) r.0 in
      let p = d s x.0 x.1 in
      (of (Some sql.Bool) (n.IsNull m p.0), st.is_null p.1, r.1);
  between = λ m a b c d d2 d3 s t k.
      let r = where-is (some_in (possible a s) (λ u. some_in (possible b s) (λ v. some_in (possible c s) (λ w. is_between_typed u v w)))) (Some sql.Bool) t
      (in-set t (q.possible-Between m a b c s) k) in
      let x = some-in (possible a s) (λ u. some_in (possible b s) (λ v. some_in (possible c s) (λ w. is_between_typed u v w))) r.0 in
      let y = some-in (possible b s) (λ v. some_in (possible c s) (λ w. is_between_typed x.0 v w)) x.2 in
      let z = some-in (possible c s) (λ w. is_between_typed x.0 y.0 w) y.2 in
      let p = d s x.0 x.1 in
      let p2 = d2 s y.0 y.1 in
      let p3 = d3 s z.0 z.1 in
      let same : is_between_typed p.0.ty p2.0.ty p3.0.ty ≡ is_between_typed x.0 y.0 z.0 = λ i. is_between_typed (p.2 i) (p2.2 i) (p3.2 i) in
      (of (Some sql.Bool) (n.Between m p.0 p2.0 p3.0), st.between p.1 p2.1 p3.1 (same ∙ z.2), r.1);
  one_of = λ m a es d d2 s t k.
      let sets = each_of (map possible es) s in
      let r = where-is (some_in (possible a s) (λ u. each_in (are_comparable u) sets)) (Some sql.Bool) t (in-set t (q.possible-OneOf m a es s) k) in
      let x = some-in (possible a s) (λ u. each_in (are_comparable u) sets) r.0 in
      let y = each-in (are_comparable x.0) sets x.2 in
      let p = d s x.0 x.1 in
      let p2 = each-decides es d2 s y.0 y.1 in
      (of (Some sql.Bool) (n.OneOf m p.0 p2.0), st.one_of p.1 p2.1 (ap₂ is_in_typed p.2 p2.2 ∙ y.2), r.1);
  like = λ m a pattern d s t k.
      let r = where-is (some_in (possible a s) (fits sql.Text)) (Some sql.Bool) t (in-set t (q.possible-Like m a pattern s) k) in
      let x = some-in (possible a s) (fits sql.Text) r.0 in
      let p = d s x.0 x.1 in
      (of (Some sql.Bool) (n.Like m p.0 pattern), st.like p.1 (ap (fits sql.Text) p.2 ∙ x.2), r.1);
  cast = λ a to d s t k.
      let r = where-is (some_in (possible a s) (λ u. can_cast u to)) (Some to) t (in-set t (q.possible-Cast a to s) k) in
      let x = some-in (possible a s) (λ u. can_cast u to) r.0 in
      let p = d s x.0 x.1 in
      (of (Some to) (n.Cast p.0 to), st.cast p.1 (ap (λ u. can_cast u to) p.2 ∙ x.2), r.1);
  case = λ a ws b d d2 d3 s t k.
      let operand = perhaps_of (perhaps_folded possible a) s in
      let conds = conds_of (each_of (map q.possible_when ws) s) in
      let results = results_of (each_of (map q.possible_when ws) s) in
      let otherwise = perhaps_of (perhaps_folded possible b) s in
      let all = with_otherwise_types results otherwise in
      let r = and_parts (can_be_whens operand conds) (has (joint_types all) t)
      (passes (λ u. can_be_whens operand conds && has (joint_types all) u) t (in-set t (q.possible-Case a ws b s) k)) in
      let c = whens-can operand conds r.0 in
      let j = joint-is all t r.1 in
      let o = results-can results otherwise j.0 j.1 in
      let p = perhaps-decides a d s c.0 c.1 in
      let p2 = whens-decide ws d2 s c.2 o.0 c.3 o.2 in
      let p3 = perhaps-decides b d3 s o.1 o.3 in
      let same : type_of_case p.0 p2.0 p3.0 ≡ case_type c.0 c.2 (with_otherwise o.0 o.1) =
      λ i. case_type (p.2 i) (p2.2 i) (with_otherwise (p2.3 i) (p3.2 i)) in
      let is : case_type c.0 c.2 (with_otherwise o.0 o.1) ≡ Some t =
      ap (λ v. if v then joint_type (with_otherwise o.0 o.1) else None) c.4 ∙ ap joint_type (sym o.4) ∙ j.2 in
      (of t (n.Case p.0 p2.0 p3.0), st.case p.1 p2.1 p3.1 (same ∙ is), refl);
  call = λ f star args d s t k. call-decides f star args d s t (aggregate_of f) (function_of f) refl refl (in-set t (q.possible-Call f star args s) k);
}

pub decides : (a : Expr) → Decides a
decides = induction Decides steps
