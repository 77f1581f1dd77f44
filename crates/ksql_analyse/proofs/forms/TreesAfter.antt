-- A typed tree over the rows after a grouping has its types there, and what its group expressions and its aggregates
-- hold is gone.
use Rattle.std.proofs.Common.{◌≡◌, ℕ, Bool, true, false, ◌&&◌, ◌||◌, List, [], ◌∷◌, map, Option, Some, None, is_some, refl, ap, ap₂, sym, ◌∙◌, subst}
use Rattle.std.specs.Prelude.{option_map, slice_get}
use Rattle.ksql_types.specs.declared.value.SqlType.{SqlType}
use Rattle.ksql_types.specs.declared.value.SqlType.TheVariants as sql
use Rattle.ksql_types.specs.declared.value.Value.TheVariants as value
use Rattle.expression_trees.specs.declared.tree.Expr.{Expr}
use Rattle.expression_trees.specs.declared.tree.Expr.TheVariants as e
use Rattle.ksql_expr.specs.declared.typed.AggFun.TheVariants.{CountAll}
use Rattle.ksql_expr.specs.declared.typed.Typed.{Typed}
use Rattle.ksql_expr.specs.declared.typed.TypedNode.{TypedNode}
use Rattle.ksql_expr.specs.declared.typed.TypedNode.TheVariants as n
use Rattle.ksql_expr.specs.declared.typed.TypedNode.TheOpen.{TypedNode-F}
use Rattle.ksql_expr.specs.declared.typed.TypedWhen.{TypedWhen}
use Rattle.ksql_expr.specs.Aggregates.{holds}
use Rattle.ksql_expr.specs.Rules.{fits, binary_type, sign_type, can_cast, fun_type, case_type, is_between_typed, is_in_typed}
use Rattle.ksql_expr.specs.Typing as w
use Rattle.ksql_expr.specs.Typing.{HasTypes, of, types}
use Rattle.ksql_scopes.specs.declared.scope.Scope.{Scope}
use Rattle.ksql_scopes.specs.Functions.{is_aggregate, is_unknown}
use Rattle.ksql_scopes.specs.Scope.{column_types}
use Rattle.ksql_scopes.specs.Uses.{IsSmall, is_small, are_small, are_whens_small, is_small_perhaps, all_of, calls, perhaps}
use Rattle.ksql_scopes.proofs.Disjoint.{no-aggregate}
use Rattle.std.proofs.lemmas.Bool.{and_parts, both_ways}
use Rattle.ksql_scopes.proofs.Small as small
use Rattle.ksql_typing.specs.Made.{typed_when}
use Rattle.ksql_typing.specs.Standing as st
use Rattle.ksql_typing.specs.Standing.{Stands, Pair, IsTypedTree, digits_type, digits_value, type_of_case, with_otherwise}
use Rattle.ksql_typing.proofs.Known.{AreKnown, Known, one-known, two-known, three-known, call-known}
use Rattle.ksql_typing.proofs.Making.{case-typed, digits-tree}
use Rattle.ksql_typing.proofs.OneTyping.{checked}
use Rattle.ksql_scopes.proofs.Equations as q
use Rattle.expression_trees.proofs.Folds.{perhaps_folded}
use Rattle.aggregate_rules.specs.Grouping.{place_among, is_window_bound}
use Rattle.grouped_expressions.specs.Grouped as trees
use Rattle.grouped_expressions.specs.Grouped.{after, node_after, when_after}
use Rattle.grouped_expressions.proofs.Becoming as becoming
use Rattle.ksql_analyse.proofs.lists.Distinct.{false-or}
use Rattle.ksql_analyse.proofs.forms.Holding as hold
use Rattle.ksql_analyse.proofs.forms.Holding.{each_holds, whens_hold, part_holds}
use Rattle.ksql_analyse.proofs.forms.ReadyForms as f

-- a test that holds of no column, and of no literal and no pattern that keeps its limits
pub record IsClear (leaf : TypedNode-F Bool Bool Bool → Bool) : Type 0 where
  pub column : (i : ℕ) → leaf (TypedNode-F.Column i) ≡ false
  pub digits : (number : ℕ) → leaf (TypedNode-F.Literal (digits_value number)) ≡ false
  pub text : (content : List ℕ) → IsSmall (e.Text content) → leaf (TypedNode-F.Literal (value.Txt content)) ≡ false
  pub truth : (b : Bool) → leaf (TypedNode-F.Literal (value.Bool b)) ≡ false
  pub null : leaf (TypedNode-F.Literal value.Null) ≡ false
  pub like : (m b : Bool) (a : Expr) (pattern : List ℕ) → IsSmall (e.Like m a pattern) → leaf (TypedNode-F.Like m b pattern) ≡ false

module _ (columns : List TypedNode) where
  -- ---- types stay

  pub kept-type : (x : Typed) → (after columns x).ty ≡ x.ty
  kept-type x = ap (λ y. y.ty) (becoming.after-tree columns x)

  kept-types : (xs : List Typed) → types (map (after columns) xs) ≡ types xs
  kept-types [] = refl
  kept-types (x ∷ xs) = ap₂ (λ t ts. t ∷ ts) (kept-type x) (kept-types xs)

  kept-part : (x : Option Typed) → option_map (λ y. y.ty) (option_map (after columns) x) ≡ option_map (λ y. y.ty) x
  kept-part None = refl
  kept-part (Some x) = ap Some (kept-type x)

  kept-conds : (ys : List TypedWhen) → map (λ v. v.cond.ty) (map (when_after columns) ys) ≡ map (λ v. v.cond.ty) ys
  kept-conds [] = refl
  kept-conds (y ∷ ys) = ap₂ (λ t ts. t ∷ ts) (ap (λ v. v.cond.ty) (becoming.after-when columns y) ∙ kept-type y.cond) (kept-conds ys)

  kept-results : (ys : List TypedWhen) → map (λ v. v.result.ty) (map (when_after columns) ys) ≡ map (λ v. v.result.ty) ys
  kept-results [] = refl
  kept-results (y ∷ ys) = ap₂ (λ t ts. t ∷ ts) (ap (λ v. v.result.ty) (becoming.after-when columns y) ∙ kept-type y.result) (kept-results ys)

module _ (s : Scope) (groups aggs : List Expr) (columns : List TypedNode) (cs : List (Option SqlType)) where
  abbrev HasPlace : Typed → Type 0
  HasPlace x = is_some (trees.place_among columns x.node) ≡ true

  -- the group expressions, the aggregates and the bounds of windows are columns, of their types
  pub record IsGrouping : Type 0 where
    pub typed : (x : Typed) (i : ℕ) → trees.place_among columns x.node ≡ Some i → HasTypes (column_types s) (w.one x) → slice_get cs i ≡ Some x.ty
    pub group : (a : Expr) (x : Typed) (i : ℕ) → place_among groups a ≡ Some i → IsTypedTree s a x → HasPlace x
    pub aggregate : (a : Expr) (x : Typed) (i : ℕ) → place_among aggs a ≡ Some i → IsTypedTree s a x → HasPlace x
    pub bound : (q : Option (List ℕ)) (name : List ℕ) (x : Typed) → is_window_bound q name ≡ true → IsTypedTree s (e.Name q name) x → HasPlace x

module _ (s : Scope) (groups aggs : List Expr) (columns : List TypedNode) (cs : List (Option SqlType)) (leaf : TypedNode-F Bool Bool Bool → Bool)
    (g : IsGrouping s groups aggs columns cs) (c : IsClear leaf) where
  abbrev late : Typed → Typed
  late x = after columns x

  -- a tree after the grouping has its types, and the test holds of none of its forms
  abbrev pub IsFit : Typed → Type 0
  IsFit y = HasTypes cs (w.one y) × (holds leaf y ≡ false)

  abbrev pub FitPair : Pair → Type 0
  FitPair (st.one a x) = IsFit (late x)
  FitPair (st.perhaps a x) = HasTypes cs (w.perhaps (option_map late x)) × (part_holds leaf (option_map late x) ≡ false)
  FitPair (st.each es xs) = HasTypes cs (w.each (map late xs)) × (each_holds leaf (map late xs) ≡ false)
  FitPair (st.whens vs xs) = HasTypes cs (w.whens (map (when_after columns) xs)) × (whens_hold leaf (map (when_after columns) xs) ≡ false)

  abbrev pub IsReadyPair : Pair → Type 0
  IsReadyPair (st.one a x) = f.IsReady groups aggs a
  IsReadyPair (st.perhaps a x) = f.IsReadyPart groups aggs a
  IsReadyPair (st.each es xs) = f.AreReady groups aggs es
  IsReadyPair (st.whens vs xs) = f.AreReadyWhens groups aggs vs

  abbrev pub IsSmallPair : Pair → Type 0
  IsSmallPair (st.one a x) = IsSmall a
  IsSmallPair (st.perhaps a x) = is_small_perhaps a ≡ true
  IsSmallPair (st.each es xs) = are_small es ≡ true
  IsSmallPair (st.whens vs xs) = are_whens_small vs ≡ true

  -- what a form becomes
  formed : (t : Option SqlType) (form made : TypedNode) → node_after columns form ≡ made → IsFit (of t made) → IsFit (late (of t form))
  formed t form made is h = subst IsFit (sym (becoming.after-tree columns (of t form) ∙ ap (of t) is)) h

  -- what has a place becomes a column
  at-column : (x : Typed) → HasTypes (column_types s) (w.one x) → (trees.place_among columns x.node ≡ None → IsFit (late x)) → IsFit (late x)
  at-column x k rest = at (trees.place_among columns x.node) refl
    where
      at : (o : Option ℕ) → trees.place_among columns x.node ≡ o → IsFit (late x)
      at None is = rest is
      at (Some i) is =
          formed x.ty x.node (n.Column i) (becoming.after-column columns x.node i is) (w.column (g.typed x i is k), hold.holds-Column leaf x.ty i ∙ c.column i)

  no-place : {A : Type 0} (x : Typed) → trees.place_among columns x.node ≡ None → HasPlace s groups aggs columns cs x → A
  no-place x none has = let z : false ≡ true = sym (ap is_some none) ∙ has in absurd (cc (z))

  -- a group expression has a place; else there is what its parts become
  at-place : (a : Expr) (x : Typed) → Stands s (st.one a x) → AreKnown (calls a)
      → (place_among groups a ≡ None → trees.place_among columns x.node ≡ None → IsFit (late x)) → IsFit (late x)
  at-place a x h k rest = at-column x (checked s a x (h, k)) (λ none. at (place_among groups a) refl none)
    where
      at : (o : Option ℕ) → place_among groups a ≡ o → trees.place_among columns x.node ≡ None → IsFit (late x)
      at None is none = rest is none
      at (Some i) is none = no-place x none (g.group a x i is (h, k))

  -- an aggregate has a place
  at-aggregate : (name : List ℕ) (star : Bool) (args : List Expr) (x : Typed) → is_aggregate name ≡ true
      → f.IsReady groups aggs (e.Call name star args) → IsTypedTree s (e.Call name star args) x → IsFit (late x)
  at-aggregate name star args x is r h = at-column x (checked s (e.Call name star args) x h) (λ none. at (place_among aggs (e.Call name star args)) refl none)
    where
      at : (o : Option ℕ) → place_among aggs (e.Call name star args) ≡ o → trees.place_among columns x.node ≡ None → IsFit (late x)
      at (Some i) found none = no-place x none (g.aggregate (e.Call name star args) x i found h)
      at None found none =
          let z : false ≡ true = sym (ap is_some found) ∙ f.ready-Aggregate groups aggs name star args is r in
          absurd (cc (z))

  pub fit : {p : Pair} → Stands s p → Known p → IsReadyPair p → IsSmallPair p → FitPair p
  fit (st.digits {number = number}) k r m =
      let x = digits_value number in
      let t = Some (digits_type number) in
      at-place (e.Digits number) (of t (n.Literal x)) st.digits k (λ h none.
      formed t (n.Literal x) (n.Literal x) (becoming.after-Literal columns (n.Literal x) x refl none) (
        subst (λ y. HasTypes cs (w.one y)) (digits-tree number) (w.literal {x = x}),
        hold.holds-Literal leaf t x ∙ c.digits number,
      ))
  fit (st.text {content = content}) k r m =
      let x = value.Txt content in
      let t = Some sql.Text in
      at-place (e.Text content) (of t (n.Literal x)) st.text k (λ h none.
      formed t (n.Literal x) (n.Literal x) (becoming.after-Literal columns (n.Literal x) x refl none) (w.literal {x = x}, hold.holds-Literal leaf t x ∙ c.text content m))
  fit (st.truth {b = b}) k r m =
      let x = value.Bool b in
      let t = Some sql.Bool in
      at-place (e.Truth b) (of t (n.Literal x)) st.truth k (λ h none.
      formed t (n.Literal x) (n.Literal x) (becoming.after-Literal columns (n.Literal x) x refl none) (w.literal {x = x}, hold.holds-Literal leaf t x ∙ c.truth b))
  fit st.null k r m =
      let x = value.Null in
      at-place e.Null (of None (n.Literal x)) st.null k (λ h none.
      formed None (n.Literal x) (n.Literal x) (becoming.after-Literal columns (n.Literal x) x refl none) (w.literal {x = x}, hold.holds-Literal leaf None x ∙ c.null))
  fit (st.name {q = p} {found = name} {form = form} {t = t} means) k r m =
      let x = of (Some t) form in
      at-place (e.Name p name) x (st.name means) k (λ h none.
      no-place x none (g.bound p name x (f.ready-Name groups aggs p name h r) (st.name means, k)))
  fit (st.sign {minus = minus} {a = a} {x = x} {t = t} i typed) k r m =
      let b = e.Sign minus a in
      at-place b (of (Some t) (n.Sign minus x)) (st.sign i typed) k (λ h none.
      let y = fit i (one-known (q.calls-Sign minus a) k) (f.ready-Sign groups aggs minus a h r) (small.small-Sign b m minus a refl) in
      formed (Some t) (n.Sign minus x) (n.Sign minus (late x)) (becoming.after-Sign columns (n.Sign minus x) minus x refl none) (
        w.sign y.0 (ap sign_type (kept-type columns x) ∙ typed),
        hold.holds-Sign leaf (Some t) minus (late x) ∙ y.1,
      ))
  fit (st.binary {o = o} {a = a} {b = a2} {x = x} {y = x2} {t = t} i j typed) k r m =
      let b = e.Binary o a a2 in
      let d = two-known (calls a) (calls a2) (q.calls-Binary o a a2) k in
      at-place b (of (Some t) (n.Binary o x x2)) (st.binary i j typed) k (λ h none.
      let ready = f.ready-Binary groups aggs o a a2 h r in
      let short = small.small-Binary b m o a a2 refl in
      let y = fit i d.0 ready.0 short.0 in
      let y2 = fit j d.1 ready.1 short.1 in
      formed (Some t) (n.Binary o x x2) (n.Binary o (late x) (late x2)) (becoming.after-Binary columns (n.Binary o x x2) o x x2 refl none) (
        w.binary y.0 y2.0 (ap₂ (binary_type o) (kept-type columns x) (kept-type columns x2) ∙ typed),
        hold.holds-Binary leaf (Some t) o (late x) (late x2) ∙ false-or (holds leaf (late x)) (holds leaf (late x2)) y.1 y2.1,
      ))
  fit (st.not {a = a} {x = x} i typed) k r m =
      let b = e.Not a in
      let t = Some sql.Bool in
      at-place b (of t (n.Not x)) (st.not i typed) k (λ h none.
      let y = fit i (one-known (q.calls-Not a) k) (f.ready-Not groups aggs a h r) (small.small-Not b m a refl) in
      formed t (n.Not x) (n.Not (late x)) (becoming.after-Not columns (n.Not x) x refl none) (
        w.not y.0 (ap (fits sql.Bool) (kept-type columns x) ∙ typed),
        hold.holds-Not leaf t (late x) ∙ y.1,
      ))
  fit (st.is_null {negated = o} {a = a} {x = x} i) k r m =
      let b = e.IsNull o a in
      let t = Some sql.Bool in
      at-place b (of t (n.IsNull o x)) (st.is_null i) k (λ h none.
      let y = fit i (one-known (q.calls-IsNull o a) k) (f.ready-IsNull groups aggs o a h r) (small.small-IsNull b m o a refl) in
      formed t (n.IsNull o x) (n.IsNull o (late x)) (becoming.after-IsNull columns (n.IsNull o x) o x refl none)
      (w.is_null y.0, hold.holds-IsNull leaf t o (late x) ∙ y.1))
  fit (st.between {negated = o} {a = a} {low = a2} {high = a3} {x = x} {y = x2} {z = x3} i j l typed) k r m =
      let b = e.Between o a a2 a3 in
      let t = Some sql.Bool in
      let d = three-known (calls a) (calls a2) (calls a3) (q.calls-Between o a a2 a3) k in
      at-place b (of t (n.Between o x x2 x3)) (st.between i j l typed) k (λ h none.
      let ready = f.ready-Between groups aggs o a a2 a3 h r in
      let short = small.small-Between b m o a a2 a3 refl in
      let y = fit i d.0 ready.0 short.0 in
      let y2 = fit j d.1 ready.1 short.1 in
      let y3 = fit l d.2 ready.2 short.2 in
      let same : is_between_typed (late x).ty (late x2).ty (late x3).ty ≡ is_between_typed x.ty x2.ty x3.ty =
      λ u. is_between_typed (kept-type columns x u) (kept-type columns x2 u) (kept-type columns x3 u) in
      formed t (n.Between o x x2 x3) (n.Between o (late x) (late x2) (late x3)) (becoming.after-Between columns (n.Between o x x2 x3) o x x2 x3 refl none) (
        w.between y.0 y2.0 y3.0 (same ∙ typed),
        hold.holds-Between leaf t o (late x) (late x2) (late x3)
            ∙ false-or (holds leaf (late x) || holds leaf (late x2)) (holds leaf (late x3)) (false-or (holds leaf (late x)) (holds leaf (late x2)) y.1 y2.1) y3.1,
      ))
  fit (st.one_of {negated = o} {a = a} {es = es} {x = x} {xs = xs} i j typed) k r m =
      let b = e.OneOf o a es in
      let t = Some sql.Bool in
      let d = two-known (calls a) (all_of (map calls es)) (q.calls-OneOf o a es) k in
      at-place b (of t (n.OneOf o x xs)) (st.one_of i j typed) k (λ h none.
      let ready = f.ready-OneOf groups aggs o a es h r in
      let short = small.small-OneOf b m o a es refl in
      let y = fit i d.0 ready.0 short.0 in
      let ys = fit j d.1 ready.1 short.1 in
      formed t (n.OneOf o x xs) (n.OneOf o (late x) (map late xs)) (becoming.after-OneOf columns (n.OneOf o x xs) o x xs refl none) (
        w.one_of y.0 ys.0 (ap₂ is_in_typed (kept-type columns x) (kept-types columns xs) ∙ typed),
        hold.holds-OneOf leaf t o (late x) (map late xs) ∙ false-or (holds leaf (late x)) (each_holds leaf (map late xs)) y.1 ys.1,
      ))
  fit (st.like {negated = o} {a = a} {pattern = pattern} {x = x} i typed) k r m =
      let b = e.Like o a pattern in
      let t = Some sql.Bool in
      at-place b (of t (n.Like o x pattern)) (st.like i typed) k (λ h none.
      let y = fit i (one-known (q.calls-Like o a pattern) k) (f.ready-Like groups aggs o a pattern h r) (small.small-Like b m o a pattern refl) in
      formed t (n.Like o x pattern) (n.Like o (late x) pattern) (becoming.after-Like columns (n.Like o x pattern) o x pattern refl none) (
        w.like y.0 (ap (fits sql.Text) (kept-type columns x) ∙ typed),
        hold.holds-Like leaf t o (late x) pattern
            ∙ false-or (leaf (TypedNode-F.Like o (holds leaf (late x)) pattern)) (holds leaf (late x)) (c.like o (holds leaf (late x)) a pattern m) y.1,
      ))
  fit (st.cast {a = a} {to = to} {x = x} i typed) k r m =
      let b = e.Cast a to in
      at-place b (of (Some to) (n.Cast x to)) (st.cast i typed) k (λ h none.
      let y = fit i (one-known (q.calls-Cast a to) k) (f.ready-Cast groups aggs a to h r) (small.small-Cast b m a to refl) in
      formed (Some to) (n.Cast x to) (n.Cast (late x) to) (becoming.after-Cast columns (n.Cast x to) x to refl none) (
        w.cast y.0 (ap (λ v. can_cast v to) (kept-type columns x) ∙ typed),
        hold.holds-Cast leaf (Some to) (late x) to ∙ y.1,
      ))
  fit (st.case {operand = a} {otherwise = a2} {ws = vs} {x = x} {z = x2} {ys = xs} {t = t} i j l typed) k r m =
      let b = e.Case a vs a2 in
      let d = three-known (perhaps (perhaps_folded calls a)) (all_of (map q.calls_when vs)) (perhaps (perhaps_folded calls a2)) (q.calls-Case a vs a2) k in
      at-place b (of t (n.Case x xs x2)) (st.case i j l typed) k (λ h none.
      let ready = f.ready-Case groups aggs a vs a2 h r in
      let short = small.small-Case b m a vs a2 refl in
      let y = fit i d.0 ready.0 short.0 in
      let ys = fit j d.1 ready.1 short.1 in
      let y2 = fit l d.2 ready.2 short.2 in
      let z = option_map late x in
      let zs = map (when_after columns) xs in
      let z2 = option_map late x2 in
      let same : type_of_case z zs z2 ≡ type_of_case x xs x2 =
      λ u. case_type (kept-part columns x u) (kept-conds columns xs u) (with_otherwise (kept-results columns xs u) (kept-part columns x2 u)) in
      formed t (n.Case x xs x2) (n.Case z zs z2) (becoming.after-Case columns (n.Case x xs x2) x xs x2 refl none) (
        w.case y.0 ys.0 y2.0 (case-typed z zs z2 (same ∙ typed)),
        hold.holds-Case leaf t z zs z2
            ∙ false-or (part_holds leaf z || whens_hold leaf zs) (part_holds leaf z2) (false-or (part_holds leaf z) (whens_hold leaf zs) y.1 ys.1) y2.1,
      ))
  fit (st.call {f = name} {args = args} {found = found} {xs = xs} {t = t} is i typed) k r m =
      let b = e.Call name false args in
      let plain : is_aggregate name ≡ false = ap is_some (no-aggregate name found is) in
      at-place b (of t (n.Call found xs)) (st.call is i typed) k (λ h none.
      let ys = fit i (call-known name false args k).1 (f.ready-Call groups aggs name false args plain h r) (small.small-Call b m name false args refl) in
      formed t (n.Call found xs) (n.Call found (map late xs)) (becoming.after-Call columns (n.Call found xs) found xs refl none) (
        w.call ys.0 (ap (fun_type found) (kept-types columns xs) ∙ typed),
        hold.holds-Call leaf t found (map late xs) ∙ ys.1,
      ))
  fit (st.count_all {f = name} is) k r m =
      at-aggregate name true [] (of (Some sql.Big) (n.Aggregate CountAll None)) (ap is_some is) r (st.count_all is, k)
  fit (st.aggregate {f = name} {a = a} {found = found} {x = x} {t = t} is i typed) k r m =
      at-aggregate name false (a ∷ []) (of t (n.Aggregate found (Some x))) (ap is_some is) r (st.aggregate is i typed, k)
  fit (st.unknown {f = name} {star = star} {args = args} is i) k r m = absurd (both_ways (is_unknown name) (call-known name star args k).0 is)
  fit st.left_out k r m = (w.left_out, refl)
  fit (st.there {a = a} i) k r m =
      let y = fit i k (f.ready-there groups aggs a r) m in
      (w.there y.0, y.1)
  fit st.none k r m = (w.none, refl)
  fit (st.more {a = a} {es = es} {x = x} {xs = xs} i j) k r m =
      let d = two-known (calls a) (all_of (map calls es)) refl k in
      let ready = f.ready-more groups aggs a es r in
      let short = and_parts (is_small a) (are_small es) m in
      let y = fit i d.0 ready.0 short.0 in
      let ys = fit j d.1 ready.1 short.1 in
      (w.more y.0 ys.0, false-or (holds leaf (late x)) (each_holds leaf (map late xs)) y.1 ys.1)
  fit st.no_when k r m = (w.no_when, refl)
  fit (st.more_whens {w = v} {ws = vs} {y = x} {ys = xs} i j l) k r m =
      let d = two-known (q.calls_when v) (all_of (map q.calls_when vs)) refl k in
      let own = two-known (calls v.cond) (calls v.result) (q.calls-when v) d.0 in
      let ready = f.ready-whens groups aggs v vs r in
      let short = and_parts (is_small v.cond && is_small v.result) (are_whens_small vs) m in
      let both = and_parts (is_small v.cond) (is_small v.result) short.0 in
      let y = fit i own.0 ready.0 both.0 in
      let y2 = fit j own.1 ready.1 both.1 in
      let ys = fit l d.1 ready.2 short.1 in
      let is = becoming.after-when columns x in (
        w.more_whens (subst (λ v. HasTypes cs (w.one v.cond)) (sym is) y.0) (subst (λ v. HasTypes cs (w.one v.result)) (sym is) y2.0) ys.0,
        false-or (hold.when_holds leaf (when_after columns x)) (whens_hold leaf (map (when_after columns) xs))
            (ap (hold.when_holds leaf) is ∙ hold.holds-when leaf (typed_when (late x.cond) (late x.result)) ∙ false-or (holds leaf (late x.cond)) (holds leaf (late x.result)) y.1 y2.1) ys.1,
      )
