-- The aggregates in an expression with a typed tree have typed trees, and their literals keep their limits.
use Rattle.std.proofs.Common.{◌≡◌, true, false, ◌&&◌, List, [], ◌∷◌, ◌++◌, map, Some, None, is_some, refl, ap, sym, subst}
use Rattle.std.specs.Prelude.{option_map}
use Rattle.std.specs.List.{AllByRecursion as Each}
use Rattle.ksql_types.specs.declared.value.SqlType.TheVariants as sql
use Rattle.expression_trees.specs.declared.tree.Expr.{Expr}
use Rattle.expression_trees.specs.declared.tree.Expr.TheVariants as e
use Rattle.ksql_expr.specs.declared.typed.AggFun.TheVariants.{CountAll}
use Rattle.ksql_expr.specs.declared.typed.Typed.{Typed}
use Rattle.ksql_expr.specs.declared.typed.TypedNode.TheVariants as n
use Rattle.ksql_expr.specs.Typing.{of}
use Rattle.ksql_scopes.specs.declared.scope.Scope.{Scope}
use Rattle.ksql_scopes.specs.Functions.{is_aggregate, is_unknown}
use Rattle.ksql_scopes.specs.Uses.{IsSmall, is_small, are_small, are_whens_small, is_small_perhaps, all_of, calls, perhaps}
use Rattle.ksql_scopes.proofs.Disjoint.{no-aggregate}
use Rattle.std.proofs.lemmas.Bool.{and_parts, both_ways}
use Rattle.ksql_scopes.proofs.Small as small
use Rattle.ksql_typing.specs.Standing as st
use Rattle.ksql_typing.specs.Standing.{Stands, Pair, IsTypedTree}
use Rattle.ksql_typing.proofs.Known.{Known, one-known, two-known, three-known, call-known}
use Rattle.ksql_scopes.proofs.Equations as q
use Rattle.expression_trees.proofs.Folds.{perhaps_folded}
use Rattle.aggregate_rules.specs.Grouping.{aggregates_of}
use Rattle.ksql_analyse.specs.Typable.{IsAggregateNode}
use Rattle.ksql_analyse.proofs.forms.AggregatesIn as within
use Rattle.ksql_analyse.proofs.sound.SoundColumns.{each-append}

module _ (s : Scope) where
  -- an expression whose typed tree is an aggregate, and whose literals keep their limits
  abbrev pub IsFine : Expr → Type 0
  IsFine a = ((x : Typed) × IsTypedTree s a x × IsAggregateNode x.node) × IsSmall a

  abbrev found : Expr → List Expr
  found a = aggregates_of a

  abbrev pub IsSmallPair : Pair → Type 0
  IsSmallPair (st.one a x) = IsSmall a
  IsSmallPair (st.perhaps a x) = is_small_perhaps a ≡ true
  IsSmallPair (st.each es xs) = are_small es ≡ true
  IsSmallPair (st.whens vs xs) = are_whens_small vs ≡ true

  abbrev pub AreFine : Pair → Type 0
  AreFine (st.one a x) = Each IsFine (found a)
  AreFine (st.perhaps a x) = Each IsFine (perhaps (option_map found a))
  AreFine (st.each es xs) = Each IsFine (all_of (map found es))
  AreFine (st.whens vs xs) = Each IsFine (all_of (map (λ v. found v.cond ++ found v.result) vs))

  nothing : (a : Expr) → found a ≡ [] → Each IsFine (found a)
  nothing a is = subst (Each IsFine) (sym is) tt

  alone : (a : Expr) (x : Typed) → found a ≡ a ∷ [] → IsTypedTree s a x → IsAggregateNode x.node → IsSmall a → Each IsFine (found a)
  alone a x is h node k = subst (Each IsFine) (sym is) (((x, h, node), k), tt)

  two : (xs ys : List Expr) → Each IsFine xs → Each IsFine ys → Each IsFine (xs ++ ys)
  two xs ys h k = each-append IsFine xs ys h k

  parts : (a : Expr) (xs : List Expr) → found a ≡ xs → Each IsFine xs → Each IsFine (found a)
  parts a xs is h = subst (Each IsFine) (sym is) h

  pub aggregates-fine : {p : Pair} → Stands s p → Known p → IsSmallPair p → AreFine p
  aggregates-fine (st.digits {number = number}) k r = nothing (e.Digits number) (within.of-Digits number)
  aggregates-fine (st.text {content = c}) k r = nothing (e.Text c) (within.of-Text c)
  aggregates-fine (st.truth {b = b}) k r = nothing (e.Truth b) (within.of-Truth b)
  aggregates-fine st.null k r = nothing e.Null within.of-Null
  aggregates-fine (st.name {q = q} {found = name} m) k r = nothing (e.Name q name) (within.of-Name q name)
  aggregates-fine (st.sign {minus = m} {a = a} i g) k r =
      let b = e.Sign m a in
      parts b (found a) (within.of-Sign m a) (aggregates-fine i (one-known (q.calls-Sign m a) k) (small.small-Sign b r m a refl))
  aggregates-fine (st.binary {o = o} {a = a} {b = a2} i j g) k r =
      let b = e.Binary o a a2 in
      let c = two-known (calls a) (calls a2) (q.calls-Binary o a a2) k in
      let l = small.small-Binary b r o a a2 refl in
      parts b (found a ++ found a2) (within.of-Binary o a a2)
      (two (found a) (found a2) (aggregates-fine i c.0 l.0) (aggregates-fine j c.1 l.1))
  aggregates-fine (st.not {a = a} i g) k r =
      let b = e.Not a in
      parts b (found a) (within.of-Not a) (aggregates-fine i (one-known (q.calls-Not a) k) (small.small-Not b r a refl))
  aggregates-fine (st.is_null {negated = m} {a = a} i) k r =
      let b = e.IsNull m a in
      parts b (found a) (within.of-IsNull m a) (aggregates-fine i (one-known (q.calls-IsNull m a) k) (small.small-IsNull b r m a refl))
  aggregates-fine (st.between {negated = m} {a = a} {low = a2} {high = a3} i j h g) k r =
      let b = e.Between m a a2 a3 in
      let c = three-known (calls a) (calls a2) (calls a3) (q.calls-Between m a a2 a3) k in
      let l = small.small-Between b r m a a2 a3 refl in
      parts b (found a ++ found a2 ++ found a3) (within.of-Between m a a2 a3)
      (two (found a ++ found a2) (found a3) (two (found a) (found a2) (aggregates-fine i c.0 l.0) (aggregates-fine j c.1 l.1)) (aggregates-fine h c.2 l.2))
  aggregates-fine (st.one_of {negated = m} {a = a} {es = es} i j g) k r =
      let b = e.OneOf m a es in
      let c = two-known (calls a) (all_of (map calls es)) (q.calls-OneOf m a es) k in
      let l = small.small-OneOf b r m a es refl in
      parts b (found a ++ all_of (map found es)) (within.of-OneOf m a es)
      (two (found a) (all_of (map found es)) (aggregates-fine i c.0 l.0) (aggregates-fine j c.1 l.1))
  aggregates-fine (st.like {negated = m} {a = a} {pattern = p} i g) k r =
      let b = e.Like m a p in
      parts b (found a) (within.of-Like m a p) (aggregates-fine i (one-known (q.calls-Like m a p) k) (small.small-Like b r m a p refl))
  aggregates-fine (st.cast {a = a} {to = to} i g) k r =
      let b = e.Cast a to in
      parts b (found a) (within.of-Cast a to) (aggregates-fine i (one-known (q.calls-Cast a to) k) (small.small-Cast b r a to refl))
  aggregates-fine (st.case {operand = a} {otherwise = a2} {ws = vs} i j h g) k r =
      let b = e.Case a vs a2 in
      let c = three-known (perhaps (perhaps_folded calls a)) (all_of (map q.calls_when vs)) (perhaps (perhaps_folded calls a2)) (q.calls-Case a vs a2) k in
      let l = small.small-Case b r a vs a2 refl in
      let whens = all_of (map (λ v. found v.cond ++ found v.result) vs) in
      let front = perhaps (option_map found a) in
      let back = perhaps (option_map found a2) in
      parts b (front ++ whens ++ back) (within.of-Case a vs a2)
      (two (front ++ whens) back (two front whens (aggregates-fine i c.0 l.0) (aggregates-fine j c.1 l.1)) (aggregates-fine h c.2 l.2))
  aggregates-fine (st.call {f = name} {args = args} {found = g} is i h) k r =
      let b = e.Call name false args in
      let plain : is_aggregate name ≡ false = ap is_some (no-aggregate name g is) in
      parts b (all_of (map found args)) (within.of-function name false args plain)
      (aggregates-fine i (call-known name false args k).1 (small.small-Call b r name false args refl))
  aggregates-fine (st.count_all {f = name} is) k r =
      alone (e.Call name true []) (of (Some sql.Big) (n.Aggregate CountAll None)) (within.of-aggregate name true [] (ap is_some is)) (st.count_all is, k) (CountAll, None, refl) r
  aggregates-fine (st.aggregate {f = name} {a = a} {found = g} {x = x} {t = t} is i h) k r =
      alone (e.Call name false (a ∷ [])) (of t (n.Aggregate g (Some x))) (within.of-aggregate name false (a ∷ []) (ap is_some is)) (st.aggregate is i h, k) (g, Some x, refl) r
  aggregates-fine (st.unknown {f = name} {star = star} {args = args} g i) k r = absurd (both_ways (is_unknown name) (call-known name star args k).0 g)
  aggregates-fine st.left_out k r = tt
  aggregates-fine (st.there i) k r = aggregates-fine i k r
  aggregates-fine st.none k r = tt
  aggregates-fine (st.more {a = a} {es = es} i j) k r =
      let c = two-known (calls a) (all_of (map calls es)) refl k in
      let l = and_parts (is_small a) (are_small es) r in
      two (found a) (all_of (map found es)) (aggregates-fine i c.0 l.0) (aggregates-fine j c.1 l.1)
  aggregates-fine st.no_when k r = tt
  aggregates-fine (st.more_whens {w = v} {ws = vs} i j h) k r =
      let c = two-known (q.calls_when v) (all_of (map q.calls_when vs)) refl k in
      let c2 = two-known (calls v.cond) (calls v.result) (q.calls-when v) c.0 in
      let l = and_parts (is_small v.cond && is_small v.result) (are_whens_small vs) r in
      let l2 = and_parts (is_small v.cond) (is_small v.result) l.0 in
      two (found v.cond ++ found v.result) (all_of (map (λ u. found u.cond ++ found u.result) vs))
      (two (found v.cond) (found v.result) (aggregates-fine i c2.0 l2.0) (aggregates-fine j c2.1 l2.1)) (aggregates-fine h c.1 l.1)
