-- ROWTIME can be named over a stream alone: the typed trees of other scopes hold no row's time.
use Rattle.std.proofs.Common.{◌≡◌, ℕ, ◌+◌, Bool, true, false, ◌||◌, if◌then◌else◌, List, [], map, length, Option, Some, None, refl, ap, ap₂, sym, ◌∙◌, inl, inr}
use Rattle.std.specs.Prelude.{◌≢◌}
use Rattle.std.proofs.lemmas.Bool.{both_ways}
use Rattle.ksql_types.specs.declared.relation.Kind.{Kind}
use Rattle.ksql_types.specs.declared.relation.Kind.TheVariants as kind
use Rattle.ksql_types.specs.declared.value.SqlType.{SqlType}
use Rattle.ksql_types.specs.declared.value.SqlType.TheVariants as sql
use Rattle.ksql_types.specs.declared.value.Value.TheVariants as value
use Rattle.expression_trees.specs.declared.tree.Expr.{Expr}
use Rattle.ksql_expr.specs.declared.typed.AggFun.TheVariants.{CountAll}
use Rattle.ksql_expr.specs.declared.typed.Typed.{Typed}
use Rattle.ksql_expr.specs.declared.typed.TypedNode.{TypedNode}
use Rattle.ksql_expr.specs.Aggregates.{holds, is_row_time, holds_row_time, IsTimeless}
use Rattle.ksql_expr.specs.Typing.{of}
use Rattle.ksql_scopes.specs.declared.scope.Scope.{Scope}
use Rattle.ksql_scopes.specs.Functions.{is_unknown}
use Rattle.ksql_scopes.specs.Scope.{row_time}
use Rattle.ksql_scopes.specs.Uses.{calls, all_of}
use Rattle.ksql_scopes.specs.Uses as uses
use Rattle.ksql_scopes.proofs.Equations as q
use Rattle.ksql_typing.specs.Standing as st
use Rattle.ksql_typing.specs.Standing.{Pair, Stands, IsTypedTree, digits_type, digits_value, one, perhaps, each, whens}
use Rattle.ksql_typing.proofs.Known.{Known, one-known, two-known, three-known, call-known}
use Rattle.expression_trees.proofs.Folds.{perhaps_folded}
use Rattle.ksql_analyse.proofs.forms.Holding as hold
use Rattle.ksql_analyse.proofs.forms.Holding.{each_holds, whens_hold, part_holds}
use Rattle.ksql_analyse.proofs.forms.Meant.{IsMeant, meant}

-- ---- scopes

-- names in a scope are over rows of a relation of this kind: ROWTIME is one over a stream alone
abbrev pub IsScopeOver : Kind → Scope → Type 0
IsScopeOver over s = over ≢ kind.Stream → s.stream ≡ false

-- this holds if the kind is that of what is read
pub scope-over : (s : Scope) (over : Kind) → (if s.stream then kind.Stream else kind.Table) ≡ over → IsScopeOver over s
scope-over s over = at s.stream
  where
    at : (b : Bool) → (if b then kind.Stream else kind.Table) ≡ over → over ≢ kind.Stream → b ≡ false
    at true k other = absurd (other (sym k))
    at false k other = refl

-- ---- trees

-- the tree of a part doesn't contain ROWTIME
abbrev IsTimelessPart : Pair → Type 0
IsTimelessPart (one a x) = holds is_row_time x ≡ false
IsTimelessPart (perhaps a x) = part_holds is_row_time x ≡ false
IsTimelessPart (each es xs) = each_holds is_row_time xs ≡ false
IsTimelessPart (whens ws ys) = whens_hold is_row_time ys ≡ false

neither : {x y : Bool} → x ≡ false → y ≡ false → (x || y) ≡ false
neither k l = ap₂ (λ a b. a || b) k l

name-timeless : (s : Scope) (qualifier : Option (List ℕ)) (found : List ℕ) (form : TypedNode) (meaning : SqlType) (t : Option SqlType) → s.stream ≡ false
    → IsMeant s qualifier found form meaning → holds is_row_time (of t form) ≡ false
name-timeless s qualifier found form meaning t h (inl k) =
    ap (λ z. holds is_row_time (of t z)) k.is ∙ hold.holds-Column is_row_time t k.index
name-timeless s qualifier found form meaning t h (inr (inl k)) =
    let away : row_time s qualifier found ≡ [] = ap (λ b. row_time (record s { stream = b }) qualifier found) h in
    absurd (cc (sym away ∙ k.alone))
name-timeless s qualifier found form meaning t h (inr (inr k)) =
    ap (λ z. holds is_row_time (of t z)) k.is ∙ hold.holds-Column is_row_time t (length s.columns + k.behind)

part-timeless : {s : Scope} {p : Pair} → Stands s p → Known p → s.stream ≡ false → IsTimelessPart p
part-timeless (st.digits {number = number}) u h = hold.holds-Literal is_row_time (Some (digits_type number)) (digits_value number)
part-timeless (st.text {content = content}) u h = hold.holds-Literal is_row_time (Some sql.Text) (value.Txt content)
part-timeless (st.truth {b = b}) u h = hold.holds-Literal is_row_time (Some sql.Bool) (value.Bool b)
part-timeless st.null u h = hold.holds-Literal is_row_time None value.Null
part-timeless {s} (st.name {q = qualifier} {found = found} {form = form} {t = t} k) u h =
    name-timeless s qualifier found form t (Some t) h (meant s qualifier found form t k)
part-timeless (st.sign {minus = m} {a = a} {x = x} {t = t} k r) u h =
    hold.holds-Sign is_row_time (Some t) m x ∙ part-timeless k (one-known (q.calls-Sign m a) u) h
part-timeless (st.binary {o = o} {a = a} {b = b} {x = x} {y = y} {t = t} k l r) u h =
    let known = two-known (calls a) (calls b) (q.calls-Binary o a b) u in
    hold.holds-Binary is_row_time (Some t) o x y ∙ neither (part-timeless k known.0 h) (part-timeless l known.1 h)
part-timeless (st.not {a = a} {x = x} k r) u h = hold.holds-Not is_row_time (Some sql.Bool) x ∙ part-timeless k (one-known (q.calls-Not a) u) h
part-timeless (st.is_null {negated = m} {a = a} {x = x} k) u h =
    hold.holds-IsNull is_row_time (Some sql.Bool) m x ∙ part-timeless k (one-known (q.calls-IsNull m a) u) h
part-timeless (st.between {negated = m} {a = a} {low = b} {high = c} {x = x} {y = y} {z = z} k l j r) u h =
    let known = three-known (calls a) (calls b) (calls c) (q.calls-Between m a b c) u in
    hold.holds-Between is_row_time (Some sql.Bool) m x y z
    ∙ neither (neither (part-timeless k known.0 h) (part-timeless l known.1 h)) (part-timeless j known.2 h)
part-timeless (st.one_of {negated = m} {a = a} {es = es} {x = x} {xs = xs} k l r) u h =
    let known = two-known (calls a) (all_of (map calls es)) (q.calls-OneOf m a es) u in
    hold.holds-OneOf is_row_time (Some sql.Bool) m x xs ∙ neither (part-timeless k known.0 h) (part-timeless l known.1 h)
part-timeless (st.like {negated = m} {a = a} {pattern = pattern} {x = x} k r) u h =
    hold.holds-Like is_row_time (Some sql.Bool) m x pattern ∙ part-timeless k (one-known (q.calls-Like m a pattern) u) h
part-timeless (st.cast {a = a} {to = to} {x = x} k r) u h = hold.holds-Cast is_row_time (Some to) x to ∙ part-timeless k (one-known (q.calls-Cast a to) u) h
part-timeless (st.case {operand = a} {otherwise = b} {ws = ws} {x = x} {z = z} {ys = ys} {t = t} k l j r) u h =
    let known = three-known (uses.perhaps (perhaps_folded calls a)) (all_of (map q.calls_when ws)) (uses.perhaps (perhaps_folded calls b)) (q.calls-Case a ws b) u in
    hold.holds-Case is_row_time t x ys z ∙ neither (neither (part-timeless k known.0 h) (part-timeless l known.1 h)) (part-timeless j known.2 h)
part-timeless (st.call {f = f} {args = es} {found = found} {xs = xs} {t = t} g k r) u h =
    hold.holds-Call is_row_time t found xs ∙ part-timeless k (call-known f false es u).1 h
part-timeless (st.count_all g) u h = hold.holds-CountAll is_row_time (Some sql.Big) CountAll
part-timeless (st.aggregate {found = found} {x = x} {t = t} g k r) u h = hold.holds-Aggregate is_row_time t found x
part-timeless (st.unknown {f = f} {star = star} {args = es} g k) u h = absurd (both_ways (is_unknown f) (call-known f star es u).0 g)
part-timeless st.left_out u h = refl
part-timeless (st.there k) u h = part-timeless k u h
part-timeless st.none u h = refl
part-timeless (st.more {a = a} {es = es} k l) u h =
    let known = two-known (calls a) (all_of (map calls es)) refl u in
    neither (part-timeless k known.0 h) (part-timeless l known.1 h)
part-timeless st.no_when u h = refl
part-timeless (st.more_whens {w = v} {ws = ws} {y = y} k l j) u h =
    let known = two-known (q.calls_when v) (all_of (map q.calls_when ws)) refl u in
    let own = two-known (calls v.cond) (calls v.result) (q.calls-when v) known.0 in
    neither (hold.holds-when is_row_time y ∙ neither (part-timeless k own.0 h) (part-timeless l own.1 h)) (part-timeless j known.1 h)

-- a tree in a scope contains ROWTIME only over a stream
pub time-over : (over : Kind) (s : Scope) (a : Expr) (x : Typed) → IsScopeOver over s → IsTypedTree s a x → over ≢ kind.Stream → IsTimeless x
unfolding holds_row_time
time-over over s a x scope k other = part-timeless k.0 k.1 (scope other)
