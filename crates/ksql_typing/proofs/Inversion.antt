-- What a typed tree of each form has, where its parts have their types; so a form has one type.
use Rattle.std.proofs.Common.{◌≡◌, IsTrue, List, map, Option, Some, refl, ap, ap₂, sym, ◌∙◌, subst}
use Rattle.std.specs.Prelude.{option_map, slice_get}
use Rattle.ksql_types.specs.declared.value.SqlType.{SqlType}
use Rattle.ksql_types.specs.declared.value.SqlType.TheVariants as sql
use Rattle.ksql_expr.specs.declared.typed.Typed.{Typed}
use Rattle.ksql_expr.specs.declared.typed.TypedNode.{TypedNode, out-TypedNode}
use Rattle.ksql_expr.specs.declared.typed.TypedNode.TheVariants.{outs-Literal, outs-Column, outs-RowTime, outs-Sign, outs-Binary, outs-Not, outs-IsNull, outs-Between, outs-OneOf, outs-Like, outs-Cast, outs-Case, outs-Call, outs-Aggregate}
use Rattle.ksql_expr.specs.declared.typed.TypedNode.TheOpen.{TypedNode-F}
use Rattle.ksql_expr.specs.declared.typed.TypedWhen.{TypedWhen}
use Rattle.ksql_expr.specs.Rules.{type_of, fits, binary_type, sign_type, can_cast, fun_type, agg_type, case_type, is_between_typed, is_in_typed, typed}
use Rattle.ksql_expr.specs.Typing as w
use Rattle.ksql_expr.specs.Typing.{HasTypes, one, perhaps, each, whens, of, types, results}

abbrev pub Checks : List (Option SqlType) → Option SqlType → TypedNode-F TypedNode Typed TypedWhen → Type 0
Checks cs t (TypedNode-F.Literal x) = t ≡ type_of x
Checks cs t (TypedNode-F.Column i) = slice_get cs i ≡ Some t
Checks cs t TypedNode-F.RowTime = t ≡ Some sql.Big
Checks cs t (TypedNode-F.Sign minus a) = HasTypes cs (one a) × (typed (sign_type a.ty) ≡ Some t)
Checks cs t (TypedNode-F.Binary o a b) = HasTypes cs (one a) × HasTypes cs (one b) × (typed (binary_type o a.ty b.ty) ≡ Some t)
Checks cs t (TypedNode-F.Not a) = HasTypes cs (one a) × IsTrue (fits sql.Bool a.ty) × (t ≡ Some sql.Bool)
Checks cs t (TypedNode-F.IsNull negated a) = HasTypes cs (one a) × (t ≡ Some sql.Bool)
Checks cs t (TypedNode-F.Between negated a low high) =
    HasTypes cs (one a) × HasTypes cs (one low) × HasTypes cs (one high) × IsTrue (is_between_typed a.ty low.ty high.ty) × (t ≡ Some sql.Bool)
Checks cs t (TypedNode-F.OneOf negated a es) = HasTypes cs (one a) × HasTypes cs (each es) × IsTrue (is_in_typed a.ty (types es)) × (t ≡ Some sql.Bool)
Checks cs t (TypedNode-F.Like negated a pattern) = HasTypes cs (one a) × IsTrue (fits sql.Text a.ty) × (t ≡ Some sql.Bool)
Checks cs t (TypedNode-F.Cast a to) = HasTypes cs (one a) × IsTrue (can_cast a.ty to) × (t ≡ Some to)
Checks cs t (TypedNode-F.Case x ws z) =
    HasTypes cs (perhaps x) × HasTypes cs (whens ws) × HasTypes cs (perhaps z)
    × (case_type (option_map (λ e. e.ty) x) (map (λ w. w.cond.ty) ws) (types (results ws z)) ≡ Some t)
Checks cs t (TypedNode-F.Call f es) = HasTypes cs (each es) × (fun_type f (types es) ≡ Some t)
Checks cs t (TypedNode-F.Aggregate f a) = HasTypes cs (perhaps a) × (agg_type f (option_map (λ e. e.ty) a) ≡ Some t)

pub checks : {cs : List (Option SqlType)} {x : Typed} → HasTypes cs (one x) → Checks cs x.ty (out-TypedNode x.node)
checks {cs} (w.literal {x = x}) = subst (Checks cs (type_of x)) (sym (outs-Literal x)) refl
checks {cs} (w.column {i = i} {t = t} e) = subst (Checks cs t) (sym (outs-Column i)) e
checks {cs} w.row_time = subst (Checks cs (Some sql.Big)) (sym outs-RowTime) refl
checks {cs} (w.sign {minus = minus} {a = a} {t = t} h e) = subst (Checks cs (Some t)) (sym (outs-Sign minus a)) (h, ap typed e)
checks {cs} (w.binary {o = o} {a = a} {b = b} {t = t} h k e) = subst (Checks cs (Some t)) (sym (outs-Binary o a b)) (h, k, ap typed e)
checks {cs} (w.not {a = a} h e) = subst (Checks cs (Some sql.Bool)) (sym (outs-Not a)) (h, e, refl)
checks {cs} (w.is_null {negated = n} {a = a} h) = subst (Checks cs (Some sql.Bool)) (sym (outs-IsNull n a)) (h, refl)
checks {cs} (w.between {negated = n} {a = a} {low = b} {high = c} h k l e) =
    subst (Checks cs (Some sql.Bool)) (sym (outs-Between n a b c)) (h, k, l, e, refl)
checks {cs} (w.one_of {negated = n} {a = a} {es = es} h k e) = subst (Checks cs (Some sql.Bool)) (sym (outs-OneOf n a es)) (h, k, e, refl)
checks {cs} (w.like {negated = n} {a = a} {pattern = p} h e) = subst (Checks cs (Some sql.Bool)) (sym (outs-Like n a p)) (h, e, refl)
checks {cs} (w.cast {a = a} {to = to} h e) = subst (Checks cs (Some to)) (sym (outs-Cast a to)) (h, e, refl)
checks {cs} (w.case {operand = x} {otherwise = z} {ws = ws} {t = t} h k l e) = subst (Checks cs t) (sym (outs-Case x ws z)) (h, k, l, e)
checks {cs} (w.call {f = f} {es = es} {t = t} h e) = subst (Checks cs t) (sym (outs-Call f es)) (h, e)
checks {cs} (w.aggregate {f = f} {a = a} {t = t} h e) = subst (Checks cs t) (sym (outs-Aggregate f a)) (h, e)

-- ---- a form has one type

same-some : {A : Type 0} {o : Option A} {a b : A} → o ≡ Some a → o ≡ Some b → a ≡ b
same-some {A} {o} {a} {b} k l = let e : Some a ≡ Some b = sym k ∙ l in cc

pub one-type : (cs : List (Option SqlType)) (v : TypedNode-F TypedNode Typed TypedWhen) (t u : Option SqlType) → Checks cs t v → Checks cs u v → t ≡ u
one-type cs (TypedNode-F.Literal x) t u k l = k ∙ sym l
one-type cs (TypedNode-F.Column i) t u k l = same-some k l
one-type cs TypedNode-F.RowTime t u k l = k ∙ sym l
one-type cs (TypedNode-F.Sign minus a) t u k l = same-some k.1 l.1
one-type cs (TypedNode-F.Binary o a b) t u k l = same-some k.2 l.2
one-type cs (TypedNode-F.Not a) t u k l = k.2 ∙ sym l.2
one-type cs (TypedNode-F.IsNull negated a) t u k l = k.1 ∙ sym l.1
one-type cs (TypedNode-F.Between negated a low high) t u k l = k.4 ∙ sym l.4
one-type cs (TypedNode-F.OneOf negated a es) t u k l = k.3 ∙ sym l.3
one-type cs (TypedNode-F.Like negated a pattern) t u k l = k.2 ∙ sym l.2
one-type cs (TypedNode-F.Cast a to) t u k l = k.2 ∙ sym l.2
one-type cs (TypedNode-F.Case x ws z) t u k l = same-some k.3 l.3
one-type cs (TypedNode-F.Call f es) t u k l = same-some k.1 l.1
one-type cs (TypedNode-F.Aggregate f a) t u k l = same-some k.1 l.1

-- two trees of one form are equal
pub whole : (cs : List (Option SqlType)) (x y : Typed) → HasTypes cs (w.one x) → HasTypes cs (w.one y) → x.node ≡ y.node → x ≡ y
whole cs x y h k is =
    ap₂ of (one-type cs (out-TypedNode y.node) x.ty y.ty (subst (λ v. Checks cs x.ty (out-TypedNode v)) is (checks h)) (checks k)) is
