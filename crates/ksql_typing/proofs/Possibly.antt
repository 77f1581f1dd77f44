-- The type of an expression's tree is in its set.
use Rattle.std.proofs.Common.{◌≡◌, ℕ, Bool, true, false, not, ◌&&◌, if◌then◌else◌, List, [], ◌∷◌, map, Option, Some, None, is_some, refl, ap, ap₂, ◌∙◌}
use Rattle.std.specs.Prelude.{option_map}
use Rattle.std.specs.List.{list_all}
use Rattle.ksql_types.specs.declared.value.SqlType.{SqlType}
use Rattle.ksql_types.specs.declared.value.SqlType.TheVariants as sql
use Rattle.ksql_expr.specs.Rules.{fits, binary_type, sign_type, can_cast, agg_type, can_be_when, joint_type, are_comparable, is_between_typed, typed}
use Rattle.ksql_type_sets.specs.declared.possible.Types.{Types}
use Rattle.ksql_expr.specs.Typing.{types}
use Rattle.ksql_scopes.specs.declared.scope.Scope.{Scope}
use Rattle.ksql_scopes.specs.Functions.{function_of, aggregate_of}
use Rattle.ksql_typing.specs.Possible.{possible, each_of, perhaps_of, conds_of, results_of, scope_within, name_types}
use Rattle.ksql_type_sets.specs.Sets.{has, where_found, is_same, is_found, some_in, each_in, call_types, joint_types, can_be_whens, with_otherwise_types, is_some_in}
use Rattle.ksql_scopes.specs.Scope.{inside, seen}
use Rattle.ksql_typing.specs.Standing as st
use Rattle.ksql_typing.specs.Standing.{Stands, Pair, one, perhaps, each, whens, digits_type, with_otherwise}
use Rattle.ksql_scopes.proofs.Disjoint.{no-aggregate, unknown-none}
use Rattle.ksql_typing.proofs.Equations as q
use Rattle.expression_trees.proofs.Folds.{perhaps_folded}
use Rattle.ksql_type_sets.proofs.Sets.{AllHave, has-collect, some-from, each-from, found-from, same-self, all-behind, joint-from, fun-from}
use Rattle.std.proofs.lemmas.Bool.{and_from}

abbrev pub PerhapsHas : Option Types → Option (Option SqlType) → Type 0
PerhapsHas None None = Unit {0}
PerhapsHas (Some a) (Some t) = has a t ≡ true
PerhapsHas _ _ = ⊥

abbrev pub Possible : Scope → Pair → Type 0
Possible s (one a x) = has (possible a s) x.ty ≡ true
Possible s (perhaps a x) = PerhapsHas (perhaps_of (perhaps_folded possible a) s) (option_map (λ e. e.ty) x)
Possible s (each es xs) = AllHave (each_of (map possible es) s) (types xs)
Possible s (whens ws ys) =
    AllHave (conds_of (each_of (map q.possible_when ws) s)) (map (λ y. y.cond.ty) ys)
    × AllHave (results_of (each_of (map q.possible_when ws) s)) (map (λ y. y.result.ty) ys)

at : {a b : Types} (t : Option SqlType) → a ≡ b → has b t ≡ true → has a t ≡ true
at t e k = ap (λ z. has z t) e ∙ k

sure : (t : Option SqlType) → has (where_found true t) t ≡ true
sure t = has-collect (λ u. true && is_same t u) t ∙ same-self t

where-true : (b : Bool) (t : Option SqlType) → b ≡ true → has (where_found b t) t ≡ true
where-true b t h = ap (λ v. has (where_found v t) t) h ∙ sure t

case-whens : (x : Option Types) (t : Option (Option SqlType)) (conds : List Types) (ts : List (Option SqlType)) → PerhapsHas x t
    → AllHave conds ts → list_all (can_be_when t) ts ≡ true → can_be_whens x conds ≡ true
case-whens None None conds ts k l m = each-from (can_be_when None) conds ts l m
case-whens None (Some t) conds ts k l m = absurd k
case-whens (Some a) None conds ts k l m = absurd k
case-whens (Some a) (Some t) conds ts k l m =
    some-from a (λ x. each_in (can_be_when (Some x)) conds) t k (each-from (can_be_when (Some t)) conds ts l m)

case-results : (results : List Types) (ts : List (Option SqlType)) (z : Option Types) (t : Option (Option SqlType)) → AllHave results ts
    → PerhapsHas z t → AllHave (with_otherwise_types results z) (with_otherwise ts t)
case-results results ts None None k l = k
case-results results ts None (Some t) k l = absurd l
case-results results ts (Some a) None k l = absurd l
case-results results ts (Some a) (Some t) k l = all-behind results ts a t k l

case-is : (b : Bool) (o : Option (Option SqlType)) (t : Option SqlType) → (if b then o else None) ≡ Some t → (b ≡ true) × (o ≡ Some t)
case-is true o t h = (refl, h)
case-is false o t h = absurd (cc (h))

all-some : (sets : List Types) (ts : List (Option SqlType)) → AllHave sets ts → list_all is_some_in sets ≡ true
all-some [] [] k = refl
all-some [] (t ∷ ts) k = absurd k
all-some (a ∷ sets) [] k = absurd k
all-some (a ∷ sets) (t ∷ ts) k = and_from (is_some_in a) (list_all is_some_in sets) (some-from a (λ u. true) t k.0 refl) (all-some sets ts k.1)

-- a call whose function isn't an aggregate, or is one
plain : (f : List ℕ) (s : Scope) → aggregate_of f ≡ None → scope_within f s ≡ s
plain f s h = ap (λ o. seen (not (is_some o) && s.windowed) s) h

pub possibly : {s : Scope} {p : Pair} → Stands s p → Possible s p
possibly {s} (st.digits {number = n}) = at (Some (digits_type n)) (q.possible-Digits n s) (sure (Some (digits_type n)))
possibly {s} (st.text {content = c}) = at (Some sql.Text) (q.possible-Text c s) (sure (Some sql.Text))
possibly {s} (st.truth {b = b}) = at (Some sql.Bool) (q.possible-Truth b s) (sure (Some sql.Bool))
possibly {s} st.null = at None (q.possible-Null s) (sure None)
possibly {s} (st.name {q = qualifier} {found = found} {t = t} m) =
    at (Some t) (q.possible-Name qualifier found s ∙ ap name_types m) (sure (Some t))
possibly {s} (st.sign {minus = minus} {a = a} {x = x} {t = t} k e) =
    at (Some t) (q.possible-Sign minus a s)
    (has-collect (λ u. some_in (possible a s) (λ y. is_found (typed (sign_type y)) u)) (Some t)
    ∙ some-from (possible a s) (λ y. is_found (typed (sign_type y)) (Some t)) x.ty (possibly k) (found-from (typed (sign_type x.ty)) (Some t) (ap typed e)))
possibly {s} (st.binary {o = o} {a = a} {b = b} {x = x} {y = y} {t = t} k l e) =
    at (Some t) (q.possible-Binary o a b s)
    (has-collect (λ u. some_in (possible a s) (λ v. some_in (possible b s) (λ w. is_found (typed (binary_type o v w)) u))) (Some t)
    ∙ some-from (possible a s) (λ v. some_in (possible b s) (λ w. is_found (typed (binary_type o v w)) (Some t))) x.ty (possibly k)
    (some-from (possible b s) (λ w. is_found (typed (binary_type o x.ty w)) (Some t)) y.ty (possibly l)
    (found-from (typed (binary_type o x.ty y.ty)) (Some t) (ap typed e))))
possibly {s} (st.not {a = a} {x = x} k e) =
    at (Some sql.Bool) (q.possible-Not a s)
    (where-true (some_in (possible a s) (fits sql.Bool)) (Some sql.Bool) (some-from (possible a s) (fits sql.Bool) x.ty (possibly k) e))
possibly {s} (st.is_null {negated = n} {a = a} {x = x} k) =
    at (Some sql.Bool) (q.possible-IsNull n a s)
    (where-true (is_some_in (possible a s)) (Some sql.Bool) (some-from (possible a s) (λ u. true) x.ty (possibly k) refl))
possibly {s} (st.between {negated = n} {a = a} {low = b} {high = c} {x = x} {y = y} {z = z} k l m e) =
    at (Some sql.Bool) (q.possible-Between n a b c s)
    (where-true (some_in (possible a s) (λ u. some_in (possible b s) (λ v. some_in (possible c s) (λ w. is_between_typed u v w)))) (Some sql.Bool)
    (some-from (possible a s) (λ u. some_in (possible b s) (λ v. some_in (possible c s) (λ w. is_between_typed u v w))) x.ty (possibly k)
    (some-from (possible b s) (λ v. some_in (possible c s) (λ w. is_between_typed x.ty v w)) y.ty (possibly l)
    (some-from (possible c s) (λ w. is_between_typed x.ty y.ty w) z.ty (possibly m) e))))
possibly {s} (st.one_of {negated = n} {a = a} {es = es} {x = x} {xs = xs} k l e) =
    at (Some sql.Bool) (q.possible-OneOf n a es s)
    (where-true (some_in (possible a s) (λ u. each_in (are_comparable u) (each_of (map possible es) s))) (Some sql.Bool)
    (some-from (possible a s) (λ u. each_in (are_comparable u) (each_of (map possible es) s)) x.ty (possibly k)
    (each-from (are_comparable x.ty) (each_of (map possible es) s) (types xs) (possibly l) e)))
possibly {s} (st.like {negated = n} {a = a} {pattern = p} {x = x} k e) =
    at (Some sql.Bool) (q.possible-Like n a p s)
    (where-true (some_in (possible a s) (fits sql.Text)) (Some sql.Bool) (some-from (possible a s) (fits sql.Text) x.ty (possibly k) e))
possibly {s} (st.cast {a = a} {to = to} {x = x} k e) =
    at (Some to) (q.possible-Cast a to s)
    (where-true (some_in (possible a s) (λ u. can_cast u to)) (Some to) (some-from (possible a s) (λ u. can_cast u to) x.ty (possibly k) e))
possibly {s} (st.case {operand = a} {otherwise = b} {ws = ws} {x = x} {z = z} {ys = ys} {t = t} k l m e) =
    let r = possibly l in
    let u = option_map (λ v. v.ty) x in
    let v = option_map (λ v. v.ty) z in
    let conds = map (λ y. y.cond.ty) ys in
    let results = map (λ y. y.result.ty) ys in
    let c = case-is (list_all (can_be_when u) conds) (joint_type (with_otherwise results v)) t e in
    let xs = perhaps_of (perhaps_folded possible a) s in
    let zs = perhaps_of (perhaps_folded possible b) s in
    let cs = conds_of (each_of (map q.possible_when ws) s) in
    let rs = with_otherwise_types (results_of (each_of (map q.possible_when ws) s)) zs in
    at t (q.possible-Case a ws b s)
    (has-collect (λ w. can_be_whens xs cs && has (joint_types rs) w) t
    ∙ and_from (can_be_whens xs cs) (has (joint_types rs) t) (case-whens xs u cs conds (possibly k) r.0 c.0)
    (joint-from rs (with_otherwise results v) t (case-results (results_of (each_of (map q.possible_when ws) s)) results zs v r.1 (possibly m)) c.1))
possibly {s} (st.call {f = f} {args = es} {found = found} {xs = xs} {t = t} g k e) =
    let none = no-aggregate f found g in
    at t (q.possible-Call f false es s ∙ ap₂ (λ o p. call_types o p false (each_of (map possible es) (scope_within f s))) none g
    ∙ ap (λ z. call_types None (Some found) false (each_of (map possible es) z)) (plain f s none))
    (fun-from found (each_of (map possible es) s) (types xs) t (possibly k) e)
possibly {s} (st.count_all {f = f} g) =
    at (Some sql.Big) (q.possible-Call f true [] s ∙ ap (λ o. call_types o (function_of f) true []) g) (sure (Some sql.Big))
possibly {s} (st.aggregate {f = f} {a = a} {found = found} {x = x} {t = t} g k e) =
    at t (q.possible-Call f false (a ∷ []) s ∙ ap (λ o. call_types o (function_of f) false (possible a (scope_within f s) ∷ [])) g
    ∙ ap (λ z. call_types (Some found) (function_of f) false (possible a z ∷ [])) (ap (λ o. seen (not (is_some o) && s.windowed) s) g))
    (has-collect (λ u. some_in (possible a (inside s)) (λ y. is_found (agg_type found (Some y)) u)) t
    ∙ some-from (possible a (inside s)) (λ y. is_found (agg_type found (Some y)) t) x.ty (possibly k) (found-from (agg_type found (Some x.ty)) t e))
possibly {s} (st.unknown {f = f} {star = star} {args = es} {xs = xs} {t = t} g k) =
    let none = unknown-none f g in
    at t (q.possible-Call f star es s ∙ ap₂ (λ o p. call_types o p star (each_of (map possible es) (scope_within f s))) none.1 none.0
    ∙ ap (λ z. call_types None None star (each_of (map possible es) z)) (plain f s none.1))
    (has-collect (λ u. list_all is_some_in (each_of (map possible es) s)) t ∙ all-some (each_of (map possible es) s) (types xs) (possibly k))
possibly {s} st.left_out = tt
possibly {s} (st.there k) = possibly k
possibly {s} st.none = tt
possibly {s} (st.more k l) = (possibly k, possibly l)
possibly {s} st.no_when = (tt, tt)
possibly {s} (st.more_whens {w = w} {y = y} k l m) =
    let r = possibly m in
    ((ap (λ p. has p.0 y.cond.ty) (q.possible-when w s) ∙ possibly k, r.0), (ap (λ p. has p.1 y.result.ty) (q.possible-when w s) ∙ possibly l, r.1))
