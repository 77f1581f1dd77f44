-- What a name stands for has its type on a row of the scope.
use Rattle.std.proofs.Common.{◌≡◌, ℕ, suc, ◌+◌, Bool, true, false, ◌&&◌, if◌then◌else◌, List, [], ◌∷◌, ◌++◌, map, length, Option, Some, None, refl, ap, sym, ◌∙◌, subst}
use Rattle.std.proofs.Math.Numerals.{suc-eq-add-one}
use Rattle.std.specs.Prelude.{slice_get, codes, bytes_eq}
use Rattle.ksql_types.specs.declared.value.SqlType.{SqlType}
use Rattle.ksql_types.specs.declared.value.SqlType.TheVariants as sql
use Rattle.ksql_expr.specs.declared.typed.TypedNode.{TypedNode}
use Rattle.ksql_expr.specs.declared.typed.TypedNode.TheVariants as node
use Rattle.ksql_expr.specs.Typing as w
use Rattle.ksql_expr.specs.Typing.{HasTypes, of}
use Rattle.ksql_scopes.specs.declared.scope.Scope.{Scope}
use Rattle.ksql_scopes.specs.declared.scope.ScopeColumn.{ScopeColumn}
use Rattle.ksql_scopes.specs.Scope.{Meaning, is_known_as, is_qualified, columns_known_as, first_alias, row_time, window_bounds, meanings, inside, column_types}
use Rattle.ksql_typing.proofs.Making.{AreMeaningsTyped}

abbrev AreTyped : List (Option SqlType) → List Meaning → Type 0
AreTyped cs [] = Unit {0}
AreTyped cs (m ∷ ms) = HasTypes cs (w.one (of (Some m.1) m.0)) × AreTyped cs ms

typed-both : (cs : List (Option SqlType)) (ms os : List Meaning) → AreTyped cs ms → AreTyped cs os → AreTyped cs (ms ++ os)
typed-both cs [] os k l = l
typed-both cs (m ∷ ms) os k l = (k.0, typed-both cs ms os k.1 l)

typed-where : (cs : List (Option SqlType)) (b : Bool) (ms os : List Meaning) → AreTyped cs ms → AreTyped cs os → AreTyped cs (if b then ms else os)
typed-where cs true ms os k l = k
typed-where cs false ms os k l = l

-- columns whose types are in a row from an index on
abbrev StandFrom : List (Option SqlType) → ℕ → List ScopeColumn → Type 0
StandFrom cs i [] = Unit {0}
StandFrom cs i (p ∷ ps) = (slice_get cs i ≡ Some (Some p.column.ty)) × StandFrom cs (suc i) ps

typed-columns : (cs : List (Option SqlType)) (q : Option (List ℕ)) (name : List ℕ) (i : ℕ) (ps : List ScopeColumn) → StandFrom cs i ps
    → AreTyped cs (columns_known_as q name i ps)
typed-columns cs q name i [] k = tt
typed-columns cs q name i (p ∷ ps) k =
    let rest = columns_known_as q name (suc i) ps in
    let r = typed-columns cs q name (suc i) ps k.1 in
    typed-where cs (is_known_as q name p) ((node.Column i, p.column.ty) ∷ rest) rest (w.column k.0, r) r

abbrev front : List ScopeColumn → List (Option SqlType)
front ps = map (λ c. Some c.column.ty) ps

at-end : {A : Type 0} (xs : List A) (y : A) (ys : List A) → slice_get (xs ++ y ∷ ys) (length xs) ≡ Some y
at-end [] y ys = refl
at-end (x ∷ xs) y ys = at-end xs y ys

one-behind : {A : Type 0} (xs : List A) (y : A) (ys : List A) → xs ++ y ∷ ys ≡ (xs ++ y ∷ []) ++ ys
one-behind [] y ys = refl
one-behind (x ∷ xs) y ys = ap (λ l. x ∷ l) (one-behind xs y ys)

length-behind : {A : Type 0} (xs : List A) (y : A) → length (xs ++ y ∷ []) ≡ suc (length xs)
length-behind [] y = refl
length-behind (x ∷ xs) y = ap suc (length-behind xs y)

stand : (before : List (Option SqlType)) (ps : List ScopeColumn) (rest : List (Option SqlType)) → StandFrom (before ++ (front ps ++ rest)) (length before) ps
stand before [] rest = tt
stand before (p ∷ ps) rest =
    let t = Some p.column.ty in (
      at-end before t (front ps ++ rest),
      subst (λ cs. StandFrom cs (suc (length before)) ps) (sym (one-behind before t (front ps ++ rest)))
          (subst (λ n. StandFrom ((before ++ t ∷ []) ++ (front ps ++ rest)) n ps) (length-behind before t) (stand (before ++ t ∷ []) ps rest)),
    )

length-front : (ps : List ScopeColumn) → length (front ps) ≡ length ps
length-front [] = refl
length-front (p ∷ ps) = ap suc (length-front ps)

abbrev bounds : (ps : List ScopeColumn) (windowed : Bool) → List (Option SqlType)
bounds ps windowed = if windowed then Some sql.Big ∷ Some sql.Big ∷ [] else []

start-at : (ps : List ScopeColumn) → slice_get (front ps ++ (Some sql.Big ∷ Some sql.Big ∷ [])) (length ps) ≡ Some (Some sql.Big)
start-at ps = ap (slice_get (front ps ++ (Some sql.Big ∷ Some sql.Big ∷ []))) (sym (length-front ps)) ∙ at-end (front ps) (Some sql.Big) (Some sql.Big ∷ [])

end-at : (ps : List ScopeColumn) → slice_get (front ps ++ (Some sql.Big ∷ Some sql.Big ∷ [])) (length ps + 1) ≡ Some (Some sql.Big)
end-at ps =
    let big = Some sql.Big in
    let place : length ps + 1 ≡ length (front ps ++ big ∷ []) =
    sym (length-behind (front ps) big ∙ ap suc (length-front ps) ∙ suc-eq-add-one (length ps)) in
    ap (slice_get (front ps ++ (big ∷ big ∷ []))) place ∙ ap (λ l. slice_get l (length (front ps ++ big ∷ []))) (one-behind (front ps) big (big ∷ []))
    ∙ at-end (front ps ++ big ∷ []) big []

typed-bounds : (s : Scope) (b : Bool) → s.windowed ≡ b → (q : Option (List ℕ)) (name : List ℕ) → AreTyped (column_types s) (window_bounds s q name)
typed-bounds s b k (Some q) name = tt
typed-bounds s true k None name =
    let cs = column_types s in
    let is : cs ≡ front s.columns ++ (Some sql.Big ∷ Some sql.Big ∷ []) = ap (λ b. front s.columns ++ (if b then Some sql.Big ∷ Some sql.Big ∷ [] else [])) k in
    typed-where cs (s.windowed && bytes_eq name (codes "WINDOWSTART")) ((node.Column (length s.columns), sql.Big) ∷ []) _
    (w.column (ap (λ l. slice_get l (length s.columns)) is ∙ start-at s.columns), tt)
    (typed-where cs (s.windowed && bytes_eq name (codes "WINDOWEND")) ((node.Column (length s.columns + 1), sql.Big) ∷ []) []
    (w.column (ap (λ l. slice_get l (length s.columns + 1)) is ∙ end-at s.columns), tt) tt)
typed-bounds s false k None name =
    subst (λ b. AreTyped (column_types s) (if b && bytes_eq name (codes "WINDOWSTART") then (node.Column (length s.columns), sql.Big) ∷ []
    else if b && bytes_eq name (codes "WINDOWEND") then (node.Column (length s.columns + 1), sql.Big) ∷ [] else [])) (sym k) tt

typed-time : (cs : List (Option SqlType)) (s : Scope) (q : Option (List ℕ)) (name : List ℕ) → AreTyped cs (row_time s q name)
typed-time cs s q name =
    typed-where cs (s.stream && bytes_eq name (codes "ROWTIME") && is_qualified q (first_alias s.columns)) ((node.RowTime, sql.Big) ∷ []) [] (w.row_time, tt) tt

alone : (cs : List (Option SqlType)) (ms : List Meaning) (form : TypedNode) (t : SqlType) → AreTyped cs ms → ms ≡ (form, t) ∷ [] → HasTypes cs (w.one (of (Some t) form))
alone cs ms form t k l = (subst (AreTyped cs) l k).0

pub typed-meanings : (s : Scope) → AreMeaningsTyped (column_types s) s
unfolding meanings
typed-meanings s q name form t l =
    let cs = column_types s in
    alone cs (meanings s q name) form t
    (typed-both cs (columns_known_as q name 0 s.columns ++ row_time s q name) (window_bounds s q name)
    (typed-both cs (columns_known_as q name 0 s.columns) (row_time s q name)
    (typed-columns cs q name 0 s.columns (stand [] s.columns (bounds s.columns s.windowed))) (typed-time cs s q name))
    (typed-bounds s s.windowed refl q name)) l

no-bounds : (s : Scope) (q : Option (List ℕ)) (name : List ℕ) → window_bounds (inside s) q name ≡ []
no-bounds s None name = refl
no-bounds s (Some q) name = refl

pub typed-meanings-inside : (s : Scope) → AreMeaningsTyped (column_types s) (inside s)
unfolding meanings
typed-meanings-inside s q name form t l =
    let cs = column_types s in
    alone cs (meanings (inside s) q name) form t
    (typed-both cs (columns_known_as q name 0 s.columns ++ row_time s q name) (window_bounds (inside s) q name)
    (typed-both cs (columns_known_as q name 0 s.columns) (row_time s q name)
    (typed-columns cs q name 0 s.columns (stand [] s.columns (bounds s.columns s.windowed))) (typed-time cs s q name))
    (subst (AreTyped cs) (sym (no-bounds s q name)) tt)) l
