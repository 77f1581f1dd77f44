-- What a name stands for, if it stands for one thing: a column of that name, ROWTIME, or a bound of a window.
use Rattle.std.proofs.Common.{◌≡◌, ℕ, suc, zero, ◌+◌, ◌<◌, arith, Bool, true, false, ◌&&◌, if◌then◌else◌, List, [], ◌∷◌, ◌++◌, length, Option, Some, None, refl, ap, ap₂, sym, ◌∙◌, subst, inl, inr}
use Rattle.std.proofs.lemmas.Option.{same_Some}
use Rattle.std.specs.Prelude.{◌⊎◌, slice_get, codes, bytes_eq}
use Rattle.ksql_types.specs.declared.value.SqlType.{SqlType}
use Rattle.ksql_types.specs.declared.value.SqlType.TheVariants as sql
use Rattle.ksql_expr.specs.declared.typed.TypedNode.{TypedNode, out-TypedNode}
use Rattle.ksql_expr.specs.declared.typed.TypedNode.TheVariants as n
use Rattle.ksql_expr.specs.declared.typed.TypedNode.TheOpen.{TypedNode-F}
use Rattle.ksql_expr.specs.declared.typed.Typed.{Typed}
use Rattle.ksql_expr.specs.declared.typed.TypedWhen.{TypedWhen}
use Rattle.ksql_scopes.specs.declared.scope.Scope.{Scope}
use Rattle.ksql_scopes.specs.declared.scope.ScopeColumn.{ScopeColumn}
use Rattle.ksql_scopes.specs.Scope.{Meaning, is_known_as, columns_known_as, row_time, window_bounds, meanings}

-- ---- columns by their indices

index_in : TypedNode-F TypedNode Typed TypedWhen → ℕ
index_in (TypedNode-F.Column i) = i
index_in form = 0

pub same-column : (i j : ℕ) → n.Column i ≡ n.Column j → i ≡ j
unfolding index_in
same-column i j h = ap index_in (sym (n.outs-Column i) ∙ ap out-TypedNode h ∙ n.outs-Column j)

-- ---- one of some meanings

abbrev pub IsIn : Meaning → List Meaning → Type 0
IsIn m [] = ⊥
IsIn m (o ∷ os) = (m ≡ o) ⊎ IsIn m os

in-front : (m : Meaning) (ms os : List Meaning) → IsIn m ms → IsIn m (ms ++ os)
in-front m [] os h = absurd h
in-front m (x ∷ ms) os (inl h) = inl h
in-front m (x ∷ ms) os (inr h) = inr (in-front m ms os h)

in-one : (m o : Meaning) → IsIn m (o ∷ []) → m ≡ o
in-one m o (inl h) = h
in-one m o (inr h) = absurd h

in-where : (m o : Meaning) (b : Bool) (os : List Meaning) → IsIn m os → IsIn m (if b then o ∷ os else os)
in-where m o true os h = inr h
in-where m o false os h = h

-- a known column is among the meanings
known-in : (q : Option (List ℕ)) (name : List ℕ) (c : ScopeColumn) → is_known_as q name c ≡ true → (i j k : ℕ) → k ≡ i + j → (cs : List ScopeColumn)
    → slice_get cs j ≡ Some c → IsIn (n.Column k, c.column.ty) (columns_known_as q name i cs)
known-in q name c h i j k at [] e = absurd (cc (e))
known-in q name c h i zero k at (d ∷ cs) e =
    let same : d ≡ c = same_Some d c e in
    let k_is : k ≡ i = omega arith in
    subst (λ b. IsIn (n.Column k, c.column.ty) (if b then (n.Column i, d.column.ty) ∷ columns_known_as q name (suc i) cs else columns_known_as q name (suc i) cs))
    (sym (ap (is_known_as q name) same ∙ h)) (inl (ap₂ (λ x y. (n.Column x, y)) k_is (ap (λ x. x.column.ty) (sym same))))
known-in q name c h i (suc j) k at (d ∷ cs) e =
    in-where (n.Column k, c.column.ty) (n.Column i, d.column.ty) (is_known_as q name d) (columns_known_as q name (suc i) cs)
    (known-in q name c h (suc i) j k (omega arith) cs e)

pub meant-known : (s : Scope) (q : Option (List ℕ)) (name : List ℕ) (form : TypedNode) (t : SqlType) → meanings s q name ≡ (form, t) ∷ []
    → (j : ℕ) (c : ScopeColumn) → slice_get s.columns j ≡ Some c → is_known_as q name c ≡ true → (form ≡ n.Column j) × (t ≡ c.column.ty)
unfolding meanings
meant-known s q name form t h j c at known =
    let m : Meaning = (n.Column j, c.column.ty) in
    let here : IsIn m (columns_known_as q name 0 s.columns) = known-in q name c known 0 j j (omega arith) s.columns at in
    let e : m ≡ (form, t) = in-one m (form, t) (subst (IsIn m) h
    (in-front m (columns_known_as q name 0 s.columns ++ row_time s q name) (window_bounds s q name)
    (in-front m (columns_known_as q name 0 s.columns) (row_time s q name) here))) in
    (sym (ap (λ x. x.0) e), sym (ap (λ x. x.1) e))

-- ---- what it is

-- a column that is known by the name
pub record IsColumn (s : Scope) (q : Option (List ℕ)) (name : List ℕ) (form : TypedNode) (t : SqlType) : Type 0 where
  pub index : ℕ
  pub found : ScopeColumn
  pub is : form ≡ n.Column index
  pub at : slice_get s.columns index ≡ Some found
  pub known : is_known_as q name found ≡ true
  pub typed : t ≡ found.column.ty

-- the time of a row, if the name stands for no column
pub record IsTime (s : Scope) (q : Option (List ℕ)) (name : List ℕ) (form : TypedNode) (t : SqlType) : Type 0 where
  pub is : form ≡ n.RowTime
  pub typed : t ≡ sql.Big
  pub alone : row_time s q name ≡ (form, t) ∷ []
  pub none : columns_known_as q name 0 s.columns ≡ []

-- a bound of a window, after the columns
pub record IsBound (s : Scope) (q : Option (List ℕ)) (name : List ℕ) (form : TypedNode) (t : SqlType) : Type 0 where
  pub behind : ℕ
  pub two : behind < 2
  pub is : form ≡ n.Column (length s.columns + behind)
  pub typed : t ≡ sql.Big
  pub windowed : s.windowed ≡ true
  pub alone : window_bounds s q name ≡ (form, t) ∷ []

abbrev pub IsMeant : Scope → Option (List ℕ) → List ℕ → TypedNode → SqlType → Type 0
IsMeant s q name form t = IsColumn s q name form t ⊎ IsTime s q name form t ⊎ IsBound s q name form t

-- the columns among the meanings are known
abbrev IsOfColumn : Option (List ℕ) → List ℕ → ℕ → List ScopeColumn → Meaning → Type 0
IsOfColumn q name i cs m = (j : ℕ) × (c : ScopeColumn) × (m.0 ≡ n.Column (i + j)) × (slice_get cs j ≡ Some c) × (is_known_as q name c ≡ true) × (m.1 ≡ c.column.ty)

first-is : {A : Type 0} (x y : A) (xs ys : List A) → x ∷ xs ≡ y ∷ ys → x ≡ y
first-is x y xs ys h = cc (h)

here-or-behind : (q : Option (List ℕ)) (name : List ℕ) (i : ℕ) (c : ScopeColumn) (cs : List ScopeColumn) (m : Meaning) (ms : List Meaning) (b : Bool)
    → is_known_as q name c ≡ b → (columns_known_as q name (suc i) cs ≡ m ∷ ms → IsOfColumn q name (suc i) cs m)
    → (if b then (n.Column i, c.column.ty) ∷ columns_known_as q name (suc i) cs else columns_known_as q name (suc i) cs) ≡ m ∷ ms
    → IsOfColumn q name i (c ∷ cs) m
here-or-behind q name i c cs m ms true k rest h =
    let e : (n.Column i, c.column.ty) ≡ m = first-is (n.Column i, c.column.ty) m (columns_known_as q name (suc i) cs) ms h in
    let z : i ≡ i + 0 = omega arith in
    (0, c, sym (ap (λ x. x.0) e) ∙ ap n.Column z, refl, k, sym (ap (λ x. x.1) e))
here-or-behind q name i c cs m ms false k rest h =
    let r = rest h in
    let z : suc i + r.0 ≡ i + suc r.0 = omega arith in
    (suc r.0, r.1, r.2 ∙ ap n.Column z, r.3, r.4, r.5)

column-first : (q : Option (List ℕ)) (name : List ℕ) (i : ℕ) (cs : List ScopeColumn) (m : Meaning) (ms : List Meaning)
    → columns_known_as q name i cs ≡ m ∷ ms → IsOfColumn q name i cs m
column-first q name i [] m ms h = absurd (cc (h))
column-first q name i (c ∷ cs) m ms h =
    here-or-behind q name i c cs m ms (is_known_as q name c) refl (column-first q name (suc i) cs m ms) h

-- which of three lists the only meaning is from
nothing-left : (xs ys : List Meaning) → xs ++ ys ≡ [] → xs ≡ []
nothing-left [] ys e = refl
nothing-left (x ∷ xs) ys e = absurd (cc (e))

rest-is : (x y : Meaning) (xs ys : List Meaning) → x ∷ xs ≡ y ∷ ys → xs ≡ ys
rest-is x y xs ys h = cc (h)

three : (xs ys zs : List Meaning) (m : Meaning) → xs ++ ys ++ zs ≡ m ∷ []
    → ((ms : List Meaning) × (xs ≡ m ∷ ms)) ⊎ ((xs ≡ []) × (ys ≡ m ∷ [])) ⊎ (zs ≡ m ∷ [])
three (x ∷ xs) ys zs m h = inl (xs, ap (λ o. o ∷ xs) (first-is x m (xs ++ ys ++ zs) [] h))
three [] (y ∷ ys) zs m h = inr (inl (refl, ap₂ (λ o os. o ∷ os) (first-is y m (ys ++ zs) [] h) (nothing-left ys zs (rest-is y m (ys ++ zs) [] h))))
three [] [] zs m h = inr (inr h)

time-is : (b : Bool) (m : Meaning) → (if b then (n.RowTime, sql.Big) ∷ [] else []) ≡ m ∷ [] → (m.0 ≡ n.RowTime) × (m.1 ≡ sql.Big)
time-is true m h =
    let e : (n.RowTime, sql.Big) ≡ m = first-is (n.RowTime, sql.Big) m [] [] h in
    (sym (ap (λ x. x.0) e), sym (ap (λ x. x.1) e))
time-is false m h = absurd (cc (h))

bound-is : (w a b : Bool) (k : ℕ) (m : Meaning)
    → (if w && a then (n.Column k, sql.Big) ∷ [] else if w && b then (n.Column (k + 1), sql.Big) ∷ [] else []) ≡ m ∷ []
    → (behind : ℕ) × (behind < 2) × (m.0 ≡ n.Column (k + behind)) × (m.1 ≡ sql.Big) × (w ≡ true)
bound-is true true b k m h =
    let e : (n.Column k, sql.Big) ≡ m = first-is (n.Column k, sql.Big) m [] [] h in
    let z : k ≡ k + 0 = omega arith in
    (0, omega arith, sym (ap (λ x. x.0) e) ∙ ap n.Column z, sym (ap (λ x. x.1) e), refl)
bound-is true false true k m h =
    let e : (n.Column (k + 1), sql.Big) ≡ m = first-is (n.Column (k + 1), sql.Big) m [] [] h in
    (1, omega arith, sym (ap (λ x. x.0) e), sym (ap (λ x. x.1) e), refl)
bound-is true false false k m h = absurd (cc (h))
bound-is false a b k m h = absurd (cc (h))

bound-of : (s : Scope) (q : Option (List ℕ)) (name : List ℕ) (form : TypedNode) (t : SqlType) → window_bounds s q name ≡ (form, t) ∷ [] → IsBound s q name form t
bound-of s (Some q) name form t h = absurd (cc (h))
bound-of s None name form t h =
    let r = bound-is s.windowed (bytes_eq name (codes "WINDOWSTART")) (bytes_eq name (codes "WINDOWEND")) (length s.columns) (form, t) h in
    record { behind = r.0; two = r.1; is = r.2; typed = r.3; windowed = r.4; alone = h }

pub meant : (s : Scope) (q : Option (List ℕ)) (name : List ℕ) (form : TypedNode) (t : SqlType) → meanings s q name ≡ (form, t) ∷ [] → IsMeant s q name form t
unfolding meanings
meant s q name form t h =
    elim (three (columns_known_as q name 0 s.columns) (row_time s q name) (window_bounds s q name) (form, t) h) [
      | inl k ↦ inl (column k.0 k.1)
      | inr o ↦ inr (elim o [
        | inl k ↦ inl (record { is = (time-is _ (form, t) k.1).0; typed = (time-is _ (form, t) k.1).1; alone = k.1; none = k.0 })
        | inr k ↦ inr (bound-of s q name form t k)
      ])
    ]
  where
    column : (ms : List Meaning) → columns_known_as q name 0 s.columns ≡ (form, t) ∷ ms → IsColumn s q name form t
    column ms e =
        let r = column-first q name 0 s.columns (form, t) ms e in
        let z : 0 + r.0 ≡ r.0 = omega arith in
        record { index = r.0; found = r.1; is = r.2 ∙ ap n.Column z; at = r.3; known = r.4; typed = r.5 }
