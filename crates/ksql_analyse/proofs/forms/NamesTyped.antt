-- Resolved names leave the types of an expression as they are.
use Rattle.std.proofs.Common.{◌≡◌, ℕ, suc, ◌==◌, Bool, true, false, ◌&&◌, if◌then◌else◌, List, [], ◌∷◌, ◌++◌, map, length, Option, Some, None, refl, ap, ap₂, sym, ◌∙◌, subst}
use Rattle.std.specs.Prelude.{option_map, slice_get, codes, bytes_eq, filter}
use Rattle.std.specs.Cmp.Lexicographic.{bytes_decides, nat_list_eq_equiv}
use Rattle.ksql_types.specs.declared.value.SqlType.{SqlType}
use Rattle.ksql_types.specs.declared.value.SqlType.TheVariants as sql
use Rattle.expression_trees.specs.declared.tree.Expr.{Expr}
use Rattle.expression_trees.specs.declared.tree.Expr.TheVariants as e
use Rattle.ksql_expr.specs.declared.typed.Typed.{Typed}
use Rattle.ksql_expr.specs.declared.typed.TypedNode.TheVariants as n
use Rattle.ksql_expr.specs.Typing.{of}
use Rattle.ksql_types.specs.Names.{is_among}
use Rattle.ksql_scopes.specs.declared.scope.Scope.{Scope}
use Rattle.ksql_scopes.specs.declared.scope.ScopeColumn.{ScopeColumn}
use Rattle.ksql_scopes.specs.Scope.{Meaning, is_qualified, is_known_as, columns_known_as, first_alias, row_time, window_bounds, meanings, seen, inside}
use Rattle.ksql_typing.specs.Standing as h
use Rattle.ksql_typing.specs.Standing.{Stands, Pair, one, perhaps, each, whens, HasType}
use Rattle.ksql_scopes.specs.Resolved.{resolved, resolved_when, full_name, written_for, is_row_time}
use Rattle.ksql_scopes.proofs.Resolving as form
use Rattle.std.proofs.lemmas.Bool.{and_parts}
use Rattle.ksql_analyse.proofs.accepted.PlainColumns.{time_names, HasPlainColumns, never}
use Rattle.ksql_analyse.proofs.lists.EqualLists.{heads, tails}

-- ---- lists

and-false : (b : Bool) → (b && false) ≡ false
and-false true = refl
and-false false = refl

pub passes-first : {A : Type 0} (p : A → Bool) (xs : List A) (y : A) (ys : List A) → filter p xs ≡ y ∷ ys → p y ≡ true
passes-first p [] y ys k = absurd (cc (k))
passes-first p (x ∷ xs) y ys k = at (p x) refl k (passes-first p xs y ys)
  where
    at : (b : Bool) → p x ≡ b → (if b then x ∷ filter p xs else filter p xs) ≡ y ∷ ys → (filter p xs ≡ y ∷ ys → p y ≡ true) → p y ≡ true
    at true is k rest = ap p (sym (heads k)) ∙ is
    at false is k rest = rest k

-- ---- the columns that are known by a name

abbrev with_first : Bool → Meaning → List Meaning → List Meaning
with_first b m ms = if b then m ∷ ms else ms

-- without a qualifier none, so with one none
none-narrow : (alias name : List ℕ) (i : ℕ) (cs : List ScopeColumn) → columns_known_as None name i cs ≡ [] → columns_known_as (Some alias) name i cs ≡ []
none-narrow alias name i [] k = refl
none-narrow alias name i (c ∷ cs) k = at (bytes_eq c.column.name name) refl k (none-narrow alias name (suc i) cs)
  where
    at : (b : Bool) → bytes_eq c.column.name name ≡ b → with_first b (n.Column i, c.column.ty) (columns_known_as None name (suc i) cs) ≡ []
        → (columns_known_as None name (suc i) cs ≡ [] → columns_known_as (Some alias) name (suc i) cs ≡ [])
        → columns_known_as (Some alias) name i (c ∷ cs) ≡ []
    at true is k rest = absurd (cc (k))
    at false is k rest =
        ap (λ b. with_first (is_qualified (Some alias) c.alias && b) (n.Column i, c.column.ty) (columns_known_as (Some alias) name (suc i) cs)) is
        ∙ ap (λ b. with_first b (n.Column i, c.column.ty) (columns_known_as (Some alias) name (suc i) cs)) (and-false (is_qualified (Some alias) c.alias)) ∙ rest k

-- a name with one meaning keeps it after its own alias
one-narrow : (alias name : List ℕ) (i : ℕ) (cs : List ScopeColumn) (m : Meaning) (c : ScopeColumn) (rest : List ScopeColumn) → columns_known_as None name i cs ≡ m ∷ []
    → filter (is_known_as None name) cs ≡ c ∷ rest → is_qualified (Some alias) c.alias ≡ true → columns_known_as (Some alias) name i cs ≡ m ∷ []
one-narrow alias name i [] m c rest k l own = absurd (cc (k))
one-narrow alias name i (d ∷ cs) m c rest k l own = at (bytes_eq d.column.name name) refl k l (one-narrow alias name (suc i) cs m c rest)
  where
    all : List Meaning
    all = columns_known_as (Some alias) name (suc i) cs

    at : (b : Bool) → bytes_eq d.column.name name ≡ b → with_first b (n.Column i, d.column.ty) (columns_known_as None name (suc i) cs) ≡ m ∷ []
        → (if b then d ∷ filter (is_known_as None name) cs else filter (is_known_as None name) cs) ≡ c ∷ rest
        → (columns_known_as None name (suc i) cs ≡ m ∷ [] → filter (is_known_as None name) cs ≡ c ∷ rest → is_qualified (Some alias) c.alias ≡ true
        → columns_known_as (Some alias) name (suc i) cs ≡ m ∷ [])
        → columns_known_as (Some alias) name i (d ∷ cs) ≡ m ∷ []
    at true is k l more =
        let known : (is_qualified (Some alias) d.alias && bytes_eq d.column.name name) ≡ true =
        ap₂ (λ a b. a && b) (ap (λ x. is_qualified (Some alias) x.alias) (heads l) ∙ own) is in
        ap (λ b. with_first b (n.Column i, d.column.ty) (columns_known_as (Some alias) name (suc i) cs)) known
        ∙ ap₂ (λ x xs. x ∷ xs) (heads k) (none-narrow alias name (suc i) cs (tails k))
    at false is k l more =
        ap (λ b. with_first (is_qualified (Some alias) d.alias && b) (n.Column i, d.column.ty) (columns_known_as (Some alias) name (suc i) cs)) is
        ∙ ap (λ b. with_first b (n.Column i, d.column.ty) (columns_known_as (Some alias) name (suc i) cs)) (and-false (is_qualified (Some alias) d.alias)) ∙ more k l own

-- one is known, so there is a meaning
some-known : (q : Option (List ℕ)) (name : List ℕ) (i : ℕ) (cs : List ScopeColumn) (c : ScopeColumn) (rest : List ScopeColumn)
    → filter (is_known_as q name) cs ≡ c ∷ rest → columns_known_as q name i cs ≡ [] → ⊥
some-known q name i [] c rest k l = cc (k)
some-known q name i (d ∷ cs) c rest k l = at (is_known_as q name d) k l (some-known q name (suc i) cs c rest)
  where
    at : (b : Bool) → (if b then d ∷ filter (is_known_as q name) cs else filter (is_known_as q name) cs) ≡ c ∷ rest
        → with_first b (n.Column i, d.column.ty) (columns_known_as q name (suc i) cs) ≡ []
        → (filter (is_known_as q name) cs ≡ c ∷ rest → columns_known_as q name (suc i) cs ≡ [] → ⊥) → ⊥
    at true k l more = cc (l)
    at false k l more = more k l

-- no column has the name of a time
no-column : (name : List ℕ) (i : ℕ) (cs : List ScopeColumn) → is_among time_names name ≡ true
    → ((j : ℕ) (c : ScopeColumn) → slice_get cs j ≡ Some c → is_among time_names c.column.name ≡ false) → columns_known_as None name i cs ≡ []
no-column name i [] time plain = refl
no-column name i (c ∷ cs) time plain = at (bytes_eq c.column.name name) refl (no-column name (suc i) cs time (λ j d k. plain (suc j) d k))
  where
    at : (b : Bool) → bytes_eq c.column.name name ≡ b → columns_known_as None name (suc i) cs ≡ []
        → with_first (bytes_eq c.column.name name) (n.Column i, c.column.ty) (columns_known_as None name (suc i) cs) ≡ []
    at true is rest =
        let same : c.column.name ≡ name = (bytes_decides c.column.name name).0 is in
        never (is_among time_names name) time (ap (is_among time_names) (sym same) ∙ plain 0 c refl)
    at false is rest = ap (λ b. with_first b (n.Column i, c.column.ty) (columns_known_as None name (suc i) cs)) is ∙ rest

-- ---- ROWTIME

row-narrow : (b : Bool) (q : Bool) (m : Meaning) → (if b && true then m ∷ [] else []) ≡ [] → (if b && q then m ∷ [] else []) ≡ []
row-narrow true q m k = absurd (cc (k))
row-narrow false q m k = refl

row-alone : (b : Bool) (m : Meaning) → (length (if b then m ∷ [] else []) == 1) ≡ true → b ≡ true
row-alone true m k = refl
row-alone false m k = absurd (cc (k))

-- ---- names

front-alone : (xs ys zs : List Meaning) (m : Meaning) → (xs ≡ [] → ⊥) → xs ++ ys ++ zs ≡ m ∷ [] → (xs ≡ m ∷ []) × (ys ≡ []) × (zs ≡ [])
front-alone [] ys zs m some k = absurd (some refl)
front-alone (x ∷ []) (y ∷ ys) zs m some k = absurd (cc (tails k))
front-alone (x ∷ []) [] (z ∷ zs) m some k = absurd (cc (tails k))
front-alone (x ∷ []) [] [] m some k = (k, refl, refl)
front-alone (x ∷ x2 ∷ xs) ys zs m some k = absurd (cc (tails k))

module _ (s : Scope) (plain : HasPlainColumns s) where
  -- an expression is a name of one meaning
  abbrev Named : Meaning → Expr → Type 0
  Named m a = (q : Option (List ℕ)) × (name : List ℕ) × (a ≡ e.Name q name) × (meanings s q name ≡ m ∷ [])

  -- a column after its alias
  behind : (q : Option (List ℕ)) (name : List ℕ) (m : Meaning) (c : ScopeColumn) (rest : List ScopeColumn) → meanings s q name ≡ m ∷ []
      → filter (is_known_as q name) s.columns ≡ c ∷ rest → meanings s c.alias name ≡ m ∷ []
  unfolding meanings
  behind (Some alias) name m c rest k l =
      at c.alias (and_parts (is_qualified (Some alias) c.alias) (bytes_eq c.column.name name) (passes-first (is_known_as (Some alias) name) s.columns c rest l)).0
    where
      at : (o : Option (List ℕ)) → is_qualified (Some alias) o ≡ true → meanings s o name ≡ m ∷ []
      at None is = absurd (cc (is))
      at (Some own) is = subst (λ a. meanings s (Some a) name ≡ m ∷ []) (sym ((bytes_decides own alias).0 is)) k
  behind None name m c rest k l = at c.alias refl
    where
      at : (o : Option (List ℕ)) → c.alias ≡ o → meanings s o name ≡ m ∷ []
      at None is = k
      at (Some alias) is =
          let p = front-alone (columns_known_as None name 0 s.columns) (row_time s None name) (window_bounds s None name) m
          (λ none. some-known None name 0 s.columns c rest l none) k in
          let own : is_qualified (Some alias) c.alias ≡ true = ap (is_qualified (Some alias)) is ∙ nat_list_eq_equiv.refl alias in
          let columns = one-narrow alias name 0 s.columns m c rest p.0 l own in
          let row : row_time s (Some alias) name ≡ [] =
          row-narrow (s.stream && bytes_eq name (codes "ROWTIME")) (is_qualified (Some alias) (first_alias s.columns)) (n.RowTime, sql.Big) p.1 in
          ap₂ (λ xs ys. xs ++ ys ++ []) columns row

  -- ROWTIME alone
  time-alone : (alias name : List ℕ) (m : Meaning) → meanings s (Some alias) name ≡ m ∷ [] → is_row_time s (Some alias) name ≡ true → meanings s None name ≡ m ∷ []
  unfolding meanings
  time-alone alias name m k is =
      let time : Meaning = (n.RowTime, sql.Big) in
      let tests = row-alone (s.stream && bytes_eq name (codes "ROWTIME") && is_qualified (Some alias) (first_alias s.columns)) time is in
      let p = and_parts (s.stream && bytes_eq name (codes "ROWTIME")) (is_qualified (Some alias) (first_alias s.columns)) tests in
      let named : name ≡ codes "ROWTIME" = (bytes_decides name (codes "ROWTIME")).0 (and_parts s.stream (bytes_eq name (codes "ROWTIME")) p.0).1 in
      let columns : columns_known_as None name 0 s.columns ≡ [] = no-column name 0 s.columns (ap (is_among time_names) named) plain in
      let narrow = none-narrow alias name 0 s.columns columns in
      let old : time ∷ [] ≡ m ∷ [] =
      sym (ap₂ (λ xs b. xs ++ (if b then time ∷ [] else []) ++ []) narrow tests) ∙ k in
      let row : row_time s None name ≡ time ∷ [] = ap (λ b. if b && true then time ∷ [] else []) p.0 in
      let bounds : window_bounds s None name ≡ [] = ap (window_bounds s None) named ∙ no-bound s.windowed in
      (λ u. columns u ++ row u ++ bounds u) ∙ old
    where
      no-bound : (b : Bool) → window_bounds (record s { windowed = b }) None (codes "ROWTIME") ≡ []
      no-bound true = refl
      no-bound false = refl

  written : (q : Option (List ℕ)) (name : List ℕ) (m : Meaning) → meanings s q name ≡ m ∷ [] → (cs : List ScopeColumn) → filter (is_known_as q name) s.columns ≡ cs
      → Named m (written_for s q name cs)
  written q name m k (c ∷ cs) l = (c.alias, name, refl, behind q name m c cs k l)
  written q name m k [] l = at (is_row_time s q name) refl
    where
      timed : (p : Option (List ℕ)) → meanings s p name ≡ m ∷ [] → is_row_time s p name ≡ true → meanings s None name ≡ m ∷ []
      timed None k is = k
      timed (Some alias) k is = time-alone alias name m k is

      at : (b : Bool) → is_row_time s q name ≡ b → Named m (if b then e.Name None name else e.Name q name)
      at true is = (None, name, refl, timed q k is)
      at false is = (q, name, refl, k)

  pub full-named : (q : Option (List ℕ)) (name : List ℕ) (m : Meaning) → meanings s q name ≡ m ∷ [] → Named m (full_name s q name)
  full-named q name m k = written q name m k (filter (is_known_as q name) s.columns) refl

-- ---- expressions

module _ (r : Scope) (plain : HasPlainColumns r) where
  -- this scope, with bounds of windows or without
  abbrev IsSeen : Scope → Type 0
  IsSeen s = (w : Bool) × (s ≡ seen w r)

  within : (s : Scope) → IsSeen s → IsSeen (inside s)
  within s v = (false, ap inside v.1)

  abbrev Turned : Pair → Pair
  Turned (one a x) = one (resolved r a) x
  Turned (perhaps a x) = perhaps (option_map (resolved r) a) x
  Turned (each es xs) = each (map (resolved r) es) xs
  Turned (whens ws ys) = whens (map (resolved_when r) ws) ys

  named : (s : Scope) (q : Option (List ℕ)) (name : List ℕ) (m : Meaning) → IsSeen s → meanings s q name ≡ m ∷ []
      → Stands s (one (resolved r (e.Name q name)) (of (Some m.1) m.0))
  named s q name m v k =
      let here : meanings (seen v.0 r) q name ≡ m ∷ [] = subst (λ x. meanings x q name ≡ m ∷ []) v.1 k in
      let d = full-named (seen v.0 r) plain q name m here in
      let is : resolved r (e.Name q name) ≡ e.Name d.0 d.1 = form.resolved-Name r q name ∙ d.2 in
      subst (λ x. Stands x (one (resolved r (e.Name q name)) (of (Some m.1) m.0))) (sym v.1)
      (subst (λ a. Stands (seen v.0 r) (one a (of (Some m.1) m.0))) (sym is) (h.name d.3))

  back : {s : Scope} {a b : Expr} {x : Typed} → a ≡ b → Stands s (one b x) → Stands s (one a x)
  back {s} {a} {b} {x} is k = subst (λ d. Stands s (one d x)) (sym is) k

  turned : {s : Scope} {p : Pair} → IsSeen s → Stands s p → Stands s (Turned p)
  turned {s} v (h.digits {number = number}) = back (form.resolved-Digits r number) h.digits
  turned {s} v (h.text {content = content}) = back (form.resolved-Text r content) h.text
  turned {s} v (h.truth {b = b}) = back (form.resolved-Truth r b) h.truth
  turned {s} v h.null = back (form.resolved-Null r) h.null
  turned {s} v (h.name {q = q} {found = found} {form = form} {t = t} k) = named s q found (form, t) v k
  turned {s} v (h.sign {minus = minus} {a = a} k l) = back (form.resolved-Sign r minus a) (h.sign (turned v k) l)
  turned {s} v (h.binary {o = o} {a = a} {b = b} k l m) = back (form.resolved-Binary r o a b) (h.binary (turned v k) (turned v l) m)
  turned {s} v (h.not {a = a} k l) = back (form.resolved-Not r a) (h.not (turned v k) l)
  turned {s} v (h.is_null {negated = m} {a = a} k) = back (form.resolved-IsNull r m a) (h.is_null (turned v k))
  turned {s} v (h.between {negated = m} {a = a} {low = b} {high = c} k l j i) =
      back (form.resolved-Between r m a b c) (h.between (turned v k) (turned v l) (turned v j) i)
  turned {s} v (h.one_of {negated = m} {a = a} {es = es} k l j) = back (form.resolved-OneOf r m a es) (h.one_of (turned v k) (turned v l) j)
  turned {s} v (h.like {negated = m} {a = a} {pattern = pattern} k l) = back (form.resolved-Like r m a pattern) (h.like (turned v k) l)
  turned {s} v (h.cast {a = a} {to = to} k l) = back (form.resolved-Cast r a to) (h.cast (turned v k) l)
  turned {s} v (h.case {operand = a} {otherwise = b} {ws = ws} k l j i) =
      back (form.resolved-Case r a ws b) (h.case (turned v k) (turned v l) (turned v j) i)
  turned {s} v (h.call {f = f} {args = args} k l j) = back (form.resolved-Call r f false args) (h.call k (turned v l) j)
  turned {s} v (h.count_all {f = f} k) = back (form.resolved-Call r f true []) (h.count_all k)
  turned {s} v (h.aggregate {f = f} {a = a} k l j) =
      back (form.resolved-Call r f false (a ∷ [])) (h.aggregate k (turned (within s v) l) j)
  turned {s} v (h.unknown {f = f} {star = star} {args = args} k l) = back (form.resolved-Call r f star args) (h.unknown k (turned v l))
  turned v h.left_out = h.left_out
  turned v (h.there k) = h.there (turned v k)
  turned v h.none = h.none
  turned v (h.more k l) = h.more (turned v k) (turned v l)
  turned v h.no_when = h.no_when
  turned {s} v (h.more_whens {w = w} {y = y} k l j) =
      h.more_whens
      (subst (λ a. Stands s (one a y.cond)) (sym (ap (λ u. u.cond) (form.resolved-when r w))) (turned v k))
      (subst (λ a. Stands s (one a y.result)) (sym (ap (λ u. u.result) (form.resolved-when r w))) (turned v l)) (turned v j)

  pub resolved-typed : (a : Expr) (t : Option SqlType) → HasType r a t → HasType r (resolved r a) t
  resolved-typed a t k = (k.0, turned (r.windowed, refl) k.1, k.2)
