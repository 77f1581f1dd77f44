-- Resolved names have the types of the names, if no column is called ROWTIME.
use Rattle.std.proofs.Common.{◌≡◌, ℕ, zero, suc, ◌==◌, Bool, true, false, ◌&&◌, if◌then◌else◌, List, [], ◌∷◌, ◌++◌, map, length, Option, Some, None, refl, ap, ap₂, sym, ◌∙◌, subst, inl, inr}
use Rattle.std.specs.Prelude.{◌⊎◌, option_map, slice_get, filter, bytes_eq, codes}
use Rattle.std.specs.List.{AllByRecursion as Each}
use Rattle.std.proofs.lemmas.Option.{same_Some}
use Rattle.std.proofs.lemmas.Slice.Eq.{bytes_eq-Decides}
use Rattle.ksql_types.specs.declared.value.SqlType.{SqlType}
use Rattle.ksql_types.specs.declared.value.SqlType.TheVariants as sql
use Rattle.ksql_expr.specs.declared.typed.Typed.{Typed}
use Rattle.ksql_expr.specs.declared.typed.TypedNode.TheVariants as n
use Rattle.expression_trees.specs.declared.tree.Expr.{Expr}
use Rattle.expression_trees.specs.declared.tree.Expr.TheVariants as e
use Rattle.ksql_scopes.specs.declared.scope.Scope.{Scope}
use Rattle.ksql_scopes.specs.declared.scope.ScopeColumn.{ScopeColumn}
use Rattle.ksql_scopes.specs.Scope.{Meaning, meanings, inside, seen, columns_known_as, is_known_as, is_qualified, first_alias, row_time, window_bounds}
use Rattle.std.proofs.lemmas.Bool.{and_parts}
use Rattle.ksql_typing.specs.Standing as h
use Rattle.ksql_typing.specs.Standing.{Stands, HasType, Pair, one, perhaps, each, whens}
use Rattle.ksql_scopes.specs.Resolved.{resolved, resolved_when, full_name, written_for, is_row_time}
use Rattle.ksql_scopes.proofs.Resolving as r
use Rattle.ksql_analyse.proofs.forms.KeySides.{first-passes}

-- a name written in full stands for what the name stands for
abbrev pub AreWritten : Scope → Scope → Type 0
AreWritten s t = (q : Option (List ℕ)) (name : List ℕ) (m : Meaning) → meanings t q name ≡ m ∷ []
    → (p : Option (List ℕ)) × (full_name s q name ≡ e.Name p name) × (meanings t p name ≡ m ∷ [])

-- ---- names

abbrev known_list : Option (List ℕ) → List ℕ → ℕ → List ScopeColumn → List Meaning
known_list q name i cs = columns_known_as q name i cs

-- where a narrower name knows only what a wider one does
module _ (p q : Option (List ℕ)) (name : List ℕ) (narrower : (c : ScopeColumn) → is_known_as p name c ≡ true → is_known_as q name c ≡ true) where
  at-none : (a b : Bool) (x : Meaning) (xs ys : List Meaning) → (a ≡ true → b ≡ true) → (if b then x ∷ ys else ys) ≡ [] → (ys ≡ [] → xs ≡ []) → (if a then x ∷ xs else xs) ≡ []
  at-none true true x xs ys n h rest = absurd (cc (h))
  at-none true false x xs ys n h rest = absurd (cc (n refl))
  at-none false true x xs ys n h rest = absurd (cc (h))
  at-none false false x xs ys n h rest = rest h

  none-narrower : (i : ℕ) (cs : List ScopeColumn) → known_list q name i cs ≡ [] → known_list p name i cs ≡ []
  none-narrower i [] h = refl
  none-narrower i (c ∷ cs) h =
      at-none (is_known_as p name c) (is_known_as q name c) (n.Column i, c.column.ty) (known_list p name (suc i) cs) (known_list q name (suc i) cs) (narrower c) h
      (none-narrower (suc i) cs)

  at-one : (a b : Bool) (x m : Meaning) (xs ys : List Meaning) → (a ≡ true → b ≡ true) → (if b then x ∷ ys else ys) ≡ m ∷ [] → (ys ≡ [] → xs ≡ [])
      → (ys ≡ m ∷ [] → (xs ≡ m ∷ []) ⊎ (xs ≡ [])) → ((if a then x ∷ xs else xs) ≡ m ∷ []) ⊎ ((if a then x ∷ xs else xs) ≡ [])
  at-one true true x m xs ys n h none rest =
      let first : x ≡ m = cc (h) in
      let left : ys ≡ [] = cc (h) in
      inl (ap₂ (λ o os. o ∷ os) first (none left))
  at-one true false x m xs ys n h none rest = absurd (cc (n refl))
  at-one false true x m xs ys n h none rest = let left : ys ≡ [] = cc (h) in inr (none left)
  at-one false false x m xs ys n h none rest = rest h

  one-narrower : (i : ℕ) (cs : List ScopeColumn) (m : Meaning) → known_list q name i cs ≡ m ∷ [] → (known_list p name i cs ≡ m ∷ []) ⊎ (known_list p name i cs ≡ [])
  one-narrower i [] m h = absurd (cc (h))
  one-narrower i (c ∷ cs) m h =
      at-one (is_known_as p name c) (is_known_as q name c) (n.Column i, c.column.ty) m (known_list p name (suc i) cs) (known_list q name (suc i) cs) (narrower c) h
      (none-narrower (suc i) cs) (one-narrower (suc i) cs m)

-- a column that is known is there
known-there : (p : Option (List ℕ)) (name : List ℕ) (i : ℕ) (cs : List ScopeColumn) (j : ℕ) (c : ScopeColumn) → slice_get cs j ≡ Some c → is_known_as p name c ≡ true
    → known_list p name i cs ≡ [] → ⊥
known-there p name i [] j c at k h = cc (at)
known-there p name i (d ∷ cs) zero c at k h =
    cc (sym (ap (λ b. if b then (n.Column i, d.column.ty) ∷ known_list p name (suc i) cs else known_list p name (suc i) cs)
    (ap (is_known_as p name) (same_Some d c at) ∙ k)) ∙ h)
known-there p name i (d ∷ cs) (suc j) c at k h = known-there p name (suc i) cs j c at k (rest (is_known_as p name d) h)
  where
    rest : (b : Bool) → (if b then (n.Column i, d.column.ty) ∷ known_list p name (suc i) cs else known_list p name (suc i) cs) ≡ [] → known_list p name (suc i) cs ≡ []
    rest true l = absurd (cc (l))
    rest false l = l

none-known : (p : Option (List ℕ)) (name : List ℕ) (i : ℕ) (cs : List ScopeColumn) → filter (is_known_as p name) cs ≡ [] → known_list p name i cs ≡ []
none-known p name i [] h = refl
none-known p name i (c ∷ cs) h = at (is_known_as p name c) h (none-known p name (suc i) cs)
  where
    at : (b : Bool) → (if b then c ∷ filter (is_known_as p name) cs else filter (is_known_as p name) cs) ≡ []
        → (filter (is_known_as p name) cs ≡ [] → known_list p name (suc i) cs ≡ [])
        → (if b then (n.Column i, c.column.ty) ∷ known_list p name (suc i) cs else known_list p name (suc i) cs) ≡ []
    at true l rest = absurd (cc (l))
    at false l rest = rest l

-- no column is called so
abbrev pub HasNo : List ℕ → List ScopeColumn → Type 0
HasNo name cs = Each (λ c. bytes_eq c.column.name name ≡ false) cs

none-called : (name : List ℕ) (i : ℕ) (cs : List ScopeColumn) → HasNo name cs → known_list None name i cs ≡ []
none-called name i [] h = refl
none-called name i (c ∷ cs) h =
    ap (λ b. if b then (n.Column i, c.column.ty) ∷ known_list None name (suc i) cs else known_list None name (suc i) cs) h.0 ∙ none-called name (suc i) cs h.1

-- the parts of a list of one
front-one : (x : Meaning) (xs ys zs : List Meaning) (m : Meaning) → x ∷ xs ++ ys ++ zs ≡ m ∷ [] → (x ∷ xs ≡ m ∷ []) × (ys ≡ []) × (zs ≡ [])
front-one x xs ys zs m h =
    let first : x ≡ m = cc (h) in
    let rest : xs ++ ys ++ zs ≡ [] = cc (h) in
    let a = none-left (xs ++ ys) zs rest in
    let b = none-left xs ys a.0 in
    (ap₂ (λ o os. o ∷ os) first b.0, b.1, a.1)
  where
    none-left : (us vs : List Meaning) → us ++ vs ≡ [] → (us ≡ []) × (vs ≡ [])
    none-left [] vs k = (refl, k)
    none-left (u ∷ us) vs k = absurd (cc (k))

abbrev time : Meaning
time = (n.RowTime, sql.Big)

all-true : (u v w : Bool) → (length (if u && v && w then time ∷ [] else []) == 1) ≡ true → (u ≡ true) × (v ≡ true) × (w ≡ true)
all-true true true true h = (refl, refl, refl)
all-true true true false h = absurd (cc (h))
all-true true false w h = absurd (cc (h))
all-true false v w h = absurd (cc (h))

module _ (s : Scope) (b : Bool) (no_time : HasNo (codes "ROWTIME") s.columns) where
  abbrev t : Scope
  t = seen b s

  abbrev at_time : List ℕ → Bool
  at_time name = s.stream && bytes_eq name (codes "ROWTIME")

  -- the time of a row after a qualifier, if it isn't there without one
  no-time : (y : List ℕ) (name : List ℕ) → row_time s None name ≡ [] → row_time s (Some y) name ≡ []
  no-time y name h = at (at_time name) (is_qualified (Some y) (first_alias s.columns)) h
    where
      at : (a c : Bool) → (if a && true then time ∷ [] else []) ≡ [] → (if a && c then time ∷ [] else []) ≡ []
      at true c k = absurd (cc (k))
      at false c k = refl

  -- a column, with its alias
  aliased : (q : Option (List ℕ)) (name : List ℕ) (m : Meaning) (c : ScopeColumn) (j : ℕ) → slice_get s.columns j ≡ Some c → is_known_as q name c ≡ true
      → meanings t q name ≡ m ∷ [] → meanings t c.alias name ≡ m ∷ []
  unfolding meanings
  aliased (Some x) name m c j at k h = at-alias c.alias refl
    where
      at-alias : (o : Option (List ℕ)) → c.alias ≡ o → meanings t c.alias name ≡ m ∷ []
      at-alias None e = absurd (cc (sym (ap (λ o. is_qualified (Some x) o && bytes_eq c.column.name name) e) ∙ k))
      at-alias (Some y) e =
          let w = and_parts (bytes_eq y x) (bytes_eq c.column.name name) (sym (ap (λ o. is_qualified (Some x) o && bytes_eq c.column.name name) e) ∙ k) in
          ap (λ o. meanings t o name) (e ∙ ap Some ((bytes_eq-Decides y x).0 w.0)) ∙ h
  aliased None name m c j at k h = at-alias c.alias refl
    where
      at-alias : (o : Option (List ℕ)) → c.alias ≡ o → meanings t c.alias name ≡ m ∷ []
      at-alias None e = ap (λ o. meanings t o name) e ∙ h
      at-alias (Some y) e = ap (λ o. meanings t o name) e ∙ there (known_list None name 0 s.columns) refl
        where
          narrower : (d : ScopeColumn) → is_known_as (Some y) name d ≡ true → is_known_as None name d ≡ true
          narrower d l = (and_parts (is_qualified (Some y) d.alias) (bytes_eq d.column.name name) l).1

          mine : is_known_as (Some y) name c ≡ true
          mine = ap (λ o. is_qualified (Some y) o && bytes_eq c.column.name name) e ∙ ap₂ (λ u v. u && v) ((bytes_eq-Decides y y).1 refl) k

          there : (os : List Meaning) → known_list None name 0 s.columns ≡ os → meanings t (Some y) name ≡ m ∷ []
          there [] g = absurd (known-there None name 0 s.columns j c at k g)
          there (o ∷ os) g =
              let w = front-one o os (row_time s None name) (window_bounds t None name) m (sym (ap (λ l. l ++ row_time s None name ++ window_bounds t None name) g) ∙ h) in
              elim (one-narrower (Some y) None name narrower 0 s.columns m (g ∙ w.0)) [
                | inl l ↦ ap₂ (λ x z. x ++ z ++ []) l (no-time y name w.1)
                | inr l ↦ absurd (known-there (Some y) name 0 s.columns j c at mine l)
              ]

  -- ROWTIME, without a qualifier
  timed : (q : Option (List ℕ)) (name : List ℕ) (m : Meaning) → known_list q name 0 s.columns ≡ [] → is_row_time s q name ≡ true → meanings t q name ≡ m ∷ []
      → meanings t None name ≡ m ∷ []
  unfolding meanings
  timed q name m none is h =
      let k = all-true s.stream (bytes_eq name (codes "ROWTIME")) (is_qualified q (first_alias s.columns)) is in
      let called : name ≡ codes "ROWTIME" = (bytes_eq-Decides name (codes "ROWTIME")).0 k.1 in
      let mine : row_time s q name ≡ time ∷ [] = ap₂ (λ u v. if u && v then time ∷ [] else []) (ap₂ (λ u v. u && v) k.0 k.1) k.2 in
      let all : time ∷ window_bounds t q name ≡ m ∷ [] =
      sym (ap₂ (λ x y. x ++ y ++ window_bounds t q name) none mine) ∙ h in
      let is_time : time ≡ m = cc (all) in
      let columns : known_list None name 0 s.columns ≡ [] = ap (λ x. known_list None x 0 s.columns) called ∙ none-called (codes "ROWTIME") 0 s.columns no_time in
      let plain : row_time s None name ≡ time ∷ [] = ap (λ u. if u && true then time ∷ [] else []) (ap₂ (λ u v. u && v) k.0 k.1) in
      let bounds : window_bounds t None name ≡ [] = ap (window_bounds t None) called ∙ no-bound b in
      ap₂ (λ x y. x ++ y ++ window_bounds t None name) columns plain ∙ ap (λ z. time ∷ z) bounds ∙ ap (λ x. x ∷ []) is_time
    where
      no-bound : (c : Bool) → window_bounds (seen c s) None (codes "ROWTIME") ≡ []
      no-bound true = refl
      no-bound false = refl

  pub written : AreWritten s (seen b s)
  written q name m h = at (filter (is_known_as q name) s.columns) refl
    where
      alone : (c : Bool) → is_row_time s q name ≡ c → filter (is_known_as q name) s.columns ≡ [] → (p : Option (List ℕ)) × (full_name s q name ≡ e.Name p name) × (meanings t p name ≡ m ∷ [])
      alone true g f = (
        None,
        ap (written_for s q name) f ∙ ap (λ x. if x then e.Name None name else e.Name q name) g,
        timed q name m (none-known q name 0 s.columns f) g h,
      )
      alone false g f = (q, ap (written_for s q name) f ∙ ap (λ x. if x then e.Name None name else e.Name q name) g, h)

      at : (cs : List ScopeColumn) → filter (is_known_as q name) s.columns ≡ cs → (p : Option (List ℕ)) × (full_name s q name ≡ e.Name p name) × (meanings t p name ≡ m ∷ [])
      at [] f = alone (is_row_time s q name) refl f
      at (c ∷ cs) f =
          let k = first-passes (is_known_as q name) s.columns c cs f in
          (c.alias, ap (written_for s q name) f, aliased q name m c k.0 k.1 k.2 h)

abbrev Becomes : Scope → Pair → Pair
Becomes s (one a x) = one (resolved s a) x
Becomes s (perhaps a x) = perhaps (option_map (resolved s) a) x
Becomes s (each es xs) = each (map (resolved s) es) xs
Becomes s (whens ws ys) = whens (map (resolved_when s) ws) ys

as-one : {t : Scope} {a b : Expr} {x : Typed} → a ≡ b → Stands t (one b x) → Stands t (one a x)
as-one {t} {x = x} k = subst (λ c. Stands t (one c x)) (sym k)

pub resolves : (s : Scope) {t : Scope} {p : Pair} → AreWritten s t → AreWritten s (inside t) → Stands t p → Stands t (Becomes s p)
resolves s v w (h.digits {number = n}) = as-one (r.resolved-Digits s n) h.digits
resolves s v w (h.text {content = c}) = as-one (r.resolved-Text s c) h.text
resolves s v w (h.truth {b = b}) = as-one (r.resolved-Truth s b) h.truth
resolves s v w h.null = as-one (r.resolved-Null s) h.null
resolves s v w (h.name {q = q} {found = name} {form = form} {t = t} m) =
    let k = v q name (form, t) m in
    as-one (r.resolved-Name s q name ∙ k.1) (h.name k.2)
resolves s v w (h.sign {minus = m} {a = a} k g) = as-one (r.resolved-Sign s m a) (h.sign (resolves s v w k) g)
resolves s v w (h.binary {o = o} {a = a} {b = b} k l g) = as-one (r.resolved-Binary s o a b) (h.binary (resolves s v w k) (resolves s v w l) g)
resolves s v w (h.not {a = a} k g) = as-one (r.resolved-Not s a) (h.not (resolves s v w k) g)
resolves s v w (h.is_null {negated = m} {a = a} k) = as-one (r.resolved-IsNull s m a) (h.is_null (resolves s v w k))
resolves s v w (h.between {negated = m} {a = a} {low = b} {high = c} k l j g) =
    as-one (r.resolved-Between s m a b c) (h.between (resolves s v w k) (resolves s v w l) (resolves s v w j) g)
resolves s v w (h.one_of {negated = m} {a = a} {es = es} k l g) = as-one (r.resolved-OneOf s m a es) (h.one_of (resolves s v w k) (resolves s v w l) g)
resolves s v w (h.like {negated = m} {a = a} {pattern = p} k g) = as-one (r.resolved-Like s m a p) (h.like (resolves s v w k) g)
resolves s v w (h.cast {a = a} {to = to} k g) = as-one (r.resolved-Cast s a to) (h.cast (resolves s v w k) g)
resolves s v w (h.case {operand = x} {otherwise = z} {ws = ws} k l j g) =
    as-one (r.resolved-Case s x ws z) (h.case (resolves s v w k) (resolves s v w l) (resolves s v w j) g)
resolves s v w (h.call {f = f} {args = es} f_is k g) = as-one (r.resolved-Call s f false es) (h.call f_is (resolves s v w k) g)
resolves s v w (h.count_all {f = f} f_is) = as-one (r.resolved-Call s f true []) (h.count_all f_is)
resolves s v w (h.aggregate {f = f} {a = a} f_is k g) = as-one (r.resolved-Call s f false (a ∷ [])) (h.aggregate f_is (resolves s w w k) g)
resolves s v w (h.unknown {f = f} {star = star} {args = es} f_is k) = as-one (r.resolved-Call s f star es) (h.unknown f_is (resolves s v w k))
resolves s v w h.left_out = h.left_out
resolves s v w (h.there k) = h.there (resolves s v w k)
resolves s v w h.none = h.none
resolves s v w (h.more k l) = h.more (resolves s v w k) (resolves s v w l)
resolves s v w h.no_when = h.no_when
resolves s {t} v w (h.more_whens {w = o} {ws = ws} {y = y} {ys = ys} k l j) =
    subst (λ z. Stands t (whens (z ∷ map (resolved_when s) ws) (y ∷ ys))) (sym (r.resolved-when s o))
    (h.more_whens (resolves s v w k) (resolves s v w l) (resolves s v w j))

-- an expression with resolved names has its types
pub resolved-type : (s : Scope) → HasNo (codes "ROWTIME") s.columns → (a : Expr) (t : Option SqlType) → HasType s a t → HasType s (resolved s a) t
resolved-type s no_time a t h = (h.0, resolves s (written s s.windowed no_time) (written s false no_time) h.1, h.2)
