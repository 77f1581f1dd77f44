-- The sides of ON: a relation's only key column, and expressions of the left relation's columns.
use Rattle.std.proofs.Common.{◌≡◌, ℕ, suc, Bool, true, false, not, if◌then◌else◌, List, [], ◌∷◌, Option, Some, None, refl, ap, ap₂, sym, ◌∙◌, subst, inl, inr}
use Rattle.std.specs.Prelude.{◌⊎◌, slice_get, bytes_eq, filter}
use Rattle.std.proofs.lemmas.Bool.{false≢true}
use Rattle.std.proofs.lemmas.Option.{same_Some}
use Rattle.std.proofs.lemmas.Slice.Eq.{bytes_eq-Decides}
use Rattle.ksql_types.specs.declared.operator.BinaryOp.TheVariants as op
use Rattle.ksql_types.specs.declared.relation.Column.{Column}
use Rattle.ksql_types.specs.declared.value.SqlType.{SqlType}
use Rattle.expression_trees.specs.declared.tree.Expr.{Expr, out-Expr, roll-Expr, roll-out-Expr}
use Rattle.expression_trees.specs.declared.tree.Expr.TheVariants as e
use Rattle.expression_trees.specs.declared.tree.Expr.TheOpen.{Expr-F}
use Rattle.expression_trees.specs.declared.tree.WhenText.{WhenText}
use Rattle.ksql_expr.specs.declared.typed.Typed.{Typed}
use Rattle.ksql_expr.specs.declared.typed.TypedNode.TheVariants as n
use Rattle.ksql_expr.specs.Typing.{of}
use Rattle.ksql_scopes.specs.declared.scope.Scope.{Scope}
use Rattle.ksql_scopes.specs.declared.scope.ScopeColumn.{ScopeColumn}
use Rattle.ksql_scopes.specs.Scope.{is_known_as, is_qualified}
use Rattle.std.proofs.lemmas.Bool.{and_parts, and_from}
use Rattle.ksql_typing.specs.Standing as st
use Rattle.ksql_typing.specs.Standing.{Stands, HasType}
use Rattle.ksql_clauses.specs.declared.sources.Known.{Known}
use Rattle.ksql_scopes.specs.Resolved.{resolved, full_name, written_for, is_row_time}
use Rattle.ksql_clauses.specs.Sources.{scope_column}
use Rattle.ksql_scopes.proofs.Resolving as r
use Rattle.ksql_clauses.specs.Keys.{on_sides, equated_sides, is_only_key, is_left_side, are_sides, key_sides}
use Rattle.expression_trees.proofs.Equality.{equal}
use Rattle.ksql_analyse.proofs.forms.Meant.{meant-known}
use Rattle.ksql_analyse.proofs.forms.Resolution.{IsName}
use Rattle.ksql_analyse.proofs.sound.SoundColumns.{name-or-not}
use Rattle.ksql_analyse.proofs.forms.Stood.{stood-name}

-- ---- names

same-form : (q p : Option (List ℕ)) (name other : List ℕ) → e.Name q name ≡ e.Name p other → (q ≡ p) × (name ≡ other)
same-form q p name other k =
    let z : Expr-F.Name q name ≡ Expr-F.Name p other = sym (e.outs-Name q name) ∙ ap out-Expr k ∙ e.outs-Name p other in
    (cc (z), cc (z))

-- what isn't a name resolves to none
at-form : (s : Scope) (a : Expr) (z : Expr-F Expr WhenText) → a ≡ roll-Expr z → ((q : Option (List ℕ)) (name : List ℕ) → a ≡ e.Name q name → ⊥)
    → (p : Option (List ℕ)) (other : List ℕ) → resolved s a ≡ e.Name p other → ⊥
at-form s a (Expr-F.Name q name) is not p other k = not q name (is ∙ e.rolls-Name q name)
at-form s a (Expr-F.Digits number) is not p other k = cc (sym k ∙ ap (resolved s) (is ∙ e.rolls-Digits number) ∙ r.resolved-Digits s number)
at-form s a (Expr-F.Text content) is not p other k = cc (sym k ∙ ap (resolved s) (is ∙ e.rolls-Text content) ∙ r.resolved-Text s content)
at-form s a (Expr-F.Truth b) is not p other k = cc (sym k ∙ ap (resolved s) (is ∙ e.rolls-Truth b) ∙ r.resolved-Truth s b)
at-form s a Expr-F.Null is not p other k = cc (sym k ∙ ap (resolved s) (is ∙ e.rolls-Null) ∙ r.resolved-Null s)
at-form s a (Expr-F.Sign m x) is not p other k = cc (sym k ∙ ap (resolved s) (is ∙ e.rolls-Sign m x) ∙ r.resolved-Sign s m x)
at-form s a (Expr-F.Binary o x y) is not p other k = cc (sym k ∙ ap (resolved s) (is ∙ e.rolls-Binary o x y) ∙ r.resolved-Binary s o x y)
at-form s a (Expr-F.Not x) is not p other k = cc (sym k ∙ ap (resolved s) (is ∙ e.rolls-Not x) ∙ r.resolved-Not s x)
at-form s a (Expr-F.IsNull m x) is not p other k = cc (sym k ∙ ap (resolved s) (is ∙ e.rolls-IsNull m x) ∙ r.resolved-IsNull s m x)
at-form s a (Expr-F.Between m x y z) is not p other k = cc (sym k ∙ ap (resolved s) (is ∙ e.rolls-Between m x y z) ∙ r.resolved-Between s m x y z)
at-form s a (Expr-F.OneOf m x es) is not p other k = cc (sym k ∙ ap (resolved s) (is ∙ e.rolls-OneOf m x es) ∙ r.resolved-OneOf s m x es)
at-form s a (Expr-F.Like m x t) is not p other k = cc (sym k ∙ ap (resolved s) (is ∙ e.rolls-Like m x t) ∙ r.resolved-Like s m x t)
at-form s a (Expr-F.Cast x to) is not p other k = cc (sym k ∙ ap (resolved s) (is ∙ e.rolls-Cast x to) ∙ r.resolved-Cast s x to)
at-form s a (Expr-F.Case x ws z) is not p other k = cc (sym k ∙ ap (resolved s) (is ∙ e.rolls-Case x ws z) ∙ r.resolved-Case s x ws z)
at-form s a (Expr-F.Call f star es) is not p other k = cc (sym k ∙ ap (resolved s) (is ∙ e.rolls-Call f star es) ∙ r.resolved-Call s f star es)

pub was-name : (s : Scope) (a : Expr) (p : Option (List ℕ)) (other : List ℕ) → resolved s a ≡ e.Name p other → IsName a
was-name s a p other k = at (name-or-not a)
  where
    at : IsName a ⊎ ((q : Option (List ℕ)) (name : List ℕ) → a ≡ e.Name q name → ⊥) → IsName a
    at (inl is) = is
    at (inr not) = absurd (at-form s a (out-Expr a) (sym (roll-out-Expr a)) not p other k)

-- the first that passes does
pub first-passes : {A : Type 0} (p : A → Bool) (xs : List A) (y : A) (ys : List A) → filter p xs ≡ y ∷ ys → (j : ℕ) × (slice_get xs j ≡ Some y) × (p y ≡ true)
first-passes p [] y ys h = absurd (cc (h))
first-passes p (x ∷ xs) y ys h = at (p x) refl h (first-passes p xs y ys)
  where
    at : (b : Bool) → p x ≡ b → (if b then x ∷ filter p xs else filter p xs) ≡ y ∷ ys → (filter p xs ≡ y ∷ ys → (j : ℕ) × (slice_get xs j ≡ Some y) × (p y ≡ true))
        → (j : ℕ) × (slice_get (x ∷ xs) j ≡ Some y) × (p y ≡ true)
    at true e k rest = let z : x ≡ y = cc (k) in (0, ap Some z, ap p (sym z) ∙ e)
    at false e k rest = let g = rest k in (suc g.0, g.1, g.2)

-- a column whose name after its relation's alias a name resolves to is known by that name
pub known-by : (s : Scope) (q : Option (List ℕ)) (name alias : List ℕ) (c : Column) → full_name s q name ≡ e.Name (Some alias) c.name
    → is_known_as q name (scope_column alias c) ≡ true
known-by s q name alias c h = at (filter (is_known_as q name) s.columns) refl h
  where
    itself : (t : List ℕ) → bytes_eq t t ≡ true
    itself t = (bytes_eq-Decides t t).1 refl

    qualified : (p : Option (List ℕ)) → is_qualified q p ≡ true → p ≡ Some alias → is_qualified q (Some alias) ≡ true
    qualified p k l = subst (λ x. is_qualified q x ≡ true) l k

    named : name ≡ c.name → bytes_eq c.name name ≡ true
    named k = (bytes_eq-Decides c.name name).1 (sym k)

    written : (b : Bool) → (if b then e.Name None name else e.Name q name) ≡ e.Name (Some alias) c.name → is_known_as q name (scope_column alias c) ≡ true
    written true k = absurd (cc ((same-form None (Some alias) name c.name k).0))
    written false k =
        let z = same-form q (Some alias) name c.name k in
        and_from (is_qualified q (Some alias)) (bytes_eq c.name name) (subst (λ x. is_qualified x (Some alias) ≡ true) (sym z.0) (itself alias)) (named z.1)

    at : (cs : List ScopeColumn) → filter (is_known_as q name) s.columns ≡ cs → written_for s q name cs ≡ e.Name (Some alias) c.name
        → is_known_as q name (scope_column alias c) ≡ true
    at [] f k = written (is_row_time s q name) k
    at (d ∷ cs) f k =
        let g = first-passes (is_known_as q name) s.columns d cs f in
        let z = same-form d.alias (Some alias) name c.name k in
        let b = and_parts (is_qualified q d.alias) (bytes_eq d.column.name name) g.2 in
        and_from (is_qualified q (Some alias)) (bytes_eq c.name name) (qualified d.alias b.0 z.0) (named z.1)

-- ---- the only key column of a relation

pub record IsOnlyKey (s : Scope) (k : Known) (a : Expr) : Type 0 where
  pub column : Column
  pub keys : k.relation.schema.keys ≡ column ∷ []
  pub is : resolved s a ≡ e.Name (Some k.alias) column.name

with_keys : Known → List Column → Known
with_keys k cs = record k { relation = record k.relation { schema = record k.relation.schema { keys = cs } } }

pub only-key : (s : Scope) (k : Known) (a : Expr) → is_only_key s k a ≡ true → IsOnlyKey s k a
unfolding with_keys
only-key s k a h = at k.relation.schema.keys refl
  where
    at : (cs : List Column) → k.relation.schema.keys ≡ cs → IsOnlyKey s k a
    at [] g = absurd (false≢true (ap (λ cs. is_only_key s (with_keys k cs) a) (sym g) ∙ h))
    at (c ∷ []) g = record { column = c; keys = g; is = equal (resolved s a) (e.Name (Some k.alias) c.name) (ap (λ cs. is_only_key s (with_keys k cs) a) (sym g) ∙ h) }
    at (c ∷ d ∷ cs) g = absurd (false≢true (ap (λ cs. is_only_key s (with_keys k cs) a) (sym g) ∙ h))

-- its tree is that column
pub key-tree : (s : Scope) (k : Known) (a : Expr) (o : IsOnlyKey s k a) (i : ℕ) → slice_get s.columns i ≡ Some (scope_column k.alias o.column) → (x : Typed)
    → Stands s (st.one a x) → (t : Option SqlType) × (x ≡ of t (n.Column i))
key-tree s k a o i at x h =
    let is = was-name s a (Some k.alias) o.column.name o.is in
    let g = stood-name s a x is.qualifier is.name is.is h in
    let known = known-by s is.qualifier is.name k.alias o.column (sym (r.resolved-Name s is.qualifier is.name) ∙ sym (ap (resolved s) is.is) ∙ o.is) in
    let m = meant-known s is.qualifier is.name g.0 g.1 g.2 i (scope_column k.alias o.column) at known in
    (Some g.1, g.3 ∙ ap (of (Some g.1)) m.0)

-- and its type that column's
pub key-type : (s : Scope) (k : Known) (a : Expr) (o : IsOnlyKey s k a) (i : ℕ) → slice_get s.columns i ≡ Some (scope_column k.alias o.column) → (t : Option SqlType)
    → HasType s a t → t ≡ Some o.column.ty
key-type s k a o i at t h =
    let is = was-name s a (Some k.alias) o.column.name o.is in
    let g = stood-name s a h.0 is.qualifier is.name is.is h.1 in
    let known = known-by s is.qualifier is.name k.alias o.column (sym (r.resolved-Name s is.qualifier is.name) ∙ sym (ap (resolved s) is.is) ∙ o.is) in
    sym h.2 ∙ ap (λ y. y.ty) g.3 ∙ ap Some (meant-known s is.qualifier is.name g.0 g.1 g.2 i (scope_column k.alias o.column) at known).1

-- ---- the sides of ON

pub record AreSides (s : Scope) (l r : Known) (sides : Option (Expr × Expr)) (a : Expr) : Type 0 where
  pub other : Expr
  pub left : is_left_side s l a ≡ true
  pub right : is_only_key s r other ≡ true
  pub are : (sides ≡ Some (a, other)) ⊎ (sides ≡ Some (other, a))

sides-where : (s : Scope) (l r : Known) (x y : Expr) (key : Expr × Expr) (b c : Bool) → are_sides s l r x y ≡ b → are_sides s l r y x ≡ c
    → (if b then Some (x, y) else if c then Some (y, x) else None) ≡ Some key → AreSides s l r (Some (x, y)) key.0
sides-where s l r x y key true c k m h =
    let z : x ≡ key.0 = ap (λ p. p.0) (same_Some (x, y) key h) in
    let both = and_parts (is_left_side s l x) (is_only_key s r y) k in
    record { other = y; left = subst (λ o. is_left_side s l o ≡ true) z both.0; right = both.1; are = inl (ap (λ o. Some (o, y)) z) }
sides-where s l r x y key false true k m h =
    let z : y ≡ key.0 = ap (λ p. p.0) (same_Some (y, x) key h) in
    let both = and_parts (is_left_side s l y) (is_only_key s r x) m in
    record { other = x; left = subst (λ o. is_left_side s l o ≡ true) z both.0; right = both.1; are = inr (ap (λ o. Some (x, o)) z) }
sides-where s l r x y key false false k m h = absurd (cc (h))

pub sides-are : (s : Scope) (l r : Known) (sides : Option (Expr × Expr)) (key : Expr × Expr) → key_sides s l r sides ≡ Some key → AreSides s l r sides key.0
sides-are s l r None key h = absurd (cc (h))
sides-are s l r (Some sides) key h =
    sides-where s l r sides.0 sides.1 key (are_sides s l r sides.0 sides.1) (are_sides s l r sides.1 sides.0) refl refl h

-- the sides are those of an equation
sides-form : (z : Expr-F Expr WhenText) (x y : Expr) → equated_sides z ≡ Some (x, y) → z ≡ Expr-F.Binary op.Eq x y
sides-form (Expr-F.Binary op.Eq a b) x y h =
    let p : (a, b) ≡ (x, y) = same_Some (a, b) (x, y) h in
    ap₂ (λ c d. Expr-F.Binary op.Eq c d) (ap (λ c. c.0) p) (ap (λ c. c.1) p)
sides-form z x y h = absurd (cc (h))

pub equation-is : (on x y : Expr) → on_sides on ≡ Some (x, y) → on ≡ e.Binary op.Eq x y
equation-is on x y h = sym (roll-out-Expr on) ∙ ap roll-Expr (sides-form (out-Expr on) x y h) ∙ e.rolls-Binary op.Eq x y
