-- What the typed tree of an expression contains, given what the expression contains: aggregates, long texts and
-- columns.
use Rattle.std.proofs.Common.{◌≡◌, ℕ, ◌+◌, Bool, true, false, ◌&&◌, ◌||◌, if◌then◌else◌, List, [], ◌∷◌, ◌++◌, map, length, Option, None, Some, is_some, nat_le, nat_lt, pos, refl, ap, ap₂, sym, ◌∙◌, subst, inl, inr}
use Rattle.std.specs.List.{list_any, list_all}
use Rattle.std.proofs.lemmas.Bool.{both_ways, le-ltb, leb-true}
use Rattle.std.proofs.lemmas.List.Folds.{list_any-append, list_all-append}
use Rattle.ksql_types.specs.declared.value.SqlType.{SqlType}
use Rattle.ksql_types.specs.declared.value.SqlType.TheVariants as sql
use Rattle.ksql_types.specs.declared.value.Value.{Value}
use Rattle.ksql_types.specs.declared.value.Value.TheVariants as value
use Rattle.expression_trees.specs.declared.tree.Expr.{Expr}
use Rattle.expression_trees.specs.declared.tree.Expr.TheVariants as e
use Rattle.ksql_expr.specs.declared.typed.AggFun.{AggFun}
use Rattle.ksql_expr.specs.declared.typed.AggFun.TheVariants.{CountAll, Count}
use Rattle.ksql_expr.specs.declared.typed.Typed.{Typed}
use Rattle.ksql_expr.specs.declared.typed.TypedNode.{TypedNode}
use Rattle.ksql_expr.specs.declared.typed.TypedNode.TheVariants as n
use Rattle.ksql_expr.specs.declared.typed.TypedNode.TheOpen.{TypedNode-F}
use Rattle.ksql_expr.specs.Aggregates.{holds, is_aggregate as is_aggregate_node, is_long_text, is_column, holds_aggregate, holds_long_text, holds_column, HoldsNoAggregate, HoldsShortTexts, HoldsColumn}
use Rattle.ksql_expr.specs.Typing.{of}
use Rattle.ksql_scopes.specs.declared.scope.Scope.{Scope}
use Rattle.ksql_scopes.specs.Functions.{is_aggregate, is_unknown}
use Rattle.ksql_scopes.specs.Scope.{meanings}
use Rattle.ksql_scopes.specs.Uses.{Use, names, calls, is_small, IsSmall, are_small, are_whens_small, is_small_perhaps, all_of, in_aggregate, small_step}
use Rattle.ksql_scopes.specs.Uses as uses
use Rattle.ksql_scopes.proofs.Disjoint.{no-aggregate}
use Rattle.ksql_scopes.proofs.Disjoint as disjoint
use Rattle.ksql_scopes.proofs.Equations as q
use Rattle.expression_trees.proofs.Folds as folds
use Rattle.expression_trees.proofs.Folds.{perhaps_folded}
use Rattle.std.proofs.lemmas.Bool.{and_from, and_parts}
use Rattle.ksql_scopes.proofs.Small as small
use Rattle.ksql_typing.specs.Standing as st
use Rattle.ksql_typing.specs.Standing.{Pair, Stands, IsTypedTree, digits_type, digits_value, one, perhaps, each, whens}
use Rattle.ksql_typing.proofs.Known.{Known, one-known, two-known, three-known, call-known}
use Rattle.ksql_analyse.proofs.forms.Holding as hold
use Rattle.ksql_analyse.proofs.forms.Holding.{each_holds, whens_hold, part_holds}
use Rattle.ksql_analyse.proofs.forms.Meant.{IsMeant, meant}
use Rattle.ksql_analyse.proofs.lists.Distinct.{or-false}

-- a test of a form of typed trees
abbrev Leaf : Type 0
Leaf = TypedNode-F Bool Bool Bool → Bool

-- whether there is a member
abbrev pub some : {A : Type 0} → List A → Bool
some [] = false
some (x ∷ xs) = true

pub some-append : {A : Type 0} (xs ys : List A) → some (xs ++ ys) ≡ (some xs || some ys)
some-append [] ys = refl
some-append (x ∷ xs) ys = refl

none-of : (cs ds : List (List ℕ)) → list_any is_aggregate (cs ++ ds) ≡ false → (list_any is_aggregate cs ≡ false) × (list_any is_aggregate ds ≡ false)
none-of cs ds h = or-false (list_any is_aggregate cs) (list_any is_aggregate ds) (sym (list_any-append is_aggregate cs ds) ∙ h)

all-of : {A : Type 0} (test : A → Bool) (xs ys : List A) → list_all test (xs ++ ys) ≡ true → (list_all test xs ≡ true) × (list_all test ys ≡ true)
all-of test xs ys h = and_parts (list_all test xs) (list_all test ys) (sym (list_all-append test xs ys) ∙ h)

-- a column that is too far
abbrev pub reach : (ℕ → Bool) → Leaf
reach far (TypedNode-F.Column i) = far i
reach far form = false

abbrev pub plain_use : Option (List ℕ) → List ℕ → Use
plain_use qualifier name = record { within = false; qualifier = qualifier; name = name }

-- ---- literals and patterns that keep their limits

pub short-digits : (number : ℕ) → is_long_text (TypedNode-F.Literal (digits_value number)) ≡ false
short-digits number = at (nat_le number 2147483647)
  where
    at : (b : Bool) → is_long_text (TypedNode-F.Literal (if b then value.Int (pos number) else value.Big (pos number))) ≡ false
    at true = refl
    at false = refl

pub text-small : (content : List ℕ) → IsSmall (e.Text content) → nat_lt 65536 (length content) ≡ false
unfolding is_small
text-small content h =
    le-ltb 65536 (length content) (leb-true (length content) 65536 (sym (folds.fold-Text Bool Bool small_step (λ w. w.cond && w.result) content) ∙ h))

pattern-small : (m : Bool) (a : Expr) (pattern : List ℕ) → IsSmall (e.Like m a pattern) → nat_le (length pattern) 65536 ≡ true
unfolding is_small
pattern-small m a pattern h =
    (and_parts (is_small a) (nat_le (length pattern) 65536) (sym (folds.fold-Like Bool Bool small_step (λ w. w.cond && w.result) m a pattern) ∙ h)).1

pub pattern-short : (m : Bool) (a : Expr) (pattern : List ℕ) → IsSmall (e.Like m a pattern) → nat_lt 65536 (length pattern) ≡ false
pattern-short m a pattern h = le-ltb 65536 (length pattern) (leb-true (length pattern) 65536 (pattern-small m a pattern h))

-- which columns are too far, and which names don't stand for such a column
module _ (far : ℕ → Bool) (ok : Use → Bool) where
  -- what is held, where these functions are called, these names stand and literals keep their limits or don't
  pub record Bears (cs : List (List ℕ)) (us : List Use) (small : Bool) (held : Leaf → Bool) : Type 0 where
    pub aggregates : list_any is_aggregate cs ≡ false → held is_aggregate_node ≡ false
    pub texts : small ≡ true → held is_long_text ≡ false
    pub columns : list_any is_aggregate cs ≡ false → held is_column ≡ some us
    pub near : list_any is_aggregate cs ≡ false → list_all ok us ≡ true → held (reach far) ≡ false

  nothing : (m : Bool) → Bears [] [] m (λ leaf. false)
  nothing m = record { aggregates = λ k. refl; texts = λ k. refl; columns = λ k. refl; near = λ k l. refl }

  both : (cs ds : List (List ℕ)) (us vs : List Use) (m o : Bool) (held kept : Leaf → Bool) → Bears cs us m held → Bears ds vs o kept
      → Bears (cs ++ ds) (us ++ vs) (m && o) (λ leaf. held leaf || kept leaf)
  both cs ds us vs m o held kept k l = record {
    aggregates = λ c. let r = none-of cs ds c in ap₂ (λ a b. a || b) (k.aggregates r.0) (l.aggregates r.1);
    texts = λ c. let r = and_parts m o c in ap₂ (λ a b. a || b) (k.texts r.0) (l.texts r.1);
    columns = λ c. let r = none-of cs ds c in ap₂ (λ a b. a || b) (k.columns r.0) (l.columns r.1) ∙ sym (some-append us vs);
    near = λ c d. let r = none-of cs ds c in let u = all-of ok us vs d in ap₂ (λ a b. a || b) (k.near r.0 u.0) (l.near r.1 u.1);
  }

  moved : (cs ds : List (List ℕ)) (us vs : List Use) (m o : Bool) (held kept : Leaf → Bool) → ds ≡ cs → vs ≡ us → (o ≡ true → m ≡ true)
      → ((leaf : Leaf) → kept leaf ≡ held leaf) → Bears cs us m held → Bears ds vs o kept
  moved cs ds us vs m o held kept c u s e k = record {
    aggregates = λ l. e is_aggregate_node ∙ k.aggregates (ap (list_any is_aggregate) (sym c) ∙ l);
    texts = λ l. e is_long_text ∙ k.texts (s l);
    columns = λ l. e is_column ∙ k.columns (ap (list_any is_aggregate) (sym c) ∙ l) ∙ ap some (sym u);
    near = λ l d. e (reach far) ∙ k.near (ap (list_any is_aggregate) (sym c) ∙ l) (ap (list_all ok) (sym u) ∙ d);
  }

  -- a call of an aggregate
  of-aggregate : (f : List ℕ) (found : AggFun) (cs ds : List (List ℕ)) (us : List Use) (m : Bool) (held : Leaf → Bool) → is_aggregate f ≡ true → ds ≡ f ∷ cs
      → held is_long_text ≡ false → Bears ds us m held
  of-aggregate f found cs ds us m held g e texts = record { aggregates = λ k. never k; texts = λ k. texts; columns = λ k. never k; near = λ k l. never k }
    where
      never : {A : Type 0} → list_any is_aggregate ds ≡ false → A
      never k =
          let l : (is_aggregate f || list_any is_aggregate cs) ≡ false = ap (list_any is_aggregate) (sym e) ∙ k in
          absurd (cc (g, (or-false (is_aggregate f) (list_any is_aggregate cs) l).0))

  -- a call of a function of values
  of-call : (f : List ℕ) (cs ds : List (List ℕ)) (us vs : List Use) (m o : Bool) (held kept : Leaf → Bool) → ds ≡ f ∷ cs → vs ≡ us → (o ≡ true → m ≡ true)
      → ((leaf : Leaf) → kept leaf ≡ held leaf) → Bears cs us m held → Bears ds vs o kept
  of-call f cs ds us vs m o held kept c u s e k = record {
    aggregates = λ l. e is_aggregate_node ∙ k.aggregates (behind l);
    texts = λ l. e is_long_text ∙ k.texts (s l);
    columns = λ l. e is_column ∙ k.columns (behind l) ∙ ap some (sym u);
    near = λ l d. e (reach far) ∙ k.near (behind l) (ap (list_all ok) (sym u) ∙ d);
  }
    where
      behind : list_any is_aggregate ds ≡ false → list_any is_aggregate cs ≡ false
      behind l = (or-false (is_aggregate f) (list_any is_aggregate cs) (ap (list_any is_aggregate) (sym c) ∙ l)).1

  -- ---- leaves

  of-literal : (t : Option SqlType) (x : Value) (m : Bool) → (m ≡ true → is_long_text (TypedNode-F.Literal x) ≡ false) → Bears [] [] m (λ leaf. holds leaf (of t (n.Literal x)))
  of-literal t x m h = record {
    aggregates = λ k. hold.holds-Literal is_aggregate_node t x;
    texts = λ k. hold.holds-Literal is_long_text t x ∙ h k;
    columns = λ k. hold.holds-Literal is_column t x;
    near = λ k l. hold.holds-Literal (reach far) t x;
  }

  -- a LIKE without its operand
  of-pattern : (m : Bool) (pattern : List ℕ) (x : Leaf → Bool) → Bears [] [] (nat_le (length pattern) 65536) (λ leaf. leaf (TypedNode-F.Like m (x leaf) pattern))
  of-pattern m pattern x = record {
    aggregates = λ k. refl;
    texts = λ k. le-ltb 65536 (length pattern) (leb-true (length pattern) 65536 k);
    columns = λ k. refl;
    near = λ k l. refl;
  }

  -- a form is no column that is too far
  abbrev pub IsNear : TypedNode → Type 0
  IsNear form = (i : ℕ) → form ≡ n.Column i → far i ≡ false

  -- in a scope, names that aren't far stand for no far column
  abbrev pub AreNear : Scope → Type 0
  AreNear s = (qualifier : Option (List ℕ)) (name : List ℕ) (form : TypedNode) (t : SqlType) → ok (plain_use qualifier name) ≡ true
      → meanings s qualifier name ≡ (form, t) ∷ [] → IsNear form

  column-held : (t : Option SqlType) (i : ℕ) (u : Use) (m : Bool) → (ok u ≡ true → IsNear (n.Column i)) → Bears [] (u ∷ []) m (λ leaf. holds leaf (of t (n.Column i)))
  column-held t i u m near = record {
    aggregates = λ k. hold.holds-Column is_aggregate_node t i;
    texts = λ k. hold.holds-Column is_long_text t i;
    columns = λ k. hold.holds-Column is_column t i;
    near = λ k l. hold.holds-Column (reach far) t i ∙ near (and_parts (ok u) true l).0 i refl;
  }

  time-held : (t : Option SqlType) (u : Use) (m : Bool) → Bears [] (u ∷ []) m (λ leaf. holds leaf (of t n.RowTime))
  time-held t u m = record {
    aggregates = λ k. hold.holds-RowTime is_aggregate_node t;
    texts = λ k. hold.holds-RowTime is_long_text t;
    columns = λ k. hold.holds-RowTime is_column t;
    near = λ k l. hold.holds-RowTime (reach far) t;
  }

  form-held : (t : Option SqlType) (form other : TypedNode) (u : Use) (m : Bool) → form ≡ other → Bears [] (u ∷ []) m (λ leaf. holds leaf (of t other))
      → Bears [] (u ∷ []) m (λ leaf. holds leaf (of t form))
  form-held t form other u m k = subst (λ x. Bears [] (u ∷ []) m (λ leaf. holds leaf (of t x))) (sym k)

  of-name : (s : Scope) (qualifier : Option (List ℕ)) (found : List ℕ) (form : TypedNode) (meaning : SqlType) (t : Option SqlType) (u : Use) (m : Bool)
      → IsMeant s qualifier found form meaning → (ok u ≡ true → IsNear form) → Bears [] (u ∷ []) m (λ leaf. holds leaf (of t form))
  of-name s qualifier found form meaning t u m (inl k) near =
      form-held t form (n.Column k.index) u m k.is (column-held t k.index u m (λ l. subst IsNear k.is (near l)))
  of-name s qualifier found form meaning t u m (inr (inl k)) near = form-held t form n.RowTime u m k.is (time-held t u m)
  of-name s qualifier found form meaning t u m (inr (inr k)) near =
      form-held t form (n.Column (length s.columns + k.behind)) u m k.is (column-held t (length s.columns + k.behind) u m (λ l. subst IsNear k.is (near l)))

  -- ---- each part

  abbrev BearsPart : Pair → Type 0
  BearsPart (one a x) = Bears (calls a) (names a) (is_small a) (λ leaf. holds leaf x)
  BearsPart (perhaps a x) = Bears (uses.perhaps (perhaps_folded calls a)) (uses.perhaps (perhaps_folded names a)) (is_small_perhaps a) (λ leaf. part_holds leaf x)
  BearsPart (each es xs) = Bears (all_of (map calls es)) (all_of (map names es)) (are_small es) (λ leaf. each_holds leaf xs)
  BearsPart (whens ws ys) = Bears (all_of (map q.calls_when ws)) (all_of (map q.names_when ws)) (are_whens_small ws) (λ leaf. whens_hold leaf ys)

  plain-call : (f : List ℕ) (us : List Use) → is_aggregate f ≡ false → (if is_aggregate f then map in_aggregate us else us) ≡ us
  plain-call f us g = ap (λ (b : Bool). if b then map in_aggregate us else us) g

  pub bears : {s : Scope} {p : Pair} → AreNear s → Stands s p → Known p → BearsPart p
  bears w (st.digits {number = number}) u =
      moved [] _ [] _ (is_small (e.Digits number)) (is_small (e.Digits number)) _ _ (q.calls-Digits number) (q.names-Digits number) (λ k. k) (λ leaf. refl)
      (of-literal (Some (digits_type number)) (digits_value number) _ (λ k. short-digits number))
  bears w (st.text {content = content}) u =
      moved [] _ [] _ (is_small (e.Text content)) (is_small (e.Text content)) _ _ (q.calls-Text content) (q.names-Text content) (λ k. k) (λ leaf. refl)
      (of-literal (Some sql.Text) (value.Txt content) _ (text-small content))
  bears w (st.truth {b = b}) u =
      moved [] _ [] _ (is_small (e.Truth b)) (is_small (e.Truth b)) _ _ (q.calls-Truth b) (q.names-Truth b) (λ k. k) (λ leaf. refl)
      (of-literal (Some sql.Bool) (value.Bool b) _ (λ k. refl))
  bears w st.null u =
      moved [] _ [] _ (is_small e.Null) (is_small e.Null) _ _ q.calls-Null q.names-Null (λ k. k) (λ leaf. refl)
      (of-literal None value.Null _ (λ k. refl))
  bears {s} w (st.name {q = qualifier} {found = found} {form = form} {t = t} k) h =
      let u : Use = record { within = false; qualifier = qualifier; name = found } in
      moved [] _ (u ∷ []) _ (is_small (e.Name qualifier found)) (is_small (e.Name qualifier found)) _ _ (q.calls-Name qualifier found) (q.names-Name qualifier found) (λ l. l) (λ leaf. refl)
      (of-name s qualifier found form t (Some t) u _ (meant s qualifier found form t k) (λ l. w qualifier found form t l k))
  bears w (st.sign {minus = minus} {a = a} {x = x} {t = t} k r) u =
      moved (calls a) _ (names a) _ (is_small a) _ (λ leaf. holds leaf x) _ (q.calls-Sign minus a) (q.names-Sign minus a)
      (λ l. small.small-Sign (e.Sign minus a) l minus a refl) (λ leaf. hold.holds-Sign leaf (Some t) minus x) (bears w k (one-known (q.calls-Sign minus a) u))
  bears w (st.binary {o = o} {a = a} {b = b} {x = x} {y = y} {t = t} k l r) u =
      let known = two-known (calls a) (calls b) (q.calls-Binary o a b) u in
      moved (calls a ++ calls b) _ (names a ++ names b) _ (is_small a && is_small b) _ (λ leaf. holds leaf x || holds leaf y) _ (q.calls-Binary o a b) (q.names-Binary o a b)
      (λ c. let r = small.small-Binary (e.Binary o a b) c o a b refl in and_from (is_small a) (is_small b) r.0 r.1) (λ leaf. hold.holds-Binary leaf (Some t) o x y)
      (both (calls a) (calls b) (names a) (names b) (is_small a) (is_small b) (λ leaf. holds leaf x) (λ leaf. holds leaf y) (bears w k known.0) (bears w l known.1))
  bears w (st.not {a = a} {x = x} k r) u =
      moved (calls a) _ (names a) _ (is_small a) _ (λ leaf. holds leaf x) _ (q.calls-Not a) (q.names-Not a)
      (λ l. small.small-Not (e.Not a) l a refl) (λ leaf. hold.holds-Not leaf (Some sql.Bool) x) (bears w k (one-known (q.calls-Not a) u))
  bears w (st.is_null {negated = m} {a = a} {x = x} k) u =
      moved (calls a) _ (names a) _ (is_small a) _ (λ leaf. holds leaf x) _ (q.calls-IsNull m a) (q.names-IsNull m a)
      (λ l. small.small-IsNull (e.IsNull m a) l m a refl) (λ leaf. hold.holds-IsNull leaf (Some sql.Bool) m x) (bears w k (one-known (q.calls-IsNull m a) u))
  bears w (st.between {negated = m} {a = a} {low = b} {high = c} {x = x} {y = y} {z = z} k l j r) u =
      let known = three-known (calls a) (calls b) (calls c) (q.calls-Between m a b c) u in
      moved (calls a ++ calls b ++ calls c) _ (names a ++ names b ++ names c) _ (is_small a && is_small b && is_small c) _
      (λ leaf. holds leaf x || holds leaf y || holds leaf z) _ (q.calls-Between m a b c) (q.names-Between m a b c)
      (λ d. let r = small.small-Between (e.Between m a b c) d m a b c refl in and_from (is_small a && is_small b) (is_small c) (and_from (is_small a) (is_small b) r.0 r.1) r.2)
      (λ leaf. hold.holds-Between leaf (Some sql.Bool) m x y z)
      (both (calls a ++ calls b) (calls c) (names a ++ names b) (names c) (is_small a && is_small b) (is_small c) (λ leaf. holds leaf x || holds leaf y) (λ leaf. holds leaf z)
      (both (calls a) (calls b) (names a) (names b) (is_small a) (is_small b) (λ leaf. holds leaf x) (λ leaf. holds leaf y) (bears w k known.0) (bears w l known.1)) (bears w j known.2))
  bears w (st.one_of {negated = m} {a = a} {es = es} {x = x} {xs = xs} k l r) u =
      let known = two-known (calls a) (all_of (map calls es)) (q.calls-OneOf m a es) u in
      moved (calls a ++ all_of (map calls es)) _ (names a ++ all_of (map names es)) _ (is_small a && are_small es) _ (λ leaf. holds leaf x || each_holds leaf xs) _
      (q.calls-OneOf m a es) (q.names-OneOf m a es)
      (λ d. let r = small.small-OneOf (e.OneOf m a es) d m a es refl in and_from (is_small a) (are_small es) r.0 r.1) (λ leaf. hold.holds-OneOf leaf (Some sql.Bool) m x xs)
      (both (calls a) (all_of (map calls es)) (names a) (all_of (map names es)) (is_small a) (are_small es) (λ leaf. holds leaf x) (λ leaf. each_holds leaf xs) (bears w k known.0) (bears w l known.1))
  bears w (st.like {negated = m} {a = a} {pattern = pattern} {x = x} k r) u =
      moved (calls a) _ (names a) _ (nat_le (length pattern) 65536 && is_small a) _ (λ leaf. leaf (TypedNode-F.Like m (holds leaf x) pattern) || holds leaf x) _
      (q.calls-Like m a pattern) (q.names-Like m a pattern)
      (λ l. and_from (nat_le (length pattern) 65536) (is_small a) (pattern-small m a pattern l) (small.small-Like (e.Like m a pattern) l m a pattern refl))
      (λ leaf. hold.holds-Like leaf (Some sql.Bool) m x pattern)
      (both [] (calls a) [] (names a) (nat_le (length pattern) 65536) (is_small a) (λ leaf. leaf (TypedNode-F.Like m (holds leaf x) pattern)) (λ leaf. holds leaf x)
      (of-pattern m pattern (λ leaf. holds leaf x)) (bears w k (one-known (q.calls-Like m a pattern) u)))
  bears w (st.cast {a = a} {to = to} {x = x} k r) u =
      moved (calls a) _ (names a) _ (is_small a) _ (λ leaf. holds leaf x) _ (q.calls-Cast a to) (q.names-Cast a to)
      (λ l. small.small-Cast (e.Cast a to) l a to refl) (λ leaf. hold.holds-Cast leaf (Some to) x to) (bears w k (one-known (q.calls-Cast a to) u))
  bears w (st.case {operand = a} {otherwise = b} {ws = ws} {x = x} {z = z} {ys = ys} {t = t} k l j r) u =
      let known = three-known (uses.perhaps (perhaps_folded calls a)) (all_of (map q.calls_when ws)) (uses.perhaps (perhaps_folded calls b)) (q.calls-Case a ws b) u in
      moved (uses.perhaps (perhaps_folded calls a) ++ all_of (map q.calls_when ws) ++ uses.perhaps (perhaps_folded calls b)) _
      (uses.perhaps (perhaps_folded names a) ++ all_of (map q.names_when ws) ++ uses.perhaps (perhaps_folded names b)) _
      (is_small_perhaps a && are_whens_small ws && is_small_perhaps b) _ (λ leaf. part_holds leaf x || whens_hold leaf ys || part_holds leaf z) _
      (q.calls-Case a ws b) (q.names-Case a ws b)
      (λ d. let r = small.small-Case (e.Case a ws b) d a ws b refl in
      and_from (is_small_perhaps a && are_whens_small ws) (is_small_perhaps b) (and_from (is_small_perhaps a) (are_whens_small ws) r.0 r.1) r.2)
      (λ leaf. hold.holds-Case leaf t x ys z)
      (both (uses.perhaps (perhaps_folded calls a) ++ all_of (map q.calls_when ws)) (uses.perhaps (perhaps_folded calls b))
      (uses.perhaps (perhaps_folded names a) ++ all_of (map q.names_when ws)) (uses.perhaps (perhaps_folded names b))
      (is_small_perhaps a && are_whens_small ws) (is_small_perhaps b) (λ leaf. part_holds leaf x || whens_hold leaf ys) (λ leaf. part_holds leaf z)
      (both (uses.perhaps (perhaps_folded calls a)) (all_of (map q.calls_when ws)) (uses.perhaps (perhaps_folded names a)) (all_of (map q.names_when ws))
      (is_small_perhaps a) (are_whens_small ws) (λ leaf. part_holds leaf x) (λ leaf. whens_hold leaf ys) (bears w k known.0) (bears w l known.1)) (bears w j known.2))
  bears w (st.call {f = f} {args = es} {found = found} {xs = xs} {t = t} g k r) u =
      of-call f (all_of (map calls es)) _ (all_of (map names es)) _ (are_small es) _ (λ leaf. each_holds leaf xs) _ (q.calls-Call f false es)
      (q.names-Call f false es ∙ plain-call f (all_of (map names es)) (ap is_some (no-aggregate f found g)))
      (λ l. small.small-Call (e.Call f false es) l f false es refl) (λ leaf. hold.holds-Call leaf t found xs) (bears w k (call-known f false es u).1)
  bears w (st.count_all {f = f} g) u =
      of-aggregate f Count [] _ _ _ _ (disjoint.is-aggregate f Count g) (q.calls-Call f true []) (hold.holds-CountAll is_long_text (Some sql.Big) CountAll)
  bears w (st.aggregate {f = f} {a = a} {found = found} {x = x} {t = t} g k r) u =
      of-aggregate f found (all_of (map calls (a ∷ []))) _ _ _ _ (disjoint.is-aggregate f found g) (q.calls-Call f false (a ∷ [])) (hold.holds-Aggregate is_long_text t found x)
  bears w (st.unknown {f = f} {star = star} {args = es} g k) u = absurd (both_ways (is_unknown f) (call-known f star es u).0 g)
  bears w st.left_out u = nothing true
  bears w (st.there k) u = bears w k u
  bears w st.none u = nothing true
  bears w (st.more {a = a} {es = es} {x = x} {xs = xs} k l) u =
      let known = two-known (calls a) (all_of (map calls es)) refl u in
      both (calls a) (all_of (map calls es)) (names a) (all_of (map names es)) (is_small a) (are_small es) (λ leaf. holds leaf x) (λ leaf. each_holds leaf xs) (bears w k known.0) (bears w l known.1)
  bears w st.no_when u = nothing true
  bears w (st.more_whens {w = v} {ws = ws} {y = y} {ys = ys} k l j) u =
      let known = two-known (q.calls_when v) (all_of (map q.calls_when ws)) refl u in
      let own = two-known (calls v.cond) (calls v.result) (q.calls-when v) known.0 in
      both (q.calls_when v) (all_of (map q.calls_when ws)) (q.names_when v) (all_of (map q.names_when ws)) (is_small v.cond && is_small v.result) (are_whens_small ws)
      (λ leaf. hold.when_holds leaf y) (λ leaf. whens_hold leaf ys)
      (moved (calls v.cond ++ calls v.result) _ (names v.cond ++ names v.result) _ (is_small v.cond && is_small v.result) _ (λ leaf. holds leaf y.cond || holds leaf y.result) _
      (q.calls-when v) (q.names-when v) (λ c. c) (λ leaf. hold.holds-when leaf y)
      (both (calls v.cond) (calls v.result) (names v.cond) (names v.result) (is_small v.cond) (is_small v.result) (λ leaf. holds leaf y.cond) (λ leaf. holds leaf y.result) (bears w k own.0) (bears w l own.1)))
      (bears w j known.1)

-- ---- what follows

pub no-aggregate-held : (s : Scope) (a : Expr) (x : Typed) → IsTypedTree s a x → list_any is_aggregate (calls a) ≡ false → HoldsNoAggregate x
unfolding holds_aggregate
no-aggregate-held s a x k h = (bears (λ i. false) (λ u. true) (λ qualifier name form t l m i o. refl) k.0 k.1).aggregates h

pub short-texts-held : (s : Scope) (a : Expr) (x : Typed) → IsTypedTree s a x → IsSmall a → HoldsShortTexts x
unfolding holds_long_text
short-texts-held s a x k h = (bears (λ i. false) (λ u. true) (λ qualifier name form t l m i o. refl) k.0 k.1).texts h

pub column-is-held : (s : Scope) (a : Expr) (x : Typed) → IsTypedTree s a x → list_any is_aggregate (calls a) ≡ false → some (names a) ≡ true → HoldsColumn x
unfolding holds_column
column-is-held s a x k h l = (bears (λ i. false) (λ u. true) (λ qualifier name form t l m i o. refl) k.0 k.1).columns h ∙ l
