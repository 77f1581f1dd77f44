-- The trees of the group expressions, of the aggregates and of the bounds of a window are the columns after a grouping.
use Rattle.std.proofs.Common.{◌≡◌, ℕ, suc, zero, ◌+◌, ◌<◌, arith, Bool, true, false, ◌&&◌, ◌||◌, if◌then◌else◌, List, [], ◌∷◌, ◌++◌, length, map, Option, Some, None, is_some, refl, ap, ap₂, sym, ◌∙◌, subst, inl, inr}
use Rattle.std.specs.Prelude.{slice_get, codes, bytes_eq}
use Rattle.std.specs.List.{AllByRecursion as Each}
use Rattle.std.proofs.lemmas.Bool.{false≢true}
use Rattle.std.proofs.lemmas.List.{append-nil, length-map, map-append}
use Rattle.std.proofs.lemmas.Option.{same_Some}
use Rattle.std.proofs.lemmas.Slice.Eq.{bytes_eq-Decides}
use Rattle.ksql_types.specs.declared.value.SqlType.{SqlType}
use Rattle.ksql_types.specs.declared.value.SqlType.TheVariants as sql
use Rattle.ksql_types.specs.Names.{is_among, reserved_columns}
use Rattle.expression_trees.specs.declared.tree.Expr.{Expr}
use Rattle.expression_trees.specs.declared.tree.Expr.TheVariants as e
use Rattle.statement_trees.specs.declared.tree.Select.{Select}
use Rattle.ksql_expr.specs.declared.typed.Typed.{Typed}
use Rattle.ksql_expr.specs.declared.typed.TypedNode.{TypedNode}
use Rattle.ksql_expr.specs.declared.typed.TypedNode.TheVariants as n
use Rattle.ksql_expr.specs.Typing as w
use Rattle.ksql_expr.specs.Typing.{HasTypes, of}
use Rattle.ksql_program.specs.declared.query.Agg.{Agg}
use Rattle.ksql_scopes.specs.declared.scope.Scope.{Scope}
use Rattle.ksql_scopes.specs.declared.scope.ScopeColumn.{ScopeColumn}
use Rattle.ksql_scopes.specs.Scope.{Meaning, column_types}
use Rattle.ksql_typing.specs.Standing.{IsTypedTree}
use Rattle.ksql_typing.proofs.OneTyping.{checked, one-tree}
use Rattle.aggregate_rules.specs.Grouping as exprs
use Rattle.aggregate_rules.specs.Grouping.{is_window_bound}
use Rattle.ksql_clauses.specs.declared.sources.Known.{Known}
use Rattle.ksql_clauses.specs.Sources.{from_scope, item_scope, from_columns}
use Rattle.ksql_rules.specs.Breaks.{group_exprs}
use Rattle.grouped_expressions.specs.Grouped.{place_from, place_among}
use Rattle.grouped_expressions.specs.Same.{same_form}
use Rattle.grouped_expressions.proofs.Equality.{equal, same}
use Rattle.ksql_analyse.specs.Judgement.{AreTypedTrees, AreAggs, agg_form, aggregate_exprs, bound_forms, grouped_columns}
use Rattle.ksql_analyse.proofs.lists.Appended.{behind-at, front-at}
use Rattle.ksql_analyse.proofs.forms.Meant.{IsMeant, meant}
use Rattle.ksql_analyse.proofs.forms.Once.{place-at}
use Rattle.ksql_typing.proofs.Inversion.{whole}
use Rattle.ksql_analyse.proofs.forms.Reserved.{AreSound, reserved-nowhere}
use Rattle.ksql_analyse.proofs.forms.ResolvedTypes.{HasNo}
use Rattle.ksql_analyse.proofs.sound.SoundColumns.{each-append}
use Rattle.ksql_analyse.proofs.forms.Stood.{stood-name}
use Rattle.ksql_analyse.proofs.forms.TreesAfter.{IsGrouping}
use Rattle.ksql_analyse.proofs.forms.Widening.{seen-same, widened}

-- ---- places among the forms of trees

module _ (cs : List (Option SqlType)) where
  abbrev AreTyped : List Typed → Type 0
  AreTyped xs = Each (λ x. HasTypes cs (w.one x)) xs

  -- a tree with the form of one of some trees has its type
  place-typed : (xs : List Typed) → AreTyped xs → (x : Typed) → HasTypes cs (w.one x) → (number i : ℕ) → place_from number (map (λ y. y.node) xs) x.node ≡ Some i
      → (j : ℕ) × (i ≡ number + j) × (slice_get (map (λ y. y.ty) xs) j ≡ Some x.ty)
  place-typed [] h x k number i is = absurd (cc (is))
  place-typed (y ∷ xs) h x k number i is = at (same_form y.node x.node) refl is (place-typed xs h.1 x k (suc number) i)
    where
      at : (b : Bool) → same_form y.node x.node ≡ b → (if b then Some number else place_from (suc number) (map (λ z. z.node) xs) x.node) ≡ Some i
          → (place_from (suc number) (map (λ z. z.node) xs) x.node ≡ Some i → (j : ℕ) × (i ≡ suc number + j) × (slice_get (map (λ z. z.ty) xs) j ≡ Some x.ty))
          → (j : ℕ) × (i ≡ number + j) × (slice_get (map (λ z. z.ty) (y ∷ xs)) j ≡ Some x.ty)
      at true one l rest = let z : number ≡ i = same_Some number i l in (0, omega arith, ap (λ v. Some v.ty) (whole cs y x h.0 k (equal y.node x.node one)))
      at false one l rest = let r = rest l in (suc r.0, omega (arith, r.1), r.2)

-- a form of one of some trees has a place among theirs
placed : (xs : List Typed) (j : ℕ) (y : Typed) (form : TypedNode) → slice_get xs j ≡ Some y → y.node ≡ form → (number : ℕ)
    → is_some (place_from number (map (λ z. z.node) xs) form) ≡ true
placed [] j y form at is number = absurd (cc (at))
placed (z ∷ xs) j y form at is number = here (same_form z.node form) refl j at (λ i l. placed xs i y form l is (suc number))
  where
    here : (b : Bool) → same_form z.node form ≡ b → (i : ℕ) → slice_get (z ∷ xs) i ≡ Some y
        → ((i : ℕ) → slice_get xs i ≡ Some y → is_some (place_from (suc number) (map (λ z. z.node) xs) form) ≡ true)
        → is_some (if b then Some number else place_from (suc number) (map (λ z. z.node) xs) form) ≡ true
    here true one i l rest = refl
    here false one zero l rest = absurd (false≢true (sym one ∙ same z.node form (ap (λ v. v.node) (same_Some z y l) ∙ is)))
    here false one (suc i) l rest = rest i l

-- the tree at the place of an expression
tree-at : (s : Scope) (es : List Expr) (xs : List Typed) (j : ℕ) (a : Expr) → AreTypedTrees s es xs → slice_get es j ≡ Some a
    → (x : Typed) × (slice_get xs j ≡ Some x) × IsTypedTree s a x
tree-at s [] xs j a h k = absurd (cc (k))
tree-at s (b ∷ es) [] j a h k = absurd h
tree-at s (b ∷ es) (x ∷ xs) zero a h k = (x, refl, subst (λ d. IsTypedTree s d x) (same_Some b a k) h.0)
tree-at s (b ∷ es) (x ∷ xs) (suc j) a h k = tree-at s es xs j a h.1 k

-- trees keep their types if there are more columns
each-typed : (s : Scope) (cs : List (Option SqlType)) → ((x : Typed) → HasTypes (column_types s) (w.one x) → HasTypes cs (w.one x)) → (es : List Expr) (xs : List Typed)
    → AreTypedTrees s es xs → Each (λ x. HasTypes cs (w.one x)) xs
each-typed s cs more [] [] h = tt
each-typed s cs more [] (x ∷ xs) h = absurd h
each-typed s cs more (a ∷ es) [] h = absurd h
each-typed s cs more (a ∷ es) (x ∷ xs) h = (more x (checked s a x h.0), each-typed s cs more es xs h.1)

-- ---- the bounds of a window

abbrev bound_tree : ℕ → Typed
bound_tree i = of (Some sql.Big) (n.Column i)

abbrev bound_trees : Scope → List Typed
bound_trees s = if s.windowed then bound_tree (length s.columns) ∷ bound_tree (length s.columns + 1) ∷ [] else []

bounds-formed : (s : Scope) → bound_forms s ≡ map (λ x. x.node) (bound_trees s)
bounds-formed s = at s.windowed
  where
    at : (b : Bool) → (if b then n.Column (length s.columns) ∷ n.Column (length s.columns + 1) ∷ [] else [])
        ≡ map (λ (x : Typed). x.node) (if b then bound_tree (length s.columns) ∷ bound_tree (length s.columns + 1) ∷ [] else [])
    at true = refl
    at false = refl

abbrev pub bound_types : Bool → List (Option SqlType)
bound_types windowed = if windowed then Some sql.Big ∷ Some sql.Big ∷ [] else []

bounds-types : (s : Scope) → map (λ x. x.ty) (bound_trees s) ≡ bound_types s.windowed
bounds-types s = at s.windowed
  where
    at : (b : Bool) → map (λ (x : Typed). x.ty) (if b then bound_tree (length s.columns) ∷ bound_tree (length s.columns + 1) ∷ [] else []) ≡ bound_types b
    at true = refl
    at false = refl

bounds-typed : (s : Scope) → Each (λ x. HasTypes (column_types s) (w.one x)) (bound_trees s)
bounds-typed s = at s.windowed
  where
    front : List (Option SqlType)
    front = map (λ c. Some c.column.ty) s.columns

    two : List (Option SqlType)
    two = Some sql.Big ∷ Some sql.Big ∷ []

    at-bound : (i j : ℕ) → i ≡ length s.columns + j → slice_get two j ≡ Some (Some sql.Big) → HasTypes (front ++ two) (w.one (bound_tree i))
    at-bound i j is h =
        let count : i ≡ length front + j = is ∙ ap (λ k. k + j) (sym (length-map s.columns (λ (c : ScopeColumn). Some c.column.ty))) in
        w.column (ap (slice_get (front ++ two)) count ∙ behind-at front two j ∙ h)

    at : (b : Bool) → Each (λ x. HasTypes (front ++ (if b then two else [])) (w.one x)) (if b then bound_tree (length s.columns) ∷ bound_tree (length s.columns + 1) ∷ [] else [])
    at true = (at-bound (length s.columns) 0 (omega arith) refl, (at-bound (length s.columns + 1) 1 refl refl, tt))
    at false = tt

bound-at : (s : Scope) (j : ℕ) → s.windowed ≡ true → j < 2 → slice_get (bound_trees s) j ≡ Some (bound_tree (length s.columns + j))
bound-at s j h less = ap (λ b. slice_get (if b then bound_tree (length s.columns) ∷ bound_tree (length s.columns + 1) ∷ [] else []) j) h ∙ at j less
  where
    at : (i : ℕ) → i < 2 → slice_get (bound_tree (length s.columns) ∷ bound_tree (length s.columns + 1) ∷ []) i ≡ Some (bound_tree (length s.columns + i))
    at zero l = let z : length s.columns ≡ length s.columns + 0 = omega arith in ap (λ k. Some (bound_tree k)) z
    at (suc zero) l = refl
    at (suc (suc i)) l = absurd (omega arith)

-- the name of a bound is reserved, and is not that of the row's time
bound-name : (name : List ℕ) → is_window_bound None name ≡ true
    → (is_among reserved_columns name ≡ true) × (bytes_eq (codes "ROWKEY") name ≡ false) × (bytes_eq name (codes "ROWTIME") ≡ false)
bound-name name k = at (bytes_eq name (codes "WINDOWSTART")) refl k
  where
    IsOther : List ℕ → Type 0
    IsOther other = (is_among reserved_columns other ≡ true) × (bytes_eq (codes "ROWKEY") other ≡ false) × (bytes_eq other (codes "ROWTIME") ≡ false)

    as-named : (other : List ℕ) → name ≡ other → IsOther other → IsOther name
    as-named other is = subst IsOther (sym is)

    at : (b : Bool) → bytes_eq name (codes "WINDOWSTART") ≡ b → (b || bytes_eq name (codes "WINDOWEND")) ≡ true → IsOther name
    at true m l = as-named (codes "WINDOWSTART") ((bytes_eq-Decides name (codes "WINDOWSTART")).0 m) (refl, refl, refl)
    at false m l = as-named (codes "WINDOWEND") ((bytes_eq-Decides name (codes "WINDOWEND")).0 l) (refl, refl, refl)

no-such : (name : List ℕ) (cs : List ScopeColumn) → HasNo name cs → (j : ℕ) (c : ScopeColumn) → slice_get cs j ≡ Some c → bytes_eq c.column.name name ≡ true → ⊥
no-such name [] k j c at m = cc (at)
no-such name (d ∷ cs) k zero c at m = false≢true (sym k.0 ∙ ap (λ z. bytes_eq z.column.name name) (same_Some d c at) ∙ m)
no-such name (d ∷ cs) k (suc j) c at m = no-such name cs k.1 j c at m

-- ---- the columns

module _ (s : Scope) (keys xs : List Typed) (gs : List Agg) (formed : map (λ x. x.node) xs ≡ map agg_form gs) where
  abbrev pub all : List Typed
  all = keys ++ xs ++ bound_trees s

  pub columns-are : grouped_columns s keys gs ≡ map (λ x. x.node) all
  columns-are =
      ap₂ (λ os bs. map (λ (x : Typed). x.node) keys ++ os ++ bs) (sym formed) (bounds-formed s)
      ∙ ap (λ os. os ++ map (λ (x : Typed). x.node) (bound_trees s)) (sym (map-append (λ (x : Typed). x.node) keys xs))
      ∙ sym (map-append (λ (x : Typed). x.node) (keys ++ xs) (bound_trees s))

  pub types-are : map (λ x. x.ty) all ≡ map (λ x. x.ty) keys ++ map (λ x. x.ty) xs ++ bound_types s.windowed
  types-are =
      map-append (λ (x : Typed). x.ty) (keys ++ xs) (bound_trees s)
      ∙ ap₂ (λ ts us. ts ++ us) (map-append (λ (x : Typed). x.ty) keys xs) (bounds-types s)

-- ---- of a query

module _ (q : Select) (ks : List Known) (keys : List Typed) (gs : List Agg) (are_keys : AreTypedTrees (from_scope q ks) (group_exprs q ks) keys)
    (are_aggs : AreAggs (item_scope q ks) (aggregate_exprs q ks) gs) (sound : AreSound ks) where
  abbrev s : Scope
  s = item_scope q ks

  abbrev xs : List Typed
  xs = are_aggs.0

  abbrev pub trees : List Typed
  trees = all s keys are_aggs.0 gs are_aggs.2

  abbrev columns : List TypedNode
  columns = grouped_columns s keys gs

  -- what has a place among the trees has one among the columns
  at-place : (j : ℕ) (y x : Typed) → slice_get trees j ≡ Some y → y.node ≡ x.node → is_some (place_among columns x.node) ≡ true
  at-place j y x at is = ap (λ os. is_some (place_among os x.node)) (columns-are s keys xs gs are_aggs.2) ∙ placed trees j y x.node at is 0

  all-typed : Each (λ x. HasTypes (column_types s) (w.one x)) trees
  all-typed =
      each-append (λ x. HasTypes (column_types s) (w.one x)) (keys ++ xs) (bound_trees s)
      (each-append (λ x. HasTypes (column_types s) (w.one x)) keys xs
      (each-typed (from_scope q ks) (column_types s) more (group_exprs q ks) keys are_keys)
      (each-typed s (column_types s) (λ x h. h) (aggregate_exprs q ks) xs are_aggs.1)) (bounds-typed s)
    where
      front : List (Option SqlType)
      front = map (λ c. Some c.column.ty) (from_columns q ks)

      more : (x : Typed) → HasTypes (column_types (from_scope q ks)) (w.one x) → HasTypes (column_types s) (w.one x)
      more x h = widened (bound_types s.windowed) (subst (λ cs. HasTypes cs (w.one x)) (append-nil front) h)

  typed : (x : Typed) (i : ℕ) → place_among columns x.node ≡ Some i → HasTypes (column_types s) (w.one x) → slice_get (map (λ y. y.ty) trees) i ≡ Some x.ty
  typed x i is k =
      let r = place-typed (column_types s) trees all-typed x k 0 i (sym (ap (λ os. place_among os x.node) (columns-are s keys xs gs are_aggs.2)) ∙ is) in
      let z : i ≡ r.0 = omega (arith, r.1) in
      ap (slice_get (map (λ (y : Typed). y.ty) trees)) z ∙ r.2

  group : (a : Expr) (x : Typed) (i : ℕ) → exprs.place_among (group_exprs q ks) a ≡ Some i → IsTypedTree s a x → is_some (place_among columns x.node) ≡ true
  group a x i found h =
      let p = place-at (group_exprs q ks) a 0 i found in
      let t = tree-at (from_scope q ks) (group_exprs q ks) keys p.0 a are_keys p.2 in
      let one : t.0 ≡ x = seen-same (from_scope q ks) s.windowed a t.0 x t.2 h in
      at-place p.0 t.0 x (front-at (keys ++ xs) (bound_trees s) p.0 t.0 (front-at keys xs p.0 t.0 t.1)) (ap (λ y. y.node) one)

  aggregate : (a : Expr) (x : Typed) (i : ℕ) → exprs.place_among (aggregate_exprs q ks) a ≡ Some i → IsTypedTree s a x → is_some (place_among columns x.node) ≡ true
  aggregate a x i found h =
      let p = place-at (aggregate_exprs q ks) a 0 i found in
      let t = tree-at s (aggregate_exprs q ks) xs p.0 a are_aggs.1 p.2 in
      let one : t.0 ≡ x = one-tree s a t.0 x t.2 h in
      at-place (length keys + p.0) t.0 x
      (front-at (keys ++ xs) (bound_trees s) (length keys + p.0) t.0 (behind-at keys xs p.0 ∙ t.1)) (ap (λ y. y.node) one)

  bound : (p : Option (List ℕ)) (name : List ℕ) (x : Typed) → is_window_bound p name ≡ true → IsTypedTree s (e.Name p name) x → is_some (place_among columns x.node) ≡ true
  bound (Some p) name x is h = absurd (cc (is))
  bound None name x is h =
      let g = stood-name s (e.Name None name) x None name refl h.0 in
      at g.0 g.1 (ap (λ y. y.node) g.3) (meant s None name g.0 g.1 g.2)
    where
      reserved : (is_among reserved_columns name ≡ true) × (bytes_eq (codes "ROWKEY") name ≡ false) × (bytes_eq name (codes "ROWTIME") ≡ false)
      reserved = bound-name name is

      now : Meaning
      now = (n.RowTime, sql.Big)

      no-time : (b v : Bool) → v ≡ false → (if b && v && true then now ∷ [] else []) ≡ []
      no-time true v m = ap (λ u. if true && u && true then now ∷ [] else []) m
      no-time false v m = refl

      at : (form : TypedNode) (t : SqlType) → x.node ≡ form → IsMeant s None name form t → is_some (place_among columns x.node) ≡ true
      at form t node (inl m) =
          absurd (no-such name (from_columns q ks) (reserved-nowhere q ks name reserved.0 reserved.1 sound) m.index m.found m.at m.known)
      at form t node (inr (inl m)) = absurd (cc (sym m.alone ∙ no-time s.stream (bytes_eq name (codes "ROWTIME")) reserved.2))
      at form t node (inr (inr m)) =
          at-place (length (keys ++ xs) + m.behind) (bound_tree (length s.columns + m.behind)) x
          (behind-at (keys ++ xs) (bound_trees s) m.behind ∙ bound-at s m.behind m.windowed m.two) (sym (node ∙ m.is))

  pub grouping : IsGrouping s (group_exprs q ks) (aggregate_exprs q ks) columns (map (λ x. x.ty) trees)
  grouping = record { typed = typed; group = group; aggregate = aggregate; bound = bound }
