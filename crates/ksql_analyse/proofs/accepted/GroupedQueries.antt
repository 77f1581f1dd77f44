-- The shape of an accepted grouped query.
use Rattle.std.proofs.Common.{◌≡◌, ℕ, Bool, true, false, not, ◌&&◌, ◌||◌, List, [], ◌∷◌, length, is_some, refl, ap, ap₂, sym, ◌∙◌, subst}
use Rattle.std.specs.Prelude.{option_map, is_none}
use Rattle.std.proofs.lemmas.List.{length-map}
use Rattle.std.proofs.lemmas.List.Elements.{All-from_recursion}
use Rattle.std.specs.List.{list_any, AllByRecursion as Each}
use Rattle.ksql_types.specs.declared.relation.Relation.{Relation}
use Rattle.expression_trees.specs.declared.tree.Expr.{Expr}
use Rattle.statement_trees.specs.declared.tree.Property.{Property}
use Rattle.statement_trees.specs.declared.tree.Select.{Select}
use Rattle.ksql_scopes.specs.declared.scope.Scope.{Scope}
use Rattle.ksql_clauses.specs.declared.items.Named.{Named}
use Rattle.ksql_clauses.specs.declared.sources.Known.{Known}
use Rattle.ksql_clauses.specs.Items.{result_columns}
use Rattle.ksql_scopes.specs.Resolved.{resolved}
use Rattle.ksql_clauses.specs.Sources.{from_scope, item_scope, there, joined_streams, late_exprs}
use Rattle.aggregate_rules.specs.Grouping.{has_bare_column}
use Rattle.ksql_clauses.specs.Keys.{key_columns}
use Rattle.ksql_rules.specs.Breaks.{group_exprs, shown_exprs, is_grouped, is_stream_join, has_stream_side, is_not_on_key}
use Rattle.ksql_clauses.specs.Keys.{needs, alone, key_places}
use Rattle.ksql_rules.specs.Limits.{IsQueryWithin}
use Rattle.ksql_analyse.specs.Few.{CallsFew}
use Rattle.ksql_analyse.specs.Judgement.{aggregate_exprs, exprs}
use Rattle.ksql_analyse.specs.Typable.{IsTypable, IsValued, IsAggregable, IsGroupTypable, IsQueryTypable}
use Rattle.ksql_analyse.proofs.lists.Distinct.{or-false}
use Rattle.ksql_analyse.proofs.accepted.FewAggregates.{few-columns}
use Rattle.ksql_analyse.proofs.accepted.PlainColumns.{HasPlainColumns}
use Rattle.ksql_analyse.proofs.accepted.Refusals.{KeepsQuery}
use Rattle.ksql_analyse.proofs.sound.SoundColumns.{AreKeys, keys-are, each-weaker}
use Rattle.ksql_analyse.proofs.sound.SoundPlain.{same-one}
use Rattle.ksql_analyse.proofs.sound.SoundQuery.{keys-hold}
use Rattle.ksql_analyse.proofs.sound.SoundTrees.{each-both}
use Rattle.ksql_analyse.proofs.accepted.TypedQueries as typing
use Rattle.ksql_analyse.proofs.forms.Widening.{seen-same}

-- each key's column is its own
alone-are : (es : List Expr) (cs : List Named) → AreKeys (alone es) cs → exprs cs ≡ es
alone-are [] [] h = refl
alone-are [] (c ∷ cs) h = absurd h
alone-are (a ∷ es) [] h = absurd h
alone-are (a ∷ es) (c ∷ cs) h = ap₂ (λ x xs. x ∷ xs) (same-one c a h.0) (alone-are es cs h.1)

-- ---- what is decided

where-grouped : (g a p b : Bool) → g ≡ true → (g && (a || p || b)) ≡ false → p ≡ false
where-grouped true a p b e h = (or-false a p (or-false (a || p) b h).0).1
where-grouped false a p b e h = absurd (cc (e))

where-keyed : (s t n g p v : Bool) → s ≡ false → n ≡ false → p ≡ false → (not s && not (t && n) && not (g && p) && v) ≡ false → v ≡ false
where-keyed true t n g p v e f h k = absurd (cc (e))
where-keyed false t true g p v e f h k = absurd (cc (f))
where-keyed false t n g true v e f h k = absurd (cc (h))
where-keyed false true false true false v e f h k = k
where-keyed false true false false false v e f h k = k
where-keyed false false false true false v e f h k = k
where-keyed false false false false false v e f h k = k

empty-group : (q : Select) → q.group ≡ [] → is_grouped q ≡ true → ⊥
empty-group q is h = let e : is_grouped q ≡ false = ap (λ gs. is_grouped (record q { group = gs })) is in let z : true ≡ false = sym h ∙ e in cc

-- ---- the query

module _ (catalog : List Relation) (table : Bool) (name : List ℕ) (ps : List Property) (q : Select) (ks : List Known)
    (keeps : KeepsQuery catalog table name ps q ks) (within : IsQueryWithin q)
    (from_plain : HasPlainColumns (from_scope q ks)) (item_plain : HasPlainColumns (item_scope q ks))
    (calls_few : Each CallsFew (late_exprs q)) (grouped : is_grouped q ≡ true) where
  abbrev front : Scope
  front = from_scope q ks

  abbrev items : Scope
  items = item_scope q ks

  abbrev groups : List Expr
  groups = group_exprs q ks

  abbrev aggs : List Expr
  aggs = aggregate_exprs q ks

  undivided : is_some q.partition ≡ false
  undivided = where-grouped (is_grouped q) _ (is_some q.partition) (list_any (has_bare_column groups) (shown_exprs q ks)) grouped keeps.grouped

  -- the key's columns are the group expressions
  needs-are : needs q ks ≡ alone groups
  needs-are = at q.group refl
    where
      at : (gs : List Expr) → q.group ≡ gs → needs q ks ≡ alone groups
      at [] is = absurd (empty-group q is grouped)
      at (g ∷ gs) is =
          subst (λ hs. needs (record q { group = hs }) ks ≡ alone (group_exprs (record q { group = hs }) ks)) (sym is) refl

  keyed : list_any is_none (key_places q ks) ≡ false
  keyed =
      where-keyed (is_stream_join (joined_streams ks)) (has_stream_side (joined_streams ks)) (is_not_on_key q ks) (is_grouped q) (is_some q.partition)
      (list_any is_none (key_places q ks)) keeps.no_streams keeps.on_key undivided keeps.keyed

  pub keys-are-groups : exprs (key_columns q ks) ≡ groups
  keys-are-groups =
      let columns = result_columns q ks in
      let found = keys-are columns (needs q ks) keyed in
      alone-are groups (key_columns q ks) (subst (λ ns. AreKeys ns (key_columns q ks)) needs-are found)

  -- the group expressions have the types of the key's columns
  group-valued : (a : Expr) → IsTypable front a × IsValued items a → IsValued front a
  group-valued a h =
      let same = seen-same front (is_some q.window) a h.0.tree h.1.typable.tree h.0.is h.1.typable.is in
      record { typable = h.0; value = ap (λ x. is_some x.ty) same ∙ h.1.value }

  groups-valued : Each (IsValued front) groups
  groups-valued =
      each-weaker (λ a. IsTypable front a × IsValued items a) (IsValued front) group-valued groups
      (each-both (IsTypable front) (IsValued items) groups (typing.groups-typable catalog table name ps q ks keeps within from_plain item_plain)
      (subst (Each (IsValued items)) keys-are-groups
      (keys-hold (IsValued items) q ks (typing.columns-valued catalog table name ps q ks keeps within from_plain item_plain))))

  pub group-typable : IsGroupTypable q ks
  group-typable = record {
    keyed = sym (length-map (key_columns q ks) (λ (c : Named). c.expr)) ∙ ap length keys-are-groups;
    keys = All-from_recursion (IsValued front) groups groups-valued;
    aggregates = All-from_recursion (IsAggregable items) aggs (typing.aggregates-typable catalog table name ps q ks keeps within from_plain item_plain);
    having = All-from_recursion (IsTypable items) (there (option_map (resolved items) q.having))
        (typing.having-typable catalog table name ps q ks keeps within from_plain item_plain);
    few = few-columns catalog table name ps q ks keeps calls_few;
  }

-- every expression of an accepted query has a typed tree
module _ (catalog : List Relation) (table : Bool) (name : List ℕ) (ps : List Property) (q : Select) (ks : List Known)
    (keeps : KeepsQuery catalog table name ps q ks) (within : IsQueryWithin q)
    (from_plain : HasPlainColumns (from_scope q ks)) (item_plain : HasPlainColumns (item_scope q ks))
    (calls_few : Each CallsFew (late_exprs q)) where
  pub query-typable : IsQueryTypable q ks
  query-typable = record {
    filter = All-from_recursion (IsTypable (from_scope q ks)) (there q.filter) (typing.filter-typable catalog table name ps q ks keeps within from_plain item_plain);
    columns = All-from_recursion (λ c. IsValued (item_scope q ks) c.expr) (result_columns q ks)
        (typing.columns-valued catalog table name ps q ks keeps within from_plain item_plain);
    grouped = group-typable catalog table name ps q ks keeps within from_plain item_plain calls_few;
  }
