-- A grouped query makes a sound relation.
use Rattle.std.proofs.Common.{◌≡◌, ℕ, ◌≤◌, ◌<◌, arith, Bool, true, false, not, ◌||◌, if◌then◌else◌, List, [], ◌∷◌, ◌++◌, length, map, Option, Some, None, is_some, refl, ap, sym, ◌∙◌, subst}
use Rattle.std.specs.Prelude.{option_map, codes}
use Rattle.std.specs.List.{list_any, AllByRecursion as Each}
use Rattle.std.proofs.lemmas.Bool.{ltb-false, ltb-true}
use Rattle.std.proofs.lemmas.List.{append-nil, length-map}
use Rattle.std.proofs.lemmas.List.Elements.{recursion_from_All}
use Rattle.ksql_types.specs.declared.relation.Kind.{Kind}
use Rattle.ksql_types.specs.declared.relation.Kind.TheVariants as kind
use Rattle.ksql_types.specs.declared.relation.Relation.{Relation}
use Rattle.ksql_types.specs.declared.value.SqlType.{SqlType}
use Rattle.ksql_types.specs.declared.value.SqlType.TheVariants as sql
use Rattle.expression_trees.specs.declared.tree.Expr.{Expr}
use Rattle.statement_trees.specs.declared.tree.Property.{Property}
use Rattle.statement_trees.specs.declared.tree.Select.{Select}
use Rattle.statement_trees.specs.declared.tree.StatementBody.TheVariants.{Query}
use Rattle.statement_trees.specs.declared.tree.WindowText.{WindowText}
use Rattle.ksql_expr.specs.declared.typed.Typed.{Typed}
use Rattle.ksql_expr.specs.declared.typed.TypedNode.{TypedNode}
use Rattle.ksql_expr.specs.Rules.{fits}
use Rattle.ksql_program.specs.declared.program.Item.{Item}
use Rattle.ksql_program.specs.declared.query.Agg.{Agg}
use Rattle.ksql_program.specs.declared.query.From.{From}
use Rattle.ksql_program.specs.declared.query.Shape.TheVariants as shape
use Rattle.ksql_types.specs.declared.relation.Window.{Window}
use Rattle.ksql_types.specs.Names.{is_among}
use Rattle.ksql_program.specs.Sound as sound
use Rattle.ksql_program.specs.Sound.{AreColumns, IsWindowed, IsCondition, Makes, window_types, grouped_kind}
use Rattle.ksql_scopes.specs.declared.scope.Scope.{Scope}
use Rattle.ksql_scopes.specs.Uses.{IsSmall, calls}
use Rattle.ksql_typing.specs.Standing.{CanBeTrue}
use Rattle.aggregate_rules.specs.Grouping.{has_aggregate, has_nested_aggregate, has_bare_column, aggregates_of, ordered_aggregates}
use Rattle.ksql_clauses.specs.declared.items.Named.{Named}
use Rattle.ksql_clauses.specs.declared.sources.Known.{Known}
use Rattle.ksql_clauses.specs.Items.{result_columns}
use Rattle.ksql_scopes.specs.Resolved.{resolved}
use Rattle.ksql_clauses.specs.Sources.{from_scope, item_scope, from_columns, reads_stream, late_exprs, there}
use Rattle.ksql_clauses.specs.Windows.{window_of, is_bad}
use Rattle.ksql_clauses.specs.Keys.{value_columns}
use Rattle.ksql_rules.specs.Breaks.{is_grouped, group_exprs, shown_exprs, is_bad_window, has_large_window, IfThere}
use Rattle.ksql_rules.specs.Limits.{IsQueryWithin}
use Rattle.grouped_expressions.specs.Grouped.{after}
use Rattle.ksql_analyse.specs.Judgement.{IsShape, IsResult, IsTypedPart, aggregate_exprs, exprs, grouped_columns}
use Rattle.ksql_analyse.proofs.forms.Handing.{IsFlat, CallsNone}
use Rattle.ksql_analyse.proofs.forms.Once.{IsAmong}
use Rattle.ksql_analyse.proofs.accepted.Refusals.{KeepsQuery, stated, not-not, or-three}
use Rattle.ksql_analyse.proofs.forms.ResolvedTypes.{resolved-type}
use Rattle.ksql_analyse.proofs.sound.SoundGroup.{window-sound, shown-hold, shown-name, shown-resolved, some-aggregates, shown-among, aggregates-fit, aggs-length, aggs-sound, after-sound, all-ready, columns-after, IsShown}
use Rattle.ksql_analyse.proofs.forms.PlacedTrees.{grouping, trees, types-are}
use Rattle.ksql_analyse.proofs.forms.ReadyForms as forms
use Rattle.ksql_analyse.proofs.forms.Reserved.{AreSound, reserved-nowhere}
use Rattle.ksql_analyse.proofs.sound.SoundPlain.{plain-resolved}
use Rattle.ksql_analyse.proofs.sound.SoundQuery.{IsRead, early-plain, group-part, values-hold}
use Rattle.ksql_analyse.proofs.sound.SoundTrees.{IsPlain, stable, type-is, columns-sound, each-both, each-false, each-front, each-behind}
use Rattle.ksql_analyse.proofs.forms.TreesAfter.{IsGrouping, kept-type}
use Rattle.ksql_analyse.proofs.sound.SoundPlain.{typed_column}
use Rattle.ksql_analyse.proofs.lists.Distinct.{and-false}
use Rattle.ksql_analyse.proofs.sound.SoundColumns.{each-map, each-of-map, each-weaker}
use Rattle.ksql_analyse.proofs.forms.Timeless.{scope-over}
use Rattle.ksql_analyse.proofs.forms.ValuedTrees.{trees-counted}

each-zip : {A : Type 0} (C : Type 0) (P Q : A → Type 0) (R : C → A → Type 0) (xs : List A) → Each P xs → Each Q xs → ((c : C) → Each (R c) xs)
    → Each (λ x. P x × Q x × ((c : C) → R c x)) xs
each-zip C P Q R [] k l m = tt
each-zip C P Q R (x ∷ xs) k l m = ((k.0, l.0, λ c. (m c).0), each-zip C P Q R xs k.1 l.1 (λ c. (m c).1))

module _ (before : List Item) (catalog : List Relation) (table : Bool) (name : List ℕ) (ps : List Property) (q : Select) (ks : List Known)
    (keeps : KeepsQuery catalog table name ps q ks) (within : IsQueryWithin q) (relations : AreSound ks) (g : is_grouped q ≡ true) where
  abbrev s : Scope
  s = item_scope q ks

  abbrev aggs : List Expr
  aggs = aggregate_exprs q ks

  parts : (not (list_any has_aggregate (late_exprs q)) ≡ false) × (is_some q.partition ≡ false) × (list_any (has_bare_column (group_exprs q ks)) (shown_exprs q ks) ≡ false)
  parts = or-three (not (list_any has_aggregate (late_exprs q))) (is_some q.partition) (list_any (has_bare_column (group_exprs q ks)) (shown_exprs q ks))
      (and-false (is_grouped q) (not (list_any has_aggregate (late_exprs q)) || is_some q.partition || list_any (has_bare_column (group_exprs q ks)) (shown_exprs q ks)) g keeps.grouped)

  -- what is shown
  shown : Each (IsShown (reads_stream ks)) (shown_exprs q ks)
  shown =
      shown-hold q ks keeps.few (IsShown (reads_stream ks)) (λ alias n. shown-name (reads_stream ks) (Some alias) n) (shown-resolved (reads_stream ks) s)
      (each-zip (reads_stream ks ≡ false) IsFlat IsSmall (λ c a. CallsNone (is_among ordered_aggregates) a) (late_exprs q)
      (each-false has_nested_aggregate (late_exprs q) keeps.late_flat) (recursion_from_All IsSmall (late_exprs q) within.late_small)
      (λ m. each-false (λ a. list_any (is_among ordered_aggregates) (calls a)) (late_exprs q)
      (and-false (not (reads_stream ks)) (list_any (λ a. list_any (is_among ordered_aggregates) (calls a)) (late_exprs q)) (ap not m) keeps.over_table)))

  among : Each (λ a. Each (IsAmong aggs) (aggregates_of a)) (shown_exprs q ks)
  among = shown-among q ks keeps.few

  small : Each IsSmall (shown_exprs q ks)
  small = each-weaker (IsShown (reads_stream ks)) IsSmall (λ a k. k.1) (shown_exprs q ks) shown

  of-having : (P : Expr → Type 0) → Each P (shown_exprs q ks) → Each P (there (option_map (resolved s) q.having))
  of-having P h = each-behind P (map (λ (c : Named). c.expr) (result_columns q ks)) (there (option_map (resolved s) q.having)) h

  ready : Each (λ a. forms.IsReady (group_exprs q ks) aggs a × IsSmall a) (shown_exprs q ks)
  ready =
      each-both (forms.IsReady (group_exprs q ks) aggs) IsSmall (shown_exprs q ks)
      (all-ready (group_exprs q ks) aggs (shown_exprs q ks) (each-false (has_bare_column (group_exprs q ks)) (shown_exprs q ks) parts.2) among) small

  -- the window
  windowed : (o : Option WindowText) → q.window ≡ o → (over : Kind) → (if reads_stream ks then kind.Stream else kind.Table) ≡ over → IsWindowed over (option_map window_of o)
  windowed None h over k = tt
  windowed (Some w) h over k =
      let bad = or-three (not (is_grouped q)) (not (reads_stream ks)) (is_bad w) (sym (ap (λ o. is_bad_window (record q { window = o }) ks) h) ∙ keeps.window) in
      let large = sym (ap has_large_window h) ∙ keeps.window_small in
      (window-sound w bad.2 large, sym k ∙ ap (λ b. if b then kind.Stream else kind.Table) (not-not (reads_stream ks) bad.1))

  window-added : (o : Option WindowText) → (if is_some o then Some sql.Big ∷ Some sql.Big ∷ [] else []) ≡ window_types (option_map window_of o)
  window-added None = refl
  window-added (Some w) = refl

  kind-added : (o : Option WindowText) → (if is_some o then kind.Windowed else kind.Table) ≡ grouped_kind (option_map window_of o)
  kind-added None = refl
  kind-added (Some w) = refl

  pub makes-grouped : (f : From) (keys values : List Typed) (window : Option Window) (gs : List Agg) (having : Option Typed) (number : ℕ) (out : Relation) (read : IsRead before q ks f)
      → IsShape q ks (shape.Group keys window gs having values) → IsResult number (stated table name (Query ps q)) ps q ks (shape.Group keys window gs having values) out
      → Makes read.left read.types (shape.Group keys window gs having values) out
  makes-grouped f keys values window gs having number out read h r =
      let xs : List Typed = h.3.0 in
      let ats : List (Option SqlType) = map (λ (x : Typed). x.ty) xs in
      let all : List (Option SqlType) = map (λ (x : Typed). x.ty) keys ++ ats ++ window_types window in
      let row : map typed_column (from_columns q ks) ≡ read.types = sym (append-nil (map typed_column (from_columns q ks))) ∙ read.scoped in
      let columns : List TypedNode = grouped_columns s keys gs in
      let rows : map (λ (x : Typed). x.ty) (trees q ks keys gs h.2 h.3 relations) ≡ all =
      types-are s keys xs gs h.3.2 ∙ ap (λ ts. map (λ (x : Typed). x.ty) keys ++ ats ++ ts) (window-added q.window ∙ ap window_types (sym h.1)) in
      let places : IsGrouping s (group_exprs q ks) aggs columns all = subst (IsGrouping s (group_exprs q ks) aggs columns) rows (grouping q ks keys gs h.2 h.3 relations) in
      let groups = trees-counted (from_scope q ks) (group_exprs q ks) keys h.2 in
      let some-groups : 0 < length q.group = ltb-true 0 (length q.group) g in
      let few-groups : length q.group ≤ 8 = ltb-false 8 (length q.group) keeps.few_groups in
      let same-length : length (group_exprs q ks) ≡ length q.group = length-map q.group (resolved (from_scope q ks)) in
      sound.grouped ats (omega arith) (omega arith)
      (columns-sound read.left.kind (from_scope q ks) (scope-over (from_scope q ks) read.left.kind read.kinded) read.types read.scoped (group_exprs q ks) keys out.schema.keys
      (each-map IsPlain (resolved (from_scope q ks)) q.group
      (each-weaker IsPlain (λ a. IsPlain (resolved (from_scope q ks) a)) (plain-resolved (from_scope q ks)) q.group
      (group-part IsPlain q (early-plain q keeps.early_plain within)))) h.2 r.keyed.1)
      (aggs-length xs gs s aggs h.3.1 h.3.2 (some-aggregates q ks keeps.few (not-not (list_any has_aggregate (late_exprs q)) parts.0)))
      (aggs-sound read.left.kind s read.types row read.kinded aggs xs gs h.3.1 h.3.2 (aggregates-fit q ks keeps.few (reads_stream ks) shown))
      (subst (IsWindowed read.left.kind) (sym h.1) (windowed q.window refl read.left.kind read.kinded))
      (subst (IsCondition (grouped_kind window) all) (sym h.4.2) (condition (grouped_kind window) columns all places q.having refl h.4.0 h.4.1))
      (subst (λ vs. AreColumns (grouped_kind window) all vs out.schema.values) (sym h.5.2)
      (columns-after (grouped_kind window) s (group_exprs q ks) aggs columns all places (exprs (value_columns q ks)) h.5.0 out.schema.values
      (values-hold (λ a. forms.IsReady (group_exprs q ks) aggs a × IsSmall a) q ks
      (each-of-map (λ a. forms.IsReady (group_exprs q ks) aggs a × IsSmall a) (λ (c : Named). c.expr) (result_columns q ks)
      (each-front (λ a. forms.IsReady (group_exprs q ks) aggs a × IsSmall a) (map (λ (c : Named). c.expr) (result_columns q ks)) (there (option_map (resolved s) q.having)) ready)))
      h.5.1 (r.valued.1 ∙ ap (map (λ (x : Typed). x.ty)) h.5.2)))
      (r.kinded ∙ ap (λ (b : Bool). if b then (if is_some q.window then kind.Windowed else kind.Table) else if reads_stream ks then kind.Stream else kind.Table) g
      ∙ kind-added q.window ∙ ap grouped_kind (sym h.1))
    where
      condition : (over : Kind) (columns : List TypedNode) (all : List (Option SqlType)) → IsGrouping s (group_exprs q ks) aggs columns all → (o : Option Expr) → q.having ≡ o
          → (x : Option Typed) → IsTypedPart s (option_map (resolved s) o) x → IsCondition over all (option_map (after columns) x)
      condition over columns all places None e None v = tt
      condition over columns all places None e (Some x) v = absurd v
      condition over columns all places (Some a) e None v = absurd v
      condition over columns all places (Some a) e (Some x) v =
          let here : there (option_map (resolved s) q.having) ≡ resolved s a ∷ [] = ap (λ o. there (option_map (resolved s) o)) e in
          let fit = (subst (Each (λ b. forms.IsReady (group_exprs q ks) aggs b × IsSmall b)) here
          (of-having (λ b. forms.IsReady (group_exprs q ks) aggs b × IsSmall b) ready)).0 in
          let no-time = reserved-nowhere q ks (codes "ROWTIME") refl refl relations in (
            after-sound over s (group_exprs q ks) aggs columns all places (resolved s a) x fit.0 fit.1 v,
            ap (fits sql.Bool) (kept-type columns x)
                ∙ stable (fits sql.Bool x.ty) (λ never. keeps.typed (λ t.
                let can : CanBeTrue s a = subst (IfThere (CanBeTrue s)) e t.having_true in
                never (ap (fits sql.Bool) (type-is s (resolved s a) x can.0 v (resolved-type s no-time a can.0 can.1)) ∙ can.2))),
          )
