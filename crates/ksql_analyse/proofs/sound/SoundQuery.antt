-- A query is sound, from what it reads, what it makes and its key.
use Rattle.std.proofs.Common.{◌≡◌, ℕ, ◌≤◌, Bool, true, false, not, ◌&&◌, ◌||◌, if◌then◌else◌, List, ◌++◌, length, Option, Some, is_some, ap, ◌∙◌}
use Rattle.std.specs.List.{list_any, flat_map, AllByRecursion as Each}
use Rattle.std.proofs.lemmas.List.Elements.{recursion_from_All}
use Rattle.ksql_types.specs.declared.relation.Kind.TheVariants as kind
use Rattle.ksql_types.specs.declared.relation.Relation.{Relation}
use Rattle.ksql_types.specs.declared.value.SqlType.{SqlType}
use Rattle.expression_trees.specs.declared.tree.Expr.{Expr}
use Rattle.statement_trees.specs.declared.tree.Property.{Property}
use Rattle.statement_trees.specs.declared.tree.Select.{Select}
use Rattle.statement_trees.specs.declared.tree.StatementBody.TheVariants.{Query}
use Rattle.ksql_expr.specs.declared.typed.Typed.{Typed}
use Rattle.ksql_program.specs.declared.program.Item.{Item}
use Rattle.ksql_program.specs.declared.query.From.{From}
use Rattle.ksql_program.specs.declared.query.Query.{Query as OneQuery}
use Rattle.ksql_program.specs.declared.query.Shape.TheVariants as shape
use Rattle.ksql_program.specs.Sound as sound
use Rattle.ksql_program.specs.Sound.{IsSoundRelation, IsSoundQuery, IsCondition, Reads, Makes, HasItsKey}
use Rattle.ksql_scopes.specs.Scope.{column_types}
use Rattle.ksql_scopes.specs.Uses.{IsSmall}
use Rattle.aggregate_rules.specs.Grouping.{has_aggregate}
use Rattle.ksql_clauses.specs.declared.items.Named.{Named}
use Rattle.ksql_clauses.specs.declared.sources.Known.{Known}
use Rattle.ksql_clauses.specs.Items.{result_columns}
use Rattle.ksql_clauses.specs.Sources.{from_scope, item_scope, reads_stream, on_exprs, early_exprs, late_exprs, item_exprs, there}
use Rattle.ksql_clauses.specs.Keys.{key_columns, value_columns}
use Rattle.ksql_rules.specs.Breaks.{is_grouped}
use Rattle.ksql_clauses.specs.Keys.{key_places, needs}
use Rattle.ksql_rules.specs.Limits.{IsQueryWithin}
use Rattle.ksql_analyse.specs.Judgement.{IsQuery, IsResult, IsShape, exprs, left_partitions}
use Rattle.ksql_analyse.proofs.accepted.Refusals.{KeepsQuery, stated}
use Rattle.ksql_analyse.proofs.sound.SoundColumns.{keys-each, besides-each, each-map}
use Rattle.ksql_analyse.proofs.sound.SoundPlain.{exprs-hold, plain-name, plain-resolved, item-types, no-window}
use Rattle.ksql_analyse.proofs.sound.SoundResult.{HasShortName, result-sound}
use Rattle.ksql_analyse.proofs.sound.SoundTrees.{IsPlain, columns-sound, condition-sound, each-false, each-both, each-front, each-behind}
use Rattle.ksql_analyse.proofs.lists.Distinct.{or-false, true-not}
use Rattle.ksql_analyse.proofs.forms.Timeless.{IsScopeOver, scope-over}

-- what a query reads, and what the rest of it needs to know of that
pub record IsRead (before : List Item) (q : Select) (ks : List Known) (f : From) : Type 0 where
  pub types : List (Option SqlType)
  pub left : Relation
  pub reads : Reads before f types left
  pub scoped : column_types (from_scope q ks) ≡ types
  pub kinded : (if reads_stream ks then kind.Stream else kind.Table) ≡ left.kind
  pub some_partition : 1 ≤ left_partitions ks
  pub few_partitions : left_partitions ks ≤ 64

-- ---- the expressions of a query

pub early-plain : (q : Select) → list_any has_aggregate (early_exprs q) ≡ false → IsQueryWithin q → Each IsPlain (early_exprs q)
early-plain q h w =
    each-both (λ a. has_aggregate a ≡ false) IsSmall (early_exprs q) (each-false has_aggregate (early_exprs q) h) (recursion_from_All IsSmall (early_exprs q) w.early_small)

-- ON, WHERE, GROUP BY and PARTITION BY
pub on-part : (P : Expr → Type 0) (q : Select) → Each P (early_exprs q) → Each P (on_exprs q)
on-part P q h =
    each-front P (on_exprs q) (there q.filter) (each-front P (on_exprs q ++ there q.filter) q.group (each-front P (on_exprs q ++ there q.filter ++ q.group) (there q.partition) h))

pub filter-part : (P : Expr → Type 0) (q : Select) → Each P (early_exprs q) → Each P (there q.filter)
filter-part P q h =
    each-behind P (on_exprs q) (there q.filter) (each-front P (on_exprs q ++ there q.filter) q.group (each-front P (on_exprs q ++ there q.filter ++ q.group) (there q.partition) h))

pub group-part : (P : Expr → Type 0) (q : Select) → Each P (early_exprs q) → Each P q.group
group-part P q h =
    each-behind P (on_exprs q ++ there q.filter) q.group (each-front P (on_exprs q ++ there q.filter ++ q.group) (there q.partition) h)

-- the items, and HAVING
pub items-part : (P : Expr → Type 0) (q : Select) → Each P (late_exprs q) → Each P (flat_map item_exprs q.items)
items-part P q h = each-front P (flat_map item_exprs q.items) (there q.having) h

pub having-part : (P : Expr → Type 0) (q : Select) → Each P (late_exprs q) → Each P (there q.having)
having-part P q h = each-behind P (flat_map item_exprs q.items) (there q.having) h

-- ---- shapes without a grouping

-- the columns of the key and the others, where something holds of all
pub keys-hold : (P : Expr → Type 0) (q : Select) (ks : List Known) → Each (λ c. P c.expr) (result_columns q ks) → Each P (exprs (key_columns q ks))
keys-hold P q ks h = each-map P (λ (c : Named). c.expr) (key_columns q ks) (keys-each (λ (c : Named). P c.expr) (result_columns q ks) h (needs q ks))

pub values-hold : (P : Expr → Type 0) (q : Select) (ks : List Known) → Each (λ c. P c.expr) (result_columns q ks) → Each P (exprs (value_columns q ks))
values-hold P q ks h = each-map P (λ (c : Named). c.expr) (value_columns q ks) (besides-each (λ (c : Named). P c.expr) (key_places q ks) (result_columns q ks) h)

ungrouped-late : (a b c : Bool) → a ≡ false → (not a && (b || c)) ≡ false → b ≡ false
ungrouped-late true b c h k = absurd (cc (h))
ungrouped-late false b c h k = (or-false b c k).0

module _ (before : List Item) (catalog : List Relation) (table : Bool) (name : List ℕ) (ps : List Property) (q : Select) (ks : List Known)
    (keeps : KeepsQuery catalog table name ps q ks) (within : IsQueryWithin q) where
  early : Each IsPlain (early_exprs q)
  early = early-plain q keeps.early_plain within

  pub columns-plain : is_grouped q ≡ false → Each (λ c. IsPlain c.expr) (result_columns q ks)
  columns-plain g =
      let none = ungrouped-late (is_grouped q) (list_any has_aggregate (late_exprs q)) (is_some q.having) g keeps.ungrouped in
      let late = each-both (λ a. has_aggregate a ≡ false) IsSmall (late_exprs q) (each-false has_aggregate (late_exprs q) none)
      (recursion_from_All IsSmall (late_exprs q) within.late_small) in
      exprs-hold IsPlain q ks (λ alias n. plain-name (Some alias) n) (plain-resolved (item_scope q ks)) keeps.few (items-part IsPlain q late)

  pub makes-plain : (f : From) (keys values : List Typed) (number : ℕ) (out : Relation) (read : IsRead before q ks f) → IsShape q ks (shape.Plain keys values)
      → IsResult number (stated table name (Query ps q)) ps q ks (shape.Plain keys values) out → Makes read.left read.types (shape.Plain keys values) out
  makes-plain f keys values number out read h r =
      let g = true-not (is_grouped q) h.0 in
      let plain = columns-plain g in
      let over : IsScopeOver read.left.kind (item_scope q ks) = scope-over (item_scope q ks) read.left.kind read.kinded in
      let same = item-types q ks (no-window q ks g keeps.window) ∙ read.scoped in
      sound.plain
      (columns-sound read.left.kind (item_scope q ks) over read.types same (exprs (key_columns q ks)) keys out.schema.keys (keys-hold IsPlain q ks plain) h.1 r.keyed.1)
      (columns-sound read.left.kind (item_scope q ks) over read.types same (exprs (value_columns q ks)) values out.schema.values (values-hold IsPlain q ks plain) h.2 r.valued.1)
      (r.kinded ∙ ap (λ (b : Bool). if b then (if is_some q.window then kind.Windowed else kind.Table) else if reads_stream ks then kind.Stream else kind.Table) g ∙ read.kinded)

  filter-sound : (number : ℕ) (made : OneQuery) (read : IsRead before q ks made.from) → IsQuery number (stated table name (Query ps q)) ps q ks made
      → IsCondition read.left.kind read.types made.filter
  filter-sound number made read h =
      condition-sound read.left.kind (from_scope q ks) (scope-over (from_scope q ks) read.left.kind read.kinded) read.types read.scoped q.filter made.filter h.filters
      (filter-part IsPlain q early) (λ no. keeps.typed (λ t. no t.where_true))

  -- the query and its relation
  pub query-sound : (number : ℕ) (made : OneQuery) (read : IsRead before q ks made.from) → IsQuery number (stated table name (Query ps q)) ps q ks made → length name ≤ 128
      → Each HasShortName (result_columns q ks) → Makes read.left read.types made.shape made.out → HasItsKey before made.from made.shape
      → IsSoundRelation number made.out × IsSoundQuery before made
  query-sound number made read h short shorts makes key = (
    result-sound catalog number table name ps q ks made.shape made.out keeps short shorts read.some_partition read.few_partitions h.gives,
    sound.query read.reads (filter-sound number made read h) makes key h.gives.query,
  )
