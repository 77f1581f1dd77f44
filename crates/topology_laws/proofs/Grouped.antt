-- The nodes of a grouped query give what the query's steps give: over a table, Group and Aggregate act as one step.
use Rattle.std.proofs.Common.{◌≡◌, ◌∙◌, ap, refl, sym, subst, ℕ, List, [], ◌∷◌, ◌++◌, map}
use Rattle.std.proofs.lemmas.List.{map-append}
use Rattle.std.specs.Prelude.{Option, Some, None, option_map, unwrap_or}
use Rattle.std.specs.List.{AllByRecursion}
use Rattle.ksql_types.specs.declared.relation.Column.{Column}
use Rattle.ksql_types.specs.declared.relation.Kind.{Kind}
use Rattle.ksql_types.specs.declared.relation.Kind.TheVariants as kind
use Rattle.ksql_types.specs.declared.relation.Relation.{Relation}
use Rattle.ksql_types.specs.declared.relation.Window.{Window}
use Rattle.ksql_types.specs.declared.value.SqlType.{SqlType}
use Rattle.ksql_place.specs.declared.change.Change.{Change}
use Rattle.ksql_expr.specs.declared.typed.Typed.{Typed}
use Rattle.ksql_program.specs.Sound.{AreColumns, Aggregates, IsCondition, IsWindowed, Reads, one, joined}
use Rattle.ksql_program.specs.declared.program.Item.{Item}
use Rattle.ksql_program.specs.declared.query.Agg.{Agg}
use Rattle.ksql_program.specs.declared.query.From.{From}
use Rattle.ksql_program.specs.declared.query.From.TheVariants.{One, Join}
use Rattle.ksql_program.specs.declared.query.Shape.TheVariants as shape
use Rattle.ksql_nodes.specs.declared.node.Node.{Node}
use Rattle.ksql_nodes.specs.declared.node.Node.TheVariants as node
use Rattle.ksql_nodes.specs.Entries.{Entry, Step, from_side, results, through}
use Rattle.ksql_nodes.specs.Nodes.{gives}
use Rattle.ksql_nodes.specs.Steps.{IsHeld, IsTableFrom, Timeless}
use Rattle.ksql_nodes.specs.TableAggregates.{aggregate_of_table}
use Rattle.ksql_nodes.proofs.OneStep.{aggregate_of_table-through}
use Rattle.query_meaning.specs.Queries.{after_aggregate, changes_at, filter_of, join_over, key_columns, read_entries, shape_steps, side_at, whole_changes}
use Rattle.meaning_laws.proofs.EachRelation.{AreAmong, Each, each-at}
use Rattle.meaning_laws.proofs.JoinedTables.{joined-turned}
use Rattle.meaning_laws.proofs.RelationTables.{TurnsIn, aggs-held, columns-timeless, condition-keeps, table-isnt_stream}
use Rattle.meaning_laws.proofs.Rowwise.{whole-turned}
use Rattle.meaning_laws.proofs.Sides.{merged-sided}
use Rattle.meaning_laws.proofs.Turning.{AreTurned, changed-from-side, through-turned}
use Rattle.lane_laws.specs.Lanes.{merged}
use Rattle.topology_laws.proofs.FirstStage.{read_changes}
use Rattle.topology_laws.proofs.InARow.{entries_after, entries-changes, through-append}

-- ---- what is read of tables

module _ (items before : List Item) (among : AreAmong before items) (lists : List (List Change)) (turned : Each TurnsIn before lists) (n : ℕ) where
  pub read-turned : (from : From) (types : List (Option SqlType)) (l : Relation) → Reads before from types l → l.kind ≡ kind.Table → AreTurned (read_changes items lists n from)
  unfolding read_entries
  read-turned (One number) types l (one at _) is =
      subst AreTurned (sym (changed-from-side (whole_changes items lists number)))
      (whole-turned (key_columns items number) (changes_at lists number) (each-at TurnsIn before lists turned number l at is))
  read-turned (Join k left right on) types l (joined at _ _ _ _ _) is =
      let es : List Entry = merged left right (whole_changes items lists left) (whole_changes items lists right) in
      let x : Node = node.JoinTables k (side_at items left) (side_at items right) in
      subst (λ over. AreTurned (through (map (gives n) (join_over items k left right on over)) es))
      (sym (ap (λ (o : Option Relation). unwrap_or (option_map (λ r. r.kind) o) kind.Stream) (among left l at) ∙ is))
      (subst AreTurned (sym (changed-from-side (results (gives n x) [] es)))
      (joined-turned n k (side_at items left) (side_at items right) es (merged-sided left right (whole_changes items lists left) (whole_changes items lists right))))

-- ---- one step

-- the nodes of a grouped query after its join
abbrev pub group_nodes : Option Typed → List Typed → Kind → List Agg → Option Window → Option Typed → List Typed → List Node
group_nodes on keys over aggs w having values = filter_of on ++ node.Group keys ∷ node.Aggregate over aggs w ∷ after_aggregate having values

one-step : (n : ℕ) (keys : List Typed) (aggs : List Agg) (es : List Entry) → AllByRecursion Timeless keys → AllByRecursion IsHeld aggs → IsTableFrom [] es →
    results (gives n (node.Aggregate kind.Table aggs None)) [] (from_side 0 (results (gives n (node.Group keys)) [] es)) ≡ results (aggregate_of_table keys aggs) [] es
one-step n keys aggs es timeless held table =
    sym (changed-from-side (results (gives n (node.Aggregate kind.Table aggs None)) [] (from_side 0 (results (gives n (node.Group keys)) [] es))))
    ∙ aggregate_of_table-through n keys timeless aggs held es table
    ∙ changed-from-side (results (aggregate_of_table keys aggs) [] es)

module _ (n : ℕ) (l : Relation) (types : List (Option SqlType)) (on : Option Typed) (condition : IsCondition l.kind types on) (cs : List Change) where
  table-steps : (keys : List Typed) (aggs : List Agg) (having : Option Typed) (values : List Typed) → l.kind ≡ kind.Table → AllByRecursion Timeless keys → AllByRecursion IsHeld aggs → AreTurned cs →
      through (map (gives n) (filter_of on) ++ shape_steps n kind.Table (shape.Group keys None aggs having values)) (from_side 0 cs)
      ≡ through (map (gives n) (group_nodes on keys kind.Table aggs None having values)) (from_side 0 cs)
  table-steps keys aggs having values is timeless held table =
      let passed : List Step = map (gives n) (filter_of on) in
      let rest : List Step = map (gives n) (after_aggregate having values) in
      let es : List Entry = entries_after passed (from_side 0 cs) in
      let turned : IsTableFrom [] es =
      subst (IsTableFrom []) (sym (entries-changes passed cs)) (through-turned passed (condition-keeps n l.kind types (table-isnt_stream l.kind is) on condition) cs table) in
      through-append passed (aggregate_of_table keys aggs ∷ rest) (from_side 0 cs)
      ∙ ap (λ xs. through rest (from_side 0 xs)) (sym (one-step n keys aggs es timeless held turned))
      ∙ sym (ap (λ steps. through steps (from_side 0 cs)) (map-append (gives n) (filter_of on) (node.Group keys ∷ node.Aggregate kind.Table aggs None ∷ after_aggregate having values))
      ∙ through-append passed (gives n (node.Group keys) ∷ gives n (node.Aggregate kind.Table aggs None) ∷ rest) (from_side 0 cs))

  pub group-steps : (keys : List Typed) (kcs : List Column) (w : Option Window) (aggs : List Agg) (ats : List (Option SqlType)) (having : Option Typed) (values : List Typed) →
      AreColumns l.kind types keys kcs → Aggregates l.kind types aggs ats → IsWindowed l.kind w → (over : Kind) → l.kind ≡ over → (over ≡ kind.Windowed → ⊥) → (l.kind ≡ kind.Table → AreTurned cs) →
      through (map (gives n) (filter_of on) ++ shape_steps n over (shape.Group keys w aggs having values)) (from_side 0 cs)
      ≡ through (map (gives n) (group_nodes on keys over aggs w having values)) (from_side 0 cs)
  group-steps keys kcs w aggs ats having values typed sound windowed kind.Stream is un table =
      sym (ap (λ steps. through steps (from_side 0 cs)) (map-append (gives n) (filter_of on) (node.Group keys ∷ node.Aggregate kind.Stream aggs w ∷ after_aggregate having values)))
  group-steps keys kcs None aggs ats having values typed sound windowed kind.Table is un table =
      table-steps keys aggs having values is (columns-timeless l.kind types (table-isnt_stream l.kind is) keys kcs typed) (aggs-held types (subst (λ k. Aggregates k types aggs ats) is sound)) (table is)
  group-steps keys kcs (Some w) aggs ats having values typed sound windowed kind.Table is un table = absurd (table-isnt_stream l.kind is windowed.1)
  group-steps keys kcs w aggs ats having values typed sound windowed kind.Windowed is un table = absurd (un refl)
