-- What a plan comes to, form by form.
use Rattle.std.proofs.Common.{◌≡◌, ◌∙◌, ap, sym, ℕ, false, List, [], Option}
use Rattle.std.specs.Prelude.{◌≢◌}
use Rattle.ksql_types.specs.declared.relation.Kind.{Kind}
use Rattle.ksql_types.specs.declared.relation.Window.{Window}
use Rattle.ksql_expr.specs.declared.typed.Typed.{Typed}
use Rattle.ksql_program.specs.declared.program.Item.{Item}
use Rattle.ksql_program.specs.declared.query.Agg.{Agg}
use Rattle.ksql_program.specs.declared.query.JoinKind.{JoinKind}
use Rattle.ksql_nodes.specs.declared.node.Node.TheVariants as node
use Rattle.query_meaning.specs.Queries.{key_columns, side_at}
use Rattle.topology.specs.Stages.{are_columns_from, is_stream_key, is_tables_key}
use Rattle.topology.specs.declared.stage.Link.TheVariants.{Relation}
use Rattle.logical_plan.specs.declared.tree.Plan.{Plan, fold-roll-Plan, map-Plan, out-Plan, roll-Plan, roll-out-Plan}
use Rattle.logical_plan.specs.declared.tree.Plan.TheOpen.{Plan-F}
use Rattle.logical_plan.specs.declared.tree.Plan.TheVariants as tree
use Rattle.logical_plan.proofs.Folds.{fold-Source, fold-Filter, fold-Rekey, fold-JoinStreamTable, fold-JoinTables, fold-Group, fold-Aggregate, fold-Having, fold-Select}
use Rattle.key_planner.specs.Cuts.{Part, closed, grouped, is_one, joined, leftmost_of, opened, own_key, part_of, part_step, read, stages_from, with_node}

module _ (items : List Item) where
  -- ---- the stages so far

  pub opened-Source : (plan : Plan) (number : ℕ) → plan ≡ tree.Source number → opened items plan ≡ read items number
  unfolding part_of
  opened-Source plan number is = ap (λ (x : Plan). opened items x) is ∙ ap (λ (x : Part). x.last) (fold-Source Part (part_step items) number)

  pub opened-Filter : (plan : Plan) (on : Typed) (p : Plan) → plan ≡ tree.Filter on p → opened items plan ≡ with_node (node.Filter on) (opened items p)
  unfolding part_of
  opened-Filter plan on p is = ap (λ (x : Plan). opened items x) is ∙ ap (λ (x : Part). x.last) (fold-Filter Part (part_step items) on p)

  pub opened-Rekey : (plan : Plan) (key : Typed) (p : Plan) → plan ≡ tree.Rekey key p → opened items plan ≡ with_node (node.Rekey key) (opened items p)
  unfolding part_of
  opened-Rekey plan key p is = ap (λ (x : Plan). opened items x) is ∙ ap (λ (x : Part). x.last) (fold-Rekey Part (part_step items) key p)

  pub opened-JoinStreamTable : (plan : Plan) (k : JoinKind) (on : Typed) (l r : Plan) → plan ≡ tree.JoinStreamTable k on l r → opened items plan ≡ joined items (node.JoinStreamTable k on (side_at items (leftmost_of items l)) (side_at items (leftmost_of items r))) (opened items l) (opened items r)
  unfolding part_of
  opened-JoinStreamTable plan k on l r is = ap (λ (x : Plan). opened items x) is ∙ ap (λ (x : Part). x.last) (fold-JoinStreamTable Part (part_step items) k on l r)

  pub opened-JoinTables : (plan : Plan) (k : JoinKind) (l r : Plan) → plan ≡ tree.JoinTables k l r → opened items plan ≡ joined items (node.JoinTables k (side_at items (leftmost_of items l)) (side_at items (leftmost_of items r))) (opened items l) (opened items r)
  unfolding part_of
  opened-JoinTables plan k l r is = ap (λ (x : Plan). opened items x) is ∙ ap (λ (x : Part). x.last) (fold-JoinTables Part (part_step items) k l r)

  pub opened-Group : (plan : Plan) (keys : List Typed) (p : Plan) → plan ≡ tree.Group keys p → opened items plan ≡ grouped items (own_key items p keys) keys (opened items p)
  unfolding part_of
  opened-Group plan keys p is = ap (λ (x : Plan). opened items x) is ∙ ap (λ (x : Part). x.last) (fold-Group Part (part_step items) keys p)

  pub opened-Aggregate : (plan : Plan) (over : Kind) (aggs : List Agg) (window : Option Window) (p : Plan) → plan ≡ tree.Aggregate over aggs window p → opened items plan ≡ with_node (node.Aggregate over aggs window) (opened items p)
  unfolding part_of
  opened-Aggregate plan over aggs window p is = ap (λ (x : Plan). opened items x) is ∙ ap (λ (x : Part). x.last) (fold-Aggregate Part (part_step items) over aggs window p)

  pub opened-Having : (plan : Plan) (on : Typed) (p : Plan) → plan ≡ tree.Having on p → opened items plan ≡ with_node (node.Having on) (opened items p)
  unfolding part_of
  opened-Having plan on p is = ap (λ (x : Plan). opened items x) is ∙ ap (λ (x : Part). x.last) (fold-Having Part (part_step items) on p)

  pub opened-Select : (plan : Plan) (keys values : List Typed) (out : ℕ) (p : Plan) → plan ≡ tree.Select keys values out p → opened items plan ≡ with_node (node.Select keys values) (opened items p)
  unfolding part_of
  opened-Select plan keys values out p is = ap (λ (x : Plan). opened items x) is ∙ ap (λ (x : Part). x.last) (fold-Select Part (part_step items) keys values out p)

  -- ---- the leftmost relation

  pub leftmost-Source : (plan : Plan) (number : ℕ) → plan ≡ tree.Source number → leftmost_of items plan ≡ number
  unfolding part_of
  leftmost-Source plan number is = ap (λ (x : Plan). leftmost_of items x) is ∙ ap (λ (x : Part). x.leftmost) (fold-Source Part (part_step items) number)

  pub leftmost-Filter : (plan : Plan) (on : Typed) (p : Plan) → plan ≡ tree.Filter on p → leftmost_of items plan ≡ leftmost_of items p
  unfolding part_of
  leftmost-Filter plan on p is = ap (λ (x : Plan). leftmost_of items x) is ∙ ap (λ (x : Part). x.leftmost) (fold-Filter Part (part_step items) on p)

  pub leftmost-Rekey : (plan : Plan) (key : Typed) (p : Plan) → plan ≡ tree.Rekey key p → leftmost_of items plan ≡ leftmost_of items p
  unfolding part_of
  leftmost-Rekey plan key p is = ap (λ (x : Plan). leftmost_of items x) is ∙ ap (λ (x : Part). x.leftmost) (fold-Rekey Part (part_step items) key p)

  pub leftmost-JoinStreamTable : (plan : Plan) (k : JoinKind) (on : Typed) (l r : Plan) → plan ≡ tree.JoinStreamTable k on l r → leftmost_of items plan ≡ leftmost_of items l
  unfolding part_of
  leftmost-JoinStreamTable plan k on l r is = ap (λ (x : Plan). leftmost_of items x) is ∙ ap (λ (x : Part). x.leftmost) (fold-JoinStreamTable Part (part_step items) k on l r)

  pub leftmost-JoinTables : (plan : Plan) (k : JoinKind) (l r : Plan) → plan ≡ tree.JoinTables k l r → leftmost_of items plan ≡ leftmost_of items l
  unfolding part_of
  leftmost-JoinTables plan k l r is = ap (λ (x : Plan). leftmost_of items x) is ∙ ap (λ (x : Part). x.leftmost) (fold-JoinTables Part (part_step items) k l r)

  pub leftmost-Group : (plan : Plan) (keys : List Typed) (p : Plan) → plan ≡ tree.Group keys p → leftmost_of items plan ≡ leftmost_of items p
  unfolding part_of
  leftmost-Group plan keys p is = ap (λ (x : Plan). leftmost_of items x) is ∙ ap (λ (x : Part). x.leftmost) (fold-Group Part (part_step items) keys p)

  pub leftmost-Aggregate : (plan : Plan) (over : Kind) (aggs : List Agg) (window : Option Window) (p : Plan) → plan ≡ tree.Aggregate over aggs window p → leftmost_of items plan ≡ leftmost_of items p
  unfolding part_of
  leftmost-Aggregate plan over aggs window p is = ap (λ (x : Plan). leftmost_of items x) is ∙ ap (λ (x : Part). x.leftmost) (fold-Aggregate Part (part_step items) over aggs window p)

  pub leftmost-Having : (plan : Plan) (on : Typed) (p : Plan) → plan ≡ tree.Having on p → leftmost_of items plan ≡ leftmost_of items p
  unfolding part_of
  leftmost-Having plan on p is = ap (λ (x : Plan). leftmost_of items x) is ∙ ap (λ (x : Part). x.leftmost) (fold-Having Part (part_step items) on p)

  pub leftmost-Select : (plan : Plan) (keys values : List Typed) (out : ℕ) (p : Plan) → plan ≡ tree.Select keys values out p → leftmost_of items plan ≡ leftmost_of items p
  unfolding part_of
  leftmost-Select plan keys values out p is = ap (λ (x : Plan). leftmost_of items x) is ∙ ap (λ (x : Part). x.leftmost) (fold-Select Part (part_step items) keys values out p)

  -- ---- the own key

  pub own-Source : (plan : Plan) (number : ℕ) (es : List Typed) → plan ≡ tree.Source number → own_key items plan es ≡ are_columns_from 0 (key_columns items number) es
  unfolding part_of
  own-Source plan number es is = ap (λ (x : Plan). own_key items x es) is ∙ ap (λ (x : Part). x.own es) (fold-Source Part (part_step items) number)

  pub own-Filter : (plan : Plan) (on : Typed) (p : Plan) (es : List Typed) → plan ≡ tree.Filter on p → own_key items plan es ≡ own_key items p es
  unfolding part_of
  own-Filter plan on p es is = ap (λ (x : Plan). own_key items x es) is ∙ ap (λ (x : Part). x.own es) (fold-Filter Part (part_step items) on p)

  pub own-JoinStreamTable : (plan : Plan) (k : JoinKind) (on : Typed) (l r : Plan) (es : List Typed) → plan ≡ tree.JoinStreamTable k on l r → own_key items plan es ≡ is_one (is_stream_key k (side_at items (leftmost_of items l)) on) es
  unfolding part_of
  own-JoinStreamTable plan k on l r es is = ap (λ (x : Plan). own_key items x es) is ∙ ap (λ (x : Part). x.own es) (fold-JoinStreamTable Part (part_step items) k on l r)

  pub own-JoinTables : (plan : Plan) (k : JoinKind) (l r : Plan) (es : List Typed) → plan ≡ tree.JoinTables k l r → own_key items plan es ≡ is_one (is_tables_key k (side_at items (leftmost_of items l)) (side_at items (leftmost_of items r))) es
  unfolding part_of
  own-JoinTables plan k l r es is = ap (λ (x : Plan). own_key items x es) is ∙ ap (λ (x : Part). x.own es) (fold-JoinTables Part (part_step items) k l r)

  -- no other form has a key of its own
  pub own-other : (plan : Plan) (es : List Typed) → ((number : ℕ) → plan ≢ tree.Source number) → ((on : Typed) (p : Plan) → plan ≢ tree.Filter on p) →
      ((k : JoinKind) (on : Typed) (l r : Plan) → plan ≢ tree.JoinStreamTable k on l r) → ((k : JoinKind) (l r : Plan) → plan ≢ tree.JoinTables k l r) →
      own_key items plan es ≡ false
  unfolding part_of
  own-other plan es no_source no_filter no_stream no_tables = ap (λ (x : Plan). own_key items x es) (sym (roll-out-Plan plan)) ∙ by (out-Plan plan) (sym (roll-out-Plan plan))
    where
      step : (d : Plan-F Plan) → own_key items (roll-Plan d) es ≡ (part_step items (map-Plan Plan Part (part_of items) d)).own es
      step d = ap (λ (x : Part). x.own es) (fold-roll-Plan Part (part_step items) d)

      by : (d : Plan-F Plan) → plan ≡ roll-Plan d → own_key items (roll-Plan d) es ≡ false
      by (Plan-F.Source number) is = absurd (no_source number (is ∙ tree.rolls-Source number))
      by (Plan-F.Filter on p) is = absurd (no_filter on p (is ∙ tree.rolls-Filter on p))
      by (Plan-F.Rekey key p) is = step (Plan-F.Rekey key p)
      by (Plan-F.JoinStreamTable k on l r) is = absurd (no_stream k on l r (is ∙ tree.rolls-JoinStreamTable k on l r))
      by (Plan-F.JoinTables k l r) is = absurd (no_tables k l r (is ∙ tree.rolls-JoinTables k l r))
      by (Plan-F.Group keys p) is = step (Plan-F.Group keys p)
      by (Plan-F.Aggregate over aggs window p) is = step (Plan-F.Aggregate over aggs window p)
      by (Plan-F.Having on p) is = step (Plan-F.Having on p)
      by (Plan-F.Select keys values out p) is = step (Plan-F.Select keys values out p)

  -- ---- the stages of the whole

  pub stages-Select : (plan : Plan) (keys values : List Typed) (out : ℕ) (p : Plan) → plan ≡ tree.Select keys values out p → stages_from items plan ≡ closed items (Relation out) (with_node (node.Select keys values) (opened items p))
  unfolding part_of
  stages-Select plan keys values out p is = ap (λ (x : Plan). stages_from items x) is ∙ ap (λ (x : Part). x.stages) (fold-Select Part (part_step items) keys values out p)

  -- no other form has stages
  pub stages-other : (plan : Plan) → ((keys values : List Typed) (out : ℕ) (p : Plan) → plan ≢ tree.Select keys values out p) → stages_from items plan ≡ []
  unfolding part_of
  stages-other plan no_select = ap (stages_from items) (sym (roll-out-Plan plan)) ∙ by (out-Plan plan) (sym (roll-out-Plan plan))
    where
      step : (d : Plan-F Plan) → stages_from items (roll-Plan d) ≡ (part_step items (map-Plan Plan Part (part_of items) d)).stages
      step d = ap (λ (x : Part). x.stages) (fold-roll-Plan Part (part_step items) d)

      by : (d : Plan-F Plan) → plan ≡ roll-Plan d → stages_from items (roll-Plan d) ≡ []
      by (Plan-F.Source number) is = step (Plan-F.Source number)
      by (Plan-F.Filter on p) is = step (Plan-F.Filter on p)
      by (Plan-F.Rekey key p) is = step (Plan-F.Rekey key p)
      by (Plan-F.JoinStreamTable k on l r) is = step (Plan-F.JoinStreamTable k on l r)
      by (Plan-F.JoinTables k l r) is = step (Plan-F.JoinTables k l r)
      by (Plan-F.Group keys p) is = step (Plan-F.Group keys p)
      by (Plan-F.Aggregate over aggs window p) is = step (Plan-F.Aggregate over aggs window p)
      by (Plan-F.Having on p) is = step (Plan-F.Having on p)
      by (Plan-F.Select keys values out p) is = absurd (no_select keys values out p (is ∙ tree.rolls-Select keys values out p))

pub ruleset opened_forms = (opened-Source, opened-Filter, opened-Rekey, opened-JoinStreamTable, opened-JoinTables, opened-Group, opened-Aggregate, opened-Having, opened-Select)

pub ruleset leftmost_forms = (leftmost-Source, leftmost-Filter, leftmost-Rekey, leftmost-JoinStreamTable, leftmost-JoinTables, leftmost-Group, leftmost-Aggregate, leftmost-Having, leftmost-Select)

pub ruleset own_forms = (own-Source, own-Filter, own-JoinStreamTable, own-JoinTables, own-other)

pub ruleset stage_forms = (stages-Select, stages-other)
