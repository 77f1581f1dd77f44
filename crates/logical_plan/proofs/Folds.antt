-- The equations of a fold over plans: one for each form.
use Rattle.std.proofs.Common.{◌≡◌, ℕ, List, Option, ap, sym, ◌∙◌}
use Rattle.ksql_types.specs.declared.relation.Kind.{Kind}
use Rattle.ksql_types.specs.declared.relation.Window.{Window}
use Rattle.ksql_expr.specs.declared.typed.Typed.{Typed}
use Rattle.ksql_program.specs.declared.query.Agg.{Agg}
use Rattle.ksql_program.specs.declared.query.JoinKind.{JoinKind}
use Rattle.logical_plan.specs.declared.tree.Plan.{Plan, fold-Plan, fold-roll-Plan}
use Rattle.logical_plan.specs.declared.tree.Plan.TheOpen.{Plan-F}
use Rattle.logical_plan.specs.declared.tree.Plan.TheVariants as tree
use Rattle.logical_plan.specs.declared.tree.Plan.TheVariants.{rolls-Source, rolls-Filter, rolls-Rekey, rolls-JoinStreamTable, rolls-JoinTables, rolls-Group, rolls-Aggregate, rolls-Having, rolls-Select}

module _ (A : Type 0) (step : Plan-F A → A) where
  abbrev pub folded : Plan → A
  folded = fold-Plan A step

  pub fold-Source : (number : ℕ) → folded (tree.Source number) ≡ step (Plan-F.Source number)
  fold-Source number = ap folded (sym (rolls-Source number)) ∙ fold-roll-Plan A step (Plan-F.Source number)

  pub fold-Filter : (on : Typed) (p : Plan) → folded (tree.Filter on p) ≡ step (Plan-F.Filter on (folded p))
  fold-Filter on p = ap folded (sym (rolls-Filter on p)) ∙ fold-roll-Plan A step (Plan-F.Filter on p)

  pub fold-Rekey : (key : Typed) (p : Plan) → folded (tree.Rekey key p) ≡ step (Plan-F.Rekey key (folded p))
  fold-Rekey key p = ap folded (sym (rolls-Rekey key p)) ∙ fold-roll-Plan A step (Plan-F.Rekey key p)

  pub fold-JoinStreamTable : (k : JoinKind) (on : Typed) (l r : Plan) → folded (tree.JoinStreamTable k on l r) ≡ step (Plan-F.JoinStreamTable k on (folded l) (folded r))
  fold-JoinStreamTable k on l r = ap folded (sym (rolls-JoinStreamTable k on l r)) ∙ fold-roll-Plan A step (Plan-F.JoinStreamTable k on l r)

  pub fold-JoinTables : (k : JoinKind) (l r : Plan) → folded (tree.JoinTables k l r) ≡ step (Plan-F.JoinTables k (folded l) (folded r))
  fold-JoinTables k l r = ap folded (sym (rolls-JoinTables k l r)) ∙ fold-roll-Plan A step (Plan-F.JoinTables k l r)

  pub fold-Group : (keys : List Typed) (p : Plan) → folded (tree.Group keys p) ≡ step (Plan-F.Group keys (folded p))
  fold-Group keys p = ap folded (sym (rolls-Group keys p)) ∙ fold-roll-Plan A step (Plan-F.Group keys p)

  pub fold-Aggregate : (over : Kind) (aggs : List Agg) (window : Option Window) (p : Plan) →
      folded (tree.Aggregate over aggs window p) ≡ step (Plan-F.Aggregate over aggs window (folded p))
  fold-Aggregate over aggs window p = ap folded (sym (rolls-Aggregate over aggs window p)) ∙ fold-roll-Plan A step (Plan-F.Aggregate over aggs window p)

  pub fold-Having : (on : Typed) (p : Plan) → folded (tree.Having on p) ≡ step (Plan-F.Having on (folded p))
  fold-Having on p = ap folded (sym (rolls-Having on p)) ∙ fold-roll-Plan A step (Plan-F.Having on p)

  pub fold-Select : (keys values : List Typed) (out : ℕ) (p : Plan) → folded (tree.Select keys values out p) ≡ step (Plan-F.Select keys values out (folded p))
  fold-Select keys values out p = ap folded (sym (rolls-Select keys values out p)) ∙ fold-roll-Plan A step (Plan-F.Select keys values out p)
