-- What is made of a grouped query's parts.
use Rattle.std.proofs.Common.{◌≡◌, ◌∙◌, ◌+◌, ◌^◌, ◌≤◌, arith, Bool, true, false, if◌then◌else◌, List, [], ◌∷◌, ◌++◌, length, map, Option, IsTrue, ap, ap₂, sym}
use Rattle.std.specs.Prelude.{option_map}
use Rattle.std.specs.List.{flat_map}
use Rattle.std.proofs.lemmas.List.{length-append, length-map}
use Rattle.ksql_types.specs.declared.relation.Window.{Window}
use Rattle.expression_trees.specs.declared.tree.Expr.{Expr}
use Rattle.statement_trees.specs.declared.tree.Select.{Select}
use Rattle.ksql_expr.specs.declared.typed.Typed.{Typed}
use Rattle.ksql_expr.specs.declared.typed.TypedNode.{TypedNode}
use Rattle.ksql_expr.specs.declared.typed.TypedNode.TheVariants as n
use Rattle.ksql_program.specs.declared.query.Agg.{Agg}
use Rattle.ksql_program.specs.declared.query.Shape.TheVariants as shape
use Rattle.ksql_scopes.specs.declared.scope.Scope.{Scope}
use Rattle.ksql_clauses.specs.declared.items.Named.{Named}
use Rattle.ksql_clauses.specs.declared.sources.Known.{Known}
use Rattle.ksql_clauses.specs.Items.{result_columns}
use Rattle.ksql_scopes.specs.Resolved.{resolved}
use Rattle.ksql_clauses.specs.Sources.{from_scope, item_scope, there}
use Rattle.ksql_clauses.specs.Windows.{window_of}
use Rattle.aggregate_rules.specs.Grouping.{aggregates_of, once_from}
use Rattle.ksql_clauses.specs.Keys.{value_columns}
use Rattle.ksql_rules.specs.Breaks.{group_exprs, is_grouped}
use Rattle.ksql_analyse.specs.Judgement.{AreAggs, AreTreesAfter, AreTypedTrees, IsPartAfter, IsShape, agg_form, aggregate_exprs, bound_forms, exprs, grouped_columns}
use Rattle.ksql_analyse.proofs.lists.Moving.{moved}
use Rattle.ksql_analyse.proofs.forms.ValuedTrees.{trees-counted}

-- a row after a grouping has few columns if there are few group expressions and aggregates
pub columns-few : (from items : Scope) (groups aggs : List Expr) (keys : List Typed) (gs : List Agg) (columns : List TypedNode) → columns ≡ grouped_columns items keys gs
    → AreTypedTrees from groups keys → AreAggs items aggs gs → length groups + length aggs + 2 ≤ 2 ^ 32 → length columns ≤ 2 ^ 32
columns-few from items groups aggs keys gs columns is are_keys are_aggs few =
    let forms = map (λ (x : Typed). x.node) keys in
    omega (
      arith,
      few,
      ap length is,
      length-append (forms ++ map agg_form gs) (bound_forms items),
      length-append forms (map agg_form gs),
      length-map keys (λ (x : Typed). x.node),
      ap length are_aggs.2,
      length-map are_aggs.0 (λ (x : Typed). x.node),
      trees-counted from groups keys are_keys,
      trees-counted items aggs are_aggs.0 are_aggs.1,
      two items.windowed,
    )
  where
    two : (b : Bool) → length (if b then n.Column (length items.columns) ∷ n.Column (length items.columns + 1) ∷ [] else []) ≤ 2
    two true = omega arith
    two false = omega arith

-- the aggregates that are gathered are the query's
pub aggs-are : (q : Select) (ks : List Known) (cs : List Named) (h : Option Expr) (es : List Expr) → es ≡ once_from [] (flat_map aggregates_of (exprs cs ++ there h))
    → cs ≡ result_columns q ks → h ≡ option_map (resolved (item_scope q ks)) q.having → es ≡ aggregate_exprs q ks
aggs-are q ks cs h es is columns having = is ∙ ap₂ (λ ds o. once_from [] (flat_map aggregates_of (exprs ds ++ there o))) columns having

-- the shape
pub grouped-made : (q : Select) (ks : List Known) (from items : Scope) (groups aggs vs : List Expr) (h : Option Expr) (keys keys2 values values2 : List Typed) (gs gs2 : List Agg)
    (columns : List TypedNode) (window : Option Window) (having : Option Typed)
    → from ≡ from_scope q ks → items ≡ item_scope q ks → groups ≡ group_exprs q ks → aggs ≡ aggregate_exprs q ks → vs ≡ exprs (value_columns q ks)
    → h ≡ option_map (resolved (item_scope q ks)) q.having → keys ≡ keys2 → values ≡ values2 → gs ≡ gs2 → columns ≡ grouped_columns items keys gs
    → IsTrue (is_grouped q) → window ≡ option_map window_of q.window → AreTypedTrees from groups keys → AreAggs items aggs gs
    → IsPartAfter columns items h having → AreTreesAfter columns items vs values → IsShape q ks (shape.Group keys2 window gs2 having values2)
grouped-made q ks from items groups aggs vs h keys keys2 values values2 gs gs2 columns window having f i g a v o k l m is grouped w are_keys are_aggs part trees =
    let same : columns ≡ grouped_columns (item_scope q ks) keys2 gs2 = is ∙ (λ j. grouped_columns (i j) (k j) (m j)) in
    let made = moved (λ cs s es. AreTreesAfter cs s es values) columns (grouped_columns (item_scope q ks) keys2 gs2) items (item_scope q ks) vs (exprs (value_columns q ks)) same i v trees in (
      grouped,
      w,
      moved AreTypedTrees from (from_scope q ks) groups (group_exprs q ks) keys keys2 f g k are_keys,
      moved AreAggs items (item_scope q ks) aggs (aggregate_exprs q ks) gs gs2 i a m are_aggs,
      moved (λ cs s e. IsPartAfter cs s e having) columns (grouped_columns (item_scope q ks) keys2 gs2) items (item_scope q ks) h (option_map (resolved (item_scope q ks)) q.having) same i o part,
      (made.0, made.1, sym l ∙ made.2),
    )
