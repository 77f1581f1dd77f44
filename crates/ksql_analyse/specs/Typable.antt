-- Which expressions have typed trees, and that all expressions of an accepted query have them.
use Rattle.std.specs.Prelude.{◌≡◌, ◌+◌, ◌≤◌, ◌-◌, ◌^◌, All, IsTrue, is_some, List, length, Option, option_map, true}
use Rattle.expression_trees.specs.declared.tree.Expr.{Expr}
use Rattle.statement_trees.specs.declared.tree.Select.{Select}
use Rattle.ksql_expr.specs.declared.typed.AggFun.{AggFun}
use Rattle.ksql_expr.specs.declared.typed.Typed.{Typed}
use Rattle.ksql_expr.specs.declared.typed.TypedNode.{TypedNode}
use Rattle.ksql_expr.specs.declared.typed.TypedNode.TheVariants as n
use Rattle.ksql_scopes.specs.declared.scope.Scope.{Scope}
use Rattle.ksql_scopes.specs.Uses.{IsSmall}
use Rattle.ksql_typing.specs.Standing.{IsTypedTree}
use Rattle.ksql_clauses.specs.declared.items.Named.{Named}
use Rattle.ksql_clauses.specs.declared.sources.Known.{Known}
use Rattle.ksql_clauses.specs.Items.{result_columns}
use Rattle.ksql_scopes.specs.Resolved.{resolved}
use Rattle.ksql_clauses.specs.Sources.{from_scope, item_scope, there}
use Rattle.ksql_clauses.specs.Keys.{key_columns}
use Rattle.ksql_rules.specs.Breaks.{group_exprs, is_grouped}
use Rattle.ksql_analyse.specs.Judgement.{aggregate_exprs}

-- ---- expressions

-- an expression whose literals keep their limits, and that has a typed tree
pub record IsTypable (s : Scope) (a : Expr) : Type 0 where
  pub small : IsSmall a
  pub tree : Typed
  pub is : IsTypedTree s a tree

-- a tree with a type other than that of plain NULL
abbrev pub IsValue : Typed → Type 0
IsValue x = IsTrue (is_some x.ty)

-- an expression whose typed tree has such a type
pub record IsValued (s : Scope) (a : Expr) : Type 0 where
  pub typable : IsTypable s a
  pub value : IsValue typable.tree

-- an aggregate as the form of a typed tree
abbrev pub IsAggregateNode : TypedNode → Type 0
IsAggregateNode form = (f : AggFun) × (arg : Option Typed) × (form ≡ n.Aggregate f arg)

-- an expression whose typed tree is an aggregate
pub record IsAggregable (s : Scope) (a : Expr) : Type 0 where
  pub typable : IsTypable s a
  pub aggregate : IsAggregateNode typable.tree.node

-- ---- queries

-- the trees of some columns: one for each, and each has a type
pub record AreColumnTrees (cs : List Named) (xs : List Typed) : Type 0 where
  pub counted : length cs ≡ length xs
  pub values : All IsValue xs

-- a grouped query whose expressions have typed trees
pub record IsGroupTypable (q : Select) (ks : List Known) : Type 0 where
  pub keyed : length (key_columns q ks) ≡ length (group_exprs q ks)
  pub keys : All (IsValued (from_scope q ks)) (group_exprs q ks)
  pub aggregates : All (IsAggregable (item_scope q ks)) (aggregate_exprs q ks)
  pub having : All (IsTypable (item_scope q ks)) (there (option_map (resolved (item_scope q ks)) q.having))
  pub few : length (group_exprs q ks) + length (aggregate_exprs q ks) ≤ 2 ^ 32 - 2

-- a query whose expressions have typed trees
pub record IsQueryTypable (q : Select) (ks : List Known) : Type 0 where
  pub filter : All (IsTypable (from_scope q ks)) (there q.filter)
  pub columns : All (λ c. IsValued (item_scope q ks) c.expr) (result_columns q ks)
  pub grouped : is_grouped q ≡ true → IsGroupTypable q ks
