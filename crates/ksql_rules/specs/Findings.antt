-- What is found out about a query once.
use Rattle.std.specs.Prelude.{◌≡◌, ◌-◌, ◌^◌, ◌≤◌, List, length, map, option_map}
use Rattle.std.specs.List.{list_any, list_all}
use Rattle.expression_trees.specs.declared.tree.Expr.{Expr}
use Rattle.ksql_scopes.specs.declared.scope.Scope.{Scope}
use Rattle.ksql_type_sets.specs.Sets.{is_some_in}
use Rattle.ksql_scopes.specs.Uses.{has_unknown_name, has_ambiguous_name}
use Rattle.ksql_typing.specs.Judged.{judged}
use Rattle.ksql_clauses.specs.Items.{result_columns}
use Rattle.ksql_scopes.specs.Resolved.{resolved}
use Rattle.ksql_clauses.specs.Sources.{from_scope, on_scope, item_scope, on_exprs, front_exprs, early_exprs, late_exprs}
use Rattle.ksql_rules.specs.Breaks.{group_exprs}
use Rattle.ksql_rules.specs.declared.findings.Findings.{Findings}
use Rattle.ksql_rules.specs.declared.findings.Found.{Found}
use Rattle.ksql_clauses.specs.Keys.{join_key, key_places}
use Rattle.ksql_rules.specs.Limits.{IsQueryWithin}

-- the findings about some expressions in a scope
pub record IsFound (f : Found) (s : Scope) (es : List Expr) : Type 0 where
  pub unknown_is : f.unknown ≡ list_any (has_unknown_name s) es
  pub ambiguous_is : f.ambiguous ≡ list_any (has_ambiguous_name s) es
  pub typed_is : f.typed ≡ list_all (λ a. is_some_in (judged a s).types) es

-- the findings about a query over its sources, given its limits
pub record AreFindings (f : Findings) : Type 0 where
  pub within : IsQueryWithin f.select.now
  pub columns_few : length f.scope.columns ≤ 2 ^ 32 - 2
  pub scope_is : f.scope ≡ from_scope f.select.now f.known.items
  pub on_scope_is : f.on_scope ≡ on_scope f.select.now f.known.items
  pub item_scope_is : f.item_scope ≡ item_scope f.select.now f.known.items
  pub early_are : map (λ a. a.now) f.early.items ≡ early_exprs f.select.now
  pub late_are : map (λ a. a.now) f.late.items ≡ late_exprs f.select.now
  pub columns_are : f.columns.items ≡ result_columns f.select.now f.known.items
  pub places_are : f.places.items ≡ key_places f.select.now f.known.items
  pub key_is : option_map (λ sides. (sides.0.now, sides.1.now)) f.key ≡ join_key f.select.now f.known.items
  pub groups_are : f.groups.items ≡ group_exprs f.select.now f.known.items
  pub having_is : f.having ≡ option_map (resolved (item_scope f.select.now f.known.items)) f.select.now.having
  pub on_found : IsFound f.in_on (on_scope f.select.now f.known.items) (on_exprs f.select.now)
  pub front_found : IsFound f.in_front (from_scope f.select.now f.known.items) (front_exprs f.select.now)
  pub late_found : IsFound f.in_late (item_scope f.select.now f.known.items) (late_exprs f.select.now)
