-- The limits that hold of statements and relations before the judgement: names have at most 128 bytes, texts at most
-- 65,536, digits are at most 9223372036854775807, and there are at most 64 columns.
use Rattle.std.specs.Prelude.{◌≤◌, ⊤, All, length, Some}
use Rattle.ksql_types.specs.declared.relation.Relation.{Relation}
use Rattle.statement_trees.specs.declared.tree.Select.{Select}
use Rattle.statement_trees.specs.declared.tree.SelectItem.{SelectItem}
use Rattle.statement_trees.specs.declared.tree.SelectItem.TheVariants.{One}
use Rattle.statement_trees.specs.declared.tree.Statement.{Statement}
use Rattle.statement_trees.specs.declared.tree.StatementBody.{StatementBody}
use Rattle.statement_trees.specs.declared.tree.StatementBody.TheVariants.{Declared, Query}
use Rattle.ksql_types.specs.Columns.{columns}
use Rattle.ksql_scopes.specs.Uses.{IsSmall}
use Rattle.ksql_clauses.specs.Items.{IsShortItem}
use Rattle.ksql_clauses.specs.Sources.{alias_of, sources, early_exprs, late_exprs}

-- an item's alias is a name as in the grammar
abbrev pub HasShortAlias : SelectItem → Type 0
HasShortAlias (One a (Some alias)) = length alias ≤ 128
HasShortAlias _ = ⊤

pub record IsQueryWithin (q : Select) : Type 0 where
  pub items_short : All IsShortItem q.items
  pub item_aliases_short : All HasShortAlias q.items
  pub aliases_short : All (λ s. length (alias_of s) ≤ 128) (sources q)
  pub early_small : All IsSmall (early_exprs q)
  pub late_small : All IsSmall (late_exprs q)

abbrev pub IsBodyWithin : StatementBody → Type 0
IsBodyWithin (Declared cs ps) = All (λ c. length c.name ≤ 128) cs
IsBodyWithin (Query ps q) = IsQueryWithin q

pub record IsWithinLimits (st : Statement) : Type 0 where
  pub named : length st.name ≤ 128
  pub body : IsBodyWithin st.body

pub record IsRelationWithin (r : Relation) : Type 0 where
  pub columns_few : length (columns r) ≤ 64
  pub names_short : All (λ c. length c.name ≤ 128) (columns r)
