-- What a query reads, as far as needed: one source, or a join of two that has a key.
use Rattle.std.specs.Prelude.{◌≡◌, List, [], ◌∷◌, Some, None}
use Rattle.expression_trees.specs.declared.tree.Expr.{Expr}
use Rattle.statement_trees.specs.declared.tree.JoinText.{JoinText}
use Rattle.statement_trees.specs.declared.tree.Select.{Select}
use Rattle.ksql_clauses.specs.declared.sources.Known.{Known}
use Rattle.ksql_clauses.specs.Sources.{on_scope}
use Rattle.ksql_clauses.specs.Keys.{join_key}
use Rattle.ksql_analyse.specs.Typable.{IsTypable}

-- a join, and both sides of its key
pub record HasJoin (q : Select) (ks : List Known) : Type 0 where
  pub text : JoinText
  pub joined : q.join ≡ Some text
  pub sides : Expr × Expr
  pub keyed : join_key q ks ≡ Some sides
  pub typable : IsTypable (on_scope q ks) sides.0

abbrev pub IsReadable : Select → List Known → Type 0
IsReadable q (k ∷ []) = q.join ≡ None
IsReadable q (l ∷ r ∷ []) = HasJoin q (l ∷ r ∷ [])
IsReadable q _ = ⊥
