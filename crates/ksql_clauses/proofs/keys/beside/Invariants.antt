use Rattle.std.proofs.Common.{◌≡◌, ◌++◌, Some, map, drop}
use Rattle.expression_trees.specs.declared.tree.Expr.TheVariants as e
use Rattle.ksql_clauses.specs.Keys.{beside, key_exprs}
use Rattle.ksql_clauses.proofs.keys.beside.Given as goal

abbrev pub invariant-loop-key : goal.invariant-loop-key
invariant-loop-key l =
    map (λ es. es.items) l.each.items
    ++ beside (map (λ c. e.Name (Some l.left.alias) c.name) (drop l.key-index l.key-items)) (map (λ c. e.Name (Some l.right.alias) c.name) l.others)
    ≡ beside (map (λ c. e.Name (Some l.left.alias) c.name) l.key-items) (key_exprs l.right)
