use Rattle.std.proofs.Common.{◌≡◌, Some, map, take}
use Rattle.expression_trees.specs.declared.tree.Expr.TheVariants as e
use Rattle.ksql_clauses.specs.Keys.{alone}
use Rattle.ksql_clauses.proofs.keys.each_key.Given as goal

abbrev pub invariant-loop-key : goal.invariant-loop-key
invariant-loop-key l = map (λ es. es.items) l.each.items ≡ alone (map (λ c. e.Name (Some l.known.alias) c.name) (take l.key-index l.key-items))
