use Rattle.std.proofs.Common.{◌≡◌, ◌∷◌, Some, map, take}
use Rattle.expression_trees.specs.declared.tree.Expr.TheVariants as e
use Rattle.ksql_clauses.proofs.keys.stream_needs.Given as goal

abbrev pub invariant-loop-key : goal.invariant-loop-key
invariant-loop-key l = l.one.items ≡ l.fn.side ∷ map (λ c. e.Name (Some l.right.alias) c.name) (take l.key-index l.key-items)
