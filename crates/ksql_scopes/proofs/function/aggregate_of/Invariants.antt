use Rattle.std.proofs.Common.{◌≡◌, length, map}
use Rattle.expression_trees.specs.Words.{beside}
use Rattle.ksql_scopes.specs.Functions.{aggregate_of}
use Rattle.ksql_scopes.proofs.function.aggregate_of.Given as goal

-- the rest of the table decides
abbrev pub invariant-loop-table : goal.invariant-loop-table
invariant-loop-table l = beside (map (λ row. (row.0.now, row.1)) l.table) l.name ≡ aggregate_of l.name

abbrev pub decreases-loop-table : goal.decreases-loop-table
decreases-loop-table l = length l.table
