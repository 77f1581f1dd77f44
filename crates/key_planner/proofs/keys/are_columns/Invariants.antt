use Rattle.std.proofs.Common.{◌≡◌, drop, length}
use Rattle.topology.specs.Stages.{are_columns_from}
use Rattle.key_planner.proofs.keys.are_columns.Given as goal

-- the expressions that are left decide
abbrev pub invariant-loop-index : goal.invariant-loop-index
invariant-loop-index l = are_columns_from l.index (length (drop l.index l.keys)) (drop l.index l.keys) ≡ are_columns_from 0 l.count l.keys
