use Rattle.std.proofs.Common.{◌≡◌, None, vec_len}
use Rattle.std.specs.Prelude.{unwrap_or}
use Rattle.std.specs.List.{last_or}
use Rattle.ksql_types.specs.declared.value.Value.TheVariants.{Null}
use Rattle.ksql_nodes.specs.Aggregates.{present}
use Rattle.reference.proofs.aggregates.latest.Given as goal

-- the values that are left have the same last one
abbrev pub invariant-loop-value : goal.invariant-loop-value
invariant-loop-value l = unwrap_or (last_or None (present l.values.items)) Null ≡ unwrap_or (last_or None (present l.fn.values.items)) Null

abbrev pub decreases-loop-value : goal.decreases-loop-value
decreases-loop-value l = vec_len l.values
