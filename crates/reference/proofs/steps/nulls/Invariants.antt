use Rattle.std.proofs.Common.{◌≡◌, replicate}
use Rattle.ksql_types.specs.declared.value.Value.TheVariants.{Null}
use Rattle.reference.proofs.steps.nulls.Given as goal

abbrev pub invariant-loop : goal.invariant-loop
invariant-loop l = l.row.items ≡ replicate l.counter Null
