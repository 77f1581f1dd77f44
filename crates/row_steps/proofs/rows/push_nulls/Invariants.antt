use Rattle.std.proofs.Common.{◌≡◌, ◌++◌, replicate}
use Rattle.ksql_types.specs.declared.value.Value.TheVariants.{Null}
use Rattle.row_steps.proofs.rows.push_nulls.Given as goal

abbrev pub invariant-loop : goal.invariant-loop
invariant-loop l = l.cells.items ≡ l.initial.cells.items ++ replicate l.counter Null
