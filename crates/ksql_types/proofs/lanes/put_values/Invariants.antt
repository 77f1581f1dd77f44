use Rattle.std.proofs.Common.{◌≡◌, ◌++◌, take}
use Rattle.std.specs.List.{flat_map}
use Rattle.ksql_types.specs.Lane.{after_length, value_bytes}
use Rattle.ksql_types.proofs.lanes.put_values.Given as goal

-- the bytes of the values visited so far were appended
abbrev pub invariant-loop-value : goal.invariant-loop-value
invariant-loop-value l = l.out.items ≡ l.initial.out.items ++ flat_map (λ v. after_length (value_bytes v)) (take l.value-index l.values)
