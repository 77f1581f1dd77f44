use Rattle.std.proofs.Common.{◌≡◌, take}
use Rattle.std.specs.List.{flat_map}
use Rattle.ksql_types.specs.Lane.{after_length, hash as hash_of, value_bytes}
use Rattle.ksql_types.proofs.lanes.hash_values.Given as goal

-- the hash so far is that of the bytes of the values visited so far
abbrev pub invariant-loop-value : goal.invariant-loop-value
invariant-loop-value l = l.hash ≡ hash_of (flat_map (λ v. after_length (value_bytes v)) (take l.value-index l.values))
