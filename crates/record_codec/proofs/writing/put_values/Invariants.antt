use Rattle.std.proofs.Common.{◌≡◌, ◌++◌, length, take}
use Rattle.std.specs.List.{All, flat_map}
use Rattle.record_codec.specs.Spelling.{four, value, IsTypedValue}
use Rattle.record_codec.proofs.writing.put_values.Given as goal

-- the number of values, and the first of them
abbrev pub invariant-loop-value : goal.invariant-loop-value
invariant-loop-value l = record {
  bytes : l.out.items ≡ l.fn.out.items ++ (four (length l.values) ++ flat_map value (take l.value-index l.values));
  typed : All IsTypedValue (take l.value-index l.values);
}
