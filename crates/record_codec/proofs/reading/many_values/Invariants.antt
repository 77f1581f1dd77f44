use Rattle.std.proofs.Common.{◌≡◌, ◌++◌, length}
use Rattle.std.specs.List.{All, flat_map}
use Rattle.record_codec.specs.Spelling.{value, IsSpellableValue}
use Rattle.record_codec.proofs.reading.many_values.Given as goal

-- what was read stands before what is left
abbrev pub invariant-loop : goal.invariant-loop
invariant-loop l = record {
  parts : l.bytes ≡ flat_map value l.values.items ++ l.rest;
  many : length l.values.items ≡ l.counter;
  spellable : All IsSpellableValue l.values.items;
}
