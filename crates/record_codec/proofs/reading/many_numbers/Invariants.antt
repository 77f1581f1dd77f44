use Rattle.std.proofs.Common.{◌≡◌, ◌++◌, length}
use Rattle.std.specs.List.{All, flat_map}
use Rattle.record_codec.specs.Spelling.{four, InFour}
use Rattle.record_codec.proofs.reading.many_numbers.Given as goal

-- what was read stands before what is left
abbrev pub invariant-loop : goal.invariant-loop
invariant-loop l = record {
  parts : l.bytes ≡ flat_map four l.numbers.items ++ l.rest;
  many : length l.numbers.items ≡ l.counter;
  typed : All InFour l.numbers.items;
}
