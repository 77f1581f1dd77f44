use Rattle.std.proofs.Common.{◌≡◌, take}
use Rattle.std.specs.Str.Parse.{AllDigits, digits_value}
use Rattle.topic_files.proofs.number.few_digits.Given as goal

-- the bytes so far are digits, and the number so far is theirs
abbrev pub invariant-loop-byte : goal.invariant-loop-byte
invariant-loop-byte l = record {
  digits : AllDigits 10 (take l.byte-index l.text);
  number_is : l.number ≡ digits_value 10 (take l.byte-index l.text);
}
