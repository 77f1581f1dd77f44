use Rattle.std.proofs.Common.{◌≡◌, ◌++◌, length, take}
use Rattle.std.specs.List.{flat_map}
use Rattle.record_codec.specs.Spelling.{four}
use Rattle.record_codec.proofs.writing.put_path.Given as goal

-- the number of numbers, and the first of them
abbrev pub invariant-loop-number : goal.invariant-loop-number
invariant-loop-number l = l.out.items ≡ l.fn.out.items ++ (four (length l.path) ++ flat_map four (take l.number-index l.path))
