use Rattle.std.proofs.Common.{◌≡◌, ◌++◌, drop, option_map}
use Rattle.csv.specs.Records.{fields_of}
use Rattle.topic_files.specs.Delimited.{row_of}
use Rattle.topic_files.proofs.delimited.row_of.Given as goal

-- the values so far are those of the fields so far
abbrev pub invariant-loop-i : goal.invariant-loop-i
invariant-loop-i l = row_of l.fn.columns (fields_of l.fn.fields)
    ≡ option_map (λ more. l.values.items ++ more) (row_of (drop l.i l.columns) (drop l.i (fields_of l.fn.fields)))
