use Rattle.std.proofs.Common.{map, take}
use Rattle.run_text.specs.RowKeys.{AreTableLines}
use Rattle.run_text.proofs.declared.table_lines.Given as goal

-- the lines and the keys are those of the records so far
abbrev pub invariant-loop-fed : goal.invariant-loop-fed
invariant-loop-fed l = AreTableLines l.number (map (λ r. r.now) (take l.fed-index l.records)) l.table
