use Rattle.std.proofs.Common.{◌≡◌, ◌++◌, take, flat_map, map, string_bytes}
use Rattle.ksql_program.specs.Program.{relations}
use Rattle.run_text.specs.Report.{fed_line}
use Rattle.run_text.proofs.order.push_order.Given as goal

-- the lines of the records so far are written
abbrev pub invariant-loop-fed : goal.invariant-loop-fed
invariant-loop-fed l = string_bytes l.out ≡ string_bytes l.initial.out ++ flat_map (fed_line (relations l.items)) (map (λ r. r.now) (take l.fed-index l.order))
