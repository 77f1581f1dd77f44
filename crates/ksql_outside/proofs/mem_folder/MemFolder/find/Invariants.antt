use Rattle.std.proofs.Common.{◌≡◌, drop}
use Rattle.ksql_outside.specs.Outside.{content}
use Rattle.ksql_outside.proofs.mem_folder.MemFolder.find.Given as goal

-- the file, if any, is among those not yet looked at
abbrev pub invariant-loop-file_name : goal.invariant-loop-file_name
invariant-loop-file_name l = content l.name l.fn.self.files ≡ content l.name (drop l.file_name-index l.file_name-items)
