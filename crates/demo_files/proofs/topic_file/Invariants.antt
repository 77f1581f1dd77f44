use Rattle.std.proofs.Common.{◌≡◌, string_bytes}
use Rattle.demo_files.specs.Demo.{demo_topic_file}
use Rattle.demo_files.proofs.topic_file.Given as goal

-- the lines of the records so far are written
abbrev pub invariant-loop-i : goal.invariant-loop-i
invariant-loop-i l = string_bytes l.out ≡ demo_topic_file l.i
