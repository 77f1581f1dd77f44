use Rattle.std.proofs.Common.{◌≡◌, length}
use Rattle.std.specs.List.{list_all}
use Rattle.ksql_types.specs.Names.{is_topic_byte}
use Rattle.ksql_types.proofs.names.are_topic_bytes.Given as goal

-- the rest decides
abbrev pub invariant-loop-bytes : goal.invariant-loop-bytes
invariant-loop-bytes l = list_all is_topic_byte l.bytes ≡ list_all is_topic_byte l.fn.bytes

abbrev pub decreases-loop-bytes : goal.decreases-loop-bytes
decreases-loop-bytes l = length l.bytes
