-- Windows as written, in milliseconds (ksqlDB reference manual, "Windows").
use Rattle.std.specs.Prelude.{ℕ, ◌+◌, ◌*◌, ◌^◌, ◌==◌, Bool, true, false, ◌&&◌, ◌||◌, nat_lt, Option, Some, None}
use Rattle.statement_trees.specs.declared.tree.SpanText.{SpanText}
use Rattle.statement_trees.specs.declared.tree.Unit.{Unit as UnitWord}
use Rattle.statement_trees.specs.declared.tree.Unit.TheVariants.{Day, Hour, Minute, Second, Millisecond}
use Rattle.statement_trees.specs.declared.tree.WindowText.{WindowText}
use Rattle.statement_trees.specs.declared.tree.WindowText.TheVariants.{Tumbling, Hopping}
use Rattle.ksql_types.specs.declared.relation.Window.{Window}

abbrev pub unit_millis : UnitWord → ℕ
unit_millis Day = 86400000
unit_millis Hour = 3600000
unit_millis Minute = 60000
unit_millis Second = 1000
unit_millis Millisecond = 1

abbrev pub millis : SpanText → ℕ
millis s = s.digits * unit_millis s.unit

-- a missing GRACE PERIOD is 24 hours
abbrev pub grace_millis : Option SpanText → ℕ
grace_millis None = 86400000
grace_millis (Some s) = millis s

-- the window as written; a tumbling window advances by its size
abbrev pub window_of : WindowText → Window
window_of (Tumbling size retention grace) = record { size = millis size; advance = millis size; grace = grace_millis grace }
window_of (Hopping size advance retention grace) = record { size = millis size; advance = millis advance; grace = grace_millis grace }

-- whether a span is above 2^53 milliseconds
abbrev pub is_long : SpanText → Bool
is_long s = nat_lt (2 ^ 53) (millis s)

-- whether an optional span is
abbrev pub has_long : Option SpanText → Bool
has_long None = false
has_long (Some s) = is_long s

-- whether a record is in more than 64 windows, given an advance above 0
abbrev pub has_many : SpanText → SpanText → Bool
has_many size advance = nat_lt 0 (millis advance) && nat_lt (64 * millis advance) (millis size)

-- whether a window exceeds a limit: a span is above 2^53 milliseconds, or a record has more than 64 windows
abbrev pub is_too_large : WindowText → Bool
is_too_large (Tumbling size retention grace) = is_long size || has_long retention || has_long grace
is_too_large (Hopping size advance retention grace) = is_long size || is_long advance || has_long retention || has_long grace || has_many size advance

-- whether RETENTION is below the size and the grace together
abbrev pub keeps_too_little : SpanText → Option SpanText → Option SpanText → Bool
keeps_too_little size None grace = false
keeps_too_little size (Some retention) grace = nat_lt (millis retention) (millis size + grace_millis grace)

-- whether a window is invalid: its size or advance is 0, it advances by more than its size, or its retention is too
-- short
abbrev pub is_bad : WindowText → Bool
is_bad (Tumbling size retention grace) = (millis size == 0) || keeps_too_little size retention grace
is_bad (Hopping size advance retention grace) =
    (millis size == 0) || (millis advance == 0) || nat_lt (millis size) (millis advance) || keeps_too_little size retention grace
