use Rattle.schedule_text.specs.Schedules.{schedule_of}
use Rattle.schedule_text.specs.Standing.{setting_view}
use Rattle.schedule_text.proofs.Reached.{Reached}
use Rattle.schedule_text.proofs.reading.read_schedule.Given as goal

-- the lines so far were read
abbrev pub invariant-loop-line : goal.invariant-loop-line
invariant-loop-line l = record {
  can_next : (goal.iterator-loop-line).can_next l.line-iterator;
  is_finite : (goal.iterator-loop-line).is_finite l.line-iterator;
  reached : Reached (schedule_of l.fn.program.items l.fn.topology l.fn.workers l.fn.bytes) (setting_view l.setting) l.fn.workers l.line-iterator l.standing l.steps.items;
}
