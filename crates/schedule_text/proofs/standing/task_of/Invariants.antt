use Rattle.std.proofs.Common.{◌≡◌, drop}
use Rattle.schedule_text.specs.Forms.{named}
use Rattle.schedule_text.specs.Refusals.{is_task}
use Rattle.schedule_text.proofs.standing.task_of.Given as goal

-- the task belongs to none of the sub-topologies so far
abbrev pub invariant-loop-other : goal.invariant-loop-other
invariant-loop-other l = is_task l.subs (named l.sub l.part) ≡ is_task (drop l.other-index l.subs) (named l.sub l.part)
