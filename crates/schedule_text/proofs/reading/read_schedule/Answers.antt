-- Each line takes what was read one line further.
use Rattle.std.proofs.Common.{◌++◌, ap, refl, sym, rules, ◌∙◌}
use Rattle.schedule_text.specs.Schedules.{lined}
use Rattle.schedule_text.proofs.Reached.{go_on, moved, start}
use Rattle.schedule_text.proofs.reading.read_schedule.Goals as goal

pub loop-line-init : goal.loop-line-init
loop-line-init c = record {
  can_next = tt;
  is_finite = tt;
  reached = start c.args.program.now.items c.args.topology.now c.args.workers c.args.bytes.now _ _ _ _ c.items.ensures c.items-2.ensures c.in_ok-chain_of.ensures refl (search rules) c.in_ok-standing.ensures c.new-steps.ensures.items;
}

pub loop-line-preserved-in_ok-push-in-Ok-Some : goal.loop-line-preserved-in_ok-push-in-Ok-Some
loop-line-preserved-in_ok-push-in-Ok-Some c =
    let reached = moved c.in-Some.ensures.steps refl c.loop-line.invariant.reached in
    let next = c.read_line.new.self in
    let read = c.in-Ok-Some.ensures.read c.args.workers reached.before reached.stands in
    record {
      can_next = tt;
      is_finite = tt;
      reached = moved refl (ap (λ step. c.loop-line.steps.items ++ lined next.lines step) c.in-Ok-Some.field-0-is ∙ sym c.in_ok-push-in-Ok-Some.ensures.items)
          (go_on c.in-Some.line.now reached c.in-Ok-Some.field-0 next read.0 read.1 (c.in-Ok-Some.ensures.stands c.args.workers reached.before reached.stands)
          c.read_line.ensures.lines c.read_line.ensures.bytes c.in-Ok-Some.ensures.short c.in-Ok-Some.ensures.rounds);
    }
