use Rattle.ksql_cli.proofs.Schedules.{schedule-built}
use Rattle.ksql_cli.proofs.run.schedule_of.Goals as goal

pub returns-clause-built : goal.returns-clause-built
returns-clause-built g c =
    schedule-built c.args.program.now.items c.in_ok-topology.topology c.args.asked.now.workers c.as_slice.result.now c.in_ok-read_schedule.field-0.steps c.in_ok-read_schedule.ensures.read
