use Rattle.schedule_laws.proofs.Commands.{command-workers}
use Rattle.schedule_laws.proofs.DrainWorkers.{text-workers}
use Rattle.schedule_laws.proofs.laws.written_drains_have_workers.Goals as goal

pub returns : goal.returns
returns c = record {
  text = text-workers;
  command = command-workers;
}
