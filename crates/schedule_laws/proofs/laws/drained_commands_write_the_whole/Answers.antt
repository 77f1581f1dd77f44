use Rattle.schedule_laws.proofs.Commands.{command-whole}
use Rattle.schedule_laws.proofs.laws.drained_commands_write_the_whole.Goals as goal

pub returns : goal.returns
returns c = command-whole
