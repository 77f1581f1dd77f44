use Rattle.schedule_laws.proofs.Commands.{command-at-once}
use Rattle.schedule_laws.proofs.laws.without_a_schedule_all_is_shown.Goals as goal

pub returns : goal.returns
returns c = command-at-once
