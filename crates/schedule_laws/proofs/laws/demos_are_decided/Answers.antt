use Rattle.schedule_laws.proofs.DemoDecided.{demo-decided}
use Rattle.schedule_laws.proofs.laws.demos_are_decided.Goals as goal

pub returns : goal.returns
returns c = demo-decided
