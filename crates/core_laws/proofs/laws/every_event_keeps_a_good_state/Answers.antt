use Rattle.core_laws.proofs.Fitting.{keeps-good, stays-good}
use Rattle.core_laws.proofs.laws.every_event_keeps_a_good_state.Goals as goal

pub returns : goal.returns
returns c = record { each = keeps-good; runs = stays-good }
