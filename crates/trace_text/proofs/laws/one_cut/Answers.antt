use Rattle.trace_text.proofs.Cuts.{is-cut, only-cut}
use Rattle.trace_text.proofs.laws.one_cut.Goals as goal

pub returns-clause-is : goal.returns-clause-is
returns-clause-is c = is-cut

pub returns-clause-only : goal.returns-clause-only
returns-clause-only c = only-cut
