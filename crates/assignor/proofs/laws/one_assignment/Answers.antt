use Rattle.assignor.proofs.OneAssignment.{is-assignment, one-assignment}
use Rattle.assignor.proofs.laws.one_assignment.Goals as goal

pub returns-clause-is : goal.returns-clause-is
returns-clause-is c = is-assignment

pub returns-clause-only : goal.returns-clause-only
returns-clause-only c = one-assignment
