use Rattle.std.proofs.Common.{rules, ◌≡◌, subst, sym}
use Rattle.assignor.specs.Rule.{assignment, IsAssignment}
use Rattle.assignor.proofs.OneAssignment.{is-assignment}
use Rattle.assignor.proofs.assigning.assign.Goals as goal

pub returns-clause-assigned : goal.returns-clause-assigned
returns-clause-assigned c = λ up.
    let previous = c.args.previous.now in
    let live = c.args.live.now in
    let tasks = c.args.tasks.now in
    let found : c.of-2.result ≡ assignment previous live tasks = search rules in
    subst (IsAssignment previous live tasks) (sym found) (is-assignment previous live tasks up)
