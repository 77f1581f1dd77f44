use Rattle.std.proofs.Common.{◌≡◌, take}
use Rattle.query_meaning.specs.Parts.{said_to}
use Rattle.reference.proofs.steps.said_to.Given as goal

abbrev pub invariant-loop-fed : goal.invariant-loop-fed
invariant-loop-fed l = l.changes.items ≡ said_to l.kind l.number (take l.fed-index l.order)
