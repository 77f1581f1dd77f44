use Rattle.std.proofs.Common.{◌≡◌, drop, map}
use Rattle.query_meaning.specs.Meaning.{meaning, meaning_from}
use Rattle.reference.specs.Plain.{changes_of}
use Rattle.reference.proofs.meaning.slow_meaning.Given as goal

abbrev pub invariant-loop-item : goal.invariant-loop-item
invariant-loop-item l = meaning_from l.program.items l.order (map changes_of l.lists.items) (drop l.item-index l.item-items) ≡ meaning l.program.items l.order
