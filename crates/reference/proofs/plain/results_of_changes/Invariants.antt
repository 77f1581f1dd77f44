use Rattle.std.proofs.Common.{◌≡◌, take}
use Rattle.std.specs.List.{flat_map}
use Rattle.reference.specs.Plain.{plain_gives}
use Rattle.reference.proofs.plain.results_of_changes.Given as goal

abbrev pub invariant-loop-change : goal.invariant-loop-change
invariant-loop-change l =
    l.changes.items ≡ flat_map (plain_gives l.plain.columns l.plain.filter.now l.plain.keys.now l.plain.values.now) (take l.change-index l.source)
