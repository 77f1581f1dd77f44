use Rattle.std.proofs.Common.{◌≡◌, take}
use Rattle.std.specs.List.{flat_map}
use Rattle.reference.specs.Plain.{plain_gives}
use Rattle.query_meaning.specs.Parts.{rows_said}
use Rattle.reference.proofs.plain.results_of_records.Given as goal

abbrev pub invariant-loop-fed : goal.invariant-loop-fed
invariant-loop-fed l =
    l.changes.items ≡ flat_map (plain_gives l.plain.columns l.plain.filter.now l.plain.keys.now l.plain.values.now) (rows_said l.number (take l.fed-index l.order))
