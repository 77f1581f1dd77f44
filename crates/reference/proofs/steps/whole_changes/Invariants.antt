use Rattle.std.proofs.Common.{◌≡◌, map, take}
use Rattle.query_meaning.specs.Queries.{with_key_cells}
use Rattle.reference.proofs.steps.whole_changes.Given as goal

abbrev pub invariant-loop-change : goal.invariant-loop-change
invariant-loop-change l = l.changes.items ≡ map (with_key_cells l.columns) (take l.change-index l.source)
