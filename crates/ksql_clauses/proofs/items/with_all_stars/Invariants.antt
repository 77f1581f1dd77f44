use Rattle.std.proofs.Common.{◌≡◌, ◌++◌, take}
use Rattle.std.specs.List.{flat_map}
use Rattle.ksql_clauses.specs.Items.{star_of}
use Rattle.ksql_clauses.proofs.items.with_all_stars.Given as goal

abbrev pub invariant-loop-source : goal.invariant-loop-source
invariant-loop-source l = l.found.items ≡ l.fn.found.items ++ flat_map (star_of l.known) (take l.source-index l.known)
