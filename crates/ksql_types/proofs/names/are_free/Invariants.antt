use Rattle.std.proofs.Common.{◌≡◌, map, length}
use Rattle.std.specs.List.{list_all}
use Rattle.std.specs.Prelude.{not}
use Rattle.ksql_types.specs.Names.{is_among, reserved_columns}
use Rattle.ksql_types.proofs.names.are_free.Given as goal

-- the rest decides
abbrev pub invariant-loop-names : goal.invariant-loop-names
invariant-loop-names l = list_all (λ name. not (is_among reserved_columns name)) (map (λ name. name.now) l.names) ≡ list_all (λ name. not (is_among reserved_columns name)) (map (λ name. name.now) l.fn.names)

abbrev pub decreases-loop-names : goal.decreases-loop-names
decreases-loop-names l = length l.names
