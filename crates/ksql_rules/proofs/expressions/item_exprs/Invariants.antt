use Rattle.std.proofs.Common.{◌≡◌, map, take}
use Rattle.std.specs.List.{flat_map}
use Rattle.ksql_clauses.specs.Sources.{item_exprs}
use Rattle.ksql_rules.proofs.expressions.item_exprs.Given as goal

abbrev pub invariant-loop-item : goal.invariant-loop-item
invariant-loop-item l = map (λ a. a.now) l.found.items ≡ flat_map item_exprs (take l.item-index l.items)
