-- A stream's change and its join key.
use Rattle.std.proofs.Common.{◌≡◌, List, [], ◌∷◌}
use Rattle.std.specs.Prelude.{Some, slice_get}
use Rattle.ksql_types.specs.declared.value.Value.{Value}
use Rattle.ksql_place.specs.declared.change.Change.{Change}
use Rattle.ksql_nodes.specs.Joins.{rekeyed}

pub keyed-one : (key : List Value) (c keyed : Change) → slice_get (rekeyed key c) 0 ≡ Some keyed → rekeyed key c ≡ keyed ∷ []
keyed-one [] c keyed first = cc
keyed-one (k ∷ ks) c keyed first = cc
