-- The content of a relation's topic, compared with the relation's changes.
use Rattle.std.specs.Prelude.{◌≡◌, List}
use Rattle.std.specs.List.{AllByRecursion}
use Rattle.ksql_types.specs.declared.relation.Kind.TheVariants.{Stream, Table}
use Rattle.ksql_types.specs.declared.relation.Relation.{Relation}
use Rattle.ksql_place.specs.declared.change.Change.{Change}
use Rattle.lane_laws.specs.Lanes.{IsKeyed, tabled}

-- a stream's topic has its changes, and a table's has what the node Table makes them of
pub record IsRaw (r : Relation) (raw changes : List Change) : Type 0 where
  pub keyed : r.kind ≡ Table → AllByRecursion (λ c. IsKeyed c.key) raw
  pub stream : r.kind ≡ Stream → changes ≡ raw
  pub table : r.kind ≡ Table → changes ≡ tabled r.number raw
