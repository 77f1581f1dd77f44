-- What the records of a topic say to its relation (Sax, Wang, Weidlich and Freytag, BIRTE 2018: a record of a stream is
-- a fact, and a record of a table sets or deletes the row of its key).
use Rattle.std.specs.Prelude.{List, [], ◌∷◌, filter, flat_map, Bool, ◌&&◌, ◌==◌, Option, Some, None, is_none}
use Rattle.ksql_types.specs.declared.relation.Kind.{Kind}
use Rattle.ksql_types.specs.declared.relation.Kind.TheVariants.{Stream, Table}
use Rattle.ksql_types.specs.declared.relation.Relation.{Relation}
use Rattle.ksql_types.specs.declared.value.Value.{Value}
use Rattle.ksql_place.specs.declared.change.Body.{Body}
use Rattle.ksql_place.specs.declared.change.Body.TheVariants.{Said, Turned}
use Rattle.ksql_place.specs.declared.change.Change.{Change}
use Rattle.ksql_place.specs.declared.change.Decoded.{Decoded}
use Rattle.ksql_place.specs.declared.change.Decoded.TheVariants.{Good, Tombstone}
use Rattle.ksql_place.specs.declared.change.SourceRecord.{SourceRecord}

-- what a record says: to a stream its row; to a table, if it has a key, its row or that there is none any more
abbrev pub said_by : Kind → List Value → Decoded → Option Body
said_by Stream key (Good row) = Some (Said row)
said_by Table (k ∷ ks) (Good row) = Some (Turned None (Some row))
said_by Table (k ∷ ks) Tombstone = Some (Turned None None)
said_by _ _ _ = None

-- the row that a change brings: a stream's row, or a table's new one
abbrev pub row_in : Body → Option (List Value)
row_in (Said row) = Some row
row_in (Turned old new) = new

-- the row that a table's change takes away
abbrev pub row_out : Body → Option (List Value)
row_out (Said row) = None
row_out (Turned old new) = old

-- whether a record is in a relation's topic
abbrev pub is_of_topic : Relation → SourceRecord → Bool
is_of_topic relation r = r.stamp.topic == relation.number

-- whether a record of a relation's topic is skipped: it says nothing
abbrev pub is_skipped : Relation → SourceRecord → Bool
is_skipped relation r = is_of_topic relation r && is_none (said_by relation.kind r.key r.value)

-- What a record says to a relation, at its place, with the empty path. For a table this is a raw change: its old row
-- isn't known here, and a tombstone says Turned None None; the node Table turns it into a change.
abbrev pub saying : Kind → SourceRecord → List Change
saying kind r = at_its_place (said_by kind r.key r.value)
  where
    at_its_place : Option Body → List Change
    at_its_place None = []
    at_its_place (Some body) = record { place = record { stamp = r.stamp; path = [] }; time = r.time; key = r.key; span = None; body = body } ∷ []

-- what the records of an order say to a relation, in that order
unfoldable pub said : Relation → List SourceRecord → List Change
said relation order = flat_map (saying relation.kind) (filter (is_of_topic relation) order)
