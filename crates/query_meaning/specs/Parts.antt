-- Parts of the meaning by themselves: what the records of a topic say, and what a query's join makes of what the query reads.
use Rattle.std.specs.Prelude.{ℕ, List, map, flat_map, filter, ◌==◌, Option, Some, None, option_map}
use Rattle.ksql_types.specs.declared.relation.Kind.{Kind}
use Rattle.ksql_types.specs.declared.relation.Kind.TheVariants.{Stream, Table, Windowed}
use Rattle.ksql_place.specs.Said.{saying}
use Rattle.ksql_place.specs.declared.change.Body.{Body}
use Rattle.ksql_place.specs.declared.change.Body.TheVariants.{Said, Turned}
use Rattle.ksql_place.specs.declared.change.Change.{Change}
use Rattle.ksql_place.specs.declared.change.SourceRecord.{SourceRecord}
use Rattle.ksql_program.specs.declared.program.Item.{Item}
use Rattle.ksql_program.specs.declared.query.From.{From}
use Rattle.ksql_nodes.specs.Entries.{Row, from_side, through}
use Rattle.ksql_nodes.specs.Nodes.{gives}
use Rattle.query_meaning.specs.Meaning.{steps_of_declared}
use Rattle.query_meaning.specs.Queries.{join_of, leftmost, partitions_at, read_entries}

-- what the records of a topic say to a relation of a kind
abbrev pub said_to : Kind → ℕ → List SourceRecord → List Change
said_to kind number order = flat_map (saying kind) (filter (λ r. r.stamp.topic == number) order)

-- the changes of a declared relation of a kind
abbrev pub changes_by : Kind → ℕ → List SourceRecord → List Change
changes_by kind number order = through (steps_of_declared kind number) (from_side 0 (said_to kind number order))

-- what a row, or that there is none, says to a relation of a kind
abbrev pub raw_body : Kind → Option Row → Option Body
raw_body Stream row = option_map (λ r. Said r) row
raw_body Table row = Some (Turned None row)
raw_body Windowed row = None

-- what the records of a topic say to a stream
abbrev pub rows_said : ℕ → List SourceRecord → List Change
rows_said number order = said_to Stream number order

-- the changes that a query reads: those of its relation, or what its join makes of those of its two relations
abbrev pub joined_changes : List Item → List (List Change) → From → List Change
joined_changes items lists f = through (map (gives (partitions_at items (leftmost f))) (join_of items f)) (read_entries items lists f)
