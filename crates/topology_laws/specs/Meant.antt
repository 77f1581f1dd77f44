-- A topology means what its queries mean, partition by partition.
use Rattle.std.specs.Prelude.{◌≡◌, ℕ, ◌==◌, List, filter, Some, slice_get}
use Rattle.ksql_place.specs.declared.change.SourceRecord.{SourceRecord}
use Rattle.ksql_program.specs.declared.program.Item.{Item}
use Rattle.ksql_program.specs.declared.program.Item.TheVariants.{Started}
use Rattle.ksql_program.specs.declared.query.Query.{Query}
use Rattle.query_meaning.specs.Meaning.{meaning, partition_of}
use Rattle.query_meaning.specs.Queries.{changes_at}
use Rattle.topology.specs.Contents.{contents}
use Rattle.topology.specs.declared.topology.Topology.{Topology}

-- each partition of the topic of each query's result has the changes that the query means there, and no others
abbrev pub MeansItsQueries : List Item → Topology → List SourceRecord → Type 0
MeansItsQueries items t order =
    (number : ℕ) (q : Query) → slice_get items number ≡ Some (Started q) → (part : ℕ) →
    contents items t order number part ≡ filter (λ c. partition_of q.out c == part) (changes_at (meaning items order) number)
