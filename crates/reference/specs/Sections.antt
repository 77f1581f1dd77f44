-- What is shown of the relations of a program, from their changes.
use Rattle.std.specs.Prelude.{ℕ, List, map, nat_le, Bool, ◌&&◌, slice_index_or}
use Rattle.ksql_types.specs.declared.relation.Relation.{Relation}
use Rattle.ksql_place.specs.Said.{is_skipped}
use Rattle.ksql_place.specs.declared.change.Change.{Change}
use Rattle.ksql_place.specs.declared.change.SourceRecord.{SourceRecord}
use Rattle.ksql_program.specs.declared.program.Item.{Item}
use Rattle.ksql_program.specs.Program.{relations}
use Rattle.query_meaning.specs.Meaning.{up_to}
use Rattle.query_meaning.specs.Queries.{changes_at}
use Rattle.run_text.specs.Report.{meant, section_of, Section}

-- the feed up to which the relation of this number is shown
abbrev pub closed_at : List ℕ → ℕ → ℕ
closed_at closed number = slice_index_or closed number 0

-- what is shown of each relation of a program, each up to its own feed, where these are their changes up to there
unfoldable pub sections : List ℕ → List Item → List SourceRecord → List (List Change) → List Section
sections closed items order lists =
    map (λ r. section_of (closed_at closed r.number) r (up_to (closed_at closed r.number) order) (meant r (changes_at lists r.number))) (relations items)

-- whether a record, up to a feed, is a skipped one of a relation's topic
abbrev pub is_skipped_up_to : Relation → ℕ → SourceRecord → Bool
is_skipped_up_to relation feed r = nat_le r.stamp.feed feed && is_skipped relation r
