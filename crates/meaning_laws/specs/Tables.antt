-- What the changes of a table say about the rows before them (Sax, Wang, Weidlich and Freytag, BIRTE 2018: a table is,
-- for each key, the row that its latest change left).
use Rattle.std.specs.Prelude.{◌≡◌, ℕ, List, ◌∷◌, ◌++◌, Some}
use Rattle.ksql_types.specs.declared.relation.Kind.TheVariants.{Table}
use Rattle.ksql_types.specs.declared.relation.Relation.{Relation}
use Rattle.ksql_place.specs.Said.{row_in}
use Rattle.ksql_place.specs.declared.change.Body.TheVariants.{Turned}
use Rattle.ksql_place.specs.declared.change.Change.{Change}
use Rattle.ksql_program.specs.Program.{relation_at}
use Rattle.ksql_program.specs.declared.program.Item.{Item}
use Rattle.ksql_nodes.specs.Entries.{from_side, of_key, row_after}
use Rattle.query_meaning.specs.Queries.{changes_at}

-- the old row of each change is the new row of the latest earlier change of its key, and absent if there is none
abbrev pub IsTurning : List Change → Type 0
IsTurning changes = (before after : List Change) (c : Change) → changes ≡ before ++ c ∷ after →
    c.body ≡ Turned (row_after (of_key c.key (from_side 0 before))) (row_in c.body)

-- this holds of the changes of each table of a program
abbrev pub TablesTurn : List Item → List (List Change) → Type 0
TablesTurn items lists = (number : ℕ) (r : Relation) → relation_at items number ≡ Some r → r.kind ≡ Table → IsTurning (changes_at lists number)
