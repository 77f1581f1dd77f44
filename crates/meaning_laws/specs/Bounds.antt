-- Bounds on times and paths, and the content of keys and rows.
use Rattle.std.specs.Prelude.{◌≡◌, ℕ, ◌≤◌, ◌^◌, IsTrue, List, [], ◌∷◌, length, All, Some, IfSome}
use Rattle.std.specs.List.{AllZip}
use Rattle.ksql_types.specs.Key.{IsKey}
use Rattle.ksql_types.specs.declared.relation.Column.{Column}
use Rattle.ksql_types.specs.declared.relation.Relation.{Relation}
use Rattle.ksql_types.specs.declared.value.SqlType.{SqlType}
use Rattle.ksql_types.specs.declared.value.Value.{Value}
use Rattle.ksql_place.specs.declared.change.Body.{Body}
use Rattle.ksql_place.specs.declared.change.Body.TheVariants.{Said, Turned}
use Rattle.ksql_place.specs.declared.change.Change.{Change}
use Rattle.ksql_place.specs.declared.change.Decoded.{Decoded}
use Rattle.ksql_place.specs.declared.change.Decoded.TheVariants.{Good}
use Rattle.ksql_place.specs.declared.change.SourceRecord.{SourceRecord}
use Rattle.ksql_expr.specs.Rules.{fits, type_of}
use Rattle.ksql_program.specs.Program.{relation_at}
use Rattle.ksql_program.specs.declared.program.Item.{Item}
use Rattle.query_meaning.specs.Queries.{changes_at}

-- ---- times and paths

-- a record's time is at most 2^53
abbrev pub IsInTime : SourceRecord → Type 0
IsInTime r = r.time ≤ 2 ^ 53

-- a change's time is at most 2^53, and its path has at most 512 numbers
pub record IsSmall (c : Change) : Type 0 where
  pub time : c.time ≤ 2 ^ 53
  pub path : length c.place.path ≤ 512

-- ---- keys and rows

-- a value is NULL or of a type
abbrev pub IsOf : SqlType → Value → Type 0
IsOf ty v = IsTrue (fits ty (type_of v))

-- a row has a value for each column, NULL or of its type
abbrev pub IsRowOf : List Column → List Value → Type 0
IsRowOf cs row = AllZip (λ c v. IsOf c.ty v) cs row

-- a key is empty, or has a value for each key column, each of its type: at most eight, none of them NULL
abbrev pub IsKeyOf : List Column → List Value → Type 0
IsKeyOf cs [] = Unit {0}
IsKeyOf cs (v ∷ vs) = IsRowOf cs (v ∷ vs) × IsKey (v ∷ vs)

-- each row of a change is one of these columns
abbrev pub IsBodyOf : List Column → Body → Type 0
IsBodyOf cs (Said row) = IsRowOf cs row
IsBodyOf cs (Turned old new) = IfSome old (IsRowOf cs) × IfSome new (IsRowOf cs)

-- a change has a key and rows of a relation's columns
pub record HasColumnsOf (r : Relation) (c : Change) : Type 0 where
  pub key : IsKeyOf r.schema.keys c.key
  pub rows : IsBodyOf r.schema.values c.body

-- the row of a record, if it has a good one, is one of these columns
abbrev pub IsDecodedOf : List Column → Decoded → Type 0
IsDecodedOf cs (Good row) = IsRowOf cs row
IsDecodedOf cs _ = Unit {0}

-- a record has a key and a row of its relation's columns
pub record IsRecordOf (items : List Item) (source : SourceRecord) : Type 0 where
  pub key : (r : Relation) → relation_at items source.stamp.topic ≡ Some r → IsKeyOf r.schema.keys source.key
  pub row : (r : Relation) → relation_at items source.stamp.topic ≡ Some r → IsDecodedOf r.schema.values source.value

-- each change of each relation has a key and rows of the relation's columns
abbrev pub HaveColumns : List Item → List (List Change) → Type 0
HaveColumns items lists = (number : ℕ) (r : Relation) → relation_at items number ≡ Some r → All (HasColumnsOf r) (changes_at lists number)
