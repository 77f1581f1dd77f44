-- The relations of a script.
use Rattle.std.specs.Prelude.{List, [], ◌∷◌, ℕ, ◌+◌, ◌==◌, Bool, true, not, ◌&&◌, ◌||◌, Option, find, bytes_eq, IsTrue}
use Rattle.std.specs.List.{list_all, list_any}
use Rattle.ksql_types.specs.declared.relation.Relation.{Relation}

-- whether a relation has the name
abbrev pub has_name : List ℕ → Relation → Bool
has_name name relation = bytes_eq name relation.name

-- whether a relation has the topic
abbrev pub has_topic : List ℕ → Relation → Bool
has_topic topic relation = bytes_eq topic relation.topic

-- the relation with the name
abbrev pub find_named : List ℕ → List Relation → Option Relation
find_named name relations = find (has_name name) relations

-- whether one of the relations has the name or the topic
abbrev pub is_taken : List ℕ → List ℕ → List Relation → Bool
is_taken name topic relations = list_any (λ relation. has_name name relation || has_topic topic relation) relations

abbrev pub IsTaken : List ℕ → List ℕ → List Relation → Type 0
IsTaken name topic relations = IsTrue (is_taken name topic relations)

-- whether all names and all topics of the relations differ
abbrev pub are_distinct : List Relation → Bool
are_distinct [] = true
are_distinct (relation ∷ more) = not (is_taken relation.name relation.topic more) && are_distinct more

-- whether the relations are numbered consecutively, starting from a number
abbrev pub are_numbered : ℕ → List Relation → Bool
are_numbered first [] = true
are_numbered first (relation ∷ more) = (relation.number == first) && are_numbered (first + 1) more

-- relations whose numbers are their indices, and whose names and topics all differ
abbrev pub IsCatalog : List Relation → Type 0
IsCatalog relations = IsTrue (are_numbered 0 relations && are_distinct relations)

-- each relation is paired with its own name
abbrev pub AreNamed : List (List ℕ × Relation) → Type 0
AreNamed entries = IsTrue (list_all (λ entry. bytes_eq entry.0 entry.1.name) entries)
