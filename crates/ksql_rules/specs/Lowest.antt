-- The lowest code whose rule a statement breaks, given the relations of the earlier statements.
use Rattle.std.specs.Prelude.{◌≡◌, ◌⊎◌, List, [], ◌∷◌}
use Rattle.ksql_types.specs.declared.relation.Relation.{Relation}
use Rattle.statement_trees.specs.declared.tree.Statement.{Statement}
use Rattle.ksql_types.specs.declared.code.Code.{Code}
use Rattle.ksql_types.specs.declared.code.Code.TheVariants.{TooLarge, UnknownRelation, NameTaken, UnknownColumn, AmbiguousColumn, DuplicateColumn, TypeMismatch, WrongKind, KeyMissing, JoinNotOnKey, PartitionMismatch, AggregateMisuse, BadWindow, Unsupported, BadProperty}
use Rattle.ksql_rules.specs.Breaks.{Breaks}

-- the codes of the judgement, lowest first
abbrev pub codes_in_order : List Code
codes_in_order =
    TooLarge ∷ UnknownRelation ∷ NameTaken ∷ UnknownColumn ∷ AmbiguousColumn ∷ DuplicateColumn ∷ TypeMismatch ∷ WrongKind
    ∷ KeyMissing ∷ JoinNotOnKey ∷ PartitionMismatch ∷ AggregateMisuse ∷ BadWindow ∷ Unsupported ∷ BadProperty ∷ []

-- the first of these codes whose rule a statement breaks
abbrev pub BreaksFirst : List Relation → Statement → List Code → Code → Type 0
BreaksFirst catalog st [] found = ⊥
BreaksFirst catalog st (c ∷ cs) found = (Breaks catalog st c × (found ≡ c)) ⊎ (¬ Breaks catalog st c × BreaksFirst catalog st cs found)

-- a statement breaks the rule of none of these
abbrev pub BreaksNone : List Relation → Statement → List Code → Type 0
BreaksNone catalog st [] = Unit {0}
BreaksNone catalog st (c ∷ cs) = ¬ Breaks catalog st c × BreaksNone catalog st cs

-- a statement's lowest code
abbrev pub IsRefused : List Relation → Statement → Code → Type 0
IsRefused catalog st found = BreaksFirst catalog st codes_in_order found

abbrev pub IsAccepted : List Relation → Statement → Type 0
IsAccepted catalog st = BreaksNone catalog st codes_in_order
