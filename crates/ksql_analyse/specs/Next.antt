-- Why a statement has no item.
use Rattle.std.specs.Prelude.{◌≡◌, ℕ, List}
use Rattle.ksql_types.specs.declared.relation.Relation.{Relation}
use Rattle.statement_trees.specs.declared.tree.Statement.{Statement}
use Rattle.ksql_rules.specs.Lowest.{IsRefused}
use Rattle.ksql_analyse.specs.declared.fault.AnalyseFault.{AnalyseFault}
use Rattle.ksql_analyse.specs.declared.fault.AnalyseFault.TheVariants.{Refused, OutOfMemory}

-- the statement with a number is refused with its lowest code, or memory is short
abbrev pub IsFaultOf : List Relation → Statement → ℕ → AnalyseFault → Type 0
IsFaultOf catalog st number (Refused m c) = (m ≡ number) × IsRefused catalog st c
IsFaultOf catalog st number OutOfMemory = Unit {0}
