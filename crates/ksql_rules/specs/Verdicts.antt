-- The verdict on a statement, given the relations of the earlier statements.
use Rattle.std.specs.Prelude.{List}
use Rattle.ksql_types.specs.declared.relation.Relation.{Relation}
use Rattle.statement_trees.specs.declared.tree.Statement.{Statement}
use Rattle.ksql_rules.specs.declared.verdict.Verdict.{Verdict}
use Rattle.ksql_rules.specs.declared.verdict.Verdict.TheVariants.{Accepted, Refused}
use Rattle.ksql_rules.specs.Bodies.{IsBodyOf}
use Rattle.ksql_rules.specs.Lowest.{IsAccepted, IsRefused}

-- the lowest code whose rule it breaks, or that it breaks none, with its body and the findings about it
abbrev pub IsVerdict : List Relation → Statement → Verdict → Type 0
IsVerdict catalog st (Refused c) = IsRefused catalog st c
IsVerdict catalog st (Accepted body) = IsAccepted catalog st × IsBodyOf body catalog st.body
