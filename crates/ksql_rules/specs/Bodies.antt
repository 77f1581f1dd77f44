-- The body of a statement in the judgement.
use Rattle.std.specs.Prelude.{◌≡◌, List}
use Rattle.ksql_types.specs.declared.relation.Relation.{Relation}
use Rattle.statement_trees.specs.declared.tree.StatementBody.{StatementBody}
use Rattle.statement_trees.specs.declared.tree.StatementBody.TheVariants as is
use Rattle.ksql_clauses.specs.Sources.{all_known}
use Rattle.ksql_rules.specs.declared.broken.Body.{Body}
use Rattle.ksql_rules.specs.declared.broken.Body.TheVariants.{Declared, Query}
use Rattle.ksql_rules.specs.Findings.{AreFindings}

-- a body is the one written in the statement, over these relations
abbrev pub IsBodyOf : Body → List Relation → StatementBody → Type 0
IsBodyOf (Declared columns props) catalog body = body ≡ is.Declared columns.now props.now
IsBodyOf (Query props findings) catalog body =
    (body ≡ is.Query props.now findings.select.now) × (findings.known.items ≡ all_known catalog findings.select.now) × AreFindings findings
