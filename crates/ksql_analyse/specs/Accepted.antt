-- What is known about an accepted query when its item is built.
use Rattle.std.specs.Prelude.{◌≡◌, ◌<◌, ◌^◌, List, false, true, is_some, unwrap_or, codes}
use Rattle.statement_trees.specs.declared.tree.Property.{Property}
use Rattle.statement_trees.specs.declared.tree.Select.{Select}
use Rattle.statement_trees.specs.declared.tree.Statement.{Statement}
use Rattle.statement_trees.specs.declared.tree.StatementBody.TheVariants as body
use Rattle.ksql_program.specs.declared.query.Shape.{Shape}
use Rattle.ksql_clauses.specs.declared.sources.Known.{Known}
use Rattle.ksql_clauses.specs.Properties.{partitions_in, topic_in, value_of}
use Rattle.ksql_rules.specs.declared.findings.Findings.{Findings}
use Rattle.ksql_clauses.specs.Keys.{key_columns, value_columns}
use Rattle.ksql_rules.specs.Breaks.{has_large_window}
use Rattle.ksql_rules.specs.Findings.{AreFindings}
use Rattle.ksql_analyse.specs.Judgement.{IsShape, shape_keys, shape_values}
use Rattle.ksql_analyse.specs.Readable.{IsReadable}
use Rattle.ksql_analyse.specs.Typable.{AreColumnTrees, IsQueryTypable}

-- a query with all its findings: what it reads exists, its expressions have typed trees, and its window keeps its limit
pub record IsReady (f : Findings) : Type 0 where
  pub found : AreFindings f
  pub readable : IsReadable f.select.now f.known.items
  pub typable : IsQueryTypable f.select.now f.known.items
  pub window_small : has_large_window f.select.now.window ≡ false

-- the body of this statement, with few partitions, and with a legal topic if it names one
pub record IsAcceptedQuery (st : Statement) (ps : List Property) (f : Findings) : Type 0 where
  pub ready : IsReady f
  pub stated : st.body ≡ body.Query ps f.select.now
  pub few_partitions : unwrap_or (partitions_in ps) 1 < 2 ^ 32
  pub topic_there : is_some (value_of (codes "KAFKA_TOPIC") ps) ≡ true → is_some (topic_in ps) ≡ true

-- a shape of the query, with a tree that has a type for each column
pub record IsMade (q : Select) (ks : List Known) (made : Shape) : Type 0 where
  pub is : IsShape q ks made
  pub keyed : AreColumnTrees (key_columns q ks) (shape_keys made)
  pub valued : AreColumnTrees (value_columns q ks) (shape_values made)
