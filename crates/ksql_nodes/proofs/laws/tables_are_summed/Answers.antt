use Rattle.ksql_nodes.proofs.OneStep.{aggregate_of_table-through}
use Rattle.ksql_nodes.proofs.laws.tables_are_summed.Goals as goal

pub returns : goal.returns
returns c = λ n keys aggs es tk ok table. aggregate_of_table-through n keys tk aggs ok es table
