use Rattle.lane_laws.proofs.NodeLanes.{laned-aggregate, laned-filter, laned-group, laned-having, laned-stream-join, laned-table, laned-table-join}
use Rattle.lane_laws.proofs.Sending.{laned-through}
use Rattle.lane_laws.proofs.laws.nodes_are_laned.Goals as goal

pub returns-clause-conditions : goal.returns-clause-conditions
returns-clause-conditions c = λ n on es. (laned-filter n on es, laned-having n on es)

pub returns-clause-tables : goal.returns-clause-tables
returns-clause-tables c = laned-table

pub returns-clause-aggregates : goal.returns-clause-aggregates
returns-clause-aggregates c = laned-aggregate

pub returns-clause-groups : goal.returns-clause-groups
returns-clause-groups c = laned-group

pub returns-clause-stream_joins : goal.returns-clause-stream_joins
returns-clause-stream_joins c = laned-stream-join

pub returns-clause-table_joins : goal.returns-clause-table_joins
returns-clause-table_joins c = laned-table-join

pub returns-clause-in_a_row : goal.returns-clause-in_a_row
returns-clause-in_a_row c = laned-through
