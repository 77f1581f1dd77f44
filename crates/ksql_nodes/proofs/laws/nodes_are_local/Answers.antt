use Rattle.ksql_nodes.proofs.Results.{results-more}
use Rattle.ksql_nodes.proofs.Stamps.{gives-keeps}
use Rattle.ksql_nodes.proofs.Locality.{gives-fixed, gives-divided}
use Rattle.ksql_nodes.proofs.laws.nodes_are_local.Goals as goal

pub returns-clause-more : goal.returns-clause-more
returns-clause-more c = results-more

pub returns-clause-stamps : goal.returns-clause-stamps
returns-clause-stamps c = gives-keeps

pub returns-clause-local : goal.returns-clause-local
returns-clause-local c = gives-fixed

pub returns-clause-divided : goal.returns-clause-divided
returns-clause-divided c = gives-divided
