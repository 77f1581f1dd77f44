use Rattle.std.proofs.Common.{[]}
use Rattle.std.specs.Prelude.{if◌then◌else◌}
use Rattle.ksql_nodes.specs.declared.node.Node.TheVariants.{Filter, Having}
use Rattle.operator.specs.Holding.{nothing}
use Rattle.operator.specs.StandsFor.{StandsFor}
use Rattle.row_ops.proofs.Fresh.{always, filter-stands}
use Rattle.row_ops.proofs.filter_op.FilterProcessor.of.Goals as goal

pub returns-in-Filter-clause-stands : goal.returns-in-Filter-clause-stands
returns-in-Filter-clause-stands c = always c.condition.result (λ made. StandsFor (if made.having then Having made.on else Filter made.on) nothing []) (λ made. filter-stands made.having made.on [])

pub returns-in-Having-clause-stands : goal.returns-in-Having-clause-stands
returns-in-Having-clause-stands c = always c.condition-in-Having.result (λ made. StandsFor (if made.having then Having made.on else Filter made.on) nothing []) (λ made. filter-stands made.having made.on [])
