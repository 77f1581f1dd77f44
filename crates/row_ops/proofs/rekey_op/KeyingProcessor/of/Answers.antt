use Rattle.std.proofs.Common.{[]}
use Rattle.operator.specs.Holding.{nothing}
use Rattle.operator.specs.StandsFor.{StandsFor}
use Rattle.row_ops.specs.Keying.{node_of}
use Rattle.row_ops.proofs.Fresh.{always, rekey-stands}
use Rattle.row_ops.proofs.rekey_op.KeyingProcessor.of.Goals as goal

pub returns-clause-stands : goal.returns-clause-stands
returns-clause-stands c = always c.keying_of.result (λ made. StandsFor (node_of made) nothing []) (λ made. rekey-stands made [])
