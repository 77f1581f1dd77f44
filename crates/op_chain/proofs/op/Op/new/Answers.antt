use Rattle.std.proofs.Common.{◌∙◌, [], ap, subst, sym}
use Rattle.ksql_nodes.specs.declared.node.Node.{Node}
use Rattle.operator.specs.Holding.{Held, committed, no_maps, replayed}
use Rattle.operator.specs.StandsFor.{StandsFor}
use Rattle.op_chain.proofs.Laws.{stands-none}
use Rattle.op_chain.proofs.op.Op.new.Goals as goal

pub returns-clause-stands : goal.returns-clause-stands
returns-clause-stands c =
    let node : Node = c.args.node.now in
    subst (λ (held : Held). StandsFor node held [])
    (sym (c.in_ok-load.ensures.loaded ∙ ap (λ (n : Node). committed (replayed n no_maps [])) c.in_ok-op.ensures.node))
    (stands-none node)
