use Rattle.std.proofs.Common.{◌∙◌, [], List, ap, map, subst, sym}
use Rattle.operator.specs.Holding.{Maps, maps_of}
use Rattle.op_chain.specs.Chain.{StandAlong, maps_after}
use Rattle.op_chain.proofs.Laws.{fresh-stands}
use Rattle.op_chain.proofs.RowSteps.{maps-committed}
use Rattle.op_chain.proofs.chain.Chain.new.Goals as goal

pub returns-clause-stands : goal.returns-clause-stands
returns-clause-stands c =
    let nodes = c.args.nodes.now in
    subst (λ (maps : List Maps). StandAlong nodes maps []) (sym (ap (map maps_of) c.in_ok-operators_of.ensures.held ∙ maps-committed (maps_after nodes [])))
    (fresh-stands nodes c.requires)
