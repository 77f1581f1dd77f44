use Rattle.std.proofs.Common.{List, All, map, rules, subst}
use Rattle.op_chain.specs.declared.op.Op.{Op}
use Rattle.op_chain.specs.Chain.{MayLoad}
use Rattle.op_chain.proofs.Logs.{loadable-head, loadable-tail}
use Rattle.op_chain.proofs.Ops.{node_of}
use Rattle.op_chain.proofs.along.+load_along.Goals as goal

pub load-requires : goal.load-requires
load-requires t c =
    let log = c.args.log.now in
    loadable-head (node_of c.in-Some.op.now) (map node_of c.in-Some.later.now) log
    (subst (λ (ops : List Op). All (MayLoad (map node_of ops)) log) c.in-Some.ensures.cases.0 c.requires)

pub load_along-requires : goal.load_along-requires
load_along-requires t c =
    let op = c.in-Some.op.now in
    let later = c.in-Some.later.now in
    let log = c.args.log.now in
    (search rules, loadable-tail (node_of op) (map node_of later) log (subst (λ (ops : List Op). All (MayLoad (map node_of ops)) log) c.in-Some.ensures.cases.0 c.requires))
