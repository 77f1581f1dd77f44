use Rattle.std.proofs.Common.{◌≡◌, ◌∙◌, ◌∷◌, ◌++◌, List, ap, map, rules, subst, sym}
use Rattle.ksql_types.specs.declared.relation.StoreEntry.{StoreEntry}
use Rattle.op_chain.specs.declared.op.Op.{Op}
use Rattle.op_chain.specs.Along.{IsLogOf}
use Rattle.op_chain.specs.Chain.{HaveOwnStores}
use Rattle.op_chain.proofs.Logs.{log-more, own-tail}
use Rattle.op_chain.proofs.Ops.{held_of, node_of}
use Rattle.op_chain.proofs.along.+changes_along.Goals as goal

pub changes_along-requires : goal.changes_along-requires
changes_along-requires t c =
    (search rules, own-tail (node_of c.in-Some.op.now) (map node_of c.in-Some.later.now) (subst (λ (ops : List Op). HaveOwnStores (map node_of ops)) c.in-Some.ensures.cases.0 c.requires))

pub returns-clause-log : goal.returns-clause-log
returns-clause-log t c =
    let op = c.in-Some.op.now in
    let later = c.in-Some.later.now in
    let split : c.args.ops.now ≡ op ∷ later = c.in-Some.ensures.cases.0 in
    let first : List StoreEntry = c.in_ok-changes.field-0 in
    let more : List StoreEntry = c.in_ok-more.more.items in
    let whole : c.append.new.self.items ≡ first ++ more = c.in_ok-append.ensures.items ∙ ap (λ (log : List StoreEntry). log ++ more) c.into_items-log.ensures in
    subst (λ (ops : List Op). IsLogOf (map node_of ops) (map held_of ops) c.append.new.self.items) (sym split)
    (subst (IsLogOf (map node_of (op ∷ later)) (map held_of (op ∷ later))) (sym whole)
    (log-more (node_of op) (map node_of later) (held_of op) (map held_of later) first more
    (subst (λ (ops : List Op). HaveOwnStores (map node_of ops)) split c.requires)
    c.in_ok-changes.ensures.replayed c.in_ok-changes.ensures.loadable c.in_ok-changes.ensures.own c.in_ok-more.ensures.log))
