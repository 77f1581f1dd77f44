use Rattle.std.proofs.Common.{subst}
use Rattle.ksql_rules.specs.Bodies.{IsBodyOf}
use Rattle.ksql_analyse.proofs.accepted.ItemNeeds.{accepted-query, few-declared}
use Rattle.ksql_analyse.proofs.item.item_of.Goals as goal

pub declared_relation-requires : goal.declared_relation-requires
declared_relation-requires c =
    few-declared c.args.catalog.now c.args.statement.now c.in-Declared.columns.now c.in-Declared.props.now
    (subst (λ b. IsBodyOf b c.args.catalog.now c.args.statement.now.body) c.in-Declared.is c.requires.body) c.requires.accepted

pub query_of-requires : goal.query_of-requires
query_of-requires c =
    let h = subst (λ b. IsBodyOf b c.args.catalog.now c.args.statement.now.body) c.in-Query.is c.requires.body in
    accepted-query c.args.catalog.now c.args.statement.now c.in-Query.props.now c.in-Query.findings h.0 h.1 h.2 c.requires.accepted c.requires.limits c.requires.plain
    c.requires.few
