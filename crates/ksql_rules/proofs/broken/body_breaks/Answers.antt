use Rattle.std.proofs.Common.{IsTrue, IfOk, sym, subst}
use Rattle.std.specs.Prelude.{◌↔◌}
use Rattle.ksql_rules.specs.Bodies.{IsBodyOf}
use Rattle.ksql_rules.specs.Breaks.{BodyBreaks, QueryBreaks}
use Rattle.ksql_rules.proofs.broken.body_breaks.Goals as goal

pub returns-in-Query : goal.returns-in-Query
returns-in-Query c =
    let catalog = c.args.catalog.now in
    let st = c.args.statement.now in
    let h = subst (λ b. IsBodyOf b catalog st.body) c.in-Query.is c.requires in
    subst (λ body. IfOk c.query_breaks.result (λ broken. IsTrue broken ↔ BodyBreaks catalog st body c.args.code)) (sym h.0)
    (subst (λ ks. IfOk c.query_breaks.result (λ broken. IsTrue broken ↔ QueryBreaks catalog st c.in-Query.props.now c.in-Query.findings.select.now ks c.args.code))
    h.1 c.query_breaks.ensures)
