use Rattle.std.proofs.lemmas.Result.{on_ok_weaker}
use Rattle.ksql_nodes.specs.Nodes.{gives}
use Rattle.agg_ops.proofs.GroupsLemmas.{same-aggs}
use Rattle.agg_ops.proofs.groups.GroupsProcessor.process.Goals as goal

pub returns-clause-next : goal.returns-clause-next
unfolding gives
returns-clause-next c =
    on_ok_weaker c.give.result
    (λ next. λ es s.
    let given = same-aggs c.args.self.now.over c.items-aggs.result.now c.args.self.now.aggs c.args.self.now.kept.map _ _ _ c.args.change c.args._side es c.items-aggs.ensures (next c.args._side es)
    (record { keys = s.spelled.0; spelled = s.spelled.1; groups = s.exact.aggregate }) in (
      given.0,
      record {
        spelled = (given.1.keys, given.1.spelled);
        exact = record { left = s.exact.left; right = s.exact.right; aggregate = given.1.groups; windows = s.exact.windows; time = s.exact.time };
      },
    ))
    c.give.ensures.next
