use Rattle.std.proofs.lemmas.Result.{on_ok_weaker}
use Rattle.ksql_nodes.specs.Nodes.{gives}
use Rattle.join_ops.proofs.stream_table_op.StreamTableProcessor.process.Goals as goal

pub returns-clause-next : goal.returns-clause-next
unfolding gives
returns-clause-next c =
    on_ok_weaker c.take.result
    (λ next. λ es s.
    let given = next es (record { spelled = s.spelled; rows = s.exact.right }) in (
      given.0,
      record {
        spelled = given.1.spelled;
        exact = record { left = s.exact.left; right = given.1.rows; aggregate = s.exact.aggregate; windows = s.exact.windows; time = s.exact.time };
      },
    ))
    c.take.ensures.next
