use Rattle.std.proofs.lemmas.Result.{on_ok_weaker}
use Rattle.ksql_nodes.specs.Nodes.{gives}
use Rattle.row_ops.proofs.table_op.TableRowsProcessor.process.Goals as goal

pub returns-clause-next : goal.returns-clause-next
unfolding gives
returns-clause-next c =
    on_ok_weaker c.give.result
    (λ next. λ es s.
    let given = next c.args._side es (record { spelled = s.spelled; rows = s.exact.left }) in (
      given.0,
      record {
        spelled = given.1.spelled;
        exact = record { left = given.1.rows; right = s.exact.right; aggregate = s.exact.aggregate; windows = s.exact.windows; time = s.exact.time };
      },
    ))
    c.give.ensures.next
