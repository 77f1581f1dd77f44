use Rattle.std.proofs.lemmas.Result.{on_ok_weaker}
use Rattle.ksql_nodes.specs.Nodes.{gives}
use Rattle.join_ops.proofs.table_table_op.TableTableProcessor.process.Goals as goal

pub returns-clause-next : goal.returns-clause-next
unfolding gives
returns-clause-next c =
    on_ok_weaker c.give.result
    (λ next. λ es s.
    let given = next es (record { spelled = s.spelled; left_rows = s.exact.left; right_rows = s.exact.right }) in (
      given.0,
      record {
        spelled = given.1.spelled;
        exact = record { left = given.1.left_rows; right = given.1.right_rows; aggregate = s.exact.aggregate; windows = s.exact.windows; time = s.exact.time };
      },
    ))
    c.give.ensures.next
