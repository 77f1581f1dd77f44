use Rattle.std.proofs.lemmas.Result.{on_err_weaker, on_ok_weaker}
use Rattle.ksql_nodes.specs.Entries.{Entry}
use Rattle.agg_ops.proofs.WindowHeld.{windows-front, windows-next}
use Rattle.agg_ops.proofs.window_agg_op.WindowGroupsProcessor.process.Goals as goal

pub returns-clause-next : goal.returns-clause-next
returns-clause-next c =
    let old = c.self.inside in
    let e : Entry = record { side = c.args._side; change = c.args.change } in
    rw (← c.self.view_is)
    (on_ok_weaker c.give.result
    (λ next. windows-next c.items-aggs.result.now old.aggs old.window old.kept c.give.new.windows c.args.out.now.items c.give.new.out.items e c.items-aggs.ensures (next c.args._side))
    c.give.ensures.next)

pub returns-clause-out : goal.returns-clause-out
returns-clause-out c =
    let old = c.self.inside in
    let e : Entry = record { side = c.args._side; change = c.args.change } in
    rw (← c.self.view_is)
    (on_err_weaker c.give.result
    (λ added. (added.0, added.1, windows-front c.items-aggs.result.now old.aggs old.window old.kept added.0 e c.items-aggs.ensures (added.2 c.args._side)))
    c.give.ensures.out)
