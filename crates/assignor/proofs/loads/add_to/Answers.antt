use Rattle.assignor.specs.declared.loads.Load.{Load}
use Rattle.assignor.specs.Loads.{one_more}
use Rattle.assignor.proofs.ListLemmas.{replaced_more}
use Rattle.assignor.proofs.loads.add_to.Goals as goal

pub loop-load-preserved : goal.loop-load-preserved
loop-load-preserved c =
    let none : Load = record { worker = 0; tasks = 0 } in
    replaced_more (one_more c.args.worker) c.args.loads.now c.loop-load.loads c.loop-load.load-index none c.one_more.result c.loop-load-test.true c.loop-load.invariant c.one_more.ensures
