use Rattle.std.proofs.Common.{◌∙◌, ◌+◌, ap, sym, drop, get_or}
use Rattle.std.specs.Prelude.{Option, Some}
use Rattle.std.proofs.lemmas.List.{at_drop_more}
use Rattle.assignor.specs.declared.loads.Load.{Load}
use Rattle.assignor.specs.Loads.{first_load, lightest}
use Rattle.assignor.proofs.LoadLemmas.{first_load-assoc}
use Rattle.assignor.proofs.loads.lightest.Goals as goal

pub loop-load-preserved : goal.loop-load-preserved
loop-load-preserved c =
    let loads = c.args.loads.now in
    let i = c.loop-load.load-index in
    let none : Load = record { worker = 0; tasks = 0 } in
    let load : Load = get_or loads i none in
    let rest : Option Load = lightest (drop (i + 1) loads) in
    ap (λ (best : Option Load). first_load best rest) c.first_load.ensures
    ∙ first_load-assoc c.loop-load.best (Some load) rest
    ∙ sym (ap (first_load c.loop-load.best) (at_drop_more lightest loads i none c.loop-load-test.true))
    ∙ c.loop-load.invariant
