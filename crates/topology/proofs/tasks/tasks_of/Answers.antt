use Rattle.std.proofs.Common.{◌≡◌, ◌∙◌, ap, sym, subst, List, arith}
use Rattle.std.proofs.lemmas.List.{take_all}
use Rattle.ksql_types.specs.declared.relation.TaskName.{TaskName}
use Rattle.ksql_types.specs.Order.{task_cmp}
use Rattle.ksql_place.specs.Ascending.{Rises}
use Rattle.topology.specs.declared.topology.Sub.{Sub}
use Rattle.topology.specs.Tasks.{tasks_of}
use Rattle.topology.proofs.Ascent.{tasks-rise}
use Rattle.topology.proofs.tasks.tasks_of.Goals as goal

pub returns-clause-ascending : goal.returns-clause-ascending
returns-clause-ascending c = λ up.
    let listed : List Sub = c.items-subs.result.now in
    let all : c.loop-sub.tasks.items ≡ tasks_of c.args.t.now.subs =
    c.loop-sub.invariant ∙ ap tasks_of (take_all c.loop-sub.sub-index listed (omega (arith, c.loop-sub-test.false))) ∙ ap tasks_of c.items-subs.ensures in
    subst (λ (tasks : List TaskName). Rises task_cmp tasks) (sym all) (tasks-rise c.args.t.now.subs up)
