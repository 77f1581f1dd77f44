use Rattle.std.proofs.Common.{◌≡◌, ◌∙◌, ap, subst, sym}
use Rattle.std.specs.Prelude.{IsSome, map}
use Rattle.ksql_types.specs.declared.relation.TaskName.{TaskName}
use Rattle.core_state.specs.declared.log.LogEntry.TheVariants.{Fed}
use Rattle.node_tests.specs.Plain.{AreFiltered}
use Rattle.topic_log.specs.Shelves.{part_at, shelf_of}
use Rattle.task_core.specs.Tasks.{TaskView}
use Rattle.node_tests.proofs.Modest.{filtered-operators, filtered-own, readable-one, storable-one}
use Rattle.node_tests.proofs.tasks.stepped.Goals as goal

pub fresh-requires : goal.fresh-requires
fresh-requires c = filtered-operators c.in_ok-sub.sub.nodes (subst AreFiltered (sym c.in_ok-sub.ensures.nodes) c.in_ok-nodes.ensures)

pub advance-requires-clause-readable : goal.advance-requires-clause-readable
advance-requires-clause-readable c =
    let t : TaskView = c.in_ok-task.task in
    let is = c.in_ok-task.ensures.task in
    readable-one c.args.broker.now t (record { topic = 0; relation = 0; keys = 1 }) (ap (λ (t : TaskView). t.inputs) is ∙ c.in_ok-sub.ensures.inputs)
    (subst (λ (n : TaskName). IsSome (part_at c.args.broker.now 0 n.part)) (sym (ap (λ (t : TaskView). t.name) is)) c.requires.part)

pub advance-requires-clause-stores : goal.advance-requires-clause-stores
advance-requires-clause-stores c =
    let t : TaskView = c.in_ok-task.task in
    filtered-own t.nodes (subst AreFiltered (sym (ap (λ (t : TaskView). t.nodes) c.in_ok-task.ensures.task ∙ c.in_ok-sub.ensures.nodes)) c.in_ok-nodes.ensures)

pub advance-requires-clause-storable : goal.advance-requires-clause-storable
advance-requires-clause-storable c =
    let t : TaskView = c.in_ok-task.task in
    let is = c.in_ok-task.ensures.task in
    let shown = c.requires.shown in
    storable-one c.args.broker.now t (record { topic = 0; relation = 0; keys = 1 }) shown.0 (ap (λ (t : TaskView). t.inputs) is ∙ c.in_ok-sub.ensures.inputs)
    (subst (λ (n : TaskName). (shelf_of c.args.broker.now).shown 0 n.part ≡ map Fed shown.0) (sym (ap (λ (t : TaskView). t.name) is)) shown.1) shown.2 c.in_ok-task.ensures.stands
    (subst AreFiltered (sym (ap (λ (t : TaskView). t.nodes) is ∙ c.in_ok-sub.ensures.nodes)) c.in_ok-nodes.ensures)
