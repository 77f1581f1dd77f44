-- The steps of a schedule, one after another.
use Rattle.std.proofs.Common.{sym, subst, List, arith}
use Rattle.std.specs.Prelude.{All}
use Rattle.ksql_program.specs.declared.program.Item.{Item}
use Rattle.topic_files.specs.declared.topic.TopicLines.{TopicLines}
use Rattle.topology.specs.Topologies.{topology_of}
use Rattle.topology.specs.declared.schedule.Lined.{Lined}
use Rattle.cluster_core.specs.Cluster.{HasCome, IsBuilt}
use Rattle.cluster_laws.specs.Progress.{after_steps, opening}
use Rattle.cluster_core.proofs.Driving.{IsDriven, driven-all, driven-next, driven-none}
use Rattle.cluster_core.proofs.cluster.drive.Goals as goal

pub loop-step-init : goal.loop-step-init
loop-step-init c = driven-none c.args.program.now.items c.args.files.items c.args.workers c.items-step-items.result.now c.in_ok-cluster.cluster c.in_ok-cluster.ensures

pub step-requires : goal.step-requires
step-requires c =
    let items : List Item = c.args.program.now.items in
    let lines : List Lined = c.items-step-items.result.now in
    let driven : IsDriven items c.args.files.items c.args.workers lines c.loop-step.step-index c.loop-step.cluster = c.loop-step.invariant in
    record {
      built =
          subst (λ (l : Lined). IsBuilt l.step) (sym c.step-item.is)
          (subst (All (λ (l : Lined). IsBuilt l.step)) (sym c.items-step-items.ensures) c.requires.built c.loop-step.step-index c.step-item.result c.loop-step-test.true);
      come = (items, driven.p, c.requires.sound, driven.come);
    }

pub loop-step-preserved : goal.loop-step-preserved
loop-step-preserved c =
    let items : List Item = c.args.program.now.items in
    let files : List TopicLines = c.args.files.items in
    let lines : List Lined = c.items-step-items.result.now in
    let driven : IsDriven items files c.args.workers lines c.loop-step.step-index c.loop-step.cluster = c.loop-step.invariant in
    driven-next items files c.args.workers lines c.loop-step.step-index c.loop-step.cluster c.in_ok-cluster-2.cluster c.step-item.result c.loop-step-test.true c.step-item.is driven
    (c.in_ok-cluster-2.ensures.come items driven.p c.requires.sound driven.come)

pub returns : goal.returns
returns c =
    let items : List Item = c.args.program.now.items in
    let files : List TopicLines = c.args.files.items in
    subst (λ (ls : List Lined). HasCome items (after_steps (topology_of items) (opening (topology_of items) items files c.args.workers) ls) c.loop-step.cluster) c.items-step-items.ensures
    (driven-all items files c.args.workers c.items-step-items.result.now c.loop-step.step-index c.loop-step.cluster (omega (arith, c.loop-step-test.false)) c.loop-step.invariant)
