use Rattle.std.proofs.Common.{◌≡◌, ◌∙◌, ap, length, arith}
use Rattle.topology.specs.Stages.{stages_of}
use Rattle.topology.specs.Topologies.{cuts_of}
use Rattle.topology_build.proofs.Counts.{cuts-few, stages-few}
use Rattle.topology_build.proofs.building.Parts.push_query.Goals as goal

pub push_stages-requires-clause-few_topics : goal.push_stages-requires-clause-few_topics
push_stages-requires-clause-few_topics c =
    let items = c.args.program.now.items in
    let query = c.args.query.now in
    let cuts : c.as_slice.result.now ≡ cuts_of (stages_of items query) =
    c.as_slice.ensures.value ∙ c.in_ok-cuts.ensures ∙ ap cuts_of (c.items.ensures ∙ c.in_ok-stages.ensures) in
    omega (arith, ap length c.items-2.ensures, c.len.ensures, c.args.self.now.cuts.ok.0, ap length cuts, cuts-few items query, c.requires.sound.few, c.requires.few_cuts)

pub push_stages-requires-clause-few_subs : goal.push_stages-requires-clause-few_subs
push_stages-requires-clause-few_subs c =
    omega (arith, ap length c.in_ok-stages.ensures, stages-few c.args.program.now.items c.args.query.now, c.requires.few_subs)

pub push_stages-requires-clause-few_cuts : goal.push_stages-requires-clause-few_cuts
push_stages-requires-clause-few_cuts c =
    omega (arith, ap length c.in_ok-stages.ensures, stages-few c.args.program.now.items c.args.query.now, c.requires.sound.few, c.requires.few_cuts)
