use Rattle.std.proofs.Common.{◌≡◌, ◌∙◌, length, string_len, string_bytes, arith, rules, ap}
use Rattle.ksql_types.specs.Text.{longest_text}
use Rattle.topology.specs.Topologies.{repartition_name}
use Rattle.topology_build.proofs.Names.{name-short, name-spelled}
use Rattle.topology_build.proofs.building.repartition_name.Goals as goal

pub of-requires : goal.of-requires
unfolding longest_text
of-requires c =
    let text = c.in_ok-format.field-0 in
    let query = c.args.query.now in
    let spelled : string_bytes text ≡ repartition_name query c.args.cut =
    name-spelled (string_bytes text) c.items-query.result.now c.cut_text-cut.result.now query c.args.cut c.in_ok-format.ensures.ok c.items-query.ensures.value c.cut_text-cut.ensures in
    let len : string_len text ≡ length (string_bytes text) = search rules in
    omega (arith, ap length spelled, len, name-short query c.args.cut, c.requires)

pub returns : goal.returns
returns c =
    c.in_ok-of.ensures
    ∙ name-spelled (string_bytes c.in_ok-format.field-0) c.items-query.result.now c.cut_text-cut.result.now c.args.query.now c.args.cut c.in_ok-format.ensures.ok c.items-query.ensures.value c.cut_text-cut.ensures
