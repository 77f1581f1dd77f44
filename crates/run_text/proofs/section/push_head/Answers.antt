use Rattle.std.proofs.Common.{append_assoc, arith, refl}
use Rattle.std.proofs.lemmas.Grind.{common_steps}
use Rattle.run_text.specs.Report.{head_line, table_rows}
use Rattle.run_text.proofs.ReportLemmas.{count_text-rows}
use Rattle.run_text.proofs.section.push_head.Goals as goal

pub returns : goal.returns
unfolding head_line
returns c shown long listed =
    let kind = c.args.relation.now.kind in
    let rows = table_rows kind shown in
    let count = c.in_ok-push_count.ensures rows listed in
    let same = count_text-rows kind shown rows refl in
    grind (arith, common_steps, append_assoc, count, same, long)
