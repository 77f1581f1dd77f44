use Rattle.std.proofs.Common.{◌∙◌, ap, append_assoc, arith, length, map, sym}
use Rattle.std.proofs.lemmas.Grind.{common_steps}
use Rattle.std.proofs.lemmas.List.{length-map}
use Rattle.topic_files.specs.Printed.{printed_by, value_text}
use Rattle.run_text.specs.Lines.{extent_text, shown_of}
use Rattle.run_text.specs.Printed.{change_line, row_line}
use Rattle.run_text.specs.Report.{row_lines, section_text}
use Rattle.run_text.proofs.ReportLemmas.{lines-by, told}
use Rattle.run_text.proofs.section.push_section.Goals as goal

pub returns : goal.returns
unfolding section_text row_lines
returns c =
    let relation = c.args.relation.now in
    let section = told relation c.args.closed c.args.skipped c.args.lines.now in
    let by = printed_by c.in_ok-printer.printer in
    let many = sym (ap length c.in_ok-rows.ensures) ∙ length-map c.in_ok-rows.rows.items shown_of ∙ omega (arith, c.in_ok-rows.rows.ok, c.len.ensures) in
    let head = c.in_ok-push_head.ensures section.shown (length-map c.args.lines.now shown_of) many in
    let changes = lines-by change_line by (value_text relation) c.in_ok-printer.ensures section.shown in
    let rows = lines-by row_line by (value_text relation) c.in_ok-printer.ensures (map shown_of c.as_slice.result.now) in
    let shown = ap (map shown_of) c.as_slice.ensures.value ∙ c.in_ok-rows.ensures in
    let text = ap (λ e. extent_text e section) c.in_default.is in
    grind (arith, common_steps, append_assoc, head, c.in_ok-push_changes.ensures, c.push_rows.ensures, changes, rows, shown, text)
