use Rattle.std.proofs.Common.{◌≡◌, ◌∙◌, ◌++◌, ℕ, List, ap, append_assoc, arith, length, map, string_bytes, subst, sym}
use Rattle.std.specs.Prelude.{OnOk}
use Rattle.std.proofs.lemmas.Grind.{common_steps}
use Rattle.std.proofs.lemmas.List.{length-map}
use Rattle.topic_files.specs.Printed.{printed_by, value_text}
use Rattle.run_text.specs.Lines.{shown_of}
use Rattle.run_text.specs.Printed.{row_line}
use Rattle.run_text.specs.Report.{row_lines, summary_rows, summary_text, table_rows}
use Rattle.run_text.proofs.ReportLemmas.{head_alone, lines-by, told}
use Rattle.run_text.proofs.section.push_summary.Goals as goal

pub returns-in-Stream : goal.returns-in-Stream
returns-in-Stream c =
    let section = told c.args.relation.now c.args.closed c.args.skipped c.args.lines.now in
    let head = c.push_head.ensures section.shown (length-map c.args.lines.now shown_of) (ap (λ k. length (table_rows k section.shown)) c.in-Stream.is) in
    subst (λ (text : List ℕ). OnOk c.push_head.result (string_bytes c.push_head.new.out ≡ string_bytes c.args.out.now ++ text))
    (head_alone section (ap (λ k. summary_rows k section) c.in-Stream.is)) head

pub returns-in_ok-rows-in-Windowed : goal.returns-in_ok-rows-in-Windowed
returns-in_ok-rows-in-Windowed c =
    let section = told c.args.relation.now c.args.closed c.args.skipped c.args.lines.now in
    let rows = ap (λ k. length (table_rows k section.shown)) c.in-Windowed.is ∙ sym c.in_ok-rows-in-Windowed.ensures in
    let head = c.push_head-in-Windowed.ensures section.shown (length-map c.args.lines.now shown_of) rows in
    subst (λ (text : List ℕ). OnOk c.push_head-in-Windowed.result (string_bytes c.push_head-in-Windowed.new.out ≡ string_bytes c.args.out.now ++ text))
    (head_alone section (ap (λ k. summary_rows k section) c.in-Windowed.is)) head

pub returns-in_ok-printer-in-Table : goal.returns-in_ok-printer-in-Table
unfolding summary_text row_lines
returns-in_ok-printer-in-Table c =
    let relation = c.args.relation.now in
    let section = told relation c.args.closed c.args.skipped c.args.lines.now in
    let many = sym (ap length c.in_ok-rows-in-Table.ensures) ∙ length-map c.in_ok-rows-in-Table.rows.items shown_of ∙ omega (arith, c.in_ok-rows-in-Table.rows.ok, c.len.ensures) in
    let head = c.in_ok-push_head-in-Table.ensures section.shown (length-map c.args.lines.now shown_of) many in
    let rows = lines-by row_line (printed_by c.in_ok-printer-in-Table.printer) (value_text relation) c.in_ok-printer-in-Table.ensures (map shown_of c.as_slice.result.now) in
    let shown = ap (map shown_of) c.as_slice.ensures.value ∙ c.in_ok-rows-in-Table.ensures in
    let listed = ap (λ k. summary_rows k section) c.in-Table.is in
    grind (arith, common_steps, append_assoc, head, c.push_rows.ensures, rows, shown, listed)
