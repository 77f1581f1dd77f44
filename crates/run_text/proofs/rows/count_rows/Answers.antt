use Rattle.std.proofs.Common.{◌∙◌, ap, length, map, sym}
use Rattle.std.specs.Prelude.{filter, is_some}
use Rattle.std.proofs.lemmas.List.{length-map}
use Rattle.std.proofs.lemmas.List.Sorted.{length_permutation}
use Rattle.std.proofs.lemmas.List.Sums.{length-filter}
use Rattle.ksql_place.proofs.Ascending.{IsPermutation-ascending}
use Rattle.run_text.specs.Lines.{shown_of}
use Rattle.run_text.specs.Printed.{Shown}
use Rattle.run_text.specs.Report.{latest_of, rows_of}
use Rattle.run_text.specs.RowOrder.{row_total}
use Rattle.run_text.specs.declared.line.Line.{Line}
use Rattle.run_text.proofs.LatestLemmas.{shown-with_row}
use Rattle.run_text.proofs.rows.count_rows.Goals as goal

pub returns : goal.returns
unfolding rows_of
returns c =
    let latest = c.as_slice.result.now in
    let has_row = λ (line : Line). is_some (shown_of line).row in
    let rows = filter (λ (s : Shown). is_some s.row) (latest_of (map shown_of c.args.lines.now)) in
    let same =
    shown-with_row latest ∙ ap (filter (λ (s : Shown). is_some s.row)) (ap (map shown_of) c.as_slice.ensures.keys ∙ c.in_ok-latest.ensures) in
    c.count_with_row.ensures ∙ sym (length-filter has_row latest) ∙ sym (length-map (filter has_row latest) shown_of)
    ∙ ap length same ∙ sym (length_permutation rows _ (IsPermutation-ascending row_total rows))
