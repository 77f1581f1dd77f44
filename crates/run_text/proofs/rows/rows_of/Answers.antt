use Rattle.std.proofs.Common.{◌∙◌, ap, map}
use Rattle.std.specs.Prelude.{filter, is_some}
use Rattle.ksql_place.specs.Ascending.{ascending}
use Rattle.run_text.specs.Lines.{shown_of}
use Rattle.run_text.specs.Printed.{Shown}
use Rattle.run_text.specs.Report.{row_cmp, rows_of}
use Rattle.run_text.proofs.LatestLemmas.{shown-with_row}
use Rattle.run_text.proofs.rows.rows_of.Goals as goal

pub returns : goal.returns
unfolding rows_of
returns c =
    let latest = c.as_slice.result.now in
    let rows =
    ap (map shown_of) c.in_ok-rows.ensures ∙ shown-with_row latest
    ∙ ap (filter (λ (s : Shown). is_some s.row)) (ap (map shown_of) c.as_slice.ensures.keys ∙ c.in_ok-latest.ensures) in
    c.in_ok-sort_by_row.ensures ∙ ap (ascending row_cmp) rows
