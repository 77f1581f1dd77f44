use Rattle.std.proofs.Common.{◌∙◌, ap, map, rules}
use Rattle.std.proofs.lemmas.Cmp.{on_total}
use Rattle.std.proofs.lemmas.List.Sorted.{answers_always, ranks_by}
use Rattle.std.proofs.lemmas.Result.{on_ok_weaker}
use Rattle.ksql_place.proofs.Ascending.{sorted-ascending}
use Rattle.ksql_place.proofs.TwoLists.{map-ascending}
use Rattle.run_text.specs.Lines.{shown_of}
use Rattle.run_text.specs.Report.{row_cmp}
use Rattle.run_text.specs.RowOrder.{row_total}
use Rattle.run_text.proofs.rows.sort_by_row.Goals as goal

pub returns : goal.returns
returns c =
    let before = c.args.lines.now.items in
    let is_order = ranks_by row_total shown_of in
    let compares = answers_always _ _ _ (λ f a r g h. search rules) in
    let stable = c.sort_by.ensures.stable _ is_order compares in
    on_ok_weaker c.sort_by.result
    (λ sorted. ap (map shown_of) (sorted-ascending (on_total shown_of row_total) before c.sort_by.new.self.items (sorted _ is_order compares) stable) ∙ map-ascending row_cmp shown_of before)
    c.sort_by.ensures.sorted
