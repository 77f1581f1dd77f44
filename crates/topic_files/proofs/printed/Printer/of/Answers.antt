-- A printer prints rows in the format of the relation.
use Rattle.std.proofs.Common.{ap, sym, ◌∙◌}
use Rattle.topic_files.specs.Printed.{after_commas, labels_of, led_text, row_in}
use Rattle.topic_files.proofs.Texts.{led_text-after_commas}
use Rattle.topic_files.proofs.printed.Printer.of.Goals as goal

pub returns-in_ok-labels-in-Json : goal.returns-in_ok-labels-in-Json
unfolding row_in
returns-in_ok-labels-in-Json c row =
    let values = c.args.relation.now.schema.values in
    ap (λ labels. led_text labels row) (c.in_ok-labels-in-Json.ensures ∙ ap (λ columns. after_commas (labels_of columns)) c.items.ensures)
    ∙ led_text-after_commas (labels_of values) row
    ∙ ap (λ format. row_in format values row) (sym c.in-Json.is)

pub returns-in-Delimited : goal.returns-in-Delimited
unfolding row_in
returns-in-Delimited c row = ap (λ format. row_in format c.args.relation.now.schema.values row) (sym c.in-Delimited.is)
