use Rattle.std.proofs.Common.{◌∙◌, ap, flat_map}
use Rattle.ksql_place.specs.Ascending.{ascending}
use Rattle.ksql_place.specs.Order.{record_cmp}
use Rattle.run_text.specs.Shown.{declared_records}
use Rattle.run_text.specs.Standings.{records_lent}
use Rattle.run_text.proofs.ShownLemmas.{alike-joined}
use Rattle.run_text.proofs.broker_text.consumption_of.Goals as goal

pub returns-clause-order : goal.returns-clause-order
returns-clause-order c =
    c.in_ok-order.ensures
    ∙ ap (ascending record_cmp)
    (ap (flat_map records_lent) c.as_slice.ensures.value
    ∙ alike-joined records_lent (declared_records c.args.broker.now) c.in_ok-of_items.of_items.items c.args.items.now c.in_ok-of_items.ensures)
