use Rattle.std.proofs.Common.{◌≡◌, sym, subst, false}
use Rattle.std.specs.Ordering.{is_gt}
use Rattle.std.proofs.lemmas.List.Kept.{AllPairs-filter}
use Rattle.ksql_place.specs.Order.{place_cmp}
use Rattle.core_state.specs.Wired.{is_between, log_feed}
use Rattle.topic_log.specs.Entries.{entries_in}
use Rattle.topic_log.specs.Order.{IsInPlaceOrder, place_of}
use Rattle.task_core.proofs.inputs.rest_of.Goals as goal

pub returns-clause-order : goal.returns-clause-order
returns-clause-order c =
    subst IsInPlaceOrder (sym c.fed_between.ensures)
    (AllPairs-filter (λ x y. is_gt (place_cmp (place_of x) (place_of y)) ≡ false) (is_between log_feed c.args.feeds.from c.args.feeds.to) (entries_in c.visible-shown.result)
    c.visible-shown.ensures.in_order)
