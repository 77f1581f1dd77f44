use Rattle.ksql_place.proofs.Queues.{order_taken, only_order, part_kept}
use Rattle.ksql_place.proofs.laws.order_is_merged.Goals as goal

pub returns : goal.returns
returns c = record { taken = order_taken; only = only_order; kept = part_kept }
