use Rattle.std.proofs.Common.{rules}
use Rattle.std.proofs.lemmas.List.Sorted.{answers_always}
use Rattle.ksql_place.proofs.Ascending.{sorted-ascending}
use Rattle.ksql_place.proofs.Orders.{record_total}
use Rattle.ksql_place.proofs.order.order_of.Goals as goal

pub returns : goal.returns
returns c =
    let computes = answers_always _ _ _ (λ f a r g h. search rules) in
    sorted-ascending record_total c.args.records.items c.sort_by_key.new.self.items (c.in_ok-sort_by_key.ensures.sorted (λ r. r.stamp) computes) (c.in_ok-sort_by_key.ensures.stable (λ r. r.stamp) computes)
