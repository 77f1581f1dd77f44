use Rattle.std.proofs.Common.{◌∙◌, Bor, ap, map, rules}
use Rattle.std.proofs.lemmas.Cmp.{on_total}
use Rattle.std.proofs.lemmas.List.Sorted.{answers_always}
use Rattle.ksql_place.specs.Order.{record_cmp}
use Rattle.ksql_place.specs.declared.change.SourceRecord.{SourceRecord}
use Rattle.ksql_place.proofs.Ascending.{sorted-ascending}
use Rattle.ksql_place.proofs.Orders.{record_total}
use Rattle.ksql_place.proofs.TwoLists.{map-ascending}
use Rattle.run_text.proofs.visible.by_stamp.Goals as goal

pub returns : goal.returns
returns c =
    let lent = λ (r : Bor SourceRecord). r.now in
    let before = c.args.records.items in
    let computes = answers_always _ _ _ (λ f a r g h. search rules) in
    let sorted =
    sorted-ascending (on_total lent record_total) before c.sort_by_key.new.self.items (c.in_ok-sort_by_key.ensures.sorted (λ r. r.now.stamp) computes)
    (c.in_ok-sort_by_key.ensures.stable (λ r. r.now.stamp) computes) in
    ap (map lent) sorted ∙ map-ascending record_cmp lent before
