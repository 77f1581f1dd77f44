use Rattle.std.proofs.Common.{◌∙◌, ap, map, rules}
use Rattle.std.proofs.lemmas.Cmp.{on_total}
use Rattle.std.proofs.lemmas.List.Sorted.{answers_always, ranks_by}
use Rattle.ksql_place.proofs.Ascending.{sorted-ascending}
use Rattle.ksql_place.proofs.TwoLists.{map-ascending}
use Rattle.run_text.specs.Shown.{standing_cmp}
use Rattle.run_text.specs.Standings.{standing_of}
use Rattle.run_text.proofs.ShownLemmas.{standing_total}
use Rattle.run_text.proofs.visible.by_place.Goals as goal

pub returns : goal.returns
returns c =
    let before = c.args.changes.items in
    let is_order = ranks_by standing_total standing_of in
    let compares = answers_always _ _ _ (λ f a r g h. search rules) in
    let sorted =
    sorted-ascending (on_total standing_of standing_total) before c.sort_by.new.self.items (c.in_ok-sort_by.ensures.sorted _ is_order compares)
    (c.in_ok-sort_by.ensures.stable _ is_order compares) in
    ap (map standing_of) sorted ∙ map-ascending standing_cmp standing_of before
