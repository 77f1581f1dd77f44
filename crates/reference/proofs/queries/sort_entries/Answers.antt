use Rattle.std.proofs.Common.{◌∙◌, ap, map, rules}
use Rattle.std.proofs.lemmas.Cmp.{on_total}
use Rattle.std.proofs.lemmas.Fn.{always_returns_same}
use Rattle.std.proofs.lemmas.List.Sorted.{ranks_by}
use Rattle.std.proofs.lemmas.Result.{on_ok_weaker}
use Rattle.ksql_place.proofs.Ascending.{sorted-ascending}
use Rattle.ksql_place.proofs.TwoLists.{map-ascending}
use Rattle.reference.specs.Steps.{entry_of}
use Rattle.query_meaning.specs.Queries.{entry_cmp}
use Rattle.query_meaning.proofs.QuerySteps.{entries_total}
use Rattle.reference.proofs.queries.sort_entries.Goals as goal

pub returns : goal.returns
returns c =
    let before = c.args.entries.now.items in
    let total = entries_total c.args.left c.args.right in
    let is_order = ranks_by total entry_of in
    let compares = always_returns_same _ _ _ (λ a r f k. search rules) in
    let stable = c.sort_by.ensures.stable _ is_order compares in
    on_ok_weaker c.sort_by.result
    (λ sorted. ap (map entry_of) (sorted-ascending (on_total entry_of total) before c.sort_by.new.self.items (sorted _ is_order compares) stable)
    ∙ map-ascending (entry_cmp c.args.left c.args.right) entry_of before)
    c.sort_by.ensures.sorted
