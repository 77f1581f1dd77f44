use Rattle.std.proofs.Common.{◌≡◌, ◌++◌, [], drop, ap, ap₂, sym, ◌∙◌}
use Rattle.std.proofs.lemmas.List.{append-nil, drop_all}
use Rattle.ksql_clauses.specs.Items.{named_from}
use Rattle.ksql_clauses.proofs.Naming.{from-nothing}
use Rattle.ksql_clauses.proofs.items.result_columns.Goals as goal

pub returns : goal.returns
returns c =
    let i = c.loop-item.item-index in
    let items = c.items-item-items.result.now in
    let f = named_from c.args.scope.now c.args.known.now c.loop-item.number in
    let none : drop i items ≡ [] = drop_all i items c.loop-item-test.false in
    let front : c.loop-item.found.items ++ f (drop i items) ≡ c.loop-item.found.items =
    ap (λ xs. c.loop-item.found.items ++ f xs) none ∙ ap (λ xs. c.loop-item.found.items ++ xs) (from-nothing c.args.scope.now c.args.known.now c.loop-item.number) ∙ append-nil c.loop-item.found.items in
    sym front ∙ c.loop-item.invariant.found ∙ ap₂ (λ s is. named_from s c.args.known.now 0 is) c.requires.of_items c.items-item-items.ensures
