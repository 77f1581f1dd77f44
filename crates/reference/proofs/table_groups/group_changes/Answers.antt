use Rattle.std.proofs.Common.{◌∙◌, ap, ap₂, sym, List, [], ◌∷◌, ◌++◌, map, take}
use Rattle.std.proofs.lemmas.List.{map_more}
use Rattle.ksql_place.specs.declared.change.Change.{Change}
use Rattle.reference.specs.Grouping.{lent_view, view_change}
use Rattle.reference.proofs.table_groups.group_changes.Goals as goal

pub loop-change-preserved : goal.loop-change-preserved
loop-change-preserved c =
    let made : Change → Change = view_change c.args.aggs.now (lent_view c.args.before.now) (lent_view c.args.after.now) in
    let changes : List Change = c.deref-change-items.result.now in
    let before : List Change = map made (take c.loop-change.change-index changes) in
    c.in_ok-push.ensures.items
    ∙ ap₂ (λ (done : List Change) (one : Change). done ++ one ∷ []) c.loop-change.invariant c.in_ok-group_change.ensures
    ∙ sym (map_more made changes c.loop-change.change-index c.change-item.result c.loop-change-test.true ∙ ap (λ (change : Change). before ++ made change ∷ []) (sym c.change-item.is))
