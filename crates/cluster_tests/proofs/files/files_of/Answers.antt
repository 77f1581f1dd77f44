use Rattle.std.proofs.Common.{◌∷◌, ◌++◌, ◌∙◌, [], List, ap, subst, sym, take}
use Rattle.std.proofs.lemmas.List.{take_more}
use Rattle.ksql_program.specs.declared.program.Item.{Item}
use Rattle.feed_laws.specs.Fitting.{AreFilesOf}
use Rattle.cluster_tests.proofs.files.files_of.Goals as goal

pub loop-item-preserved : goal.loop-item-preserved
loop-item-preserved c =
    let items : List Item = c.args.items.now in
    let before : List Item = take c.loop-item.item-index items in
    subst (λ (is : List Item). AreFilesOf is c.push_file.new.files.items)
    (sym (take_more items c.loop-item.item-index c.item-item.result c.loop-item-test.true ∙ ap (λ (i : Item). before ++ i ∷ []) (sym c.item-item.is)))
    (c.in_ok-push_file.ensures before c.loop-item.invariant)
