use Rattle.std.proofs.Common.{◌≡◌, ◌∙◌, ◌+◌, ◌++◌, ◌∷◌, [], ap, sym, subst, List, map, drop}
use Rattle.std.specs.Prelude.{IsTrue}
use Rattle.std.proofs.lemmas.List.Elements.{All-from_recursion}
use Rattle.std.proofs.lemmas.List.{at_drop_more, at_drop_all, map-append}
use Rattle.ksql_place.specs.declared.change.Change.{Change}
use Rattle.ksql_program.specs.declared.program.Item.{Item}
use Rattle.query_meaning.specs.Meaning.{meaning_from, item_changes}
use Rattle.reference.specs.Plain.{changes_of}
use Rattle.reference.specs.Windowless.{HaveNoWindow, is_windowless}
use Rattle.reference.specs.declared.meaning.Listed.{Listed}
use Rattle.reference.proofs.EachWindowless.{each-windowless}
use Rattle.reference.proofs.meaning.slow_meaning.Goals as goal

pub item_changes-requires : goal.item_changes-requires
item_changes-requires c =
    let listed = c.items-item-items.result.now in
    let windowless : HaveNoWindow listed = subst HaveNoWindow (sym c.items-item-items.ensures) c.requires.windowless in
    subst (λ (item : Item). IsTrue (is_windowless item)) (sym c.item-item.is)
    (All-from_recursion (λ i. IsTrue (is_windowless i)) listed (each-windowless listed windowless) c.loop-item.item-index c.item-item.result c.loop-item-test.true)

pub loop-item-preserved : goal.loop-item-preserved
unfolding meaning_from
loop-item-preserved c =
    let items = c.args.program.now.items in
    let order = c.args.order.now in
    let listed = c.loop-item.lists.items in
    let lists : List (List Change) = map changes_of listed in
    let rest : List Item = drop (c.loop-item.item-index + 1) c.items-item-items.result.now in
    let changes : changes_of c.in_ok-listed.listed ≡ item_changes items order lists c.item-item.result =
    c.in_ok-listed.ensures ∙ ap (λ (ls : List Listed). item_changes items order (map changes_of ls) c.item-item.result) c.as_slice.ensures.value in
    let more : map changes_of c.push.new.self.items ≡ lists ++ item_changes items order lists c.item-item.result ∷ [] =
    ap (map changes_of) c.in_ok-push.ensures.items ∙ map-append changes_of listed (c.in_ok-listed.listed ∷ []) ∙ ap (λ (cs : List Change). lists ++ cs ∷ []) changes in
    ap (λ (ls : List (List Change)). meaning_from items order ls rest) more
    ∙ ap (λ (item : Item). meaning_from items order lists (item ∷ rest)) c.item-item.is
    ∙ sym (at_drop_more (meaning_from items order lists) c.items-item-items.result.now c.loop-item.item-index c.item-item.result c.loop-item-test.true)
    ∙ c.loop-item.invariant

pub returns : goal.returns
unfolding meaning_from
returns c =
    sym (at_drop_all (meaning_from c.args.program.now.items c.args.order.now (map changes_of c.loop-item.lists.items)) c.items-item-items.result.now c.loop-item.item-index c.loop-item-test.false)
    ∙ c.loop-item.invariant
