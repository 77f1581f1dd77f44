use Rattle.std.proofs.Common.{ap, sym, ◌∙◌, ◌≡◌, reverse, nat_eq, []}
use Rattle.std.specs.Cmp.{nat_eq_equiv}
use Rattle.std.proofs.lemmas.Iterator.{items_from_drains}
use Rattle.std.proofs.lemmas.Iterator.Adapters.{YieldsList-from_rev_slice}
use Rattle.std.proofs.lemmas.Iterator.Consumers.{YieldsList-from_copied}
use Rattle.std.proofs.lemmas.List.{map-id}
use Rattle.indexmap.specs.IndexSet.{insert_all}
use Rattle.state_store.proofs.LastOfEach.{reverse-insert_all}
use Rattle.state_store.proofs.slots.last_of_each.Goals as goal

pub returns : goal.returns
returns c =
    let writes = c.args.writes.now in
    let made = c.in_ok-last.ensures.ran in
    let items : made.0 ≡ reverse writes =
    sym (map-id made.0) ∙ items_from_drains made.0 made.1 (YieldsList-from_copied (YieldsList-from_rev_slice writes (cc))) in
    c.reverse.ensures.keys ∙ ap reverse (made.2.0 ∙ ap (insert_all nat_eq []) items) ∙ reverse-insert_all nat_eq_equiv writes
