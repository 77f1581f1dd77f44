use Rattle.std.proofs.Common.{◌≡◌, ◌∙◌, ap, sym, map, None, Some}
use Rattle.std.specs.Prelude.{option_and_then, option_map}
use Rattle.std.specs.List.{last_or}
use Rattle.ksql_place.specs.Said.{row_in}
use Rattle.ksql_nodes.specs.Entries.{Entry}
use Rattle.reference.specs.Steps.{entry_of}
use Rattle.reference.proofs.Lists.{last_read}
use Rattle.reference.proofs.entries.row_after.Goals as goal

pub returns-in-Some : goal.returns-in-Some
returns-in-Some c =
    let entries = c.args.entries.now in
    let last : last_or None (map entry_of entries) ≡ Some (entry_of c.in-Some.last.now) =
    last_read entry_of entries ∙ ap (option_map entry_of) (sym c.in-Some.ensures.value) in
    c.row_in.ensures ∙ sym (ap (option_and_then (λ (e : Entry). row_in e.change.body)) last)
