use Rattle.std.proofs.Common.{◌≡◌, ◌∙◌, ap, rules, tests}
use Rattle.std.specs.Prelude.{option_map, find}
use mathlib.Core.List.{reverse}
use denote.Ref.{Bor}
use Rattle.std.proofs.lemmas.Iterator.Adapters.{YieldsList-from_rev_slice}
use Rattle.std.proofs.lemmas.Iterator.Search.{find_from_yields_List}
use Rattle.reference.specs.Steps.{entry_of}
use Rattle.reference.specs.declared.entries.EntryRef.{EntryRef}
use Rattle.reference.proofs.Latest.{is_on, latest_found}
use Rattle.reference.proofs.joins.latest_on.Goals as goal

pub returns : goal.returns
returns c =
    let side = c.args.side in
    let key = c.args.key.now in
    let entries = c.args.entries.now in
    let found : option_map (λ (e : Bor EntryRef). e.now) c.find.result ≡ find (is_on side key) (reverse entries) =
    find_from_yields_List (is_on side key) c.find.new.self _ c.find.result c.find.ensures.ran
    (YieldsList-from_rev_slice entries cc) (λ x b q k. search (rules, tests)) in
    ap (option_map entry_of) (c.copied.ensures ∙ found) ∙ latest_found side key entries
