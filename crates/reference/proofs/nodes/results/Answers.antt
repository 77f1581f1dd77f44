use Rattle.std.proofs.Common.{◌≡◌, ◌∙◌, ◌+◌, ap, ap₂, sym, List, [], ◌∷◌, ◌++◌, map, take}
use Rattle.std.proofs.lemmas.List.{map_more}
use Rattle.ksql_place.specs.declared.change.Change.{Change}
use Rattle.ksql_nodes.specs.Entries.{Entry, Step, results}
use Rattle.ksql_nodes.specs.Nodes.{gives}
use Rattle.ksql_nodes.proofs.Results.{results-more}
use Rattle.reference.specs.Steps.{entry_of}
use Rattle.reference.proofs.nodes.results.Goals as goal

pub loop-index-preserved : goal.loop-index-preserved
loop-index-preserved c =
    let step : Step = gives c.args.lanes c.args.node.now in
    let entries = c.args.entries.now in
    let before : List Entry = map entry_of (take c.loop-index.index entries) in
    let entry = c.index-entries-index.result in
    let more : map entry_of (take (c.loop-index.index + 1) entries) ≡ before ++ entry_of entry ∷ [] =
    map_more entry_of entries c.loop-index.index entry c.loop-index-test.true ∙ ap (λ e. before ++ entry_of e ∷ []) (sym c.index-entries-index.is) in
    c.in_ok-append.ensures.items
    ∙ ap₂ (λ (made given : List Change). made ++ given) c.loop-index.invariant c.in_ok-given.ensures
    ∙ sym (ap (results step []) more ∙ results-more step [] before (entry_of entry))
