use Rattle.std.proofs.Common.{◌∙◌, ◌++◌, ap, ap₂, sym, subst, List, map}
use Rattle.std.specs.Prelude.{◌≡◌, IfOk}
use Rattle.std.proofs.lemmas.List.{get_or_read}
use Rattle.ksql_place.specs.Ascending.{ascending}
use Rattle.ksql_place.specs.declared.change.Change.{Change}
use Rattle.ksql_nodes.specs.Entries.{from_side}
use Rattle.reference.specs.Steps.{entry_of}
use Rattle.reference.specs.Plain.{changes_of}
use Rattle.query_meaning.specs.Queries.{entry_cmp, read_entries}
use Rattle.reference.proofs.Shapes.{joined-entries, joined-one}
use Rattle.reference.proofs.queries.joined_changes.Goals as goal

pub returns-in-One : goal.returns-in-One
returns-in-One c =
    subst (λ (list : List Change). IfOk c.changes_read.result (λ changes. changes.items ≡ list))
    (sym (joined-one c.args.program.now.items (map changes_of c.args.lists.now) c.args.from.now c.in-One.relation c.in-One.is)) c.changes_read.ensures

pub returns-in_ok-entries-in-Join : goal.returns-in_ok-entries-in-Join
unfolding read_entries
returns-in_ok-entries-in-Join c =
    let left = c.in-Join.left in
    let right = c.in-Join.right in
    let nodes = c.in_ok-nodes-in-Join.nodes.items in
    let lefts = c.as_slice.ensures.value ∙ c.in_ok-lefts-in-Join.ensures in
    let rights = c.as_slice-in-Join.ensures.value ∙ c.in_ok-rights-in-Join.ensures in
    let read = ap (map entry_of) c.as_slice-in-Join-2.ensures.value ∙ c.in_ok-entries-in-Join.ensures
    ∙ ap₂ (λ (ls rs : List Change). ascending (entry_cmp left right) (from_side 0 ls ++ from_side 1 rs)) lefts rights in
    joined-entries c.join_results.result (λ changes. changes.items) c.args.program.now.items (map changes_of c.args.lists.now) c.args.from.now c.in-Join.kind left right c.in-Join.on
    nodes c.index.result.now (map entry_of c.as_slice-in-Join-2.result.now) c.in-Join.is c.in_ok-nodes-in-Join.ensures
    (λ d inside. sym (get_or_read nodes 0 c.index.result.now inside c.index.ensures d)) read c.join_results.ensures
