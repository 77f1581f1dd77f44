use Rattle.std.proofs.Common.{◌≡◌, ◌∙◌, ◌+◌, ap, ap₂, sym, List, [], ◌∷◌, ◌++◌, map, take}
use Rattle.std.specs.Prelude.{filter, not}
use Rattle.std.proofs.lemmas.List.{map_more}
use Rattle.ksql_place.specs.declared.change.Change.{Change}
use Rattle.ksql_nodes.specs.Entries.{Entry, is_same_key, results}
use Rattle.ksql_nodes.specs.TableAggregates.{aggregate_of_table}
use Rattle.ksql_nodes.proofs.Results.{results-more}
use Rattle.reference.specs.Steps.{entry_of}
use Rattle.reference.specs.declared.table_groups.EntryInGroups.{EntryInGroups}
use Rattle.reference.specs.Grouping.{InGroup, InGroups, entries_of, in_groups, lent, lent_standing, view_of, standing_of}
use Rattle.reference.proofs.Views.{member-at, changes-view, standing-view}
use Rattle.reference.proofs.table_groups.member_results.Goals as goal

pub loop-index-preserved : goal.loop-index-preserved
loop-index-preserved c =
    let keys = c.args.keys.now in
    let aggs = c.args.aggs.now in
    let members : List EntryInGroups = c.args.members.now in
    let i = c.loop-index.index in
    let m : EntryInGroups = c.index-members-index.result in
    let before : List Entry = entries_of (take i members) in
    let e : Entry = entry_of m.entry in
    let more : entries_of (take (i + 1) members) ≡ before ++ e ∷ [] =
    map_more (λ (m : EntryInGroups). entry_of m.entry) members i m c.loop-index-test.true
    ∙ ap (λ (m : EntryInGroups). before ++ entry_of m.entry ∷ []) (sym c.index-members-index.is) in
    let own : lent m ≡ in_groups keys e = member-at keys members c.requires i m c.loop-index-test.true c.index-members-index.is in
    let stood : map lent_standing c.as_slice.result.now ≡ (view_of keys before).standing = ap (map lent_standing) c.as_slice.ensures.value ∙ c.loop-index.invariant.standing in
    let stands : map lent_standing c.in_ok-stands.stands.items ≡ (view_of keys (before ++ e ∷ [])).standing =
    c.in_ok-stands.ensures
    ∙ ap₂ (λ (old : List InGroup) (g : InGroups). filter (λ s. not (is_same_key s.entry.change.key e.change.key)) old ++ standing_of g ∷ []) stood own
    ∙ standing-view keys before e in
    let given : c.in_ok-given.given.items ≡ aggregate_of_table keys aggs before e =
    c.in_ok-given.ensures
    ∙ changes-view keys aggs members c.requires i e (map lent_standing c.as_slice-in-loop-index.result.now) (map lent_standing c.as_slice-in-loop-index-2.result.now) more
    (ap (map lent_standing) c.as_slice-in-loop-index.ensures.value ∙ c.loop-index.invariant.standing)
    (ap (map lent_standing) c.as_slice-in-loop-index-2.ensures.value ∙ stands) in
    let step : List Entry → Entry → List Change = aggregate_of_table keys aggs in
    record {
      changes =
          c.in_ok-append.ensures.items
          ∙ ap₂ (λ (made new : List Change). made ++ new) c.loop-index.invariant.changes given
          ∙ sym (ap (results step []) more ∙ results-more step [] before e);
      standing = stands ∙ ap (λ (es : List Entry). (view_of keys es).standing) (sym more);
    }
