-- The tasks of a topology process their entries one by one, feed by feed.
use Rattle.std.proofs.Common.{◌≡◌, ◌∙◌, ap, refl, sym, ℕ, zero, suc, ◌≤◌, List, [], ◌∷◌, map, Bool, true, false, arith}
use Rattle.std.proofs.lemmas.Bool.{false≢true}
use Rattle.std.proofs.lemmas.Bool.Decides.{nat_tests}
use Rattle.std.proofs.lemmas.List.Elements.{All-from_recursion}
use Rattle.std.specs.Prelude.{◌==◌, if◌then◌else◌}
use Rattle.std.specs.List.{AllByRecursion}
use Rattle.std.specs.Ordering.{is_gt, nat_cmp, ordering_then}
use Rattle.std.specs.declared.cmp.Ordering.{Ordering}
use Rattle.std.specs.declared.cmp.Ordering.TheVariants.{Less, Equal, Greater}
use Rattle.ksql_types.specs.declared.relation.TaskName.{TaskName}
use Rattle.ksql_place.specs.Said.{saying}
use Rattle.ksql_place.specs.declared.change.Change.{Change}
use Rattle.ksql_place.specs.declared.stamp.Place.{Place}
use Rattle.ksql_place.specs.declared.stamp.Stamp.{Stamp}
use Rattle.ksql_nodes.specs.declared.node.Node.{Node}
use Rattle.ksql_nodes.specs.Entries.{Entry, from_side}
use Rattle.query_meaning.specs.Queries.{entry_cmp}
use Rattle.query_meaning.proofs.QuerySteps.{entries_total}
use Rattle.meaning_laws.proofs.Saying.{saying-keeps}
use Rattle.topology.specs.Contents.{with_cells}
use Rattle.topology.specs.declared.topology.SubInput.{SubInput}
use Rattle.topology.specs.declared.topology.Topology.{Topology}
use Rattle.core_state.specs.Whole.{StepsWell}
use Rattle.core_state.specs.Wired.{log_feed}
use Rattle.core_state.specs.declared.log.LogEntry.{LogEntry}
use Rattle.core_state.specs.declared.log.LogEntry.TheVariants.{Fed, Said}
use Rattle.op_chain.specs.Chain.{given}
use Rattle.task_core.specs.Core.{inputs_at, nodes_at, taken_of, wiring_of}
use Rattle.task_core.specs.Reading.{kind_read, relation_of, taken}
use Rattle.wiring_laws.proofs.Given.{given-feed, given-steps}

-- ---- entries have the feeds that they are made of

pub cells-place : (columns : ℕ) (c : Change) → (with_cells columns c).place ≡ c.place
cells-place zero c = refl
cells-place (suc columns) c = refl

abbrev HasFeed : ℕ → Entry → Type 0
HasFeed feed e = e.change.place.stamp.feed ≡ feed

side-feed : (stamp : Stamp) (side columns : ℕ) (cs : List Change) → AllByRecursion (λ c. c.place.stamp ≡ stamp) cs →
    AllByRecursion (HasFeed stamp.feed) (from_side side (map (with_cells columns) cs))
side-feed stamp side columns [] all = tt
side-feed stamp side columns (c ∷ cs) all = (ap (λ (p : Place). p.stamp.feed) (cells-place columns c) ∙ ap (λ (s : Stamp). s.feed) all.0, side-feed stamp side columns cs all.1)

taken-feed : (nodes : List Node) (side : ℕ) (input : SubInput) (x : LogEntry) → AllByRecursion (HasFeed (log_feed x)) (taken nodes side input x)
taken-feed nodes side input (Fed r) = side-feed r.stamp side input.keys (saying (kind_read nodes side) r) (saying-keeps (kind_read nodes side) r)
taken-feed nodes side input (Said c) = side-feed c.place.stamp side input.keys (c ∷ []) (refl, tt)

taken_of-feed : (nodes : List Node) (side : ℕ) (inputs : List SubInput) (topic : ℕ) (x : LogEntry) → AllByRecursion (HasFeed (log_feed x)) (taken_of nodes side inputs topic x)
taken_of-feed nodes side [] topic x = tt
taken_of-feed nodes side (i ∷ is) topic x = by (i.topic == topic) (taken_of-feed nodes (suc side) is topic x)
  where
    by : (b : Bool) → AllByRecursion (HasFeed (log_feed x)) (taken_of nodes (suc side) is topic x) →
        AllByRecursion (HasFeed (log_feed x)) (if b then taken nodes side i x else taken_of nodes (suc side) is topic x)
    by true rest = taken-feed nodes side i x
    by false rest = rest

-- ---- the order of entries keeps feeds together

entries-rise : (left right : ℕ) (x y : Entry) → is_gt (entry_cmp left right x y) ≡ false → x.change.place.stamp.feed ≤ y.change.place.stamp.feed
entries-rise left right x y h = feeds x.change.place.stamp.feed y.change.place.stamp.feed _ _ h
  where
    feeds : (a b : ℕ) (o p : Ordering) → is_gt (ordering_then (ordering_then (nat_cmp a b) o) p) ≡ false → a ≤ b
    feeds a b o p h = by (nat_cmp a b) refl h
      where
        by : (c : Ordering) → nat_cmp a b ≡ c → is_gt (ordering_then (ordering_then c o) p) ≡ false → a ≤ b
        by Less is h = grind (arith, nat_tests)
        by Equal is h = grind (arith, nat_tests)
        by Greater is h = absurd (false≢true (sym h))

-- what a task gives for one entry after earlier ones
abbrev pub one_of : Topology → TaskName → List Entry → Entry → List Change
one_of t u earlier e = given (nodes_at t u) earlier (e ∷ [])

pub steps-well : (t : Topology) → StepsWell (wiring_of t) (one_of t)
steps-well t = record {
  gives = λ u es us. given-steps (nodes_at t u) es us;
  keeps_feed = λ u es e. given-feed (nodes_at t u) es e;
  entry_feed = λ u i x. All-from_recursion (HasFeed (log_feed x)) (taken_of (nodes_at t u) 0 (inputs_at t u) i x) (taken_of-feed (nodes_at t u) 0 (inputs_at t u) i x);
  total = λ u. entries_total (relation_of (inputs_at t u) 0) (relation_of (inputs_at t u) 1);
  rises = λ u x y h. entries-rise (relation_of (inputs_at t u) 0) (relation_of (inputs_at t u) 1) x y h;
}
