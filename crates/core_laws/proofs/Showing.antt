-- What the core shows is what the queries mean.
use Rattle.std.proofs.Common.{◌≡◌, ◌∙◌, ap, sym, ℕ, List, map, Bool}
use Rattle.std.proofs.lemmas.List.Elements.{All-from_recursion, recursion_from_All}
use Rattle.std.specs.Prelude.{◌&&◌, All, Some, filter, nat_le, nat_lt, slice_get}
use Rattle.std.specs.declared.cmp.Ordering.TheVariants.{Less}
use Rattle.ksql_place.specs.Order.{record_cmp}
use Rattle.ksql_place.specs.declared.change.SourceRecord.{SourceRecord}
use Rattle.ksql_program.specs.Sound.{IsSound}
use Rattle.ksql_program.specs.declared.program.Item.{Item}
use Rattle.ksql_program.specs.declared.program.Item.TheVariants.{Started}
use Rattle.ksql_program.specs.declared.query.Query.{Query}
use Rattle.operator.specs.Holding.{Maps}
use Rattle.meaning_laws.specs.Bounds.{IsRecordOf}
use Rattle.meaning_laws.proofs.Lists.{All-filter, Pairwise-filter, Pairwise-from_all, all-from_pairwise}
use Rattle.topology.specs.Topologies.{topology_of}
use Rattle.topology.specs.declared.topology.Topology.{Topology}
use Rattle.short_laws.specs.Fed.{IsFed, IsInItsPartition}
use Rattle.topology_laws.proofs.EachSent.{means}
use Rattle.core_state.specs.Good.{Good}
use Rattle.core_state.specs.State.{State, closed}
use Rattle.core_state.specs.Wired.{AreCounted, CutsAlike, order_upto}
use Rattle.core_state.specs.declared.log.LogEntry.TheVariants.{Said}
use Rattle.core_state.proofs.Whole.{cuts-alike}
use Rattle.core_laws.specs.Core.{HasItsContents, HasItsQueries, ShowsItsQueries, meaning_in_core, meant_in_part}
use Rattle.wiring_laws.specs.Written.{written_topics}
use Rattle.task_core.specs.Core.{core_of, wiring_of}
use Rattle.core_laws.proofs.Fitting.{stays-good}
use Rattle.core_laws.proofs.SameContents.{query-contents, same-contents}
use Rattle.wiring_laws.proofs.Steps.{one_of, steps-well}
use Rattle.wiring_laws.proofs.SubReads.{result-written}
use Rattle.wiring_laws.proofs.Wirings.{staged}

pub core-contents : (items : List Item) (order : List SourceRecord) → IsSound items → IsFed items order → HasItsContents items order
core-contents items order sound fed = λ topic part writes. same-contents items order sound fed topic writes part

pub core-queries : (items : List Item) (order : List SourceRecord) → IsSound items → IsFed items order → HasItsQueries items order
core-queries items order sound fed = λ number q at part.
    query-contents items order sound fed number q at part ∙ ap (map Said) (means items order sound fed number q at part)

-- ---- the records up to a feed

all-kept : (P : SourceRecord → Type 0) (p : SourceRecord → Bool) (order : List SourceRecord) → All P order → All P (filter p order)
all-kept P p order all = All-from_recursion P (filter p order) (All-filter P p order (recursion_from_All P order all))

fed-upto : (items : List Item) (order : List SourceRecord) (feed : ℕ) → IsFed items order → IsFed items (order_upto feed order)
fed-upto items order feed fed =
    let p : SourceRecord → Bool = λ r. nat_lt 0 r.stamp.feed && nat_le r.stamp.feed feed in
    record {
      rises = all-from_pairwise (λ a b. record_cmp a b ≡ Less) (filter p order)
          (Pairwise-filter (λ a b. record_cmp a b ≡ Less) p order (Pairwise-from_all (λ a b. record_cmp a b ≡ Less) order fed.rises));
      columns = all-kept (IsRecordOf items) p order fed.columns;
      placed = all-kept (IsInItsPartition items) p order fed.placed;
    }

-- ---- what is shown

-- a good state shows what the queries mean of the records up to the feed that all writers have committed
pub good-shows : (items : List Item) (order : List SourceRecord) → IsSound items → AreCounted order → IsFed items order → (s : State (List Maps)) →
    Good (core_of (topology_of items)) (meaning_in_core items order) s → (number : ℕ) (q : Query) → slice_get items number ≡ Some (Started q) → (part : ℕ) →
    s.shown number part ≡ map Said (meant_in_part items (order_upto (closed (wiring_of (topology_of items)).routes s number) order) number q part)
good-shows items order sound counted fed s good number q at part =
    let t : Topology = topology_of items in
    let feed : ℕ = closed (wiring_of t).routes s number in
    let alike : CutsAlike (wiring_of t) (written_topics items) = cuts-alike (wiring_of t) (one_of t) (written_topics items) (steps-well t) (staged items sound) in
    good.written_shown number part ((staged items sound).only number (result-written items sound number q at))
    ∙ sym (alike order counted feed number part)
    ∙ core-queries items (order_upto feed order) sound (fed-upto items order feed fed) number q at part

pub shows-queries : (items : List Item) → IsSound items → ShowsItsQueries items
shows-queries items sound = λ es s last counted fed opens happen number q at part.
    good-shows items _ sound counted fed last (stays-good items sound es s last counted opens happen) number q at part
