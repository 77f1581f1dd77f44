-- The partitions of written topics have in the core what the topology has there.
use Rattle.std.proofs.Common.{◌≡◌, ◌∙◌, ap, ap₂, refl, sym, subst, ℕ, ◌<◌, ◌≤◌, List, [], ◌∷◌, ◌++◌, map, inl, inr}
use Rattle.std.proofs.lemmas.List.Elements.{All-append, All-contains_itself, All-head, All-nil, All-tail, All-weaker, recursion_from_All}
use Rattle.std.specs.Prelude.{◌⊎◌, ◌==◌, All, Contains, Option, option_map, Some, filter, flat_map, slice_get, unwrap_or}
use Rattle.std.specs.List.{AllByRecursion, range_with_len}
use Rattle.std.specs.declared.cmp.Ordering.TheVariants.{Less}
use Rattle.ksql_types.specs.Lane.{lane}
use Rattle.ksql_types.specs.declared.relation.Relation.{Relation}
use Rattle.ksql_types.specs.declared.relation.TaskName.{TaskName}
use Rattle.ksql_place.specs.Ascending.{ascending}
use Rattle.ksql_place.specs.Order.{place_cmp}
use Rattle.ksql_place.specs.Routing.{change_cmp, is_to, partitions_of}
use Rattle.ksql_place.specs.Said.{said, saying}
use Rattle.ksql_place.specs.declared.change.Change.{Change}
use Rattle.ksql_place.specs.declared.change.SourceRecord.{SourceRecord}
use Rattle.ksql_program.specs.Sound.{IsSound}
use Rattle.ksql_program.specs.declared.program.Item.{Item}
use Rattle.ksql_program.specs.declared.program.Item.TheVariants.{Declared, Started}
use Rattle.ksql_program.specs.declared.query.Query.{Query}
use Rattle.ksql_nodes.specs.declared.node.Node.{Node}
use Rattle.ksql_nodes.specs.Entries.{Entry, from_side, results, through}
use Rattle.ksql_nodes.specs.Nodes.{gives}
use Rattle.meaning_laws.proofs.Lists.{Pairwise, Pairwise-from_all}
use Rattle.topology.specs.Contents as topology
use Rattle.topology.specs.Topologies.{subs, topology_of}
use Rattle.topology.specs.declared.topology.Sub.{Sub}
use Rattle.topology.specs.declared.topology.SubInput.{SubInput}
use Rattle.topology.specs.declared.topology.Topology.{Topology}
use Rattle.short_laws.specs.Fed.{IsFed}
use Rattle.sending_laws.proofs.Paths.{StandInOrder, holds-of, topics_read}
use Rattle.topology_laws.proofs.SentPlaces.{placed}
use Rattle.sending_laws.proofs.SubOrder.{subs-in-order}
use Rattle.core_state.specs.Routes.{merged, sent_to}
use Rattle.core_state.specs.State.{feed_of, is_in}
use Rattle.core_state.specs.Wired.{GivesWell, all_entries, contents_of, source_contents}
use Rattle.core_state.specs.declared.log.LogEntry.{LogEntry}
use Rattle.core_state.specs.declared.log.LogEntry.TheVariants.{Fed, Said}
use Rattle.core_state.proofs.Lists.{Contains-here, Contains-next}
use Rattle.core_state.proofs.Staging.{Contains-cases, stays, written}
use Rattle.core_state.proofs.Wiring.{flat_map-members}
use Rattle.op_chain.specs.Chain.{given}
use Rattle.wiring_laws.specs.Written.{written_topics}
use Rattle.task_core.specs.Core.{nodes_at, wiring_of}
use Rattle.task_core.specs.Reading.{taken}
use Rattle.wiring_laws.proofs.Given.{given-append, given-feed, given-none}
use Rattle.wiring_laws.proofs.Members.{map-member, member-map}
use Rattle.wiring_laws.proofs.Steps.{steps-well}
use Rattle.wiring_laws.proofs.SubReads.{IsReadIn, ReadsIn, declared-unwritten, result-written, subs-read}
use Rattle.wiring_laws.proofs.SubTopics.{sub-written, untouched}
use Rattle.wiring_laws.proofs.Taking.{IsBelow, IsShown, entries_read, fed-taken, one-read, said-part, said-taken, stands_in, two-read}
use Rattle.wiring_laws.proofs.Wirings.{staged, sub-of, topic-of, writers-of}
use Rattle.wiring_laws.proofs.Writers.{numbered}

-- ---- nodes in a row

-- what a row of nodes gives for entries is what their steps give
given-through : (nodes : List Node) (es : List Entry) → given nodes [] es ≡ through (map (gives 1) nodes) es
unfolding given
given-through [] es = refl
given-through (n ∷ ns) es = given-through ns (from_side 0 (results (gives 1 n) [] es))

given-feeds : (nodes : List Node) (earlier us : List Entry) (a b : ℕ) → All (λ e. (a < e.change.place.stamp.feed) × (e.change.place.stamp.feed ≤ b)) us →
    All (λ x. (a < feed_of x) × (feed_of x ≤ b)) (given nodes earlier us)
given-feeds nodes earlier [] a b all = subst (All (λ x. (a < feed_of x) × (feed_of x ≤ b))) (sym (given-none nodes earlier)) (All-nil (λ x. (a < feed_of x) × (feed_of x ≤ b)))
given-feeds nodes earlier (u ∷ us) a b all =
    let head = All-head (λ (e : Entry). (a < e.change.place.stamp.feed) × (e.change.place.stamp.feed ≤ b)) u us all in
    subst (All (λ x. (a < feed_of x) × (feed_of x ≤ b))) (sym (given-append nodes earlier (u ∷ []) us))
    (All-append (λ x. (a < feed_of x) × (feed_of x ≤ b)) (given nodes earlier (u ∷ [])) (given nodes (earlier ++ u ∷ []) us)
    (All-weaker (λ x. feed_of x ≡ u.change.place.stamp.feed) (λ x. (a < feed_of x) × (feed_of x ≤ b)) (λ x is. subst (λ n. (a < n) × (n ≤ b)) (sym is) head)
    (given nodes earlier (u ∷ [])) (given-feed nodes earlier u))
    (given-feeds nodes (earlier ++ u ∷ []) us a b (All-tail (λ (e : Entry). (a < e.change.place.stamp.feed) × (e.change.place.stamp.feed ≤ b)) u us all)))

pub gives-well : (t : Topology) → GivesWell (wiring_of t)
gives-well t =
    let steps = steps-well t in
    record {
      goes_on = λ u es us vs. given-append (nodes_at t u) es us vs;
      keeps_feed = λ u es us a b h. given-feeds (nodes_at t u) es us a b h;
      entry_feed = steps.entry_feed;
      total = steps.total;
      rises = steps.rises;
    }

flat-tasks : {A B C : Type 0} (f : B → List C) (g : A → B) (xs : List A) → flat_map (λ ys. ys) (map f (map g xs)) ≡ flat_map (λ x. f (g x)) xs
flat-tasks f g [] = refl
flat-tasks f g (x ∷ xs) = ap (λ rest. f (g x) ++ rest) (flat-tasks f g xs)

module _ (items : List Item) (order : List SourceRecord) (sound : IsSound items) (fed : IsFed items order) where
  abbrev t : Topology
  t = topology_of items

  -- what partitions have in the core, and in the topology
  abbrev in_core : ℕ → ℕ → List LogEntry
  in_core = contents_of (wiring_of t) (written_topics items) order

  abbrev in_topology : topology.Contents
  in_topology = topology.contents items t order

  abbrev pub Agrees : ℕ → Type 0
  Agrees topic = (part : ℕ) → in_core topic part ≡ map Said (in_topology topic part)

  -- ---- one topic

  rise : (topic part : ℕ) → Pairwise IsBelow (in_topology topic part)
  rise topic part = Pairwise-from_all (λ c d. place_cmp c.place d.place ≡ Less) (in_topology topic part) (placed items order sound fed topic part).0

  source-core : (topic part : ℕ) → ¬ Contains (written_topics items) topic → in_core topic part ≡ map Fed (filter (is_in topic part) order)
  source-core topic part unwritten = stays (wiring_of t) (gives-well t) (source_contents order) (written_topics items) topic part unwritten

  source-topology : (topic part : ℕ) (r : Relation) → slice_get items topic ≡ Some (Declared r) → in_topology topic part ≡ flat_map (saying r.kind) (filter (is_in topic part) order)
  unfolding said
  source-topology topic part r at =
      untouched t.topics (topology.source_contents items order) (subs items) topic part
      (λ s among same. declared-unwritten items sound topic r at (subst (Contains (written_topics items)) same (map-member (λ (s : Sub). s.output) (subs items) s among)))
      ∙ ap (λ o. filter (stands_in part) (topology.source_changes order o)) at
      ∙ ap (λ n. filter (stands_in part) (flat_map (saying r.kind) (filter (λ (x : SourceRecord). x.stamp.topic == n) order))) (numbered items sound topic (Declared r) at).0
      ∙ said-part r.kind topic part order

  -- a task takes of a topic what it takes of what the topology has there
  side-shown : (nodes : List Node) (side : ℕ) (i : SubInput) (part : ℕ) → IsReadIn items sound nodes side i → (Contains (written_topics items) i.topic → Agrees i.topic) →
      IsShown nodes (λ topic. in_core topic part) in_topology part side i
  side-shown nodes side i part (inl written) agrees =
      ap (flat_map (taken nodes side i)) (agrees written part) ∙ said-taken nodes side i (in_topology i.topic part)
  side-shown nodes side i part (inr (r, at, kind)) agrees =
      ap (flat_map (taken nodes side i)) (source-core i.topic part (declared-unwritten items sound i.topic r at))
      ∙ fed-taken nodes side i (filter (is_in i.topic part) order)
      ∙ ap (λ k. from_side side (map (topology.with_cells i.keys) (flat_map (saying k) (filter (is_in i.topic part) order)))) kind
      ∙ sym (ap (λ cs. from_side side (map (topology.with_cells i.keys) cs)) (source-topology i.topic part r at))

  abbrev AgreeWhereWritten : List ℕ → Type 0
  AgreeWhereWritten topics = (i : ℕ) → Contains topics i → Contains (written_topics items) i → Agrees i

  pub inputs-agree : (nodes : List Node) (inputs : List SubInput) (part : ℕ) → ReadsIn items sound nodes inputs → AgreeWhereWritten (map (λ (x : SubInput). x.topic) inputs) →
      entries_read nodes inputs (λ topic. in_core topic part) ≡ topology.task_entries inputs in_topology part
  inputs-agree nodes [] part reads agree = absurd reads
  inputs-agree nodes (a ∷ []) part reads agree =
      one-read nodes (λ topic. in_core topic part) in_topology part a (side-shown nodes 0 a part reads (agree a.topic (Contains-here a.topic []))) (rise a.topic part)
  inputs-agree nodes (a ∷ b ∷ []) part reads agree =
      two-read nodes (λ topic. in_core topic part) in_topology part a b
      (side-shown nodes 0 a part reads.0 (agree a.topic (Contains-here a.topic (b.topic ∷ []))))
      (side-shown nodes 1 b part reads.1 (agree b.topic (Contains-next a.topic b.topic (b.topic ∷ []) (Contains-here b.topic [])))) reads.2
  inputs-agree nodes (a ∷ b ∷ c ∷ more) part reads agree = absurd reads

  -- ---- one sub-topology

  module _ (s : Sub) (among : Contains (subs items) s) (agree : AgreeWhereWritten (topics_read s)) where
    abbrev task : ℕ → TaskName
    task part = record { sub = s.number; part = part }

    abbrev n : ℕ
    n = partitions_of t.topics s.output

    -- what a task gives
    abbrev given_by : Option Sub → ℕ → List Change
    given_by o part =
        given (unwrap_or (option_map (λ (x : Sub). x.nodes) o) []) []
        (entries_read (unwrap_or (option_map (λ (x : Sub). x.nodes) o) []) (unwrap_or (option_map (λ (x : Sub). x.inputs) o) []) (λ topic. in_core topic part))

    task-gives : (part : ℕ) → Contains (range_with_len 0 s.partitions) part → (wiring_of t).gives (task part) [] (all_entries (wiring_of t) in_core (task part)) ≡ topology.task_results s in_topology part
    task-gives part inside =
        ap (λ o. given_by o part) (sub-of items sound s (task part) among (map-member task (range_with_len 0 s.partitions) part inside))
        ∙ given-through s.nodes (entries_read s.nodes s.inputs (λ topic. in_core topic part))
        ∙ ap (through (map (gives 1) s.nodes)) (inputs-agree s.nodes s.inputs part (holds-of (λ (x : Sub). ReadsIn items sound x.nodes x.inputs) (subs items) s (subs-read items sound) among) agree)

    -- what a task sends to a partition
    task-sends : (q part : ℕ) → Contains (range_with_len 0 s.partitions) part →
        sent_to (wiring_of t).routes (task part) q ((wiring_of t).gives (task part) [] (all_entries (wiring_of t) in_core (task part))) ≡ filter (is_to n q) (topology.task_results s in_topology part)
    task-sends q part inside =
        ap₂ (λ topic xs. filter (λ (x : Change). lane x.key (partitions_of t.topics topic) x.place.stamp.part == q) xs) (topic-of items sound s among) (task-gives part inside)

    sub-agrees : Agrees s.output
    sub-agrees q =
        written (wiring_of t) (gives-well t) (source_contents order) (written_topics items) (staged items sound).stages s.output q (map-member (λ (x : Sub). x.output) (subs items) s among)
        ∙ ap (λ us. map Said (merged (map (λ u. sent_to (wiring_of t).routes u q ((wiring_of t).gives u [] (all_entries (wiring_of t) in_core u))) us))) (writers-of items sound s among)
        ∙ ap (λ xs. map Said (ascending change_cmp xs))
        (flat-tasks (λ u. sent_to (wiring_of t).routes u q ((wiring_of t).gives u [] (all_entries (wiring_of t) in_core u))) task (range_with_len 0 s.partitions)
        ∙ flat_map-members _ (λ part. filter (is_to n q) (topology.task_results s in_topology part)) (range_with_len 0 s.partitions) (task-sends q))
        ∙ sym (ap (map Said) (sub-written t.topics (topology.source_contents items order) (subs items) (subs-in-order items sound) s among q))

  -- ---- all of them

  all-agree : (ss : List Sub) → AllByRecursion (Contains (subs items)) ss → StandInOrder ss →
      ((topic : ℕ) → Contains (written_topics items) topic → Contains (map (λ (s : Sub). s.output) ss) topic ⊎ Agrees topic) → AllByRecursion (λ (s : Sub). Agrees s.output) ss
  all-agree [] inside order known = tt
  all-agree (s ∷ ss) inside order known = (here, all-agree ss inside.1 order.2 (λ topic writes. later topic (known topic writes)))
    where
      agree : AgreeWhereWritten (topics_read s)
      agree i reads writes = by (known i writes)
        where
          by : Contains (map (λ (x : Sub). x.output) (s ∷ ss)) i ⊎ Agrees i → Agrees i
          by (inl coming) =
              let found = member-map (λ (x : Sub). x.output) (s ∷ ss) i coming in
              absurd (holds-of (λ (x : Sub). Contains (topics_read s) x.output → ⊥) (s ∷ ss) found.0 order.0 found.1 (subst (Contains (topics_read s)) (sym found.2) reads))
          by (inr agrees) = agrees

      here : Agrees s.output
      here = sub-agrees s inside.0 agree

      later : (topic : ℕ) → Contains (map (λ (x : Sub). x.output) (s ∷ ss)) topic ⊎ Agrees topic → Contains (map (λ (x : Sub). x.output) ss) topic ⊎ Agrees topic
      later topic (inr agrees) = inr agrees
      later topic (inl coming) = by (Contains-cases s.output (map (λ (x : Sub). x.output) ss) topic coming)
        where
          by : (s.output ≡ topic) ⊎ Contains (map (λ (x : Sub). x.output) ss) topic → Contains (map (λ (x : Sub). x.output) ss) topic ⊎ Agrees topic
          by (inl same) = inr (subst Agrees same here)
          by (inr further) = inl further

  -- each partition of a written topic has in the core what the topology has there
  pub same-contents : (topic : ℕ) → Contains (written_topics items) topic → Agrees topic
  same-contents topic writes =
      let found = member-map (λ (s : Sub). s.output) (subs items) topic writes in
      let all = all-agree (subs items) (recursion_from_All (Contains (subs items)) (subs items) (All-contains_itself (subs items))) (subs-in-order items sound) (λ i is. inl is) in
      subst Agrees found.2 (holds-of (λ (s : Sub). Agrees s.output) (subs items) found.0 all found.1)

  -- and so has that of a query's result
  pub query-contents : (number : ℕ) (q : Query) → slice_get items number ≡ Some (Started q) → Agrees number
  query-contents number q at = same-contents number (result-written items sound number q at)

  -- what a declared relation's partition has are its records
  pub declared-contents : (number : ℕ) (r : Relation) → slice_get items number ≡ Some (Declared r) → (part : ℕ) → in_core number part ≡ map Fed (filter (is_in number part) order)
  declared-contents number r at part = source-core number part (declared-unwritten items sound number r at)
