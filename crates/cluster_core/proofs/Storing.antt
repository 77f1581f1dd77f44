-- What all entries of a task are, cut at a feed: each part can be stored after the parts before it, and its results
-- rise.
use Rattle.std.proofs.Common.{◌≡◌, ◌∙◌, ap, ap₂, refl, sym, subst, ℕ, ◌+◌, ◌<◌, ◌≤◌, List, [], ◌∷◌, ◌++◌, map, arith}
use Rattle.std.proofs.lemmas.List.Elements.{All-filter, All-weaker}
use Rattle.std.specs.Prelude.{All, Contains, flat_map}
use Rattle.std.specs.List.{AllByRecursion}
use Rattle.ksql_types.specs.declared.relation.TaskName.{TaskName}
use Rattle.ksql_place.specs.Ascending.{Rises}
use Rattle.ksql_place.specs.Routing.{change_cmp}
use Rattle.ksql_place.specs.declared.change.Change.{Change}
use Rattle.ksql_place.specs.declared.change.SourceRecord.{SourceRecord}
use Rattle.ksql_place.proofs.Ascending.{Ascends-ascending}
use Rattle.std.specs.declared.cmp.Ordering.TheVariants.{Less}
use Rattle.ksql_program.specs.Sound.{IsSound}
use Rattle.ksql_program.specs.declared.program.Item.{Item}
use Rattle.ksql_nodes.specs.declared.node.Node.{Node}
use Rattle.ksql_nodes.specs.Entries.{Entry, through}
use Rattle.ksql_nodes.specs.Nodes.{gives}
use Rattle.meaning_laws.proofs.Lists.{Pairwise, Pairwise-from_all, all-from_pairwise}
use Rattle.topology.specs.Contents.{task_entries}
use Rattle.topology.specs.Contents as topology
use Rattle.topology.specs.Tasks.{tasks_of}
use Rattle.topology.specs.Topologies.{subs, topology_of}
use Rattle.topology.specs.declared.topology.Sub.{Sub}
use Rattle.topology.specs.declared.topology.Topology.{Topology}
use Rattle.storing_laws.specs.Stored.{CanBeStored, ResultsRise}
use Rattle.storing_laws.proofs.StoredParts.{stored-parts}
use Rattle.core_state.specs.State.{is_in}
use Rattle.core_state.specs.Meaning.{Meaning}
use Rattle.core_state.specs.Wired.{all_entries, between, log_feed, source_contents}
use Rattle.core_state.proofs.Feeds.{All-ascending, between-all, between-parts}
use Rattle.core_state.proofs.Staging.{All-both, All-records, all-bounded, last_feed}
use Rattle.core_state.proofs.Wiring.{All-entries, All-flat_map}
use Rattle.op_chain.specs.Chain.{AreStorable, given}
use Rattle.task_core.specs.Core.{inputs_at, nodes_at, wiring_of}
use Rattle.core_laws.specs.Core.{contents_in_core, meaning_in_core}
use Rattle.wiring_laws.specs.Written.{written_topics}
use Rattle.wiring_laws.proofs.Given.{given-append}
use Rattle.core_laws.proofs.SameContents.{gives-well, inputs-agree, same-contents}
use Rattle.feed_laws.specs.Fitting.{Fits}
use Rattle.cluster_laws.proofs.Reading.{nodes-are, inputs-are, reads-in, sub-at, sub-got}

-- members that rise also rise in each part
pairs-parts : {A : Type 0} (R : A → A → Type 0) (xs ys : List A) → Pairwise R (xs ++ ys) → Pairwise R xs × Pairwise R ys
pairs-parts R [] ys pairs = (tt, pairs)
pairs-parts {A} R (x ∷ xs) ys pairs = let rest = pairs-parts R xs ys pairs.1 in ((front xs pairs.0, rest.0), rest.1)
  where
    front : (zs : List A) → AllByRecursion (R x) (zs ++ ys) → AllByRecursion (R x) zs
    front [] all = tt
    front (z ∷ zs) all = (all.0, front zs all.1)

rises-middle : (xs ys zs : List Change) → Rises change_cmp (xs ++ (ys ++ zs)) → Rises change_cmp ys
rises-middle xs ys zs rise =
    let Below : Change → Change → Type 0 = λ a b. change_cmp a b ≡ Less in
    let later = pairs-parts Below xs (ys ++ zs) (Pairwise-from_all Below (xs ++ (ys ++ zs)) rise) in
    all-from_pairwise Below ys (pairs-parts Below ys zs later.1).0

given-through : (nodes : List Node) (es : List Entry) → given nodes [] es ≡ through (map (gives 1) nodes) es
unfolding given
given-through [] es = refl
given-through (n ∷ ns) es = given-through ns _

module _ (items : List Item) (order : List SourceRecord) (sound : IsSound items) (fits : Fits items order) where
  abbrev t : Topology
  t = topology_of items

  abbrev d : Meaning Entry
  d = meaning_in_core items order

  abbrev pub all_of : TaskName → List Entry
  all_of u = all_entries (wiring_of t) (contents_in_core items order) u

  abbrev last : ℕ
  last = (last_feed order).0

  abbrev entry_feed : Entry → ℕ
  entry_feed e = e.change.place.stamp.feed

  -- ---- all entries in parts

  contents-bounded : (topic q : ℕ) → All (λ x. (0 < log_feed x) × (log_feed x ≤ last)) (contents_in_core items order topic q)
  contents-bounded = all-bounded (wiring_of t) (gives-well t) last (source_contents order) (written_topics items)
      (λ topic q. All-records (λ x. (0 < log_feed x) × (log_feed x ≤ last)) _
      (All-filter (is_in topic q) (λ r. (0 < r.stamp.feed) × (r.stamp.feed ≤ last)) order (All-both (λ r. 0 < r.stamp.feed) (λ r. r.stamp.feed ≤ last) order fits.counted (last_feed order).1)))

  entries-bounded : (u : TaskName) → All (λ e. (0 < entry_feed e) × (entry_feed e ≤ last)) (all_of u)
  entries-bounded u =
      All-ascending ((wiring_of t).entry_cmp u) (λ e. (0 < entry_feed e) × (entry_feed e ≤ last)) (flat_map (λ i. flat_map ((wiring_of t).entry u i) (contents_in_core items order i u.part)) ((wiring_of t).inputs u))
      (All-flat_map (λ e. (0 < entry_feed e) × (entry_feed e ≤ last)) (λ i. flat_map ((wiring_of t).entry u i) (contents_in_core items order i u.part)) ((wiring_of t).inputs u) (λ i.
      All-entries log_feed (wiring_of t).feed ((wiring_of t).entry u i) ((gives-well t).entry_feed u i) last (contents_in_core items order i u.part) (contents-bounded i u.part)))

  pub parts : (u : TaskName) (a b c : ℕ) → a ≤ b → b ≤ c → between entry_feed a c (all_of u) ≡ between entry_feed a b (all_of u) ++ between entry_feed b c (all_of u)
  parts u a b c ab bc =
      between-parts (wiring_of t).feed ((wiring_of t).entry_cmp u) ((gives-well t).rises u) a b c (all_of u) ab bc
      (Ascends-ascending ((gives-well t).total u) (flat_map (λ i. flat_map ((wiring_of t).entry u i) (contents_in_core items order i u.part)) ((wiring_of t).inputs u)))

  -- the entries of some feeds
  abbrev pub some_of : TaskName → ℕ → ℕ → List Entry
  some_of u a b = between entry_feed a b (all_of u)

  cut : (u : TaskName) (a b : ℕ) → a ≤ b → all_of u ≡ some_of u 0 a ++ (some_of u a b ++ some_of u b (b + last))
  cut u a b ab =
      let up : a ≤ b + last = omega (arith, ab) in
      sym (between-all entry_feed 0 (b + last) (all_of u) (All-weaker (λ e. (0 < entry_feed e) × (entry_feed e ≤ last)) (λ e. (0 < entry_feed e) × (entry_feed e ≤ b + last)) (λ e h. (h.0, omega (arith, h.1))) (all_of u) (entries-bounded u)))
      ∙ parts u 0 a (b + last) (omega arith) up
      ∙ ap (λ es. some_of u 0 a ++ es) (parts u a b (b + last) ab (omega arith))

  -- ---- of one task

  module _ (u : TaskName) (is : Contains (tasks_of (subs items)) u) where
    abbrev sub : Sub
    sub = (sub-at items sound u is).0

    all-are : all_of u ≡ task_entries sub.inputs (topology.contents items t order) u.part
    all-are =
        inputs-agree items order sound fits.fed (nodes_at t u) (inputs_at t u) u.part (reads-in items sound u is) (λ i reads writes. same-contents items order sound fits.fed i writes)
        ∙ ap (λ inputs. task_entries inputs (topology.contents items t order) u.part) (inputs-are items sound u is)

    -- what a task reads next can be stored after what it read
    pub next-storable : CanBeStored items t order → (a b : ℕ) → a ≤ b → AreStorable (nodes_at t u) (d.entries u a) (some_of u a b)
    next-storable law a b ab =
        let nodes : List Node = nodes_at t u in
        let whole : AreStorable nodes [] (all_of u) =
        subst (λ ns. AreStorable ns [] (all_of u)) (sym (nodes-are items sound u is))
        (subst (AreStorable sub.nodes []) (sym all-are) (law u.sub sub (sub-got items sound u is) u.part)) in
        let rest : List Entry = some_of u b (b + last) in
        let later = stored-parts nodes [] (some_of u 0 a) (some_of u a b ++ rest) (subst (AreStorable nodes []) (cut u a b ab) whole) in
        (stored-parts nodes (some_of u 0 a) (some_of u a b) rest later.1).0

    -- what it gives for the entries of some feeds rises
    pub results-rising : ResultsRise items t order → (a b : ℕ) → a ≤ b → Rises change_cmp (d.results u a b)
    results-rising law a b ab =
        let nodes : List Node = nodes_at t u in
        let first : List Entry = some_of u 0 a in
        let next : List Entry = some_of u a b in
        let rest : List Entry = some_of u b (b + last) in
        let whole : given nodes [] (all_of u) ≡ through (map (gives 1) sub.nodes) (task_entries sub.inputs (topology.contents items t order) u.part) =
        given-through nodes (all_of u) ∙ ap₂ (λ ns es. through (map (gives 1) ns) es) (nodes-are items sound u is) all-are in
        let split : given nodes [] (all_of u) ≡ given nodes [] first ++ (given nodes first next ++ given nodes (first ++ next) rest) =
        ap (given nodes []) (cut u a b ab) ∙ given-append nodes [] first (next ++ rest) ∙ ap (λ cs. given nodes [] first ++ cs) (given-append nodes first next rest) in
        rises-middle (given nodes [] first) (given nodes first next) (given nodes (first ++ next) rest)
        (subst (Rises change_cmp) (sym whole ∙ split) (law u.sub sub (sub-got items sound u is) u.part))
