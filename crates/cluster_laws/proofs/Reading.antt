-- What a task of a program reads, as its contracts say it and as the core sees it.
use Rattle.std.proofs.Common.{◌≡◌, ◌∙◌, ap, ap₂, refl, sym, subst, ℕ, ◌+◌, ◌<◌, List, [], ◌∷◌, ◌++◌, eq-eqb, ne_eqb, arith}
use Rattle.std.proofs.lemmas.List.FromFn.{get_or-range_with_len, length-range_with_len}
use Rattle.std.specs.Prelude.{Contains, Option, Some, if◌then◌else◌, flat_map, option_map, slice_get, unwrap_or}
use Rattle.std.specs.List.{range_with_len}
use Rattle.ksql_types.specs.declared.relation.TaskName.{TaskName}
use Rattle.ksql_place.specs.Ascending.{ascending}
use Rattle.ksql_program.specs.Sound.{IsSound}
use Rattle.ksql_program.specs.declared.program.Item.{Item}
use Rattle.ksql_nodes.specs.declared.node.Node.{Node}
use Rattle.query_meaning.specs.Queries.{entry_cmp}
use Rattle.topology.specs.Tasks.{tasks_of, tasks_of_sub}
use Rattle.topology.specs.Topologies.{subs, topology_of}
use Rattle.topology.specs.declared.topology.Sub.{Sub}
use Rattle.topology.specs.declared.topology.SubInput.{SubInput}
use Rattle.topology.specs.declared.topology.Topology.{Topology}
use Rattle.sending_laws.proofs.Paths.{holds-of}
use Rattle.core_state.specs.declared.log.LogEntry.{LogEntry}
use Rattle.task_core.specs.Core.{inputs_at, nodes_at, taken_of}
use Rattle.task_core.specs.Reading.{reads, taken}
use Rattle.wiring_laws.proofs.Members.{member-flat, member-map}
use Rattle.wiring_laws.proofs.SubReads.{ReadsIn, subs-read}
use Rattle.wiring_laws.proofs.Taking.{entries_read}
use Rattle.wiring_laws.proofs.Wirings.{sub-of}

module _ (items : List Item) (sound : IsSound items) where
  abbrev t : Topology
  t = topology_of items

  -- ---- the sub-topology of a task

  module _ (u : TaskName) (is : Contains (tasks_of (subs items)) u) where
    pub sub-at : (s : Sub) × Contains (subs items) s × Contains (tasks_of_sub s) u
    sub-at = member-flat tasks_of_sub (subs items) u is

    pub sub-got : slice_get (subs items) u.sub ≡ Some sub-at.0
    sub-got = sub-of items sound sub-at.0 u sub-at.1 sub-at.2

    pub nodes-are : nodes_at t u ≡ sub-at.0.nodes
    nodes-are = ap (λ (o : Option Sub). unwrap_or (option_map (λ (s : Sub). s.nodes) o) []) sub-got

    pub inputs-are : inputs_at t u ≡ sub-at.0.inputs
    inputs-are = ap (λ (o : Option Sub). unwrap_or (option_map (λ (s : Sub). s.inputs) o) []) sub-got

    -- its partition is one of the sub-topology's
    pub part-within : u.part < sub-at.0.partitions
    part-within =
        let found = member-map (λ (part : ℕ). record { sub = sub-at.0.number; part = part }) (range_with_len 0 sub-at.0.partitions) u sub-at.2 in
        let place = found.1 in
        let long : place.0 < sub-at.0.partitions = subst (λ n. place.0 < n) (length-range_with_len 0 sub-at.0.partitions) place.1 in
        let number : 0 + place.0 ≡ found.0 = sym (get_or-range_with_len 0 sub-at.0.partitions place.0 found.0 long) ∙ place.2 in
        let part : found.0 ≡ u.part = ap (λ (v : TaskName). v.part) found.2 in
        omega (arith, long, number, part)

    -- it reads one topic or two
    pub reads-in : ReadsIn items sound (nodes_at t u) (inputs_at t u)
    reads-in =
        subst (λ nodes. ReadsIn items sound nodes (inputs_at t u)) (sym nodes-are)
        (subst (ReadsIn items sound sub-at.0.nodes) (sym inputs-are)
        (holds-of (λ (x : Sub). ReadsIn items sound x.nodes x.inputs) (subs items) sub-at.0 (subs-read items sound) sub-at.1))

  -- ---- entries

  -- what a task reads of one topic or of two
  pub reads-same : (nodes : List Node) (inputs : List SubInput) → ReadsIn items sound nodes inputs → (shown : ℕ → List LogEntry) → reads nodes inputs shown ≡ entries_read nodes inputs shown
  reads-same nodes [] is shown = absurd is
  reads-same nodes (a ∷ []) is shown =
      ap (λ b. ascending (entry_cmp a.relation 0) (flat_map (λ x. if b then taken nodes 0 a x else []) (shown a.topic) ++ [])) (sym (eq-eqb a.topic a.topic refl))
  reads-same nodes (a ∷ b ∷ []) is shown =
      ap (ascending (entry_cmp a.relation b.relation))
      (ap₂ (λ xs ys. xs ++ ys)
      (ap (λ c. flat_map (λ x. if c then taken nodes 0 a x else taken_of nodes 1 (b ∷ []) a.topic x) (shown a.topic)) (sym (eq-eqb a.topic a.topic refl)))
      (ap₂ (λ c e. flat_map (λ x. if c then taken nodes 0 a x else (if e then taken nodes 1 b x else [])) (shown b.topic) ++ []) (sym (ne_eqb a.topic b.topic is.2)) (sym (eq-eqb b.topic b.topic refl))))
  reads-same nodes (a ∷ b ∷ c ∷ more) is shown = absurd is
