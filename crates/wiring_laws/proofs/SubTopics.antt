-- The content of the topics of sub-topologies in order, as equations.
use Rattle.std.proofs.Common.{◌≡◌, ◌∙◌, ap, ap₂, refl, sym, subst, ℕ, List, [], ◌∷◌, ◌++◌, map, inl, inr}
use Rattle.std.specs.Prelude.{◌⊎◌, Contains, filter, flat_map}
use Rattle.std.specs.List.{range_with_len}
use Rattle.ksql_types.specs.declared.topic.TopicSpec.{TopicSpec}
use Rattle.ksql_place.specs.Ascending.{ascending}
use Rattle.ksql_place.specs.Routing.{change_cmp, is_to, partitions_of}
use Rattle.ksql_nodes.specs.Entries.{from_side, through}
use Rattle.ksql_nodes.specs.Nodes.{gives}
use Rattle.query_meaning.specs.Queries.{entry_cmp}
use Rattle.topology.specs.Contents.{Contents, contents_from, sent, task_entries, task_results, with_cells, with_sub}
use Rattle.topology.specs.declared.topology.Sub.{Sub}
use Rattle.topology.specs.declared.topology.SubInput.{SubInput}
use Rattle.sending_laws.proofs.Paths.{StandInOrder, holds-of, topics_read}
use Rattle.sending_laws.proofs.SubContents.{with-sub-other, with-sub-own}
use Rattle.core_state.proofs.Lists.{Contains-here, Contains-next}
use Rattle.core_state.proofs.Staging.{Contains-cases}
use Rattle.wiring_laws.proofs.Members.{no-member}

-- ---- the same inputs

entries-same : (inputs : List SubInput) (has final : Contents) (part : ℕ) → ((i : ℕ) → Contains (map (λ (x : SubInput). x.topic) inputs) i → has i part ≡ final i part) →
    task_entries inputs has part ≡ task_entries inputs final part
entries-same [] has final part same = refl
entries-same (a ∷ []) has final part same = ap (λ cs. from_side 0 (map (with_cells a.keys) cs)) (same a.topic (Contains-here a.topic []))
entries-same (a ∷ b ∷ more) has final part same =
    let rest : List ℕ = map (λ (x : SubInput). x.topic) more in
    ap₂ (λ ls rs. ascending (entry_cmp a.relation b.relation) (from_side 0 (map (with_cells a.keys) ls) ++ from_side 1 (map (with_cells b.keys) rs)))
    (same a.topic (Contains-here a.topic (b.topic ∷ rest))) (same b.topic (Contains-next a.topic b.topic (b.topic ∷ rest) (Contains-here b.topic rest)))

flat-same : {A B : Type 0} (f g : A → List B) → ((x : A) → f x ≡ g x) → (xs : List A) → flat_map f xs ≡ flat_map g xs
flat-same f g same [] = refl
flat-same f g same (x ∷ xs) = ap₂ (λ us vs. us ++ vs) (same x) (flat-same f g same xs)

-- tasks that read the same send the same
sent-same : (s : Sub) (has final : Contents) (n part : ℕ) → ((i : ℕ) → Contains (topics_read s) i → (task : ℕ) → has i task ≡ final i task) → sent s has n part ≡ sent s final n part
sent-same s has final n part same =
    ap (ascending change_cmp)
    (flat-same (λ task. filter (is_to n part) (task_results s has task)) (λ task. filter (is_to n part) (task_results s final task))
    (λ task. ap (λ es. filter (is_to n part) (through (map (gives 1) s.nodes) es)) (entries-same s.inputs has final task (λ i reads. same i reads task)))
    (range_with_len 0 s.partitions))

-- ---- sub-topologies in order

module _ (topics : List TopicSpec) where
  pub untouched : (has : Contents) (ss : List Sub) (topic part : ℕ) → ((s : Sub) → Contains ss s → s.output ≡ topic → ⊥) → contents_from topics has ss topic part ≡ has topic part
  unfolding contents_from
  untouched has [] topic part apart = refl
  untouched has (s ∷ ss) topic part apart =
      untouched (with_sub topics has s) ss topic part (λ t among. apart t (Contains-next s t ss among))
      ∙ with-sub-other topics has s topic part (λ same. apart s (Contains-here s ss) (sym same))

  -- in the end each topic has what the tasks of its sub-topology send, where the topics have what they have in the end
  pub sub-written : (has : Contents) (ss : List Sub) → StandInOrder ss → (s : Sub) → Contains ss s → (part : ℕ) →
      contents_from topics has ss s.output part ≡ sent s (contents_from topics has ss) (partitions_of topics s.output) part
  unfolding contents_from
  sub-written has [] order s among part = absurd (no-member s among)
  sub-written has (x ∷ ss) order s among part = by (Contains-cases x ss s among) (λ later. sub-written (with_sub topics has x) ss order.2 s later part)
    where
      final : Contents
      final = contents_from topics (with_sub topics has x) ss

      n : ℕ
      n = partitions_of topics x.output

      reads : (i : ℕ) → Contains (topics_read x) i → (task : ℕ) → has i task ≡ final i task
      reads i read task =
          let unread : (t : Sub) → Contains (x ∷ ss) t → t.output ≡ i → ⊥ =
          λ t inside same. holds-of (λ (y : Sub). Contains (topics_read x) y.output → ⊥) (x ∷ ss) t order.0 inside (subst (Contains (topics_read x)) (sym same) read) in
          sym (untouched (with_sub topics has x) ss i task (λ t inside. unread t (Contains-next x t ss inside)) ∙ with-sub-other topics has x i task (λ same. unread x (Contains-here x ss) (sym same)))

      here : final x.output part ≡ sent x final n part
      here =
          untouched (with_sub topics has x) ss x.output part (λ t inside same. holds-of (λ (y : Sub). y.output ≡ x.output → ⊥) ss t order.1 inside same)
          ∙ with-sub-own topics has x x.output n part refl refl ∙ sent-same x has final n part reads

      by : (x ≡ s) ⊎ Contains ss s → (Contains ss s → final s.output part ≡ sent s final (partitions_of topics s.output) part) → final s.output part ≡ sent s final (partitions_of topics s.output) part
      by (inl same) rest = subst (λ (y : Sub). final y.output part ≡ sent y final (partitions_of topics y.output) part) same here
      by (inr later) rest = rest later
