-- A run of the steps of a schedule, step by step.
use Rattle.std.proofs.Common.{◌≡◌, ◌∙◌, ap, refl, sym, subst, ℕ, ◌+◌, ◌<◌, ◌≤◌, List, ◌∷◌, length, drop, get_or}
use Rattle.std.proofs.lemmas.List.{drop_all, drop_more}
use Rattle.ksql_program.specs.declared.program.Item.{Item}
use Rattle.topic_files.specs.declared.topic.TopicLines.{TopicLines}
use Rattle.topology.specs.Topologies.{topology_of}
use Rattle.topology.specs.declared.schedule.Lined.{Lined}
use Rattle.topology.specs.declared.topology.Topology.{Topology}
use Rattle.cluster_core.specs.Cluster.{HasCome}
use Rattle.cluster_laws.specs.Progress.{Progress, after_line, after_steps, opening}
use Rattle.cluster_core.specs.declared.cluster.Cluster.{Cluster}

-- ---- a run

module _ (items : List Item) (files : List TopicLines) (workers : ℕ) (lines : List Lined) where
  abbrev t : Topology
  t = topology_of items

  abbrev first : Progress
  first = opening t items files workers

  -- the cluster has come through the first lines
  pub record IsDriven (i : ℕ) (c : Cluster) : Type 0 where
    pub p : Progress
    pub come : HasCome items p c
    pub rest : after_steps t p (drop i lines) ≡ after_steps t first lines

  pub driven-none : (c : Cluster) → HasCome items first c → IsDriven 0 c
  driven-none c come = record { p = first; come = come; rest = refl }

  pub driven-next : (i : ℕ) (c next : Cluster) (line : Lined) → i < length lines → line ≡ get_or lines i line →
      (driven : IsDriven i c) → HasCome items (after_line c.topology driven.p line) next → IsDriven (i + 1) next
  driven-next i c next line low at driven come = record {
    p = after_line t driven.p line;
    come = subst (λ (x : Topology). HasCome items (after_line x driven.p line) next) driven.come.topology come;
    rest = sym (ap (λ ls. after_steps t driven.p ls) (drop_more lines i line low ∙ ap (λ l. l ∷ drop (i + 1) lines) (sym at))) ∙ driven.rest;
  }

  pub driven-all : (i : ℕ) (c : Cluster) → length lines ≤ i → IsDriven i c → HasCome items (after_steps t first lines) c
  driven-all i c high driven =
      subst (λ (p : Progress). HasCome items p c) (sym (ap (λ ls. after_steps t driven.p ls) (drop_all i lines high)) ∙ driven.rest) driven.come
