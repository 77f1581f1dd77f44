-- What counts say of a topic, count by count.
use Rattle.std.proofs.Common.{◌≡◌, ◌≢◌, ◌∙◌, ap, sym, ℕ, ◌+◌, ◌<◌, List, ◌∷◌, length, drop, get_or, eq-eqb, ne_eqb}
use Rattle.std.specs.Prelude.{if◌then◌else◌}
use Rattle.std.proofs.lemmas.List.{drop_more}
use Rattle.feed_laws.specs.Feeds.{Source}
use Rattle.topology.specs.declared.schedule.Count.{Count}
use Rattle.cluster_laws.specs.Progress.{counted}

module _ (counts : List Count) (i : ℕ) (c : Count) (s : Source) (low : i < length counts) (at : c ≡ get_or counts i c) where
  rest-is : drop i counts ≡ c ∷ drop (i + 1) counts
  rest-is = drop_more counts i c low ∙ ap (λ d. d ∷ drop (i + 1) counts) (sym at)

  pub counted-here : c.topic ≡ s.relation.number → counted (drop i counts) s ≡ c.n
  counted-here is =
      ap (λ cs. counted cs s) rest-is ∙ ap (λ b. if b then c.n else counted (drop (i + 1) counts) s) (eq-eqb c.topic s.relation.number is)

  pub counted-next : c.topic ≢ s.relation.number → counted (drop i counts) s ≡ counted (drop (i + 1) counts) s
  counted-next other =
      ap (λ cs. counted cs s) rest-is ∙ ap (λ b. if b then c.n else counted (drop (i + 1) counts) s) (ne_eqb c.topic s.relation.number other)
