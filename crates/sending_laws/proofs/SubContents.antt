-- The content of the topics after one sub-topology, and how the repartition topics of a query are numbered.
use Rattle.std.proofs.Common.{◌≡◌, ◌∙◌, ap, refl, sym, subst, ℕ, ◌+◌, ◌<◌, eq-eqb, ne_eqb, List, [], ◌∷◌, ◌++◌, length, Bool, true, false, if◌then◌else◌, arith}
use Rattle.ksql_types.specs.declared.topic.TopicSpec.{TopicSpec}
use Rattle.ksql_place.specs.Routing.{partitions_of}
use Rattle.topology.specs.Contents.{Contents, sent, with_sub}
use Rattle.topology.specs.Topologies.{is_same_cut, place_of}
use Rattle.topology.specs.declared.stage.CutName.{CutName}
use Rattle.topology.specs.declared.stage.CutName.TheVariants as cut
use Rattle.topology.specs.declared.topology.Sub.{Sub}

-- ---- the topic of a sub-topology

pub with-sub-own : (topics : List TopicSpec) (has : Contents) (s : Sub) (topic n part : ℕ) → topic ≡ s.output → partitions_of topics topic ≡ n → with_sub topics has s topic part ≡ sent s has n part
with-sub-own topics has s topic n part is count =
    ap (λ b. if b then sent s has (partitions_of topics topic) part else has topic part) (eq-eqb topic s.output is) ∙ ap (λ m. sent s has m part) count

pub with-sub-other : (topics : List TopicSpec) (has : Contents) (s : Sub) (topic part : ℕ) → (topic ≡ s.output → ⊥) → with_sub topics has s topic part ≡ has topic part
with-sub-other topics has s topic part apart = ap (λ b. if b then sent s has (partitions_of topics topic) part else has topic part) (ne_eqb topic s.output apart)

-- a repartition topic comes after those of the relations
pub cut-apart : (first topic place : ℕ) → topic < first → topic ≡ first + place → ⊥
cut-apart first topic place low is = omega (arith, low, is)

-- ---- cuts

same-cut : (name : CutName) → is_same_cut name name ≡ true
same-cut cut.Left = refl
same-cut cut.Right = refl
same-cut cut.Group = refl

pub place-below : (before after : List CutName) (name : CutName) → place_of name (before ++ name ∷ after) < length (before ++ name ∷ after)
place-below [] after name = subst (λ b. (if b then 0 else 1 + place_of name after) < length (name ∷ after)) (sym (same-cut name)) (omega arith)
place-below (c ∷ before) after name = by (is_same_cut c name) (place-below before after name)
  where
    by : (b : Bool) → place_of name (before ++ name ∷ after) < length (before ++ name ∷ after) →
        (if b then 0 else 1 + place_of name (before ++ name ∷ after)) < length (c ∷ before ++ name ∷ after)
    by true below = omega arith
    by false below = omega (arith, below)
