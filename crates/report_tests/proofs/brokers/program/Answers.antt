use Rattle.std.proofs.Common.{◌≡◌, ◌∙◌, List, ℕ, [], ◌∷◌, zero, suc, ap, map, refl, subst, sym}
use Rattle.std.specs.Prelude.{slice_get, All, Some}
use Rattle.std.specs.Option.{IsSomeAnd}
use Rattle.std.proofs.lemmas.List.Elements.{All-cons, All-nil}
use Rattle.ksql_types.specs.declared.relation.Relation.{Relation}
use Rattle.ksql_types.specs.declared.topic.TopicSpec.{TopicSpec}
use Rattle.ksql_program.specs.Program.{relations}
use Rattle.ksql_program.specs.declared.program.Item.{Item}
use Rattle.topic_log.specs.Shelves.{topics_of}
use Rattle.topic_log.specs.declared.shelves.Shelves.{Shelves}
use Rattle.run_text.specs.Shown.{HasTopicOf}
use Rattle.report_tests.proofs.brokers.program.Goals as goal

spec-at : (ts : List TopicSpec) (i n : ℕ) → slice_get (map (λ t. t.partitions) ts) i ≡ Some n → IsSomeAnd (slice_get ts i) (λ t. t.partitions ≡ n)
spec-at [] i n is = cc
spec-at (t ∷ ts) zero n is = cc
spec-at (t ∷ ts) (suc i) n is = spec-at ts i n is

-- the partitions of two topics of one partition each
abbrev one_each : List ℕ
one_each = 1 ∷ 1 ∷ []

-- a relation of one partition has its topic where that one has one partition
has-topic : (s : Shelves) (r : Relation) (i : ℕ) → r.number ≡ i → r.partitions ≡ 1 → slice_get one_each i ≡ Some 1 →
    map (λ t. t.partitions) (topics_of s) ≡ one_each → HasTopicOf s r
has-topic s r i number partitions one is =
    spec-at (topics_of s) r.number r.partitions
    (ap (λ (ns : List ℕ). slice_get ns r.number) is ∙ ap (slice_get one_each) number ∙ one ∙ ap (λ (n : ℕ). Some n) (sym partitions))

pub returns-clause-topics : goal.returns-clause-topics
returns-clause-topics c = λ s is.
    let source = c.in_ok-source.source in
    let out = c.in_ok-out.out in
    let both : All (HasTopicOf s) (source ∷ out ∷ []) =
    All-cons (HasTopicOf s) source (out ∷ []) (has-topic s source 0 c.in_ok-source.ensures.number c.in_ok-source.ensures.partitions refl is)
    (All-cons (HasTopicOf s) out [] (has-topic s out 1 c.in_ok-out.ensures.number c.in_ok-out.ensures.partitions refl is) (All-nil (HasTopicOf s))) in
    subst (λ (items : List Item). All (HasTopicOf s) (relations items)) (sym (c.of-3.ensures ∙ c.in_ok-items.ensures.items)) both
