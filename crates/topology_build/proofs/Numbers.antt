-- Sub-topologies and topics, numbered one after another.
use Rattle.std.proofs.Common.{◌≡◌, ◌∙◌, ap, ap₂, ℕ, ◌+◌, List, [], ◌∷◌, ◌++◌, length, append_assoc, arith}
use Rattle.std.proofs.lemmas.List.{append-nil, length-append}
use Rattle.ksql_types.specs.declared.topic.TopicSpec.{TopicSpec}
use Rattle.ksql_program.specs.Program.{relation_of}
use Rattle.ksql_program.specs.declared.program.Item.{Item}
use Rattle.topology.specs.declared.stage.Link.{Link}
use Rattle.topology.specs.declared.stage.Link.TheVariants.{Relation, Cut}
use Rattle.topology.specs.declared.stage.Stage.{Stage}
use Rattle.topology.specs.declared.topology.Sub.{Sub}
use Rattle.topology.specs.Topologies.{cut_topics, cuts_of, stages_at, subs_from, subs_of, topics_from}
use Rattle.topology.proofs.Numbered.{length-subs_from}
use Rattle.topology_build.proofs.Counts.{length-topics_from}

-- ---- the stages of a query

-- the repartition topic of one stage after others, whose number is how many topics they are
pub topics-next : (relations number : ℕ) (name : List ℕ) (done more : List TopicSpec) (s : Stage) (rest : List Stage) →
    more ≡ done ++ topics_from (relations + length done) number name (s ∷ []) →
    more ++ topics_from (relations + length more) (number + 1) name rest ≡ done ++ topics_from (relations + length done) number name (s ∷ rest)
topics-next relations number name done more s rest = by s.output
  where
    by : (output : Link) → more ≡ done ++ topics_from (relations + length done) number name (record s { output = output } ∷ []) →
        more ++ topics_from (relations + length more) (number + 1) name rest ≡ done ++ topics_from (relations + length done) number name (record s { output = output } ∷ rest)
    by (Relation relation) is =
        ap (λ (topics : List TopicSpec). topics ++ topics_from (relations + length topics) (number + 1) name rest) (is ∙ append-nil done)
    by (Cut cut relation) is =
        let topic : List TopicSpec = topics_from (relations + length done) number name (record s { output = Cut cut relation } ∷ []) in
        let next : relations + length more ≡ relations + length done + 1 = omega (arith, ap length is, length-append done topic) in
        ap₂ (λ (topics : List TopicSpec) (n : ℕ). topics ++ topics_from n (number + 1) name rest) is next
        ∙ append_assoc done topic (topics_from (relations + length done + 1) (number + 1) name rest)

-- ---- the items of a program

-- the sub-topologies of one item after those of others
pub item_subs-next : (items : List Item) (query relations cuts : ℕ) (done more : List Sub) (cuts_more : ℕ) (i : Item) (rest : List Item) →
    more ≡ done ++ subs_from items query (relations + cuts) (cuts_of (stages_at items i)) (length done) (stages_at items i) →
    cuts_more ≡ cuts + length (cuts_of (stages_at items i)) →
    more ++ subs_of items (query + 1) (relations + cuts_more) (length more) rest ≡ done ++ subs_of items query (relations + cuts) (length done) (i ∷ rest)
unfolding subs_of
item_subs-next items query relations cuts done more cuts_more i rest is cuts-is =
    let stages : List Stage = stages_at items i in
    let added : List Sub = subs_from items query (relations + cuts) (cuts_of stages) (length done) stages in
    let number : length more ≡ length done + length stages =
    ap length is ∙ length-append done added ∙ ap (λ (n : ℕ). length done + n) (length-subs_from items query (relations + cuts) (cuts_of stages) (length done) stages) in
    let first : relations + cuts_more ≡ relations + cuts + length (cuts_of stages) = omega arith in
    ap₂ (λ (n k : ℕ). more ++ subs_of items (query + 1) n k rest) first number
    ∙ ap (λ (subs : List Sub). subs ++ subs_of items (query + 1) (relations + cuts + length (cuts_of stages)) (length done + length stages) rest) is
    ∙ append_assoc done added (subs_of items (query + 1) (relations + cuts + length (cuts_of stages)) (length done + length stages) rest)

-- the repartition topics of one item after those of others
pub item_topics-next : (items : List Item) (relations number : ℕ) (done more : List TopicSpec) (number_more : ℕ) (i : Item) (rest : List Item) →
    more ≡ done ++ topics_from (relations + length done) number (relation_of i).name (stages_at items i) →
    number_more ≡ number + length (stages_at items i) →
    more ++ cut_topics items (relations + length more) number_more rest ≡ done ++ cut_topics items (relations + length done) number (i ∷ rest)
unfolding cut_topics
item_topics-next items relations number done more number_more i rest is number-is =
    let stages : List Stage = stages_at items i in
    let added : List TopicSpec = topics_from (relations + length done) number (relation_of i).name stages in
    let count = length-topics_from (relations + length done) number (relation_of i).name stages in
    let next : relations + length more ≡ relations + length done + length (cuts_of stages) = omega (arith, ap length is, length-append done added, count) in
    ap₂ (λ (n k : ℕ). more ++ cut_topics items n k rest) next number-is
    ∙ ap (λ (topics : List TopicSpec). topics ++ cut_topics items (relations + length done + length (cuts_of stages)) (number + length stages) rest) is
    ∙ append_assoc done added (cut_topics items (relations + length done + length (cuts_of stages)) (number + length stages) rest)
