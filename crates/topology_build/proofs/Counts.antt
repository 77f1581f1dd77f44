-- How many stages and repartition topics there are: at most three stages and two repartition topics for a query.
use Rattle.std.proofs.Common.{◌≡◌, ap, refl, ℕ, ◌+◌, ◌≤◌, Bool, true, false, List, [], ◌∷◌, ◌++◌, length, arith}
use Rattle.std.specs.Prelude.{if◌then◌else◌}
use Rattle.std.proofs.lemmas.List.{length-append}
use Rattle.ksql_types.specs.declared.topic.TopicSpec.{TopicSpec}
use Rattle.ksql_program.specs.declared.program.Item.{Item}
use Rattle.ksql_program.specs.declared.program.Item.TheVariants.{Declared, Started}
use Rattle.ksql_program.specs.declared.query.From.{From}
use Rattle.ksql_program.specs.declared.query.From.TheVariants.{One, Join}
use Rattle.ksql_program.specs.declared.query.Query.{Query}
use Rattle.ksql_program.specs.declared.query.Shape.{Shape}
use Rattle.ksql_program.specs.declared.query.Shape.TheVariants.{Plain, Group}
use Rattle.topology.specs.declared.stage.CutName.{CutName}
use Rattle.topology.specs.declared.stage.Link.{Link}
use Rattle.topology.specs.declared.stage.Link.TheVariants.{Relation, Cut}
use Rattle.topology.specs.declared.stage.Stage.{Stage}
use Rattle.topology.specs.declared.topology.Sub.{Sub}
use Rattle.topology.specs.Stages.{are_own_key, is_rekeyed, rekey_stages, shape_stages, stages_of}
use Rattle.topology.specs.Topologies.{cuts_of, stages_at, subs_from, topics_from}
use Rattle.topology.proofs.Numbered.{length-subs_from}

-- ---- stages and repartition topics

-- the repartition topics of some stages and more
pub cuts-append : (ss rest : List Stage) → cuts_of (ss ++ rest) ≡ cuts_of ss ++ cuts_of rest
cuts-append [] rest = refl
cuts-append (s ∷ ss) rest = by s.output (cuts-append ss rest)
  where
    by : (output : Link) → cuts_of (ss ++ rest) ≡ cuts_of ss ++ cuts_of rest →
        cuts_of (record s { output = output } ∷ (ss ++ rest)) ≡ cuts_of (record s { output = output } ∷ ss) ++ cuts_of rest
    by (Relation number) same = same
    by (Cut name relation) same = ap (λ (cuts : List CutName). name ∷ cuts) same

-- at most this many stages and repartition topics
record AreFew (stages cuts : ℕ) (ss : List Stage) : Type 0 where
  few_stages : length ss ≤ stages
  few_cuts : length (cuts_of ss) ≤ cuts

chosen-few : (n m : ℕ) (b : Bool) (ss others : List Stage) → AreFew n m ss → AreFew n m others → AreFew n m (if b then ss else others)
chosen-few n m true ss others first second = first
chosen-few n m false ss others first second = second

rekey-few : (items : List Item) (q : Query) → AreFew 1 1 (rekey_stages items q)
rekey-few items q = by q.from
  where
    by : (f : From) → AreFew 1 1 (rekey_stages items (record q { from = f }))
    by (One number) = record { few_stages = omega arith; few_cuts = omega arith }
    by (Join k left right on) =
        chosen-few 1 1 (is_rekeyed items (Join k left right on)) _ []
        (record { few_stages = omega arith; few_cuts = omega arith }) (record { few_stages = omega arith; few_cuts = omega arith })

shape-few : (items : List Item) (q : Query) (shape : Shape) → AreFew 2 1 (shape_stages items q shape)
shape-few items q (Plain keys values) = record { few_stages = omega arith; few_cuts = omega arith }
shape-few items q (Group keys window aggs having values) =
    chosen-few 2 1 (are_own_key items q.from keys) _ _
    (record { few_stages = omega arith; few_cuts = omega arith }) (record { few_stages = omega arith; few_cuts = omega arith })

pub stages-few : (items : List Item) (q : Query) → length (stages_of items q) ≤ 3
unfolding stages_of
stages-few items q =
    omega (arith, length-append (rekey_stages items q) (shape_stages items q q.shape), (rekey-few items q).few_stages, (shape-few items q q.shape).few_stages)

pub cuts-few : (items : List Item) (q : Query) → length (cuts_of (stages_of items q)) ≤ 2
unfolding stages_of
cuts-few items q =
    let first = rekey_stages items q in
    let second = shape_stages items q q.shape in
    omega (arith, ap length (cuts-append first second), length-append (cuts_of first) (cuts_of second), (rekey-few items q).few_cuts, (shape-few items q q.shape).few_cuts)

pub item_stages-few : (items : List Item) (i : Item) → length (stages_at items i) ≤ 3
item_stages-few items (Declared relation) = omega arith
item_stages-few items (Started query) = stages-few items query

pub item_cuts-few : (items : List Item) (i : Item) → length (cuts_of (stages_at items i)) ≤ 2
item_cuts-few items (Declared relation) = omega arith
item_cuts-few items (Started query) = cuts-few items query

-- ---- what they become: a sub-topology for each stage, and a topic for each repartition topic

pub length-topics_from : (topic number : ℕ) (name : List ℕ) (ss : List Stage) → length (topics_from topic number name ss) ≡ length (cuts_of ss)
length-topics_from topic number name [] = refl
length-topics_from topic number name (s ∷ ss) = by s.output (λ t. length-topics_from t (number + 1) name ss)
  where
    by : (output : Link) → ((t : ℕ) → length (topics_from t (number + 1) name ss) ≡ length (cuts_of ss)) →
        length (topics_from topic number name (record s { output = output } ∷ ss)) ≡ length (cuts_of (record s { output = output } ∷ ss))
    by (Relation relation) same = same topic
    by (Cut cut relation) same = omega (arith, same (topic + 1))

pub count-subs : (done more : List Sub) (items : List Item) (query first : ℕ) (cuts : List CutName) (number : ℕ) (ss : List Stage) →
    more ≡ done ++ subs_from items query first cuts number ss → length more ≡ length done + length ss
count-subs done more items query first cuts number ss is =
    omega (arith, ap length is, length-append done (subs_from items query first cuts number ss), length-subs_from items query first cuts number ss)

pub count-topics : (done more : List TopicSpec) (topic number : ℕ) (name : List ℕ) (ss : List Stage) →
    more ≡ done ++ topics_from topic number name ss → length more ≡ length done + length (cuts_of ss)
count-topics done more topic number name ss is =
    omega (arith, ap length is, length-append done (topics_from topic number name ss), length-topics_from topic number name ss)
