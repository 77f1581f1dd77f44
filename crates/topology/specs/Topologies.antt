-- The topology of a program: its sub-topologies numbered through the script, inputs first, and its topics (Kafka
-- Streams developer guide, "Architecture").
use Rattle.std.specs.Prelude.{ℕ, ◌+◌, ◌==◌, Bool, true, false, if◌then◌else◌, List, [], ◌∷◌, ◌++◌, length, map, Option, Some, None, codes}
use Rattle.ksql_types.specs.declared.relation.Relation.{Relation as OneRelation}
use Rattle.ksql_types.specs.declared.topic.TopicSpec.{TopicSpec}
use Rattle.ksql_types.specs.declared.topic.Writer.{Writer}
use Rattle.ksql_program.specs.Program.{relation_of, relations}
use Rattle.ksql_program.specs.declared.program.Item.{Item}
use Rattle.ksql_program.specs.declared.program.Item.TheVariants.{Declared, Started}
use Rattle.query_meaning.specs.Queries.{key_columns}
use Rattle.topology.specs.declared.stage.CutName.{CutName}
use Rattle.topology.specs.declared.stage.CutName.TheVariants.{Left, Right, Group}
use Rattle.topology.specs.declared.stage.Link.{Link}
use Rattle.topology.specs.declared.stage.Link.TheVariants.{Relation, Cut}
use Rattle.topology.specs.declared.stage.Stage.{Stage}
use Rattle.topology.specs.declared.topology.Sub.{Sub}
use Rattle.topology.specs.declared.topology.SubInput.{SubInput}
use Rattle.topology.specs.declared.topology.Topology.{Topology}
use Rattle.topology.specs.Stages.{stages_of}

-- ---- repartition topics

abbrev pub is_same_cut : CutName → CutName → Bool
is_same_cut Left Left = true
is_same_cut Right Right = true
is_same_cut Group Group = true
is_same_cut _ _ = false

-- the repartition topics that some stages write
abbrev pub cuts_of : List Stage → List CutName
cuts_of [] = []
cuts_of (s ∷ ss) = by s.output (cuts_of ss)
  where
    by : Link → List CutName → List CutName
    by (Relation number) rest = rest
    by (Cut name relation) rest = name ∷ rest

-- the index of a cut among some cuts
abbrev pub place_of : CutName → List CutName → ℕ
place_of name [] = 0
place_of name (c ∷ cs) = if is_same_cut c name then 0 else 1 + place_of name cs

-- the number of a topic, where a query's repartition topics are numbered from this one on
abbrev pub topic_of : ℕ → List CutName → Link → ℕ
topic_of first cuts (Relation number) = number
topic_of first cuts (Cut name relation) = first + place_of name cuts

-- the name of a repartition topic: that of its query, and its purpose
abbrev pub cut_text : CutName → List ℕ
cut_text Left = codes "left"
cut_text Right = codes "right"
cut_text Group = codes "group"

abbrev pub repartition_name : List ℕ → CutName → List ℕ
repartition_name query name = codes "ksql-" ++ query ++ codes "-" ++ cut_text name ++ codes "-repartition"

-- ---- sub-topologies

-- an input of a sub-topology: the rows of a relation's topic get its key columns in front, while those of a repartition
-- topic are whole
abbrev pub input_of : List Item → ℕ → List CutName → Link → SubInput
input_of items first cuts (Relation number) = record { topic = number; relation = number; keys = key_columns items number }
input_of items first cuts (Cut name relation) = record { topic = topic_of first cuts (Cut name relation); relation = relation; keys = 0 }

-- a stage of the query of an item, as the sub-topology with a number
abbrev pub sub_of : List Item → ℕ → ℕ → List CutName → ℕ → Stage → Sub
sub_of items query first cuts number s = record {
  number = number;
  query = query;
  partitions = s.partitions;
  inputs = map (input_of items first cuts) s.inputs;
  nodes = s.nodes;
  output = topic_of first cuts s.output;
}

abbrev pub subs_from : List Item → ℕ → ℕ → List CutName → ℕ → List Stage → List Sub
subs_from items query first cuts number [] = []
subs_from items query first cuts number (s ∷ ss) = sub_of items query first cuts number s ∷ subs_from items query first cuts (number + 1) ss

-- the stages of an item: those of its query, if it is one
abbrev pub stages_at : List Item → Item → List Stage
stages_at items (Declared relation) = []
stages_at items (Started query) = stages_of items query

-- the sub-topologies of some items; queries, repartition topics and sub-topologies are each counted from a number on
unfoldable pub subs_of : List Item → ℕ → ℕ → ℕ → List Item → List Sub
subs_of items query first number [] = []
subs_of items query first number (i ∷ is) =
    let stages = stages_at items i in
    subs_from items query first (cuts_of stages) number stages
    ++ subs_of items (query + 1) (first + length (cuts_of stages)) (number + length stages) is

-- the sub-topologies of a program; its repartition topics are numbered after the relations
abbrev pub subs : List Item → List Sub
subs items = subs_of items 0 (length items) 0 items

-- ---- topics

-- the tasks that write a topic, if any
abbrev pub writer_of : ℕ → List Sub → Option Writer
writer_of topic [] = None
writer_of topic (s ∷ ss) = if topic == s.output then Some (record { sub = s.number; partitions = s.partitions }) else writer_of topic ss

-- the topic of a relation
abbrev pub relation_topic : List Sub → OneRelation → TopicSpec
relation_topic ss r = record { number = r.number; name = r.topic; partitions = r.partitions; writer = writer_of r.number ss }

-- the repartition topics that the stages of the query with this name write, given the numbers of the first of them and
-- of the first sub-topology
abbrev pub topics_from : ℕ → ℕ → List ℕ → List Stage → List TopicSpec
topics_from topic number name [] = []
topics_from topic number name (s ∷ ss) = by s.output (λ next. topics_from next (number + 1) name ss)
  where
    by : Link → (ℕ → List TopicSpec) → List TopicSpec
    by (Relation relation) rest = rest topic
    by (Cut cut relation) rest =
        record { number = topic; name = repartition_name name cut; partitions = s.partitions; writer = Some (record { sub = number; partitions = s.partitions }) }
        ∷ rest (topic + 1)

-- the repartition topics of some items
unfoldable pub cut_topics : List Item → ℕ → ℕ → List Item → List TopicSpec
cut_topics items topic number [] = []
cut_topics items topic number (i ∷ is) =
    let stages = stages_at items i in
    topics_from topic number (relation_of i).name stages ++ cut_topics items (topic + length (cuts_of stages)) (number + length stages) is

-- the topology of a program: the topics of its relations, then the repartition topics
abbrev pub topology_of : List Item → Topology
topology_of items = record { topics = map (relation_topic (subs items)) (relations items) ++ cut_topics items (length items) 0 items; subs = subs items }
