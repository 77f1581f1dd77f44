-- The topics of a topology are found by their numbers.
use Rattle.std.proofs.Common.{◌≡◌, ◌∙◌, ap, refl, ℕ, zero, suc, ◌+◌, ◌<◌, List, [], ◌∷◌, ◌++◌, length, map, Bool, true, false, arith}
use Rattle.std.proofs.lemmas.Option.{none-some}
use Rattle.std.specs.Prelude.{Some, option_map, unwrap_or, slice_get, if◌then◌else◌}
use Rattle.std.specs.List.{AllByRecursion}
use Rattle.ksql_types.specs.declared.relation.Relation.{Relation as OneRelation}
use Rattle.ksql_types.specs.declared.topic.TopicSpec.{TopicSpec}
use Rattle.ksql_program.specs.declared.program.Item.{Item}
use Rattle.ksql_program.specs.declared.query.From.{From}
use Rattle.ksql_program.specs.declared.query.From.TheVariants.{One, Join}
use Rattle.ksql_program.specs.declared.query.Query.{Query}
use Rattle.ksql_program.specs.declared.query.Shape.{Shape}
use Rattle.ksql_program.specs.declared.query.Shape.TheVariants.{Plain, Group}
use Rattle.ksql_nodes.proofs.Lists.{All-append}
use Rattle.query_meaning.specs.Queries.{lanes_of}
use Rattle.ksql_place.specs.Routing.{partitions_of}
use Rattle.topology.specs.Stages.{are_own_key, is_rekeyed, rekey_from, rekey_stages, shape_stages, stages_of}
use Rattle.topology.specs.Topologies.{cuts_of, relation_topic, topics_from}
use Rattle.topology.specs.declared.stage.Link.{Link}
use Rattle.topology.specs.declared.stage.Link.TheVariants.{Relation, Cut}
use Rattle.topology.specs.declared.stage.Stage.{Stage}
use Rattle.topology.specs.declared.topology.Sub.{Sub}

-- ---- places in lists

pub get-after : {A : Type 0} (xs ys : List A) (place : ℕ) → slice_get (xs ++ ys) (length xs + place) ≡ slice_get ys place
get-after [] ys place = let same : 0 + place ≡ place = omega arith in ap (slice_get ys) same
get-after (x ∷ xs) ys place = let same : length (x ∷ xs) + place ≡ suc (length xs + place) = omega arith in ap (slice_get (x ∷ (xs ++ ys))) same ∙ get-after xs ys place

pub get-front : {A : Type 0} (xs ys : List A) (place : ℕ) (x : A) → slice_get xs place ≡ Some x → slice_get (xs ++ ys) place ≡ Some x
get-front [] ys place x is = absurd (none-some x is)
get-front (y ∷ xs) ys zero x is = is
get-front (y ∷ xs) ys (suc place) x is = get-front xs ys place x is

get-map : {A B : Type 0} (f : A → B) (xs : List A) (place : ℕ) (x : A) → slice_get xs place ≡ Some x → slice_get (map f xs) place ≡ Some (f x)
get-map f [] place x is = absurd (none-some x is)
get-map f (y ∷ xs) zero x is = ap (option_map f) is
get-map f (y ∷ xs) (suc place) x is = get-map f xs place x is

-- the topic of a relation
pub relation-count : (ss : List Sub) (rs : List OneRelation) (rest : List TopicSpec) (number : ℕ) (r : OneRelation) → slice_get rs number ≡ Some r →
    partitions_of (map (relation_topic ss) rs ++ rest) number ≡ r.partitions
relation-count ss rs rest number r is =
    ap (λ o. unwrap_or (option_map (λ (t : TopicSpec). t.partitions) o) 1)
    (get-front (map (relation_topic ss) rs) rest number (relation_topic ss r) (get-map (relation_topic ss) rs number r is))

-- ---- the stages of a query

abbrev HasLanes : ℕ → Stage → Type 0
HasLanes n s = s.partitions ≡ n

if-all : {A : Type 0} (P : A → Type 0) (b : Bool) (xs ys : List A) → AllByRecursion P xs → AllByRecursion P ys → AllByRecursion P (if b then xs else ys)
if-all P true xs ys hx hy = hx
if-all P false xs ys hx hy = hy

rekey-lanes : (items : List Item) (q : Query) → AllByRecursion (HasLanes (lanes_of items q)) (rekey_stages items q)
rekey-lanes items q = by q.from
  where
    -- (the stages of a query that reads so)
    by : (from : From) → AllByRecursion (HasLanes (lanes_of items q)) (rekey_from items q from)
    by (One number) = tt
    by (Join k left right on) = if-all (HasLanes (lanes_of items q)) (is_rekeyed items (Join k left right on)) _ _ (refl, tt) tt

shape-lanes : (items : List Item) (q : Query) (shape : Shape) → AllByRecursion (HasLanes (lanes_of items q)) (shape_stages items q shape)
shape-lanes items q (Plain keys values) = (refl, tt)
shape-lanes items q (Group keys window aggs having values) = if-all (HasLanes (lanes_of items q)) (are_own_key items q.from keys) _ _ (refl, tt) (refl, (refl, tt))

-- each stage of a query has as many partitions as its leftmost relation
pub stages-lanes : (items : List Item) (q : Query) → AllByRecursion (HasLanes (lanes_of items q)) (stages_of items q)
unfolding stages_of
stages-lanes items q = All-append (HasLanes (lanes_of items q)) (rekey_stages items q) (shape_stages items q q.shape) (rekey-lanes items q) (shape-lanes items q q.shape)

-- ---- repartition topics

pub topics-length : (topic number : ℕ) (name : List ℕ) (stages : List Stage) → length (topics_from topic number name stages) ≡ length (cuts_of stages)
topics-length topic number name [] = refl
topics-length topic number name (s ∷ ss) = by s.output (topics-length topic (number + 1) name ss) (topics-length (topic + 1) (number + 1) name ss)
  where
    by : (output : Link) → length (topics_from topic (number + 1) name ss) ≡ length (cuts_of ss) → length (topics_from (topic + 1) (number + 1) name ss) ≡ length (cuts_of ss) →
        length (topics_from topic number name (record s { output = output } ∷ ss)) ≡ length (cuts_of (record s { output = output } ∷ ss))
    by (Relation r) same next = same
    by (Cut c r) same next = ap suc next

pub topics-lanes : (n topic number : ℕ) (name : List ℕ) (stages : List Stage) → AllByRecursion (HasLanes n) stages → (place : ℕ) → place < length (cuts_of stages) →
    option_map (λ (t : TopicSpec). t.partitions) (slice_get (topics_from topic number name stages) place) ≡ Some n
topics-lanes n topic number name [] all place low = absurd (omega (arith, low))
topics-lanes n topic number name (s ∷ ss) all place low = by s.output place low (topics-lanes n topic (number + 1) name ss all.1) (topics-lanes n (topic + 1) (number + 1) name ss all.1)
  where
    At : ℕ → ℕ → ℕ → Type 0
    At t m p = p < length (cuts_of ss) → option_map (λ (x : TopicSpec). x.partitions) (slice_get (topics_from t m name ss) p) ≡ Some n

    by : (output : Link) (place : ℕ) → place < length (cuts_of (record s { output = output } ∷ ss)) → ((p : ℕ) → At topic (number + 1) p) → ((p : ℕ) → At (topic + 1) (number + 1) p) →
        option_map (λ (x : TopicSpec). x.partitions) (slice_get (topics_from topic number name (record s { output = output } ∷ ss)) place) ≡ Some n
    by (Relation r) place low same next = same place low
    by (Cut c r) zero low same next = ap Some all.0
    by (Cut c r) (suc place) low same next = next place (omega (arith, low))
