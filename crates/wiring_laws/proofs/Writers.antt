-- Each topic of a topology is written by the sub-topology whose output it is, and by no other.
use Rattle.std.proofs.Common.{◌≡◌, ◌∙◌, ap, refl, sym, subst, ℕ, zero, suc, ◌+◌, ◌<◌, Bool, true, false, List, [], ◌∷◌, ◌++◌, length, length-append, map, take, get_or, append_assoc, eq-eqb, ne_eqb, inl, inr, arith}
use Rattle.std.proofs.lemmas.Bool.{eqb-true}
use Rattle.std.proofs.lemmas.List.{length-map}
use Rattle.std.proofs.lemmas.List.Elements.{All-contains_itself, recursion_from_All}
use Rattle.std.proofs.lemmas.Option.{none-some, same_Some, slice_get-map}
use Rattle.std.specs.Prelude.{◌⊎◌, ◌==◌, if◌then◌else◌, Contains, Option, Some, None, option_and_then, option_map, slice_get, unwrap_or}
use Rattle.std.specs.List.{AllByRecursion}
use Rattle.ksql_types.specs.declared.relation.Relation.{Relation as OneRelation}
use Rattle.ksql_types.specs.declared.topic.TopicSpec.{TopicSpec}
use Rattle.ksql_types.specs.declared.topic.Writer.{Writer}
use Rattle.ksql_program.specs.Program.{relation_at, relation_of, relations}
use Rattle.ksql_program.specs.Sound.{IsSound, IsSoundItem}
use Rattle.ksql_program.specs.declared.program.Item.{Item}
use Rattle.ksql_program.specs.declared.program.Item.TheVariants.{Declared, Started}
use Rattle.ksql_program.specs.declared.query.From.{From}
use Rattle.ksql_program.specs.declared.query.From.TheVariants.{One, Join}
use Rattle.ksql_program.specs.declared.query.Query.{Query}
use Rattle.ksql_program.specs.declared.query.Shape.{Shape}
use Rattle.ksql_program.specs.declared.query.Shape.TheVariants.{Plain, Group}
use Rattle.ksql_nodes.proofs.Lists.{All-append}
use Rattle.query_meaning.specs.Queries.{lanes_of, leftmost, partitions_at}
use Rattle.topology.specs.Stages.{are_own_key, is_rekeyed, rekey_from, rekey_stages, shape_stages, stages_of}
use Rattle.topology.specs.Topologies.{cut_topics, cuts_of, is_same_cut, place_of, relation_topic, repartition_name, stages_at, sub_of, subs, subs_from, subs_of, topics_from, topology_of, writer_of}
use Rattle.topology.specs.declared.stage.CutName.{CutName}
use Rattle.topology.specs.declared.stage.CutName.TheVariants as cut
use Rattle.topology.specs.declared.stage.Link.{Link}
use Rattle.topology.specs.declared.stage.Link.TheVariants as link
use Rattle.topology.specs.declared.stage.Stage.{Stage}
use Rattle.topology.specs.declared.topology.Sub.{Sub}
use Rattle.topology.proofs.Numbered.{subs-numbered}
use Rattle.meaning_laws.proofs.Lists.{All-weaker}
use Rattle.core_state.proofs.Staging.{Contains-cases}
use Rattle.sending_laws.proofs.ItemLists.{item-at, sound-at, take-length, within}
use Rattle.sending_laws.proofs.Numbering.{get-after, get-front, stages-lanes, topics-length}
use Rattle.sending_laws.proofs.Paths.{StandInOrder, holds-of}
use Rattle.sending_laws.proofs.SubOrder.{subs-in-order}
use Rattle.wiring_laws.proofs.Members.{all-by_place, member-at, no-member, some-at}

-- the writer of a topic, and a sub-topology as one
abbrev pub writer_at : List TopicSpec → ℕ → Option Writer
writer_at topics topic = option_and_then (λ (t : TopicSpec). t.writer) (slice_get topics topic)

abbrev pub as_writer : Sub → Writer
as_writer s = record { sub = s.number; partitions = s.partitions }

-- ---- names of repartition topics

place-next : (name c : CutName) (done : List CutName) → place_of name (c ∷ done) ≡ suc (length done) → (is_same_cut c name ≡ false) × (place_of name done ≡ length done)
place-next name c done new = by (is_same_cut c name) refl new
  where
    by : (b : Bool) → is_same_cut c name ≡ b → (if b then 0 else 1 + place_of name done) ≡ suc (length done) → (is_same_cut c name ≡ false) × (place_of name done ≡ length done)
    by true is long = absurd (omega (arith, long))
    by false is long = (is, omega (arith, long))

same-cut : (name : CutName) → is_same_cut name name ≡ true
same-cut cut.Left = refl
same-cut cut.Right = refl
same-cut cut.Group = refl

-- a name that isn't among some comes after them
place-new : (name : CutName) (done rest : List CutName) → place_of name done ≡ length done → place_of name (done ++ name ∷ rest) ≡ length done
place-new name [] rest new = ap (λ b. if b then 0 else 1 + place_of name rest) (same-cut name)
place-new name (c ∷ done) rest new =
    let next = place-next name c done new in
    let later : place_of name (done ++ name ∷ rest) ≡ length done = place-new name done rest next.1 in
    let sum : 1 + place_of name (done ++ name ∷ rest) ≡ suc (length done) = omega (arith, later) in
    ap (λ b. if b then 0 else 1 + place_of name (done ++ name ∷ rest)) next.0 ∙ sum

-- names none of which is among those before it
abbrev AreNew : List CutName → List CutName → Type 0
AreNew done [] = Unit {0}
AreNew done (c ∷ cs) = (place_of c done ≡ length done) × AreNew (done ++ c ∷ []) cs

pub if-has : {A : Type 0} (P : A → Type 0) (b : Bool) (x y : A) → P x → P y → P (if b then x else y)
if-has P true x y hx hy = hx
if-has P false x y hx hy = hy

stages-new : (items : List Item) (q : Query) → AreNew [] (cuts_of (stages_of items q))
unfolding stages_of
stages-new items q = by_from q.from
  where
    by_shape : (shape : Shape) → AreNew [] (cuts_of (shape_stages items q shape)) × AreNew (cut.Left ∷ []) (cuts_of (shape_stages items q shape))
    by_shape (Plain keys values) = (tt, tt)
    by_shape (Group keys window aggs having values) =
        if-has (λ ss. AreNew [] (cuts_of ss) × AreNew (cut.Left ∷ []) (cuts_of ss)) (are_own_key items q.from keys) _ _ (tt, tt) ((refl, tt), (refl, tt))

    by_from : (from : From) → AreNew [] (cuts_of (rekey_from items q from ++ shape_stages items q q.shape))
    by_from (One number) = (by_shape q.shape).0
    by_from (Join k left right on) =
        if-has (λ ss. AreNew [] (cuts_of (ss ++ shape_stages items q q.shape))) (is_rekeyed items (Join k left right on)) _ _ (refl, (by_shape q.shape).1) (by_shape q.shape).0

-- ---- what stages write

-- a link to a relation below a number, or to a repartition topic
abbrev IsBelow : ℕ → Link → Type 0
IsBelow n (link.Relation number) = number < n
IsBelow n (link.Cut name relation) = Unit {0}

abbrev WritesBelow : ℕ → Stage → Type 0
WritesBelow n s = IsBelow n s.output

-- a link to the relation of this number, or to a repartition topic
abbrev pub IsOwn : ℕ → Link → Type 0
IsOwn n (link.Relation number) = number ≡ n
IsOwn n (link.Cut name relation) = Unit {0}

abbrev pub WritesOwn : ℕ → Stage → Type 0
WritesOwn n s = IsOwn n s.output

-- each stage of a query writes its result or a repartition topic
pub stages-own : (items : List Item) (q : Query) → AllByRecursion (WritesOwn q.out.number) (stages_of items q)
unfolding stages_of
stages-own items q = All-append (WritesOwn q.out.number) (rekey_stages items q) (shape_stages items q q.shape) (by_from q.from) (by_shape q.shape)
  where
    by_from : (from : From) → AllByRecursion (WritesOwn q.out.number) (rekey_from items q from)
    by_from (One number) = tt
    by_from (Join k left right on) = if-has (AllByRecursion (WritesOwn q.out.number)) (is_rekeyed items (Join k left right on)) _ _ (tt, tt) tt

    by_shape : (shape : Shape) → AllByRecursion (WritesOwn q.out.number) (shape_stages items q shape)
    by_shape (Plain keys values) = (refl, tt)
    by_shape (Group keys window aggs having values) = if-has (AllByRecursion (WritesOwn q.out.number)) (are_own_key items q.from keys) _ _ (refl, tt) (tt, (refl, tt))

own-below : (n m : ℕ) → m < n → (output : Link) → IsOwn m output → IsBelow n output
own-below n m low (link.Relation number) own = omega (arith, low, own)
own-below n m low (link.Cut name relation) own = tt

stages-below : (items : List Item) (n : ℕ) (q : Query) → q.out.number < n → AllByRecursion (WritesBelow n) (stages_of items q)
stages-below items n q low =
    All-weaker (WritesOwn q.out.number) (WritesBelow n) (λ s. own-below n q.out.number low s.output) (stages_of items q) (stages-own items q)

-- ---- topics of sub-topologies

module _ (P : Sub → Type 0) where
  -- a topic's writer is one of some sub-topologies, whose output is this topic
  abbrev pub IsWriterOf : ℕ → Option Writer → Type 0
  IsWriterOf topic None = Unit {0}
  IsWriterOf topic (Some w) = (s : Sub) × P s × (as_writer s ≡ w) × (s.output ≡ topic)

  abbrev AreWritten : ℕ → List TopicSpec → Type 0
  AreWritten topic [] = Unit {0}
  AreWritten topic (t ∷ ts) = IsWriterOf topic t.writer × AreWritten (topic + 1) ts

  written-append : (topic next : ℕ) (xs ys : List TopicSpec) → topic + length xs ≡ next → AreWritten topic xs → AreWritten next ys → AreWritten topic (xs ++ ys)
  written-append topic next [] ys at first second = let same : next ≡ topic = omega (arith, at) in subst (λ t. AreWritten t ys) same second
  written-append topic next (x ∷ xs) ys at first second = (first.0, written-append (topic + 1) next xs ys (omega (arith, at)) first.1 second)

  written-at : (topic at : ℕ) (ts : List TopicSpec) (place : ℕ) (w : Writer) → topic + place ≡ at → AreWritten topic ts → writer_at ts place ≡ Some w → IsWriterOf at (Some w)
  written-at topic at [] place w sum all is = absurd (none-some w is)
  written-at topic at (t ∷ ts) zero w sum all is =
      let same : topic ≡ at = omega (arith, sum) in
      subst (λ number. IsWriterOf number (Some w)) same (subst (IsWriterOf topic) is all.0)
  written-at topic at (t ∷ ts) (suc place) w sum all is = written-at (topic + 1) at ts place w (omega (arith, sum)) all.1 is

  -- the writer that is found is one of the sub-topologies
  writer-found : (topic : ℕ) (ss : List Sub) → AllByRecursion P ss → IsWriterOf topic (writer_of topic ss)
  writer-found topic [] all = tt
  writer-found topic (s ∷ ss) all = by (topic == s.output) refl (writer-found topic ss all.1)
    where
      by : (b : Bool) → (topic == s.output) ≡ b → IsWriterOf topic (writer_of topic ss) → IsWriterOf topic (if b then Some (as_writer s) else writer_of topic ss)
      by true is rest = (s, all.0, refl, sym (eqb-true topic s.output is))
      by false is rest = rest

  relations-written : (ss : List Sub) → AllByRecursion P ss → (topic : ℕ) (rs : List OneRelation) → ((place : ℕ) (r : OneRelation) → slice_get rs place ≡ Some r → r.number ≡ topic + place) →
      AreWritten topic (map (relation_topic ss) rs)
  relations-written ss all topic [] numbered = tt
  relations-written ss all topic (r ∷ rs) numbered =
      let here : r.number ≡ topic + 0 = numbered 0 r refl in
      let same : r.number ≡ topic = omega (arith, here) in (
        subst (λ n. IsWriterOf n (writer_of r.number ss)) same (writer-found r.number ss all),
        relations-written ss all (topic + 1) rs (λ place x is. let next : x.number ≡ topic + suc place = numbered (suc place) x is in omega (arith, next)),
      )

  module _ (items : List Item) (query first : ℕ) (cuts : List CutName) (name : List ℕ) where
    stages-written : (number : ℕ) (done : List CutName) (stages : List Stage) → cuts ≡ done ++ cuts_of stages → AreNew done (cuts_of stages) →
        AllByRecursion P (subs_from items query first cuts number stages) → (topic : ℕ) → topic ≡ first + length done → AreWritten topic (topics_from topic number name stages)
    stages-written number done [] whole new all topic at = tt
    stages-written number done (s ∷ ss) whole new all topic at = by s.output whole new all.0 (λ more w n. stages-written (number + 1) more ss w n all.1)
      where
        by : (output : Link) → cuts ≡ done ++ cuts_of (record s { output = output } ∷ ss) → AreNew done (cuts_of (record s { output = output } ∷ ss)) →
            P (sub_of items query first cuts number (record s { output = output })) →
            ((more : List CutName) → cuts ≡ more ++ cuts_of ss → AreNew more (cuts_of ss) → (t : ℕ) → t ≡ first + length more → AreWritten t (topics_from t (number + 1) name ss)) →
            AreWritten topic (topics_from topic number name (record s { output = output } ∷ ss))
        by (link.Relation r) whole new one rest = rest done whole new topic at
        by (link.Cut c r) whole new one rest =
            let place : place_of c cuts ≡ length done = ap (place_of c) whole ∙ place-new c done (cuts_of ss) new.0 in
            let long : length (done ++ c ∷ []) ≡ length done + 1 = length-append done (c ∷ []) in (
              (sub_of items query first cuts number (record s { output = link.Cut c r }), one, refl, omega (arith, place, at)),
              rest (done ++ c ∷ []) (whole ∙ sym (append_assoc done (c ∷ []) (cuts_of ss))) new.1 (topic + 1) (omega (arith, long, at)),
            )

all-front : {A : Type 0} (P : A → Type 0) (xs ys : List A) → AllByRecursion P (xs ++ ys) → AllByRecursion P xs
all-front P [] ys all = tt
all-front P (x ∷ xs) ys all = (all.0, all-front P xs ys all.1)

all-back : {A : Type 0} (P : A → Type 0) (xs ys : List A) → AllByRecursion P (xs ++ ys) → AllByRecursion P ys
all-back P [] ys all = all
all-back P (x ∷ xs) ys all = all-back P xs ys all.1

stages_at-new : (items : List Item) (i : Item) → AreNew [] (cuts_of (stages_at items i))
stages_at-new items (Declared r) = tt
stages_at-new items (Started q) = stages-new items q

cuts-written : (P : Sub → Type 0) (items : List Item) (query first number : ℕ) (is : List Item) → AllByRecursion P (subs_of items query first number is) →
    AreWritten P first (cut_topics items first number is)
unfolding subs_of cut_topics
cuts-written P items query first number [] all = tt
cuts-written P items query first number (i ∷ is) all =
    let stages : List Stage = stages_at items i in
    let cuts : List CutName = cuts_of stages in
    let name : List ℕ = (relation_of i).name in
    written-append P first (first + length cuts) (topics_from first number name stages) (cut_topics items (first + length cuts) (number + length stages) is)
    (ap (λ n. first + n) (topics-length first number name stages))
    (stages-written P items query first cuts name number [] stages refl (stages_at-new items i)
    (all-front P (subs_from items query first cuts number stages) _ all) first (omega arith))
    (cuts-written P items (query + 1) (first + length cuts) (number + length stages) is (all-back P (subs_from items query first cuts number stages) _ all))

-- ---- sub-topologies and their topics

-- a sub-topology writes a relation below a number, or is the writer of its topic
abbrev IsPlaced : ℕ → List TopicSpec → Sub → Type 0
IsPlaced n topics s = (s.output < n) ⊎ (writer_at topics s.output ≡ Some (as_writer s))

module _ (items : List Item) (n query first : ℕ) (cuts : List CutName) (name : List ℕ) (back : List TopicSpec) where
  stages-placed : (number : ℕ) (done : List CutName) (stages : List Stage) → cuts ≡ done ++ cuts_of stages → AreNew done (cuts_of stages) → AllByRecursion (WritesBelow n) stages →
      (topic : ℕ) → topic ≡ first + length done → (front : List TopicSpec) → length front ≡ topic →
      AllByRecursion (IsPlaced n (front ++ (topics_from topic number name stages ++ back))) (subs_from items query first cuts number stages)
  stages-placed number done [] whole new below topic at front long = tt
  stages-placed number done (s ∷ ss) whole new below topic at front long = by s.output whole new below.0 (λ more w n. stages-placed (number + 1) more ss w n below.1)
    where
      by : (output : Link) → cuts ≡ done ++ cuts_of (record s { output = output } ∷ ss) → AreNew done (cuts_of (record s { output = output } ∷ ss)) → IsBelow n output →
          ((more : List CutName) → cuts ≡ more ++ cuts_of ss → AreNew more (cuts_of ss) → (t : ℕ) → t ≡ first + length more → (before : List TopicSpec) → length before ≡ t →
          AllByRecursion (IsPlaced n (before ++ (topics_from t (number + 1) name ss ++ back))) (subs_from items query first cuts (number + 1) ss)) →
          AllByRecursion (IsPlaced n (front ++ (topics_from topic number name (record s { output = output } ∷ ss) ++ back))) (subs_from items query first cuts number (record s { output = output } ∷ ss))
      by (link.Relation r) whole new low rest = (inl low, rest done whole new topic at front long)
      by (link.Cut c r) whole new low rest =
          let place : place_of c cuts ≡ length done = ap (place_of c) whole ∙ place-new c done (cuts_of ss) new.0 in
          let more : length (done ++ c ∷ []) ≡ length done + 1 = length-append done (c ∷ []) in
          let written : Stage = record s { output = link.Cut c r } in
          let own : TopicSpec = record {
            number = topic;
            name = repartition_name name c;
            partitions = s.partitions;
            writer = Some (record { sub = number; partitions = s.partitions });
          } in
          let later : List TopicSpec = topics_from (topic + 1) (number + 1) name ss ++ back in
          let here : first + place_of c cuts ≡ length front + 0 = omega (arith, place, at, long) in
          let further : length (front ++ own ∷ []) ≡ length front + 1 = length-append front (own ∷ []) in (
            inr (ap (writer_at (front ++ own ∷ later)) here ∙ ap (option_and_then (λ (t : TopicSpec). t.writer)) (get-after front (own ∷ later) 0)),
            subst (λ ts. AllByRecursion (IsPlaced n ts) (subs_from items query first cuts (number + 1) ss)) (append_assoc front (own ∷ []) later)
                (rest (done ++ c ∷ []) (whole ∙ sym (append_assoc done (c ∷ []) (cuts_of ss))) new.1 (topic + 1) (omega (arith, more, at)) (front ++ own ∷ []) (omega (arith, further, long))),
          )

-- a property of each stage of some items holds of each of their sub-topologies
module _ (items : List Item) (Q : Stage → Type 0) (R : Sub → Type 0)
    (each : (query first : ℕ) (cuts : List CutName) (number : ℕ) (s : Stage) → Q s → R (sub_of items query first cuts number s)) where
  stages-all : (query first : ℕ) (cuts : List CutName) (number : ℕ) (stages : List Stage) → AllByRecursion Q stages → AllByRecursion R (subs_from items query first cuts number stages)
  stages-all query first cuts number [] all = tt
  stages-all query first cuts number (s ∷ ss) all = (each query first cuts number s all.0, stages-all query first cuts (number + 1) ss all.1)

  items-all : (query first number : ℕ) (is : List Item) → AllByRecursion (λ i. AllByRecursion Q (stages_at items i)) is → AllByRecursion R (subs_of items query first number is)
  unfolding subs_of
  items-all query first number [] all = tt
  items-all query first number (i ∷ is) all =
      let stages : List Stage = stages_at items i in
      All-append R (subs_from items query first (cuts_of stages) number stages) _ (stages-all query first (cuts_of stages) number stages all.0)
      (items-all (query + 1) (first + length (cuts_of stages)) (number + length stages) is all.1)

  pub subs-all : ((number : ℕ) (q : Query) → slice_get items number ≡ Some (Started q) → AllByRecursion Q (stages_of items q)) → AllByRecursion R (subs items)
  subs-all known = items-all 0 (length items) 0 items (all-by_place (λ i. AllByRecursion Q (stages_at items i)) items by)
    where
      by : (k : ℕ) (i : Item) → slice_get items k ≡ Some i → AllByRecursion Q (stages_at items i)
      by k (Declared r) at = tt
      by k (Started q) at = known k q at

items-placed : (items : List Item) (n query first number : ℕ) (is : List Item) → AllByRecursion (λ i. AllByRecursion (WritesBelow n) (stages_at items i)) is →
    (front : List TopicSpec) → length front ≡ first → AllByRecursion (IsPlaced n (front ++ cut_topics items first number is)) (subs_of items query first number is)
unfolding subs_of cut_topics
items-placed items n query first number [] below front long = tt
items-placed items n query first number (i ∷ is) below front long =
    let stages : List Stage = stages_at items i in
    let cuts : List CutName = cuts_of stages in
    let name : List ℕ = (relation_of i).name in
    let here : List TopicSpec = topics_from first number name stages in
    let later : List TopicSpec = cut_topics items (first + length cuts) (number + length stages) is in
    let rest : List Sub = subs_of items (query + 1) (first + length cuts) (number + length stages) is in
    let sum : length (front ++ here) ≡ length front + length here = length-append front here in
    let same : length here ≡ length cuts = topics-length first number name stages in
    All-append (IsPlaced n (front ++ (here ++ later))) (subs_from items query first cuts number stages) rest
    (stages-placed items n query first cuts name later number [] stages refl (stages_at-new items i) below.0 first (omega arith) front long)
    (subst (λ ts. AllByRecursion (IsPlaced n ts) rest) (append_assoc front here later)
    (items-placed items n (query + 1) (first + length cuts) (number + length stages) is below.1 (front ++ here) (omega (arith, sum, same, long))))

-- if each sub-topology writes a different topic, the writer found for its topic is the sub-topology itself
writer-own : (ss : List Sub) → StandInOrder ss → (s : Sub) → Contains ss s → (topic : ℕ) → topic ≡ s.output → writer_of topic ss ≡ Some (as_writer s)
writer-own [] order s among topic is = absurd (no-member s among)
writer-own (x ∷ ss) order s among topic is = by (Contains-cases x ss s among) (λ later. writer-own ss order.2 s later topic is)
  where
    by : (x ≡ s) ⊎ Contains ss s → (Contains ss s → writer_of topic ss ≡ Some (as_writer s)) → writer_of topic (x ∷ ss) ≡ Some (as_writer s)
    by (inl same) rest =
        ap (λ b. if b then Some (as_writer x) else writer_of topic ss) (eq-eqb topic x.output (is ∙ ap (λ (y : Sub). y.output) (sym same))) ∙ ap (λ y. Some (as_writer y)) same
    by (inr later) rest =
        let apart : s.output ≡ x.output → ⊥ = holds-of (λ (t : Sub). t.output ≡ x.output → ⊥) ss s order.1 later in
        ap (λ b. if b then Some (as_writer x) else writer_of topic ss) (ne_eqb topic x.output (λ same. apart (sym is ∙ same))) ∙ rest later

at-get_or : {A : Type 0} (xs : List A) (k : ℕ) (x : A) → slice_get xs k ≡ Some x → get_or xs k x ≡ x
at-get_or [] k x is = absurd (none-some x is)
at-get_or (y ∷ xs) zero x is = same_Some y x is
at-get_or (y ∷ xs) (suc k) x is = at-get_or xs k x is

-- ---- a sound program

module _ (items : List Item) (sound : IsSound items) where
  abbrev topics : List TopicSpec
  topics = (topology_of items).topics

  pub numbered : (number : ℕ) (i : Item) → slice_get items number ≡ Some i → ((relation_of i).number ≡ number) × (0 < (relation_of i).partitions)
  numbered number i at = by i at (sound-at items number i sound.sound at)
    where
      long : length (take number items) ≡ number
      long = take-length items number i at

      by : (j : Item) → slice_get items number ≡ Some j → IsSoundItem (take number items) j → ((relation_of j).number ≡ number) × (0 < (relation_of j).partitions)
      by (Declared r) is h = let some = h.0.some_partition in (h.0.numbered ∙ long, omega (arith, some))
      by (Started q) is h = let some = h.0.some_partition in (h.0.numbered ∙ long, omega (arith, some))

  relation-numbered : (number : ℕ) (r : OneRelation) → relation_at items number ≡ Some r → (r.number ≡ number) × (0 < r.partitions)
  relation-numbered number r is = let found = item-at items number r is in
      subst (λ (x : OneRelation). (x.number ≡ number) × (0 < x.partitions)) found.2 (numbered number found.0 found.1)

  long : length (map (relation_topic (subs items)) (relations items)) ≡ length items
  long = length-map (relations items) (relation_topic (subs items)) ∙ length-map items relation_of

  all-placed : AllByRecursion (IsPlaced (length items) topics) (subs items)
  all-placed = items-placed items (length items) 0 (length items) 0 items (all-by_place (λ i. AllByRecursion (WritesBelow (length items)) (stages_at items i)) items by)
      (map (relation_topic (subs items)) (relations items)) long
    where
      by : (k : ℕ) (i : Item) → slice_get items k ≡ Some i → AllByRecursion (WritesBelow (length items)) (stages_at items i)
      by k (Declared r) at = tt
      by k (Started q) at =
          let below : k < length items = within items k (Started q) at in
          let same : q.out.number ≡ k = (numbered k (Started q) at).0 in
          stages-below items (length items) q (omega (arith, below, same))

  -- each sub-topology is the writer of its topic
  pub writes-own : (s : Sub) → Contains (subs items) s → writer_at topics s.output ≡ Some (as_writer s)
  writes-own s among = by (holds-of (IsPlaced (length items) topics) (subs items) s all-placed among)
    where
      by : IsPlaced (length items) topics s → writer_at topics s.output ≡ Some (as_writer s)
      by (inr is) = is
      by (inl low) =
          let count : length (relations items) ≡ length items = length-map items relation_of in
          let found = some-at (relations items) s.output (omega (arith, low, count)) in
          let r : OneRelation = found.0 in
          let mapped : slice_get (map (relation_topic (subs items)) (relations items)) s.output ≡ Some (relation_topic (subs items) r) =
          slice_get-map (relation_topic (subs items)) (relations items) s.output ∙ ap (option_map (relation_topic (subs items))) found.1 in
          ap (option_and_then (λ (t : TopicSpec). t.writer))
          (get-front (map (relation_topic (subs items)) (relations items)) (cut_topics items (length items) 0 items) s.output (relation_topic (subs items) r) mapped)
          ∙ writer-own (subs items) (subs-in-order items sound) s among r.number (relation-numbered s.output r found.1).0

  -- the writer of a topic is a sub-topology that writes it
  pub written-by : (topic : ℕ) (w : Writer) → writer_at topics topic ≡ Some w → (s : Sub) × Contains (subs items) s × (as_writer s ≡ w) × (s.output ≡ topic)
  written-by topic w is =
      let themselves : AllByRecursion (Contains (subs items)) (subs items) = recursion_from_All (Contains (subs items)) (subs items) (All-contains_itself (subs items)) in
      written-at (Contains (subs items)) 0 topic topics topic w (omega arith)
      (written-append (Contains (subs items)) 0 (length items) (map (relation_topic (subs items)) (relations items)) (cut_topics items (length items) 0 items) (omega (arith, long))
      (relations-written (Contains (subs items)) (subs items) themselves 0 (relations items)
      (λ place r at. let same : r.number ≡ place = (relation-numbered place r at).0 in omega (arith, same)))
      (cuts-written (Contains (subs items)) items 0 (length items) 0 items themselves)) is

  -- the number of a sub-topology is its index
  pub sub-at : (s : Sub) → Contains (subs items) s → slice_get (subs items) s.number ≡ Some s
  sub-at s among =
      let found = member-at (subs items) s among in
      let number : (get_or (subs items) found.0 s).number ≡ found.0 = subs-numbered items found.0 s (within (subs items) found.0 s found.1) in
      let same : s.number ≡ found.0 = ap (λ (x : Sub). x.number) (sym (at-get_or (subs items) found.0 s found.1)) ∙ number in
      ap (slice_get (subs items)) same ∙ found.1

  partitions-some : (number : ℕ) → 0 < partitions_at items number
  partitions-some number = by (relation_at items number) refl
    where
      by : (o : Option OneRelation) → relation_at items number ≡ o → 0 < unwrap_or (option_map (λ (r : OneRelation). r.partitions) o) 1
      by None is = omega arith
      by (Some r) is = (relation-numbered number r is).1

  -- each sub-topology has a partition
  pub some-parts : AllByRecursion (λ (s : Sub). 0 < s.partitions) (subs items)
  some-parts = subs-all items (λ (s : Stage). 0 < s.partitions) (λ (s : Sub). 0 < s.partitions) (λ query first cuts number s some. some)
      (λ number q at. All-weaker (λ (s : Stage). s.partitions ≡ lanes_of items q) (λ (s : Stage). 0 < s.partitions)
      (λ s is. subst (λ n. 0 < n) (sym is) (partitions-some (leftmost q.from))) (stages_of items q) (stages-lanes items q))
