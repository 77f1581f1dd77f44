-- What the sub-topologies of a sound program read and write: the topics of declared relations, which none writes, and
-- written topics.
use Rattle.std.proofs.Common.{◌≡◌, ◌∙◌, ap, refl, sym, subst, ℕ, zero, suc, ◌+◌, ◌<◌, ◌≤◌, List, [], ◌∷◌, ◌++◌, length, take, map, inl, inr, arith}
use Rattle.std.proofs.lemmas.List.Elements.{Contains-append_left, Contains-append_right}
use Rattle.std.proofs.lemmas.Option.{none-some, same_Some}
use Rattle.std.specs.Prelude.{◌⊎◌, Contains, Some, slice_get}
use Rattle.std.specs.List.{AllByRecursion}
use Rattle.ksql_types.specs.declared.relation.Relation.{Relation}
use Rattle.ksql_program.specs.Program.{relation_of}
use Rattle.ksql_program.specs.Sound.{IsSound}
use Rattle.ksql_program.specs.declared.program.Item.{Item}
use Rattle.ksql_program.specs.declared.program.Item.TheVariants.{Declared, Started}
use Rattle.ksql_program.specs.declared.query.Query.{Query}
use Rattle.ksql_program.specs.declared.query.Shape.{Shape}
use Rattle.ksql_program.specs.declared.query.Shape.TheVariants as shape
use Rattle.ksql_nodes.specs.declared.node.Node.{Node}
use Rattle.ksql_nodes.proofs.Lists.{All-append}
use Rattle.topology.specs.Stages.{are_own_key, rekey_stages, shape_stages, stages_of}
use Rattle.topology.specs.Topologies.{cuts_of, input_of, place_of, stages_at, sub_of, subs, subs_from, subs_of, topic_of}
use Rattle.topology.specs.declared.stage.CutName.{CutName}
use Rattle.topology.specs.declared.stage.Link.{Link}
use Rattle.topology.specs.declared.stage.Link.TheVariants as link
use Rattle.topology.specs.declared.stage.Stage.{Stage}
use Rattle.topology.specs.declared.topology.Sub.{Sub}
use Rattle.topology.specs.declared.topology.SubInput.{SubInput}
use Rattle.sending_laws.proofs.CutNames.{IsIn}
use Rattle.sending_laws.proofs.ItemLists.{before-among, item-at, sound-at, within}
use Rattle.sending_laws.proofs.Paths.{holds-of}
use Rattle.core_state.proofs.Lists.{Contains-here, Contains-next}
use Rattle.wiring_laws.specs.Written.{written_topics}
use Rattle.task_core.specs.Reading.{kind_read}
use Rattle.wiring_laws.proofs.LinkReads.{AreDistinct, IsReadBy, ReadsWell, stages-read}
use Rattle.wiring_laws.proofs.Members.{map-member, member-map}
use Rattle.wiring_laws.proofs.Writers.{IsOwn, WritesOwn, if-has, numbered, stages-own}

-- ---- results

-- one of some stages writes the topic of a relation
abbrev Writes : ℕ → List Stage → Type 0
Writes number [] = ⊥
Writes number (s ∷ ss) = (s.output ≡ link.Relation number) ⊎ Writes number ss

writes-back : (number : ℕ) (xs ys : List Stage) → Writes number ys → Writes number (xs ++ ys)
writes-back number [] ys writes = writes
writes-back number (x ∷ xs) ys writes = inr (writes-back number xs ys writes)

-- the stages of a query write its result
query-writes : (items : List Item) (q : Query) → Writes q.out.number (stages_of items q)
unfolding stages_of
query-writes items q = writes-back q.out.number (rekey_stages items q) (shape_stages items q q.shape) (by q.shape)
  where
    by : (form : Shape) → Writes q.out.number (shape_stages items q form)
    by (shape.Plain keys values) = inl refl
    by (shape.Group keys window aggs having values) = if-has (Writes q.out.number) (are_own_key items q.from keys) _ _ (inl refl) (inr (inl refl))

module _ (items : List Item) (query first : ℕ) (cuts : List CutName) where
  stages-result : (number result : ℕ) (stages : List Stage) → Writes result stages → (s : Sub) × Contains (subs_from items query first cuts number stages) s × (s.output ≡ result)
  stages-result number result [] writes = absurd writes
  stages-result number result (s ∷ ss) writes = by s.output refl writes (stages-result (number + 1) result ss)
    where
      now : Sub
      now = sub_of items query first cuts number s

      later : List Sub
      later = subs_from items query first cuts (number + 1) ss

      by : (output : Link) → s.output ≡ output → (output ≡ link.Relation result) ⊎ Writes result ss → (Writes result ss → (x : Sub) × Contains later x × (x.output ≡ result)) →
          (x : Sub) × Contains (now ∷ later) x × (x.output ≡ result)
      by output is (inl same) rest = (now, Contains-here now later, ap (topic_of first cuts) (is ∙ same))
      by output is (inr writes) rest = let found = rest writes in (found.0, Contains-next now found.0 later found.1, found.2)

  -- a repartition topic that the stages write is the topic of one of their sub-topologies
  stages-cut : (number : ℕ) (name : CutName) (stages : List Stage) → IsIn name (cuts_of stages) →
      (s : Sub) × Contains (subs_from items query first cuts number stages) s × (s.output ≡ first + place_of name cuts)
  stages-cut number name [] among = absurd among
  stages-cut number name (s ∷ ss) among = by s.output refl among (stages-cut (number + 1) name ss)
    where
      now : Sub
      now = sub_of items query first cuts number s

      later : List Sub
      later = subs_from items query first cuts (number + 1) ss

      by : (output : Link) → s.output ≡ output → IsIn name (cuts_of (record s { output = output } ∷ ss)) →
          (IsIn name (cuts_of ss) → (x : Sub) × Contains later x × (x.output ≡ first + place_of name cuts)) → (x : Sub) × Contains (now ∷ later) x × (x.output ≡ first + place_of name cuts)
      by (link.Relation r) is among rest = let found = rest among in (found.0, Contains-next now found.0 later found.1, found.2)
      by (link.Cut c r) is (inl same) rest = (now, Contains-here now later, ap (topic_of first cuts) is ∙ ap (λ n. first + place_of n cuts) same)
      by (link.Cut c r) is (inr more) rest = let found = rest more in (found.0, Contains-next now found.0 later found.1, found.2)

-- the query of an item has a sub-topology that writes its result
items-result : (items : List Item) (query first number : ℕ) (is : List Item) (place : ℕ) (q : Query) → slice_get is place ≡ Some (Started q) →
    (s : Sub) × Contains (subs_of items query first number is) s × (s.output ≡ q.out.number)
unfolding subs_of
items-result items query first number [] place q at = absurd (none-some (Started q) at)
items-result items query first number (i ∷ is) zero q at =
    let stages : List Stage = stages_at items i in
    let here : Writes q.out.number stages = subst (λ x. Writes q.out.number (stages_at items x)) (sym (same_Some i (Started q) at)) (query-writes items q) in
    let found = stages-result items query first (cuts_of stages) number q.out.number stages here in
    (found.0, Contains-append_left (subs_from items query first (cuts_of stages) number stages) _ found.0 found.1, found.2)
items-result items query first number (i ∷ is) (suc place) q at =
    let stages : List Stage = stages_at items i in
    let found = items-result items (query + 1) (first + length (cuts_of stages)) (number + length stages) is place q at in
    (found.0, Contains-append_right (subs_from items query first (cuts_of stages) number stages) _ found.0 found.1, found.2)

abbrev IsStarted : Item → Type 0
IsStarted (Declared r) = ⊥
IsStarted (Started q) = Unit {0}

module _ (items : List Item) (sound : IsSound items) where
  pub result-written : (number : ℕ) (q : Query) → slice_get items number ≡ Some (Started q) → Contains (written_topics items) number
  result-written number q at =
      let found = items-result items 0 (length items) 0 items number q at in
      let same : found.0.output ≡ number = found.2 ∙ (numbered items sound number (Started q) at).0 in
      subst (Contains (written_topics items)) same (map-member (λ (s : Sub). s.output) (subs items) found.0 found.1)

  -- ---- each sub-topology

  -- the facts about the sub-topologies of one query, whose repartition topics have numbers above those of relations
  abbrev OfQuery : (Sub → Type 0) → Type 0
  OfQuery R = (number : ℕ) (q : Query) → slice_get items number ≡ Some (Started q) → (first start : ℕ) → length items ≤ first →
      ((s : Sub) → Contains (subs_from items number first (cuts_of (stages_of items q)) start (stages_of items q)) s → Contains (subs items) s) →
      AllByRecursion R (subs_from items number first (cuts_of (stages_of items q)) start (stages_of items q))

  each-query : (R : Sub → Type 0) → OfQuery R → (item first start : ℕ) (is : List Item) → ((place : ℕ) → slice_get items (item + place) ≡ slice_get is place) → length items ≤ first →
      ((s : Sub) → Contains (subs_of items item first start is) s → Contains (subs items) s) → AllByRecursion R (subs_of items item first start is)
  unfolding subs_of
  each-query R known item first start [] here high inside = tt
  each-query R known item first start (i ∷ is) here high inside =
      let stages : List Stage = stages_at items i in
      let cuts : List CutName = cuts_of stages in
      let now : List Sub = subs_from items item first cuts start stages in
      let later : List Sub = subs_of items (item + 1) (first + length cuts) (start + length stages) is in
      let same : item ≡ item + 0 = omega arith in
      let next : (place : ℕ) → (item + 1) + place ≡ item + suc place = λ place. omega arith in
      All-append R now later (by i (ap (slice_get items) same ∙ here zero) (λ s among. inside s (Contains-append_left now later s among)))
      (each-query R known (item + 1) (first + length cuts) (start + length stages) is (λ place. ap (slice_get items) (next place) ∙ here (suc place)) (omega (arith, high))
      (λ s among. inside s (Contains-append_right now later s among)))
    where
      by : (j : Item) → slice_get items item ≡ Some j →
          ((s : Sub) → Contains (subs_from items item first (cuts_of (stages_at items j)) start (stages_at items j)) s → Contains (subs items) s) →
          AllByRecursion R (subs_from items item first (cuts_of (stages_at items j)) start (stages_at items j))
      by (Declared r) at inside = tt
      by (Started q) at inside = known item q at first start high inside

  each-sub : (R : Sub → Type 0) → OfQuery R → AllByRecursion R (subs items)
  each-sub R known =
      let same : (place : ℕ) → 0 + place ≡ place = λ place. omega arith in
      each-query R known 0 (length items) 0 items (λ place. ap (slice_get items) (same place)) (omega arith) (λ s among. among)

  -- ---- what a sub-topology writes

  -- none writes the topic of a declared relation
  abbrev IsUndeclared : Sub → Type 0
  IsUndeclared s = (r : Relation) → slice_get items s.output ≡ Some (Declared r) → ⊥

  not-declared : (q : Query) (r : Relation) → Started q ≡ Declared r → ⊥
  not-declared q r same = subst IsStarted same tt

  undeclared : AllByRecursion IsUndeclared (subs items)
  undeclared = each-sub IsUndeclared by
    where
      by : OfQuery IsUndeclared
      by number q at first start high inside = stages-apart (stages_of items q) start (stages-own items q)
        where
          cuts : List CutName
          cuts = cuts_of (stages_of items q)

          out : q.out.number ≡ number
          out = (numbered items sound number (Started q) at).0

          by_link : (output : Link) → IsOwn q.out.number output → (r : Relation) → slice_get items (topic_of first cuts output) ≡ Some (Declared r) → ⊥
          by_link (link.Relation k) own r declared = not-declared q r (same_Some (Started q) (Declared r) (sym at ∙ ap (slice_get items) (sym (own ∙ out)) ∙ declared))
          by_link (link.Cut name k) own r declared = let low : first + place_of name cuts < length items = within items (first + place_of name cuts) (Declared r) declared in omega (arith, low, high)

          stages-apart : (stages : List Stage) (now : ℕ) → AllByRecursion (WritesOwn q.out.number) stages → AllByRecursion IsUndeclared (subs_from items number first cuts now stages)
          stages-apart [] now own = tt
          stages-apart (s ∷ ss) now own = (by_link s.output own.0, stages-apart ss (now + 1) own.1)

  pub declared-unwritten : (topic : ℕ) (r : Relation) → slice_get items topic ≡ Some (Declared r) → ¬ Contains (written_topics items) topic
  declared-unwritten topic r at among =
      let found = member-map (λ (s : Sub). s.output) (subs items) topic among in
      holds-of IsUndeclared (subs items) found.0 undeclared found.1 r (ap (slice_get items) found.2 ∙ at)

  -- ---- what a sub-topology reads

  -- a topic that is read on a side: a written one, or that of a declared relation of the kind as which it is read
  abbrev pub IsReadIn : List Node → ℕ → SubInput → Type 0
  IsReadIn nodes side i = Contains (written_topics items) i.topic ⊎ ((r : Relation) × (slice_get items i.topic ≡ Some (Declared r)) × (kind_read nodes side ≡ r.kind))

  abbrev pub ReadsIn : List Node → List SubInput → Type 0
  ReadsIn nodes [] = ⊥
  ReadsIn nodes (a ∷ []) = IsReadIn nodes 0 a
  ReadsIn nodes (a ∷ b ∷ []) = IsReadIn nodes 0 a × IsReadIn nodes 1 b × (a.topic ≡ b.topic → ⊥)
  ReadsIn nodes (a ∷ b ∷ c ∷ more) = ⊥

  abbrev pub SubReads : Sub → Type 0
  SubReads s = ReadsIn s.nodes s.inputs

  pub subs-read : AllByRecursion SubReads (subs items)
  subs-read = each-sub SubReads by
    where
      by : OfQuery SubReads
      by number q at first start high inside =
          stages-in (stages_of items q) start (stages-read items (take number items) (before-among items number) q (sound-at items number (Started q) sound.sound at).1)
        where
          cuts : List CutName
          cuts = cuts_of (stages_of items q)

          link-in : (nodes : List Node) (side : ℕ) (i : Link) → IsReadBy items cuts nodes side i → IsReadIn nodes side (input_of items first cuts i)
          link-in nodes side (link.Relation j) read = let found = item-at items j read.0 read.1 in by_item found.0 found.1 found.2
            where
              by_item : (i : Item) → slice_get items j ≡ Some i → relation_of i ≡ read.0 → IsReadIn nodes side (input_of items first cuts (link.Relation j))
              by_item (Declared r) here same = inr (r, here, read.2 ∙ ap (λ (x : Relation). x.kind) (sym same))
              by_item (Started p) here same = inl (result-written j p here)
          link-in nodes side (link.Cut name relation) read =
              let found = stages-cut items number first cuts start name (stages_of items q) read in
              inl (subst (Contains (written_topics items)) found.2 (map-member (λ (s : Sub). s.output) (subs items) found.0 (inside found.0 found.1)))

          apart : (nodes : List Node) (a b : Link) → IsReadBy items cuts nodes 1 b → AreDistinct items a b → (input_of items first cuts a).topic ≡ (input_of items first cuts b).topic → ⊥
          apart nodes (link.Relation i) (link.Relation j) read distinct same = distinct same
          apart nodes (link.Cut name relation) (link.Relation j) read distinct same =
              let found = item-at items j read.0 read.1 in
              let low : j < length items = within items j found.0 found.1 in
              omega (arith, same, low, high)
          apart nodes (link.Relation i) (link.Cut name relation) read distinct same = distinct
          apart nodes (link.Cut other k) (link.Cut name relation) read distinct same = distinct

          links-in : (nodes : List Node) (links : List Link) → ReadsWell items cuts nodes links → ReadsIn nodes (map (input_of items first cuts) links)
          links-in nodes [] reads = reads
          links-in nodes (a ∷ []) reads = link-in nodes 0 a reads
          links-in nodes (a ∷ b ∷ []) reads = (link-in nodes 0 a reads.0, link-in nodes 1 b reads.1, apart nodes a b reads.1 reads.2)
          links-in nodes (a ∷ b ∷ c ∷ more) reads = reads

          stages-in : (stages : List Stage) (now : ℕ) → AllByRecursion (λ (s : Stage). ReadsWell items cuts s.nodes s.inputs) stages → AllByRecursion SubReads (subs_from items number first cuts now stages)
          stages-in [] now reads = tt
          stages-in (s ∷ ss) now reads = (links-in s.nodes s.inputs reads.0, stages-in ss (now + 1) reads.1)
