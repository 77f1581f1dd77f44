-- Keys and rows of what tasks send.
use Rattle.std.proofs.Common.{◌≡◌, ◌∙◌, ap, refl, sym, subst, ℕ, ◌+◌, List, [], ◌∷◌, ◌++◌, map, length, length-append, take, append_assoc, Bool, true, false, inl, inr, arith}
use Rattle.std.specs.Prelude.{◌==◌, All, filter, flat_map, if◌then◌else◌, Option, Some, None, option_map, slice_get, IfSome}
use Rattle.std.specs.List.{AllByRecursion, range_with_len}
use Rattle.std.specs.Cmp.{unsigned_Decides}
use Rattle.std.proofs.lemmas.List.{append-nil, length-map}
use Rattle.std.proofs.lemmas.List.Elements.{All-from_recursion, recursion_from_All}
use Rattle.std.proofs.lemmas.Option.{same_Some, slice_get-map}
use Rattle.ksql_types.specs.declared.relation.Column.{Column}
use Rattle.ksql_types.specs.declared.relation.Kind.{Kind}
use Rattle.ksql_types.specs.declared.relation.Kind.TheVariants as kind
use Rattle.ksql_types.specs.declared.relation.Relation.{Relation}
use Rattle.ksql_types.specs.declared.topic.TopicSpec.{TopicSpec}
use Rattle.ksql_types.specs.declared.value.Value.{Value}
use Rattle.ksql_place.specs.Said.{said}
use Rattle.ksql_place.specs.declared.change.Body.{Body}
use Rattle.ksql_place.specs.declared.change.Body.TheVariants.{Said, Turned}
use Rattle.ksql_place.specs.declared.change.Change.{Change}
use Rattle.ksql_place.specs.declared.change.SourceRecord.{SourceRecord}
use Rattle.ksql_program.specs.Program.{relation_at, relation_of, relations}
use Rattle.ksql_program.specs.Sound.{column_types, IsSound, IsSoundItem}
use Rattle.ksql_program.specs.declared.program.Item.{Item}
use Rattle.ksql_program.specs.declared.program.Item.TheVariants.{Declared, Started}
use Rattle.ksql_program.specs.declared.query.Query.{Query}
use Rattle.ksql_nodes.specs.Entries.{Row}
use Rattle.ksql_nodes.proofs.Lists.{All-append}
use Rattle.query_meaning.specs.Queries.{kind_at, leftmost}
use Rattle.meaning_laws.specs.Bounds.{HasColumnsOf, IsBodyOf, IsRecordOf, IsRowOf}
use Rattle.meaning_laws.proofs.EachRelation.{AreAmong}
use Rattle.meaning_laws.proofs.Lists.{All-ascending, All-filter, All-of, All-weaker}
use Rattle.meaning_laws.proofs.RelationColumns.{said-filled}
use Rattle.meaning_laws.proofs.RowTypes.{BodyHas, RowHas, filled-columns}
use Rattle.meaning_laws.proofs.Sizes.{All-flat_map}
use Rattle.ksql_place.specs.Routing.{change_cmp, is_to, partitions_of}
use Rattle.topology.specs.Contents.{Contents, contents, contents_from, sent, source_changes, source_contents, task_results, with_sub}
use Rattle.topology.specs.Stages.{stages_of}
use Rattle.topology.specs.Topologies.{cuts_of, place_of, stages_at, subs, subs_from, subs_of, topology_of}
use Rattle.topology.specs.declared.stage.CutName.{CutName}
use Rattle.topology.specs.declared.stage.Stage.{Stage}
use Rattle.topology.specs.declared.topology.Sub.{Sub}
use Rattle.sending_laws.specs.Sent.{HasColumnsThroughout, HasWholeColumns, all_cuts, cut_columns, cut_keys, item_cuts}
use Rattle.sending_laws.proofs.ItemLists.{before-among, relation-at, sound-at, take-length}
use Rattle.sending_laws.proofs.Numbering.{get-after, get-front}
use Rattle.sending_laws.proofs.SentSizes.{all-at}
use Rattle.sending_laws.proofs.CutNames.{place-at}
use Rattle.sending_laws.proofs.StageColumns.{AreInUse, InUse, IsGood, Use, of_cut, of_relation, query-good, relation-use, uses}

-- ---- all sub-topologies

module _ (items : List Item) where
  abbrev IsGoodSub : Sub → Type 0
  IsGoodSub s = (u : Use) × (slice_get (uses items) s.output ≡ Some u) × ((has : Contents) → AreInUse items has → (part : ℕ) → AllByRecursion (InUse items u) (task_results s has part))

  stages-good : (k first : ℕ) (cuts : List CutName) (number : ℕ) (stages : List Stage) → AllByRecursion (IsGood items first cuts) stages → AllByRecursion IsGoodSub (subs_from items k first cuts number stages)
  stages-good k first cuts number [] good = tt
  stages-good k first cuts number (s ∷ ss) good = (good.0, stages-good k first cuts (number + 1) ss good.1)

  cut-use : (front mine rest : List (Query × CutName)) (first : ℕ) → all_cuts items items ≡ front ++ (mine ++ rest) → first ≡ length items + length front → (place : ℕ) (c : Query × CutName) →
      slice_get mine place ≡ Some c → slice_get (uses items) (first + place) ≡ Some (inr c)
  cut-use front mine rest first is long place c at =
      let relation_uses : List Use = map of_relation (relations items) in
      let wide : length relation_uses ≡ length items = length-map (relations items) of_relation ∙ length-map items relation_of in
      let same : first + place ≡ length relation_uses + (length front + place) = omega (arith, long, wide) in
      let there : slice_get (all_cuts items items) (length front + place) ≡ Some c =
      ap (λ cs. slice_get cs (length front + place)) is ∙ get-after front (mine ++ rest) place ∙ get-front mine rest place c at in
      ap (slice_get (uses items)) same ∙ get-after relation_uses (map of_cut (all_cuts items items)) (length front + place)
      ∙ slice_get-map of_cut (all_cuts items items) (length front + place) ∙ ap (option_map of_cut) there

  cuts-long : (i : Item) → length (item_cuts items i) ≡ length (cuts_of (stages_at items i))
  cuts-long (Declared r) = refl
  cuts-long (Started q) = length-map (cuts_of (stages_of items q)) (λ name. (q, name))

  -- the facts about an item
  abbrev IsKnown : Item → Type 0
  IsKnown i = (before : List Item) × AreAmong before items × IsSoundItem before i × (relation_at items (relation_of i).number ≡ Some (relation_of i))

  items-good : (k first number : ℕ) (front : List (Query × CutName)) (after : List Item) → all_cuts items items ≡ front ++ all_cuts items after → first ≡ length items + length front →
      AllByRecursion IsKnown after → AllByRecursion IsGoodSub (subs_of items k first number after)
  unfolding subs_of
  items-good k first number front [] is long known = tt
  items-good k first number front (i ∷ after) is long known =
      let stages : List Stage = stages_at items i in
      let count : length (item_cuts items i) ≡ length (cuts_of stages) = cuts-long i in
      let both : length (front ++ item_cuts items i) ≡ length front + length (item_cuts items i) = length-append front (item_cuts items i) in
      All-append IsGoodSub (subs_from items k first (cuts_of stages) number stages) (subs_of items (k + 1) (first + length (cuts_of stages)) (number + length stages) after)
      (by i is known.0)
      (items-good (k + 1) (first + length (cuts_of stages)) (number + length stages) (front ++ item_cuts items i) after (is ∙ sym (append_assoc front (item_cuts items i) (all_cuts items after)))
      (omega (arith, long, count, both)) known.1)
    where
      by : (i : Item) → all_cuts items items ≡ front ++ all_cuts items (i ∷ after) → IsKnown i → AllByRecursion IsGoodSub (subs_from items k first (cuts_of (stages_at items i)) number (stages_at items i))
      by (Declared r) is known = tt
      by (Started q) is (before, among, sound, here) =
          let cuts : List CutName = cuts_of (stages_of items q) in
          stages-good k first cuts number (stages_of items q)
          (query-good items before among q sound.1 here first
          (λ name among. cut-use front (item_cuts items (Started q)) (all_cuts items after) first is long (place_of name cuts) (q, name)
          (slice_get-map (λ (x : CutName). (q, x)) cuts (place_of name cuts) ∙ ap (option_map (λ (x : CutName). (q, x))) (place-at name cuts among))))

  sub-in-use : (topics : List TopicSpec) (has : Contents) → AreInUse items has → (s : Sub) → IsGoodSub s → AreInUse items (with_sub topics has s)
  sub-in-use topics has all s (u, at, runs) topic part v is = by (topic == s.output) refl
    where
      n : ℕ
      n = partitions_of topics topic

      tasks : List ℕ
      tasks = range_with_len 0 s.partitions

      goes : AllByRecursion (InUse items u) (sent s has n part)
      goes =
          All-ascending (InUse items u) change_cmp (flat_map (λ task. filter (is_to n part) (task_results s has task)) tasks)
          (All-flat_map (InUse items u) (λ task. filter (is_to n part) (task_results s has task)) (λ task. Unit {0})
          (λ task _. All-filter (InUse items u) (is_to n part) (task_results s has task) (runs has all task)) tasks (All-of tasks (λ task. tt)))

      by : (b : Bool) → (topic == s.output) ≡ b → AllByRecursion (InUse items v) (if b then sent s has n part else has topic part)
      by true test =
          let same : u ≡ v = same_Some u v (sym at ∙ ap (slice_get (uses items)) (sym ((unsigned_Decides topic s.output).0 test)) ∙ is) in
          subst (λ x. AllByRecursion (InUse items x) (sent s has n part)) same goes
      by false test = all topic part v is

  contents-in-use : (topics : List TopicSpec) (has : Contents) → AreInUse items has → (subs : List Sub) → AllByRecursion IsGoodSub subs → AreInUse items (contents_from topics has subs)
  unfolding contents_from
  contents-in-use topics has all [] good = all
  contents-in-use topics has all (s ∷ ss) good = contents-in-use topics (with_sub topics has s) (sub-in-use topics has all s good.0) ss good.1

  module _ (order : List SourceRecord) (sound : IsSound items) (records : All (IsRecordOf items) order) where
    numbered : (number : ℕ) (i : Item) → slice_get items number ≡ Some i → relation_at items (relation_of i).number ≡ Some (relation_of i)
    numbered number i at = ap (relation_at items) (by i at (sound-at items number i sound.sound at) ∙ take-length items number i at) ∙ relation-at items number i at
      where
        by : (j : Item) → slice_get items number ≡ Some j → IsSoundItem (take number items) j → (relation_of j).number ≡ length (take number items)
        by (Declared r) is h = h.0.numbered
        by (Started q) is h = h.0.numbered

    source-in-use : AreInUse items (source_contents items order)
    source-in-use topic part u is = All-filter (InUse items u) (λ c. c.place.stamp.part == part) (source_changes order (slice_get items topic)) (by (slice_get items topic) refl)
      where
        by : (o : Option Item) → slice_get items topic ≡ o → AllByRecursion (InUse items u) (source_changes order o)
        by None at = tt
        by (Some (Started q)) at = tt
        by (Some (Declared r)) at =
            subst (λ x. AllByRecursion (InUse items x) (said r order)) (same_Some (inl r) u (sym (relation-use items topic r (relation-at items topic (Declared r) at)) ∙ is))
            (said-filled items order (recursion_from_All (IsRecordOf items) order records) r (numbered topic (Declared r) at))

    known : AllByRecursion IsKnown items
    known = all-at IsKnown items (λ number i at. (take number items, before-among items number, sound-at items number i sound.sound at, numbered number i at))

    all-in-use : AreInUse items (contents items (topology_of items) order)
    all-in-use =
        let start : length items ≡ length items + 0 = omega arith in
        contents-in-use (topology_of items).topics (source_contents items order) source-in-use (subs items) (items-good 0 (length items) 0 [] items refl start known)

-- ---- the words of the law

row-columns : (cs : List Column) (row : List Value) → RowHas (column_types cs) row → IsRowOf cs row
row-columns [] [] h = tt
row-columns [] (v ∷ vs) h = absurd h
row-columns (c ∷ cs) [] h = absurd h
row-columns (c ∷ cs) (v ∷ vs) h = (h.0, row-columns cs vs h.1)

option-columns : (cs : List Column) (o : Option Row) → IfSome o (RowHas (column_types cs)) → IfSome o (IsRowOf cs)
option-columns cs None h = tt
option-columns cs (Some row) h = row-columns cs row h

body-columns : (over : Kind) (cs : List Column) (body : Body) → BodyHas over (column_types cs) body → IsBodyOf cs body
body-columns kind.Stream cs (Said row) h = row-columns cs row h
body-columns kind.Stream cs (Turned old new) h = absurd h
body-columns kind.Table cs (Said row) h = absurd h
body-columns kind.Table cs (Turned old new) h = (option-columns cs old h.0, option-columns cs new h.1)
body-columns kind.Windowed cs (Said row) h = absurd h
body-columns kind.Windowed cs (Turned old new) h = (option-columns cs old h.0, option-columns cs new h.1)

pub sent-filled : (items : List Item) (order : List SourceRecord) → IsSound items → All (IsRecordOf items) order → HasColumnsThroughout items (topology_of items) order
sent-filled items order sound records = record { relations = of_relations; cuts = of_cuts }
  where
    has : Contents
    has = contents items (topology_of items) order

    all : AreInUse items has
    all = all-in-use items order sound records

    of_relations : (number part : ℕ) (r : Relation) → relation_at items number ≡ Some r → All (HasColumnsOf r) (has number part)
    of_relations number part r at =
        All-from_recursion (HasColumnsOf r) (has number part)
        (All-weaker (InUse items (inl r)) (HasColumnsOf r) (filled-columns r) (has number part) (all number part (inl r) (relation-use items number r at)))

    of_cuts : (number part : ℕ) (q : Query) (name : CutName) → slice_get (all_cuts items items) number ≡ Some (q, name) →
        All (HasWholeColumns (cut_keys items q name) (cut_columns items q name)) (has (length items + number) part)
    of_cuts number part q name at =
        let start : length items ≡ length items + 0 = omega arith in
        let C : Change → Type 0 = HasWholeColumns (cut_keys items q name) (cut_columns items q name) in
        All-from_recursion C (has (length items + number) part)
        (All-weaker (InUse items (inr (q, name))) C
        (λ c h. record { key = (row-columns (cut_keys items q name) c.key h.0.0, h.0.1); rows = body-columns (kind_at items (leftmost q.from)) (cut_columns items q name) c.body h.1 })
        (has (length items + number) part)
        (all (length items + number) part (inr (q, name)) (cut-use items [] (all_cuts items items) [] (length items) (sym (append-nil (all_cuts items items))) start number (q, name) at)))
