-- The expressions in the stages of a sound program hold short texts.
use Rattle.std.proofs.Common.{◌≡◌, ◌∙◌, ap, refl, sym, ℕ, ◌+◌, List, [], ◌∷◌, ◌++◌, length, take, Bool, true, false}
use Rattle.std.specs.Prelude.{◌==◌, ◌&&◌, not, if◌then◌else◌, Option, Some, None, IfSome, unwrap_or, option_map}
use Rattle.std.specs.List.{AllByRecursion}
use Rattle.ksql_types.specs.declared.relation.Column.{Column}
use Rattle.ksql_types.specs.declared.relation.Kind.{Kind}
use Rattle.ksql_types.specs.declared.relation.Kind.TheVariants as kind
use Rattle.ksql_types.specs.declared.relation.Relation.{Relation}
use Rattle.ksql_types.specs.declared.value.SqlType.{SqlType}
use Rattle.ksql_expr.specs.declared.typed.Typed.{Typed}
use Rattle.ksql_expr.specs.Aggregates.{HoldsShortTexts}
use Rattle.ksql_program.specs.Program.{relation_at}
use Rattle.ksql_program.specs.Sound.{AreColumns, Aggregates, IsArgument, IsCondition, IsSound, IsSoundItem, IsSoundQuery, Makes, Reads, grouped, joined, more, plain, query}
use Rattle.ksql_program.specs.declared.program.Item.{Item}
use Rattle.ksql_program.specs.declared.program.Item.TheVariants.{Declared, Started}
use Rattle.ksql_program.specs.declared.query.Agg.{Agg}
use Rattle.ksql_program.specs.declared.query.From.{From}
use Rattle.ksql_program.specs.declared.query.From.TheVariants.{One, Join}
use Rattle.ksql_program.specs.declared.query.Query.{Query}
use Rattle.ksql_program.specs.declared.query.Shape.{Shape}
use Rattle.ksql_program.specs.declared.query.Shape.TheVariants as shape
use Rattle.ksql_nodes.specs.declared.node.Node.{Node}
use Rattle.ksql_nodes.specs.declared.node.Node.TheVariants as node
use Rattle.ksql_nodes.proofs.Lists.{All-append}
use Rattle.query_meaning.specs.Queries.{after_aggregate, filter_of, join_of, join_over, key_columns, kind_at, lanes_of, leftmost}
use Rattle.meaning_laws.proofs.EachRelation.{AreAmong}
use Rattle.meaning_laws.proofs.Lists.{All-both, All-weaker}
use Rattle.topology.specs.Stages.{aggregate_nodes, are_own_key, input_nodes, inputs_of, is_column, rekey_from, rekey_stages, shape_stages, stages_of, table_of}
use Rattle.topology.specs.Topologies.{cuts_of, stages_at, subs, subs_from, subs_of}
use Rattle.topology.specs.declared.stage.CutName.{CutName}
use Rattle.topology.specs.declared.stage.CutName.TheVariants as cut
use Rattle.topology.specs.declared.stage.Link.TheVariants as link
use Rattle.topology.specs.declared.stage.Stage.{Stage}
use Rattle.topology.specs.declared.topology.Sub.{Sub}
use Rattle.sending_laws.proofs.ItemLists.{before-among, sound-at}
use Rattle.sending_laws.proofs.SentShapes.{joins-stream}
use Rattle.sending_laws.proofs.SentSizes.{all-at, table_over}
use Rattle.short_laws.specs.Short.{HoldTexts, HoldsInFrom, HoldsInItem, HoldsInShape, HoldsProperTexts, HoldsTexts, KeepsProper}

-- ---- expressions

columns-short : (over : Kind) (types : List (Option SqlType)) (es : List Typed) (cs : List Column) → AreColumns over types es cs → AllByRecursion HoldsTexts es → AllByRecursion HoldsProperTexts es
columns-short over types [] [] sound texts = tt
columns-short over types [] (c ∷ cs) sound texts = absurd sound
columns-short over types (e ∷ es) [] sound texts = absurd sound
columns-short over types (e ∷ es) (c ∷ cs) sound texts = ((sound.0.short, texts.0), columns-short over types es cs sound.2 texts.1)

condition-short : (over : Kind) (types : List (Option SqlType)) (o : Option Typed) → IsCondition over types o → IfSome o HoldsTexts → IfSome o HoldsProperTexts
condition-short over types None sound texts = tt
condition-short over types (Some e) sound texts = (sound.0.short, texts)

argument-short : (over : Kind) (types : List (Option SqlType)) (o : Option Typed) → IsArgument over types o → IfSome o HoldsTexts → IfSome o HoldsProperTexts
argument-short over types None sound texts = tt
argument-short over types (Some e) sound texts = (sound.short, texts)

aggregates-short : (over : Kind) (types : List (Option SqlType)) (gs : List Agg) (ts : List (Option SqlType)) → Aggregates over types gs ts →
    AllByRecursion (λ (a : Agg). IfSome a.arg HoldsTexts) gs → AllByRecursion (λ (a : Agg). IfSome a.arg HoldsProperTexts) gs
aggregates-short over types [] ts sound texts = tt
aggregates-short over types (a ∷ gs) [] sound texts = elim sound [ ]
aggregates-short over types (a ∷ gs) (t ∷ ts) (more _ argument _ rest) texts = (argument-short over types a.arg argument texts.0, aggregates-short over types gs ts rest texts.1)

-- the expressions of a shape
shape-short : (over : Relation) (types : List (Option SqlType)) (s : Shape) (out : Relation) → Makes over types s out → HoldsInShape HoldsTexts s → HoldsInShape HoldsProperTexts s
shape-short over types s out (plain {ks = ks} {vs = vs} kss vss _) texts = (columns-short over.kind types ks out.schema.keys kss texts.0, columns-short over.kind types vs out.schema.values vss texts.1)
shape-short over types s out (grouped {ks = ks} {vs = vs} {w = w} {gs = gs} {h = h} ats _ _ kss _ aggs _ having vss _) texts = (
  columns-short over.kind types ks out.schema.keys kss texts.0,
  aggregates-short over.kind types gs ats aggs texts.1,
  condition-short _ _ h having texts.2,
  columns-short _ _ vs out.schema.values vss texts.3,
)

-- ---- nodes

filter-keeps : (o : Option Typed) → IfSome o HoldsProperTexts → AllByRecursion KeepsProper (filter_of o)
filter-keeps None h = tt
filter-keeps (Some e) h = (h, tt)

after-keeps : (having : Option Typed) (values : List Typed) → IfSome having HoldsProperTexts → AllByRecursion HoldsProperTexts values → AllByRecursion KeepsProper (after_aggregate having values)
after-keeps None values h vs = ((tt, vs), tt)
after-keeps (Some e) values h vs = (h, ((tt, vs), tt))

-- whether a stream is rekeyed, by the kind of what is joined
abbrev rekeyed_over : List Item → ℕ → Typed → Kind → Bool
rekeyed_over items left on kind.Stream = not ((key_columns items left == 1) && is_column 0 on)
rekeyed_over items left on _ = false

module _ (items : List Item) where
  kind-at : (number : ℕ) (r : Relation) → relation_at items number ≡ Some r → kind_at items number ≡ r.kind
  kind-at number r at = ap (λ o. unwrap_or (option_map (λ (r : Relation). r.kind) o) kind.Stream) at

  abbrev KeepTexts : Stage → Type 0
  KeepTexts s = AllByRecursion KeepsProper s.nodes

  module _ (before : List Item) (among : AreAmong before items) where
    -- the first nodes, which read a table or join
    first-keeps : (from : From) {types : List (Option SqlType)} {l : Relation} → Reads before from types l → HoldsInFrom HoldsTexts from →
        AllByRecursion KeepsProper (table_of items from) × AllByRecursion KeepsProper (join_of items from)
    first-keeps (One number) reads texts = (by (kind_at items number), tt)
      where
        by : (over : Kind) → AllByRecursion KeepsProper (table_over number over)
        by kind.Stream = tt
        by kind.Table = (tt, tt)
        by kind.Windowed = tt
    first-keeps (Join k left right on) (joined {l = l} {r = r} at_left at_right apart table alike j) texts = (tt, by (kind_at items left) refl)
      where
        by : (over : Kind) → kind_at items left ≡ over → AllByRecursion KeepsProper (join_over items k left right on over)
        by kind.Stream is = (((joins-stream k on l r j (sym (kind-at left l (among left l at_left)) ∙ is)).over_left.short, texts), tt)
        by kind.Table is = (tt, tt)
        by kind.Windowed is = (tt, tt)

    -- a stream that is rekeyed has a short join key
    rekey-keeps : (q : Query) (from : From) {types : List (Option SqlType)} {l : Relation} → Reads before from types l → HoldsInFrom HoldsTexts from → AllByRecursion KeepTexts (rekey_from items q from)
    rekey-keeps q (One number) reads texts = tt
    rekey-keeps q (Join k left right on) (joined {l = l} {r = r} at_left at_right apart table alike j) texts = by (kind_at items left) refl
      where
        stage : Stage
        stage = record { inputs = link.Relation left ∷ []; nodes = node.Rekey on ∷ []; partitions = lanes_of items q; output = link.Cut cut.Left left }

        fine : HoldsShortTexts on → (b : Bool) → AllByRecursion KeepTexts (if b then stage ∷ [] else [])
        fine short true = (((short, texts), tt), tt)
        fine short false = tt

        by : (over : Kind) → kind_at items left ≡ over → AllByRecursion KeepTexts (if rekeyed_over items left on over then stage ∷ [] else [])
        by kind.Stream is = fine (joins-stream k on l r j (sym (kind-at left l (among left l at_left)) ∙ is)).over_left.short (rekeyed_over items left on kind.Stream)
        by kind.Table is = tt
        by kind.Windowed is = tt

    -- ---- the stages of a shape

    module _ (q : Query) (types : List (Option SqlType)) (l : Relation) (reads : Reads before q.from types l) (from_texts : HoldsInFrom HoldsTexts q.from) (filter_short : IfSome q.filter HoldsProperTexts) where
      input-keeps : AllByRecursion KeepsProper (input_nodes items q)
      input-keeps =
          let first = first-keeps q.from reads from_texts in
          All-append KeepsProper (table_of items q.from) (join_of items q.from ++ filter_of q.filter) first.0
          (All-append KeepsProper (join_of items q.from) (filter_of q.filter) first.1 (filter-keeps q.filter filter_short))

      shape-keeps : (s : Shape) → HoldsInShape HoldsProperTexts s → AllByRecursion KeepTexts (shape_stages items q s)
      shape-keeps (shape.Plain ks vs) texts = (All-append KeepsProper (input_nodes items q) (node.Select ks vs ∷ []) input-keeps (texts, tt), tt)
      shape-keeps (shape.Group ks w gs having vs) texts = by (are_own_key items q.from ks)
        where
          rest : List Node
          rest = aggregate_nodes items q (shape.Group ks w gs having vs)

          grouping : List Node
          grouping = input_nodes items q ++ node.Group ks ∷ []

          rest_keeps : AllByRecursion KeepsProper rest
          rest_keeps = (texts.1, after-keeps having vs texts.2 texts.3)

          grouping_keeps : AllByRecursion KeepsProper grouping
          grouping_keeps = All-append KeepsProper (input_nodes items q) (node.Group ks ∷ []) input-keeps (texts.0, tt)

          by : (b : Bool) → AllByRecursion KeepTexts
              (if b then record { inputs = inputs_of items q.from; nodes = grouping ++ rest; partitions = lanes_of items q; output = link.Relation q.out.number } ∷ []
              else record { inputs = inputs_of items q.from; nodes = grouping; partitions = lanes_of items q; output = link.Cut cut.Group (leftmost q.from) }
              ∷ record { inputs = link.Cut cut.Group (leftmost q.from) ∷ []; nodes = rest; partitions = lanes_of items q; output = link.Relation q.out.number } ∷ [])
          by true = (All-append KeepsProper grouping rest grouping_keeps rest_keeps, tt)
          by false = (grouping_keeps, (rest_keeps, tt))

    query-keeps : (q : Query) → IsSoundQuery before q → HoldsInItem HoldsTexts (Started q) → AllByRecursion KeepTexts (stages_of items q)
    unfolding stages_of
    query-keeps q (query {types = types} {left = l} reads condition makes _ _) texts =
        All-append KeepTexts (rekey_stages items q) (shape_stages items q q.shape)
        (rekey-keeps q q.from reads texts.0)
        (shape-keeps q types l reads texts.0 (condition-short l.kind types q.filter condition texts.1) q.shape (shape-short l types q.shape q.out makes texts.2))

-- ---- sub-topologies

abbrev pub KeepsTexts : Sub → Type 0
KeepsTexts s = AllByRecursion KeepsProper s.nodes

stages-keep : (items : List Item) (k first : ℕ) (cuts : List CutName) (number : ℕ) (stages : List Stage) → AllByRecursion (λ s. AllByRecursion KeepsProper s.nodes) stages →
    AllByRecursion KeepsTexts (subs_from items k first cuts number stages)
stages-keep items k first cuts number [] keep = tt
stages-keep items k first cuts number (s ∷ ss) keep = (keep.0, stages-keep items k first cuts (number + 1) ss keep.1)

items-keep : (items : List Item) (k first number : ℕ) (after : List Item) → AllByRecursion (λ i. AllByRecursion (λ s. AllByRecursion KeepsProper s.nodes) (stages_at items i)) after →
    AllByRecursion KeepsTexts (subs_of items k first number after)
unfolding subs_of
items-keep items k first number [] keep = tt
items-keep items k first number (i ∷ after) keep =
    let stages : List Stage = stages_at items i in
    All-append KeepsTexts (subs_from items k first (cuts_of stages) number stages) (subs_of items (k + 1) (first + length (cuts_of stages)) (number + length stages) after)
    (stages-keep items k first (cuts_of stages) number stages keep.0)
    (items-keep items (k + 1) (first + length (cuts_of stages)) (number + length stages) after keep.1)

-- the nodes of each sub-topology of a sound program whose texts are of UTF-8 keep changes proper
pub subs-keep : (items : List Item) → IsSound items → HoldTexts items → AllByRecursion KeepsTexts (subs items)
subs-keep items sound texts =
    items-keep items 0 (length items) 0 items
    (All-weaker Known (λ i. AllByRecursion (λ s. AllByRecursion KeepsProper s.nodes) (stages_at items i)) keep items
    (All-both Sound (HoldsInItem HoldsTexts) items
    (all-at Sound items (λ number i at. (take number items, before-among items number, sound-at items number i sound.sound at))) texts))
  where
    Sound : Item → Type 0
    Sound i = (before : List Item) × AreAmong before items × IsSoundItem before i

    Known : Item → Type 0
    Known i = Sound i × HoldsInItem HoldsTexts i

    keep : (i : Item) → Known i → AllByRecursion (λ s. AllByRecursion KeepsProper s.nodes) (stages_at items i)
    keep (Declared r) known = tt
    keep (Started q) ((before, among, is), held) = query-keeps items before among q is.1 held
