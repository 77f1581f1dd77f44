-- In the list of each table old is the latest new.
use Rattle.std.proofs.Common.{◌≡◌, ◌∙◌, ap, refl, sym, subst, ℕ, List, [], ◌∷◌, ◌++◌, length, map}
use Rattle.std.specs.Prelude.{◌≢◌, Option, Some, None, option_map, unwrap_or}
use Rattle.std.specs.List.{AllByRecursion}
use Rattle.ksql_types.specs.declared.relation.Column.{Column}
use Rattle.ksql_types.specs.declared.relation.Kind.{Kind}
use Rattle.ksql_types.specs.declared.relation.Kind.TheVariants as kind
use Rattle.ksql_types.specs.declared.relation.Relation.{Relation}
use Rattle.ksql_types.specs.declared.value.SqlType.{SqlType}
use Rattle.ksql_place.specs.Said.{said}
use Rattle.ksql_place.specs.declared.change.Change.{Change}
use Rattle.ksql_place.specs.declared.change.SourceRecord.{SourceRecord}
use Rattle.ksql_expr.specs.declared.typed.AggFun.{AggFun}
use Rattle.ksql_expr.specs.declared.typed.Typed.{Typed}
use Rattle.ksql_expr.proofs.Times.{timeless_value}
use Rattle.ksql_program.specs.Program.{relation_at, relation_of}
use Rattle.ksql_program.specs.Sound.{AreColumns, Aggregates, none, more, grouped, IsArgument, IsCondition, IsJoined, IsSound, IsSoundItem, IsSoundOver, IsSoundQuery, Makes, plain, query, Reads, one, joined}
use Rattle.ksql_program.specs.declared.program.Item.{Item}
use Rattle.ksql_program.specs.declared.program.Item.TheVariants.{Declared, Started}
use Rattle.ksql_program.specs.declared.query.Agg.{Agg}
use Rattle.ksql_program.specs.declared.query.From.{From}
use Rattle.ksql_program.specs.declared.query.From.TheVariants.{One, Join}
use Rattle.ksql_program.specs.declared.query.JoinKind.{JoinKind}
use Rattle.ksql_program.specs.declared.query.JoinKind.TheVariants.{Inner, Left, Full}
use Rattle.ksql_program.specs.declared.query.Query.{Query}
use Rattle.ksql_program.specs.declared.query.Shape.{Shape}
use Rattle.ksql_nodes.specs.declared.node.Node.{Node}
use Rattle.ksql_nodes.specs.declared.node.Node.TheVariants as node
use Rattle.ksql_nodes.specs.Entries.{Entry, Step, from_side, results, through}
use Rattle.ksql_nodes.specs.Nodes.{gives}
use Rattle.ksql_nodes.specs.Steps.{HasTimelessArgument, IsHeld, Timeless}
use Rattle.ksql_nodes.proofs.Lists.{All-append}
use Rattle.query_meaning.specs.Meaning.{declared_changes, item_changes, meaning, steps_of_declared}
use Rattle.query_meaning.specs.Queries.{after_aggregate, changes_at, filter_of, join_of, join_over, key_columns, kind_at, lanes_of, leftmost, query_changes, read_entries, shape_steps, side_at, steps_of, whole_changes}
use Rattle.meaning_laws.specs.Tables.{TablesTurn}
use Rattle.meaning_laws.proofs.JoinedTables.{joined-turned}
use Rattle.meaning_laws.proofs.EachRelation.{AreAmong, Each, each-at, meant-each}
use Rattle.meaning_laws.proofs.Rowwise.{filter-keeps, grouped-turned, having-keeps, select-keeps, table-aggregate-keeps, whole-turned}
use Rattle.meaning_laws.proofs.Sides.{merged-sided}
use Rattle.meaning_laws.proofs.Turning.{AreTurned, KeepsTable, changed-from-side, table-turned, through-ends, through-turned, turned-turning}

-- ---- kinds

pub table-isnt_stream : (k : Kind) → k ≡ kind.Table → k ≢ kind.Stream
table-isnt_stream k is stream = cc

windowed-isnt_table : kind.Windowed ≡ kind.Table → ⊥
windowed-isnt_table is = cc

joined-unwindowed : (k : JoinKind) (on : Typed) (l r : Relation) → IsJoined k on l r → l.kind ≡ kind.Windowed → ⊥
joined-unwindowed Inner on l r j is = subst (λ x. IsJoined Inner on x r) (λ i. record l { kind = is i }) j
joined-unwindowed Left on l r j is = subst (λ x. IsJoined Left on x r) (λ i. record l { kind = is i }) j
joined-unwindowed Full on l r j is = windowed-isnt_table (sym is ∙ j.left_table)

pub reads-unwindowed : (before : List Item) {from : From} {types : List (Option SqlType)} {l : Relation} → Reads before from types l → l.kind ≡ kind.Windowed → ⊥
reads-unwindowed before (one _ unwindowed) = unwindowed
reads-unwindowed before (joined {k = k} {on = on} {l = l} {r = r} _ _ _ _ _ j) = joined-unwindowed k on l r j

kind_of : Option Relation → Kind
kind_of o = unwrap_or (option_map (λ r. r.kind) o) kind.Stream

pub reads-kind : (before items : List Item) → AreAmong before items → {from : From} {types : List (Option SqlType)} {l : Relation} → Reads before from types l →
    kind_at items (leftmost from) ≡ l.kind
unfolding kind_of
reads-kind before items among (one {number = number} {r = r} is _) = ap kind_of (among number r is)
reads-kind before items among (joined {left = left} {l = l} is _ _ _ _ _) = ap kind_of (among left l is)

-- ---- expressions over tables

over-timeless : (over : Kind) (types : List (Option SqlType)) (e : Typed) → over ≢ kind.Stream → IsSoundOver over types e → Timeless e
over-timeless over types e table sound row time = timeless_value e row time 0 (sound.timeless table)

pub columns-timeless : (over : Kind) (types : List (Option SqlType)) → over ≢ kind.Stream → (es : List Typed) (cs : List Column) → AreColumns over types es cs → AllByRecursion Timeless es
columns-timeless over types table [] [] sound = tt
columns-timeless over types table [] (c ∷ cs) sound = absurd sound
columns-timeless over types table (e ∷ es) [] sound = absurd sound
columns-timeless over types table (e ∷ es) (c ∷ cs) sound = (over-timeless over types e table sound.0, columns-timeless over types table es cs sound.2)

pub condition-keeps : (n : ℕ) (over : Kind) (types : List (Option SqlType)) → over ≢ kind.Stream → (on : Option Typed) → IsCondition over types on → AllByRecursion KeepsTable (map (gives n) (filter_of on))
condition-keeps n over types table None sound = tt
condition-keeps n over types table (Some e) sound = (filter-keeps n e (over-timeless over types e table sound.0), tt)

after-keeps : (n : ℕ) (types : List (Option SqlType)) (having : Option Typed) (values : List Typed) (cs : List Column) → IsCondition kind.Table types having → AreColumns kind.Table types values cs →
    AllByRecursion KeepsTable (map (gives n) (after_aggregate having values))
after-keeps n types None values cs condition columns = (select-keeps n [] values (columns-timeless kind.Table types (table-isnt_stream kind.Table refl) values cs columns), tt)
after-keeps n types (Some e) values cs condition columns = (
  having-keeps n e (over-timeless kind.Table types e (table-isnt_stream kind.Table refl) condition.0),
  (select-keeps n [] values (columns-timeless kind.Table types (table-isnt_stream kind.Table refl) values cs columns), tt),
)

argument-timeless : (types : List (Option SqlType)) (fun : AggFun) (arg : Option Typed) → IsArgument kind.Table types arg → HasTimelessArgument (record { fun = fun; arg = arg })
argument-timeless types fun None sound = tt
argument-timeless types fun (Some e) sound = over-timeless kind.Table types e (table-isnt_stream kind.Table refl) sound

pub aggs-held : (types : List (Option SqlType)) {gs : List Agg} {ats : List (Option SqlType)} → Aggregates kind.Table types gs ats → AllByRecursion IsHeld gs
aggs-held types none = tt
aggs-held types (more {a = a} over argument _ rest) = ((argument-timeless types a.fun a.arg argument, over), aggs-held types rest)

-- ---- shapes

-- over a table each step leaves it one
shape-keeps : (n : ℕ) (left : Relation) (types : List (Option SqlType)) → left.kind ≡ kind.Table → {shape : Shape} {out : Relation} → Makes left types shape out → out.kind ≡ kind.Table →
    AllByRecursion KeepsTable (shape_steps n kind.Table shape)
shape-keeps n left types is (plain {ks = ks} {vs = vs} keys values _) table = (select-keeps n ks vs (columns-timeless left.kind types (table-isnt_stream left.kind is) vs _ values), tt)
shape-keeps n left types is (grouped {ks = ks} {vs = vs} {w = None} {gs = gs} {h = h} ats _ _ keys _ aggs _ condition values _) table = (
  table-aggregate-keeps ks (columns-timeless left.kind types (table-isnt_stream left.kind is) ks _ keys) gs (aggs-held types (subst (λ k. Aggregates k types gs ats) is aggs)),
  after-keeps n _ h vs _ condition values,
)
shape-keeps n left types is (grouped {w = Some w} _ _ _ _ _ _ _ _ _ windowed) table = absurd (windowed-isnt_table (sym windowed ∙ table))

-- over a stream a grouping makes a table
shape-makes : (n : ℕ) (left : Relation) (types : List (Option SqlType)) → left.kind ≡ kind.Stream → {shape : Shape} {out : Relation} → Makes left types shape out → out.kind ≡ kind.Table →
    (es : List Entry) → AreTurned (through (shape_steps n kind.Stream shape) es)
shape-makes n left types is (plain _ _ same) table es = absurd (table-isnt_stream left.kind (sym same ∙ table) is)
shape-makes n left types is (grouped {ks = ks} {vs = vs} {w = None} {gs = gs} {h = h} ats _ _ _ _ _ _ condition values _) table es =
    through-turned (map (gives n) (after_aggregate h vs)) (after-keeps n _ h vs _ condition values)
    (results (gives n (node.Aggregate kind.Stream gs None)) [] (from_side 0 (results (gives n (node.Group ks)) [] es)))
    (grouped-turned n kind.Stream gs (from_side 0 (results (gives n (node.Group ks)) [] es)))
shape-makes n left types is (grouped {w = Some w} _ _ _ _ _ _ _ _ _ windowed) table es = absurd (windowed-isnt_table (sym windowed ∙ table))

-- ---- queries

-- the list of a table
abbrev pub TurnsIn : Relation → List Change → Type 0
TurnsIn r changes = r.kind ≡ kind.Table → AreTurned changes

module _ (items before : List Item) (among : AreAmong before items) (lists : List (List Change)) (each : Each TurnsIn before lists) (n : ℕ) where
  -- what a query reads of tables, and then steps that leave them tables
  read-turned : (from : From) (types : List (Option SqlType)) (l : Relation) → Reads before from types l → l.kind ≡ kind.Table → (on : Option Typed) → IsCondition l.kind types on →
      (rest : List Step) → AllByRecursion KeepsTable rest → AreTurned (through (map (gives n) (join_of items from ++ filter_of on) ++ rest) (read_entries items lists from))
  unfolding read_entries kind_of
  read-turned (One number) types l (one at _) is on condition rest keep =
      through-turned (map (gives n) (filter_of on) ++ rest)
      (All-append KeepsTable (map (gives n) (filter_of on)) rest (condition-keeps n l.kind types (table-isnt_stream l.kind is) on condition) keep)
      (whole_changes items lists number) (whole-turned (key_columns items number) (changes_at lists number) (each-at TurnsIn before lists each number l at is))
  read-turned (Join k left right key) types l (joined at _ _ _ _ _) is on condition rest keep =
      let es : List Entry = read_entries items lists (Join k left right key) in
      let x : Node = node.JoinTables k (side_at items left) (side_at items right) in
      subst (λ over. AreTurned (through (map (gives n) (join_over items k left right key over ++ filter_of on) ++ rest) es))
      (sym (ap kind_of (among left l at) ∙ is))
      (through-turned (map (gives n) (filter_of on) ++ rest)
      (All-append KeepsTable (map (gives n) (filter_of on)) rest (condition-keeps n l.kind types (table-isnt_stream l.kind is) on condition) keep)
      (results (gives n x) [] es)
      (joined-turned n k (side_at items left) (side_at items right) es (merged-sided left right (whole_changes items lists left) (whole_changes items lists right))))

  shape-turned : (from : From) (types : List (Option SqlType)) (l : Relation) → Reads before from types l → (on : Option Typed) → IsCondition l.kind types on →
      {shape : Shape} {out : Relation} → Makes l types shape out → out.kind ≡ kind.Table → (over : Kind) → l.kind ≡ over →
      AreTurned (through (map (gives n) (join_of items from ++ filter_of on) ++ shape_steps n over shape) (read_entries items lists from))
  shape-turned from types l reads on condition {shape = shape} makes table kind.Stream is =
      through-ends (map (gives n) (join_of items from ++ filter_of on)) (shape_steps n kind.Stream shape) (shape-makes n l types is makes table) (read_entries items lists from)
  shape-turned from types l reads on condition {shape = shape} makes table kind.Table is =
      read-turned from types l reads is on condition (shape_steps n kind.Table shape) (shape-keeps n l types is makes table)
  shape-turned from types l reads on condition makes table kind.Windowed is = absurd (reads-unwindowed before reads is)

  query-turned : (q : Query) → n ≡ lanes_of items q → IsSoundQuery before q → q.out.kind ≡ kind.Table → AreTurned (query_changes items lists q)
  unfolding query_changes steps_of
  query-turned q is (query {types = types} {left = l} reads condition makes _ _) table =
      subst (λ m. AreTurned (through (map (gives m) (join_of items q.from ++ filter_of q.filter) ++ shape_steps m (kind_at items (leftmost q.from)) q.shape) (read_entries items lists q.from))) is
      (shape-turned q.from types l reads q.filter condition makes table (kind_at items (leftmost q.from)) (sym (reads-kind before items among reads)))

-- ---- each relation

declared-turned : (k : Kind) (number : ℕ) (changes : List Change) → k ≡ kind.Table → AreTurned (through (steps_of_declared k number) (from_side 0 changes))
declared-turned k number changes is =
    subst (λ over. AreTurned (through (steps_of_declared over number) (from_side 0 changes))) (sym is)
    (subst AreTurned (sym (changed-from-side (results (gives 1 (node.Table number)) [] (from_side 0 changes)))) (table-turned 1 number (from_side 0 changes)))

module _ (items : List Item) (order : List SourceRecord) where
  item-turned : (before : List Item) (lists : List (List Change)) → AreAmong before items → Each TurnsIn before lists → (i : Item) →
      relation_at items (length before) ≡ Some (relation_of i) → IsSoundItem before i → TurnsIn (relation_of i) (item_changes items order lists i)
  unfolding declared_changes
  item-turned before lists among each (Declared r) at sound table = declared-turned r.kind r.number (said r order) table
  item-turned before lists among each (Started q) at sound table = query-turned items before among lists each (lanes_of items q) q refl sound.1 table

-- the list of each table is that of a table
pub meant-turned : (items : List Item) (order : List SourceRecord) → IsSound items → Each TurnsIn items (meaning items order)
meant-turned items order sound = meant-each TurnsIn items order (item-turned items order) [] [] tt items sound.sound refl

pub meant-turning : (items : List Item) (order : List SourceRecord) → IsSound items → TablesTurn items (meaning items order)
meant-turning items order sound number r at is =
    turned-turning (changes_at (meaning items order) number) (each-at TurnsIn items (meaning items order) (meant-turned items order sound) number r at is)
