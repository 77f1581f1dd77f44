-- Sound programs: what every later part may rely on.
use Rattle.std.specs.Prelude.{◌≡◌, ◌≢◌, ℕ, suc, ◌+◌, ◌*◌, ◌^◌, ◌<◌, ◌≤◌, Bool, true, false, nat_le, ◌⊎◌, IsTrue, List, [], ◌∷◌, ◌++◌, length, map, take, Option, Some, None, IfSome}
use Rattle.std.specs.List.{AllByRecursion, list_all}
use Rattle.ksql_types.specs.declared.relation.Column.{Column}
use Rattle.ksql_types.specs.declared.relation.Format.TheVariants.{Delimited}
use Rattle.ksql_types.specs.declared.relation.Kind.{Kind}
use Rattle.ksql_types.specs.declared.relation.Kind.TheVariants as kind
use Rattle.ksql_types.specs.declared.relation.Relation.{Relation}
use Rattle.ksql_types.specs.declared.value.SqlType.{SqlType}
use Rattle.ksql_types.specs.declared.value.SqlType.TheVariants as sql
use Rattle.ksql_expr.specs.declared.typed.AggFun.{AggFun}
use Rattle.ksql_expr.specs.declared.typed.AggFun.TheVariants.{CountAll, Count, Sum}
use Rattle.ksql_expr.specs.declared.typed.Typed.{Typed}
use Rattle.ksql_expr.specs.declared.typed.TypedNode.TheVariants as n
use Rattle.ksql_expr.specs.Aggregates.{HoldsNoAggregate, HoldsColumn, HoldsShortTexts, IsTimeless}
use Rattle.ksql_expr.specs.Rules.{fits, agg_type}
use Rattle.ksql_expr.specs.Typing.{IsTyped}
use Rattle.ksql_program.specs.declared.program.Item.{Item}
use Rattle.ksql_program.specs.declared.program.Item.TheVariants.{Declared, Started}
use Rattle.ksql_program.specs.declared.query.Agg.{Agg}
use Rattle.ksql_program.specs.declared.query.From.{From}
use Rattle.ksql_program.specs.declared.query.From.TheVariants as from
use Rattle.ksql_program.specs.declared.query.JoinKind.{JoinKind}
use Rattle.ksql_program.specs.declared.query.JoinKind.TheVariants.{Inner, Left, Full}
use Rattle.ksql_program.specs.declared.query.Query.{Query}
use Rattle.ksql_program.specs.declared.query.Shape.{Shape}
use Rattle.ksql_program.specs.declared.query.Shape.TheVariants as shape
use Rattle.ksql_types.specs.declared.relation.Window.{Window}
use Rattle.ksql_types.specs.Columns.{columns}
use Rattle.ksql_types.specs.Names.{are_column_names, are_distinct, is_topic_name}
use Rattle.ksql_program.specs.Program.{relations, relation_at}

-- ---- relations

abbrev pub column_types : List Column → List (Option SqlType)
column_types cs = map (λ c. Some c.ty) cs

-- what holds of a relation with its number
pub record IsSoundRelation (number : ℕ) (r : Relation) : Type 0 where
  pub numbered : r.number ≡ number
  pub named : length r.name ≤ 128
  pub columns_named : IsTrue (are_column_names (map (λ c. c.name) (columns r)))
  pub columns_short : IsTrue (list_all (λ c. nat_le (length c.name) 128) (columns r))
  pub columns_few : length (columns r) ≤ 64
  pub topic_named : IsTrue (is_topic_name r.topic)
  pub some_partition : 1 ≤ r.partitions
  pub partitions_few : r.partitions ≤ 64
  pub some_value : r.format ≡ Delimited → 0 < length r.schema.values

-- the number of key columns that a declared relation can have: at most one, and exactly one for a table
abbrev pub HasDeclaredKey : Kind → ℕ → Type 0
HasDeclaredKey kind.Stream keys = keys ≤ 1
HasDeclaredKey kind.Table keys = keys ≡ 1
HasDeclaredKey kind.Windowed keys = ⊥

-- a declared relation
pub record IsSoundDeclaration (r : Relation) : Type 0 where
  pub declared : r.declared ≡ true
  pub keyed : HasDeclaredKey r.kind (length r.schema.keys)

-- ---- expressions

-- an expression over rows of a relation of this kind with columns of these types: it has its type, no aggregate and no
-- text that is too long, and it uses ROWTIME only over streams, since a table's row must have the same value at any
-- time
pub record IsSoundOver (over : Kind) (types : List (Option SqlType)) (e : Typed) : Type 0 where
  pub typed : IsTyped types e
  pub plain : HoldsNoAggregate e
  pub short : HoldsShortTexts e
  pub timeless : over ≢ kind.Stream → IsTimeless e

-- expressions whose types are those of the columns, in order
abbrev pub AreColumns : Kind → List (Option SqlType) → List Typed → List Column → Type 0
AreColumns over types [] [] = Unit {0}
AreColumns over types (e ∷ es) (c ∷ cs) = IsSoundOver over types e × (e.ty ≡ Some c.ty) × AreColumns over types es cs
AreColumns over types _ _ = ⊥

-- a condition
abbrev pub IsCondition : Kind → List (Option SqlType) → Option Typed → Type 0
IsCondition over types None = Unit {0}
IsCondition over types (Some e) = IsSoundOver over types e × IsTrue (fits sql.Bool e.ty)

-- ---- what a query reads

-- the first key column's type
abbrev pub row_key : Relation → List (Option SqlType)
row_key r = take 1 (column_types r.schema.keys)

-- the types of ROWKEY, in a FULL join alone
abbrev pub rowkey_types : JoinKind → Relation → List (Option SqlType)
rowkey_types Full left = row_key left
rowkey_types _ left = []

-- a stream joined with a table: its key is an expression of the stream's columns, and the table has one key column
pub record JoinsStream (on : Typed) (left right : Relation) : Type 0 where
  pub left_stream : left.kind ≡ kind.Stream
  pub over_left : IsSoundOver kind.Stream (column_types (columns left)) on
  pub some_column : HoldsColumn on
  pub one_key : length right.schema.keys ≡ 1
  pub like_key : IfSome on.ty (λ t. row_key right ≡ Some t ∷ [])

-- a table joined with a table: each has one key column, and they are joined by these
pub record JoinsTable (on : Typed) (left right : Relation) : Type 0 where
  pub left_table : left.kind ≡ kind.Table
  pub by_key : on.node ≡ n.Column 0
  pub typed : IsTyped (column_types (columns left)) on
  pub one_key_left : length left.schema.keys ≡ 1
  pub one_key_right : length right.schema.keys ≡ 1
  pub like_key : row_key left ≡ row_key right

-- the joins that exist: INNER and LEFT of a stream and a table, and all kinds of two tables
abbrev pub IsJoined : JoinKind → Typed → Relation → Relation → Type 0
IsJoined Full on left right = JoinsTable on left right
IsJoined _ on left right = Joins left.kind
  where
    Joins : Kind → Type 0
    Joins kind.Stream = JoinsStream on left right
    Joins kind.Table = JoinsTable on left right
    Joins kind.Windowed = ⊥

-- the columns of the rows that a query reads have these types, given the earlier items
pub data Reads (before : List Item) : From → List (Option SqlType) → Relation → Type 0 where
  one : {number : ℕ} {r : Relation} → relation_at before number ≡ Some r → r.kind ≢ kind.Windowed
      → Reads before (from.One number) (column_types (columns r)) r
  joined : {k : JoinKind} {left right : ℕ} {on : Typed} {l r : Relation} → relation_at before left ≡ Some l → relation_at before right ≡ Some r
      → left ≢ right → r.kind ≡ kind.Table → l.partitions ≡ r.partitions → IsJoined k on l r
      → Reads before (from.Join k left right on) (column_types (columns l) ++ column_types (columns r) ++ rowkey_types k l) l

-- ---- aggregates and windows

-- which aggregates can be used on a table
abbrev pub IsOverTable : AggFun → Type 0
IsOverTable CountAll = Unit {0}
IsOverTable Count = Unit {0}
IsOverTable Sum = Unit {0}
IsOverTable _ = ⊥

abbrev pub IsAggOver : Kind → AggFun → Type 0
IsAggOver kind.Stream f = Unit {0}
IsAggOver _ f = IsOverTable f

-- an aggregate's argument
abbrev pub IsArgument : Kind → List (Option SqlType) → Option Typed → Type 0
IsArgument over types None = Unit {0}
IsArgument over types (Some e) = IsSoundOver over types e

-- the type of an argument
abbrev pub argument_type : Option Typed → Option (Option SqlType)
argument_type None = None
argument_type (Some e) = Some e.ty

-- aggregates over rows of these columns, and the types of their columns after a grouping
pub data Aggregates (over : Kind) (types : List (Option SqlType)) : List Agg → List (Option SqlType) → Type 0 where
  none : Aggregates over types [] []
  more : {a : Agg} {gs : List Agg} {t : Option SqlType} {ts : List (Option SqlType)} → IsAggOver over a.fun → IsArgument over types a.arg
      → agg_type a.fun (argument_type a.arg) ≡ Some t → Aggregates over types gs ts → Aggregates over types (a ∷ gs) (t ∷ ts)

-- a window has a size, advances by at least one and at most its size, and a time has at most 64 windows
pub record IsSoundWindow (w : Window) : Type 0 where
  pub moves : 0 < w.advance
  pub covers : w.advance ≤ w.size
  pub short : w.size ≤ 2 ^ 53
  pub few : w.size ≤ 64 * w.advance
  pub waits : w.grace ≤ 2 ^ 53

-- the columns that a window adds: its start and its end
abbrev pub window_types : Option Window → List (Option SqlType)
window_types None = []
window_types (Some w) = Some sql.Big ∷ Some sql.Big ∷ []

abbrev pub IsWindowed : Kind → Option Window → Type 0
IsWindowed over None = Unit {0}
IsWindowed over (Some w) = IsSoundWindow w × (over ≡ kind.Stream)

-- the kind of a grouped query's result
abbrev pub grouped_kind : Option Window → Kind
grouped_kind None = kind.Table
grouped_kind (Some w) = kind.Windowed

-- ---- the key of a plain result

-- the expressions are consecutive columns, from this number on
abbrev pub AreColumnsFrom : ℕ → List Column → List Typed → Type 0
AreColumnsFrom i [] [] = Unit {0}
AreColumnsFrom i (c ∷ cs) (e ∷ es) = (e.node ≡ n.Column i) × AreColumnsFrom (i + 1) cs es
AreColumnsFrom i _ _ = ⊥

-- of two tables: the left key, or in an INNER join also the right one; in a FULL join ROWKEY
abbrev pub IsTablesKey : JoinKind → Relation → Relation → Typed → Type 0
IsTablesKey Inner l r e = (e.node ≡ n.Column 0) ⊎ (e.node ≡ n.Column (length (columns l)))
IsTablesKey Left l r e = e.node ≡ n.Column 0
IsTablesKey Full l r e = e.node ≡ n.Column (length (columns l) + length (columns r))

-- the keys of a plain result: the source's, or for a stream those of PARTITION BY; in a join with a stream on the left
-- one expression, and in a join of tables one of their keys
pub data IsKeyed (before : List Item) : From → List Typed → Type 0 where
  own : {number : ℕ} {r : Relation} {es : List Typed} → relation_at before number ≡ Some r
      → AreColumnsFrom 0 r.schema.keys es → IsKeyed before (from.One number) es
  partitioned : {number : ℕ} {r : Relation} {e : Typed} → relation_at before number ≡ Some r
      → r.kind ≡ kind.Stream → IsKeyed before (from.One number) (e ∷ [])
  of_stream : {k : JoinKind} {left right : ℕ} {on e : Typed} {l : Relation} → relation_at before left ≡ Some l
      → l.kind ≡ kind.Stream → IsKeyed before (from.Join k left right on) (e ∷ [])
  of_tables : {k : JoinKind} {left right : ℕ} {on e : Typed} {l r : Relation} → relation_at before left ≡ Some l
      → relation_at before right ≡ Some r → l.kind ≡ kind.Table → IsTablesKey k l r e
      → IsKeyed before (from.Join k left right on) (e ∷ [])

abbrev pub HasItsKey : List Item → From → Shape → Type 0
HasItsKey before f (shape.Plain ks vs) = IsKeyed before f ks
HasItsKey before f (shape.Group ks w gs h vs) = Unit {0}

-- ---- queries

-- the shape of a query over rows of a relation's kind with columns of these types
pub data Makes (over : Relation) (types : List (Option SqlType)) : Shape → Relation → Type 0 where
  plain : {ks vs : List Typed} {out : Relation} → AreColumns over.kind types ks out.schema.keys → AreColumns over.kind types vs out.schema.values
      → out.kind ≡ over.kind → Makes over types (shape.Plain ks vs) out
  grouped : {ks vs : List Typed} {w : Option Window} {gs : List Agg} {h : Option Typed} {out : Relation} (ats : List (Option SqlType))
      → 1 ≤ length ks → length ks ≤ 8 → AreColumns over.kind types ks out.schema.keys
      → 1 ≤ length gs → Aggregates over.kind types gs ats → IsWindowed over.kind w
      → IsCondition (grouped_kind w) (map (λ k. k.ty) ks ++ ats ++ window_types w) h
      → AreColumns (grouped_kind w) (map (λ k. k.ty) ks ++ ats ++ window_types w) vs out.schema.values
      → out.kind ≡ grouped_kind w → Makes over types (shape.Group ks w gs h vs) out

-- a query after some items
pub data IsSoundQuery (before : List Item) : Query → Type 0 where
  query : {q : Query} {types : List (Option SqlType)} {left : Relation} → Reads before q.from types left → IsCondition left.kind types q.filter
      → Makes left types q.shape q.out → HasItsKey before q.from q.shape → q.out.declared ≡ false → IsSoundQuery before q

-- ---- how many aggregates there are

-- a grouping has fewer aggregates than four bytes can count
abbrev pub HasFewAggregates : Shape → Type 0
HasFewAggregates (shape.Plain ks vs) = Unit {0}
HasFewAggregates (shape.Group ks w gs h vs) = suc (length gs) < 2 ^ 32

-- and so does the grouping of an item, if any
abbrev pub ItemHasFewAggregates : Item → Type 0
ItemHasFewAggregates (Declared r) = Unit {0}
ItemHasFewAggregates (Started q) = HasFewAggregates q.shape

-- ---- items

-- an item after others
abbrev pub IsSoundItem : List Item → Item → Type 0
IsSoundItem before (Declared r) = IsSoundRelation (length before) r × IsSoundDeclaration r
IsSoundItem before (Started q) = IsSoundRelation (length before) q.out × IsSoundQuery before q

-- each item, given the earlier ones
abbrev pub AreSoundItems : List Item → List Item → Type 0
AreSoundItems before [] = Unit {0}
AreSoundItems before (i ∷ is) = IsSoundItem before i × AreSoundItems (before ++ i ∷ []) is

-- a sound program: at most 200 relations, whose names differ, as do their topics, each sound after those before it, and few
-- aggregates in each query
pub record IsSound (items : List Item) : Type 0 where
  pub few : length items ≤ 200
  pub names_differ : IsTrue (are_distinct (map (λ r. r.name) (relations items)))
  pub topics_differ : IsTrue (are_distinct (map (λ r. r.topic) (relations items)))
  pub sound : AreSoundItems [] items
  pub few_aggregates : AllByRecursion ItemHasFewAggregates items
