-- The judgement of statements: their program, or the first refusal.
use Rattle.std.specs.Prelude.{Result, Ok, Err, ◌≡◌, ℕ, ◌+◌, suc, Bool, true, false, if◌then◌else◌, List, [], ◌∷◌, ◌++◌, length, map, filter, not, Option, Some, None, is_some, unwrap_or, option_map, IsTrue}
use Rattle.std.specs.List.{flat_map}
use Rattle.ksql_types.specs.declared.relation.Column.{Column}
use Rattle.ksql_types.specs.declared.relation.Format.TheVariants.{Json}
use Rattle.ksql_types.specs.declared.relation.Kind.{Kind}
use Rattle.ksql_types.specs.declared.relation.Kind.TheVariants as kind
use Rattle.ksql_types.specs.declared.relation.Relation.{Relation}
use Rattle.statement_trees.specs.declared.tree.ColumnText.{ColumnText}
use Rattle.expression_trees.specs.declared.tree.Expr.{Expr}
use Rattle.statement_trees.specs.declared.tree.JoinWord.{JoinWord}
use Rattle.statement_trees.specs.declared.tree.JoinWord.TheVariants as word
use Rattle.statement_trees.specs.declared.tree.Property.{Property}
use Rattle.statement_trees.specs.declared.tree.Select.{Select}
use Rattle.statement_trees.specs.declared.tree.Statement.{Statement}
use Rattle.statement_trees.specs.declared.tree.StatementBody.{StatementBody}
use Rattle.statement_trees.specs.declared.tree.StatementBody.TheVariants as body
use Rattle.ksql_types.specs.declared.code.Code.{Code}
use Rattle.ksql_lexer.specs.declared.token.TokenKind.{TokenKind}
use Rattle.ksql_parser.specs.Script.{AreTrees}
use Rattle.ksql_expr.specs.declared.typed.Typed.{Typed}
use Rattle.ksql_expr.specs.declared.typed.TypedNode.{TypedNode}
use Rattle.ksql_expr.specs.declared.typed.TypedNode.TheVariants as n
use Rattle.ksql_program.specs.declared.program.Item.{Item}
use Rattle.ksql_program.specs.declared.program.Program.{Program}
use Rattle.ksql_program.specs.declared.program.Item.TheVariants.{Declared, Started}
use Rattle.ksql_program.specs.declared.query.Agg.{Agg}
use Rattle.ksql_program.specs.declared.query.From.{From}
use Rattle.ksql_program.specs.declared.query.From.TheVariants as from
use Rattle.ksql_program.specs.declared.query.JoinKind.{JoinKind}
use Rattle.ksql_program.specs.declared.query.JoinKind.TheVariants as join
use Rattle.ksql_program.specs.declared.query.Query.{Query}
use Rattle.ksql_program.specs.declared.query.Shape.{Shape}
use Rattle.ksql_program.specs.declared.query.Shape.TheVariants as shape
use Rattle.ksql_program.specs.Program.{relations}
use Rattle.ksql_scopes.specs.declared.scope.Scope.{Scope}
use Rattle.ksql_clauses.specs.Keys.{key_columns, value_columns}
use Rattle.ksql_rules.specs.Breaks.{topic_of, result_format, is_grouped, group_exprs, shown_exprs, is_key}
use Rattle.aggregate_rules.specs.Grouping.{aggregates_of, once_from}
use Rattle.grouped_expressions.specs.Grouped.{after}
use Rattle.ksql_clauses.specs.declared.items.Named.{Named}
use Rattle.ksql_clauses.specs.Keys.{join_key}
use Rattle.ksql_rules.specs.Lowest.{IsAccepted, IsRefused}
use Rattle.ksql_clauses.specs.Properties.{topic_in, partitions_in, format_in}
use Rattle.ksql_scopes.specs.Resolved.{resolved}
use Rattle.ksql_clauses.specs.declared.sources.Known.{Known}
use Rattle.ksql_clauses.specs.Sources.{all_known, from_scope, item_scope, on_scope, reads_stream}
use Rattle.ksql_typing.specs.Standing.{IsTypedTree}
use Rattle.ksql_clauses.specs.Windows.{window_of}
use Rattle.ksql_analyse.specs.declared.fault.AnalyseFault.{AnalyseFault}
use Rattle.ksql_analyse.specs.declared.fault.AnalyseFault.TheVariants.{Refused, OutOfMemory}

-- ---- the relation of a declaration

abbrev pub column_of : ColumnText → Column
column_of c = record { name = c.name; ty = c.ty }

abbrev pub kind_of : Bool → Kind
kind_of table = if table then kind.Table else kind.Stream

-- with JSON and one partition, unless the properties say otherwise
abbrev pub declared_relation : ℕ → Statement → List ColumnText → List Property → Relation
declared_relation number st cs ps = record {
  number = number;
  name = st.name;
  kind = kind_of st.table;
  schema = record { keys = map column_of (filter is_key cs); values = map column_of (filter (λ c. not (is_key c)) cs) };
  topic = unwrap_or (topic_in ps) [];
  partitions = unwrap_or (partitions_in ps) 1;
  format = unwrap_or (format_in ps) Json;
  declared = true;
}

-- ---- the program of a query

abbrev pub join_kind : JoinWord → JoinKind
join_kind word.Inner = join.Inner
join_kind word.Left = join.Left
join_kind word.Full = join.Full

-- what a query reads
abbrev pub IsFrom : Select → List Known → From → Type 0
IsFrom q ks (from.One number) = (k : Known) × (ks ≡ k ∷ []) × (number ≡ k.relation.number)
IsFrom q ks (from.Join k left right on) =
    (l : Known) × (r : Known) × (ks ≡ l ∷ r ∷ []) × (option_map (λ j. join_kind j.kind) q.join ≡ Some k)
    × (left ≡ l.relation.number) × (right ≡ r.relation.number)
    × (sides : Expr × Expr) × (join_key q ks ≡ Some sides) × IsTypedTree (on_scope q ks) sides.0 on

-- the typed tree of an optional part
abbrev pub IsTypedPart : Scope → Option Expr → Option Typed → Type 0
IsTypedPart s None None = Unit {0}
IsTypedPart s (Some a) (Some x) = IsTypedTree s a x
IsTypedPart s _ _ = ⊥

-- the typed trees of some expressions
abbrev pub AreTypedTrees : Scope → List Expr → List Typed → Type 0
AreTypedTrees s [] [] = Unit {0}
AreTypedTrees s (a ∷ es) (x ∷ xs) = IsTypedTree s a x × AreTypedTrees s es xs
AreTypedTrees s _ _ = ⊥

abbrev pub exprs : List Named → List Expr
exprs cs = map (λ c. c.expr) cs

-- the aggregates of a query without duplicates: those of its items, then those of HAVING
abbrev pub aggregate_exprs : Select → List Known → List Expr
aggregate_exprs q ks = once_from [] (flat_map aggregates_of (shown_exprs q ks))

-- an aggregate as the form of a typed tree
abbrev pub agg_form : Agg → TypedNode
agg_form g = n.Aggregate g.fun g.arg

-- the aggregates in the program
abbrev pub AreAggs : Scope → List Expr → List Agg → Type 0
AreAggs s es gs = (xs : List Typed) × AreTypedTrees s es xs × (map (λ x. x.node) xs ≡ map agg_form gs)

-- the bounds of a window, after the columns of a scope: its start and its end
abbrev pub bound_forms : Scope → List TypedNode
bound_forms s = if s.windowed then n.Column (length s.columns) ∷ n.Column (length s.columns + 1) ∷ [] else []

-- what the columns of a row after the grouping stand for, in the scope of the items: the keys, the aggregates and, if
-- windowed, the window's start and end
abbrev pub grouped_columns : Scope → List Typed → List Agg → List TypedNode
grouped_columns s keys gs = map (λ x. x.node) keys ++ map agg_form gs ++ bound_forms s

-- an optional part, and some expressions, over the rows after a grouping with these columns
abbrev pub IsPartAfter : List TypedNode → Scope → Option Expr → Option Typed → Type 0
IsPartAfter columns s part made = (x : Option Typed) × IsTypedPart s part x × (made ≡ option_map (after columns) x)

abbrev pub AreTreesAfter : List TypedNode → Scope → List Expr → List Typed → Type 0
AreTreesAfter columns s es made = (xs : List Typed) × AreTypedTrees s es xs × (made ≡ map (after columns) xs)

-- the shape of a query
abbrev pub IsShape : Select → List Known → Shape → Type 0
IsShape q ks (shape.Plain keys values) =
    IsTrue (not (is_grouped q)) × AreTypedTrees (item_scope q ks) (exprs (key_columns q ks)) keys
    × AreTypedTrees (item_scope q ks) (exprs (value_columns q ks)) values
IsShape q ks (shape.Group keys window gs having values) =
    IsTrue (is_grouped q) × (window ≡ option_map window_of q.window) × AreTypedTrees (from_scope q ks) (group_exprs q ks) keys
    × AreAggs (item_scope q ks) (aggregate_exprs q ks) gs
    × IsPartAfter (grouped_columns (item_scope q ks) keys gs) (item_scope q ks) (option_map (resolved (item_scope q ks)) q.having) having
    × AreTreesAfter (grouped_columns (item_scope q ks) keys gs) (item_scope q ks) (exprs (value_columns q ks)) values

-- ---- the relation of a query

abbrev pub shape_keys : Shape → List Typed
shape_keys (shape.Plain keys values) = keys
shape_keys (shape.Group keys window aggs having values) = keys

abbrev pub shape_values : Shape → List Typed
shape_values (shape.Plain keys values) = values
shape_values (shape.Group keys window aggs having values) = values

-- the kind of a result: a grouping gives a table, with a window or without; anything else a stream if the left source
-- is one
abbrev pub result_kind : Select → List Known → Kind
result_kind q ks = if is_grouped q then (if is_some q.window then kind.Windowed else kind.Table) else if reads_stream ks then kind.Stream else kind.Table

-- columns have the names and the types of expressions, in order
abbrev pub AreColumnsOf : List Named → List Typed → List Column → Type 0
AreColumnsOf cs xs columns = (map (λ c. c.name) columns ≡ map (λ c. c.name) cs) × (map (λ c. Some c.ty) columns ≡ map (λ x. x.ty) xs)

abbrev pub left_partitions : List Known → ℕ
left_partitions [] = 1
left_partitions (k ∷ ks) = k.relation.partitions

pub record IsResult (number : ℕ) (st : Statement) (ps : List Property) (q : Select) (ks : List Known) (made : Shape) (r : Relation) : Type 0 where
  pub numbered : r.number ≡ number
  pub named : r.name ≡ st.name
  pub kinded : r.kind ≡ result_kind q ks
  pub keyed : AreColumnsOf (key_columns q ks) (shape_keys made) r.schema.keys
  pub valued : AreColumnsOf (value_columns q ks) (shape_values made) r.schema.values
  pub topic : Some r.topic ≡ topic_of st.name st.body
  pub partitions : r.partitions ≡ unwrap_or (partitions_in ps) (left_partitions ks)
  pub format : r.format ≡ result_format ps ks
  pub query : r.declared ≡ false

-- the query of a statement, over these sources
pub record IsQuery (number : ℕ) (st : Statement) (ps : List Property) (q : Select) (ks : List Known) (made : Query) : Type 0 where
  pub reads : IsFrom q ks made.from
  pub filters : IsTypedPart (from_scope q ks) q.filter made.filter
  pub makes : IsShape q ks made.shape
  pub gives : IsResult number st ps q ks made.shape made.out

-- the item of an accepted statement, given the relations of the earlier statements
abbrev pub IsItemOf : List Relation → Statement → Item → Type 0
IsItemOf catalog st i = of st.body i
  where
    of : StatementBody → Item → Type 0
    of (body.Declared cs ps) (Declared r) = r ≡ declared_relation (length catalog) st cs ps
    of (body.Query ps q) (Started made) = IsQuery (length catalog) st ps q (all_known catalog q) made
    of _ _ = ⊥

-- ---- statements

-- the items of statements after other items: each statement is accepted, given those before it
pub data Judged : List Item → List Statement → List Item → Type 0 where
  done : {items : List Item} → Judged items [] items
  next : {before items : List Item} {st : Statement} {sts : List Statement} (i : Item) → IsAccepted (relations before) st
      → IsItemOf (relations before) st i → Judged (before ++ i ∷ []) sts items → Judged before (st ∷ sts) items

-- the number of the first refused statement, and its lowest code
pub data FirstRefused : List Item → List Statement → ℕ → Code → Type 0 where
  here : {before : List Item} {st : Statement} {sts : List Statement} {c : Code} → IsRefused (relations before) st c
      → FirstRefused before (st ∷ sts) 1 c
  later : {before : List Item} {st : Statement} {sts : List Statement} {number : ℕ} {c : Code} (i : Item) → IsAccepted (relations before) st
      → IsItemOf (relations before) st i → FirstRefused (before ++ i ∷ []) sts number c → FirstRefused before (st ∷ sts) (suc number) c

-- the program of statements
abbrev pub IsProgramOf : List Statement → List Item → Type 0
IsProgramOf sts items = Judged [] sts items

-- their first refusal
abbrev pub AreRefused : List Statement → ℕ → Code → Type 0
AreRefused sts number c = FirstRefused [] sts number c

-- ---- results

-- the statements are the trees of some tokens that no rule of the grammar refuses
abbrev pub AreParsed : List Statement → Type 0
AreParsed sts = (parts : List (List TokenKind)) × AreTrees parts sts

-- a result is right: the program of the statements, or their first refusal
abbrev pub IsJudgement : List Statement → Result Program AnalyseFault → Type 0
IsJudgement sts (Ok program) = IsProgramOf sts program.items
IsJudgement sts (Err (Refused number c)) = AreRefused sts number c
IsJudgement sts (Err OutOfMemory) = Unit {0}

-- the result is this, unless memory ran out
abbrev pub Answers : Result Program AnalyseFault → Result Program AnalyseFault → Type 0
Answers (Err OutOfMemory) wanted = Unit {0}
Answers answer wanted = answer ≡ wanted
