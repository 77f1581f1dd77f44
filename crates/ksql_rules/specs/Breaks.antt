-- The rules for statements, code by code, given the relations of the earlier statements.
use Rattle.std.specs.Prelude.{ℕ, ◌+◌, ◌==◌, Bool, true, false, not, ◌&&◌, ◌||◌, nat_lt, if◌then◌else◌, IsTrue, ◌⊎◌, List, [], ◌∷◌, ◌++◌, length, map, filter, Option, Some, None, is_some, is_none, unwrap_or, option_map, codes, bytes_eq}
use Rattle.std.specs.List.{list_any, list_all}
use Rattle.ksql_types.specs.Catalog.{has_name, has_topic}
use Rattle.ksql_types.specs.declared.relation.Format.{Format}
use Rattle.ksql_types.specs.declared.relation.Format.TheVariants.{Json, Delimited}
use Rattle.ksql_types.specs.declared.relation.Relation.{Relation}
use Rattle.ksql_types.specs.declared.value.SqlType.{SqlType}
use Rattle.statement_trees.specs.declared.tree.ColumnText.{ColumnText}
use Rattle.expression_trees.specs.declared.tree.Expr.{Expr}
use Rattle.statement_trees.specs.declared.tree.KeyMark.{KeyMark}
use Rattle.statement_trees.specs.declared.tree.KeyMark.TheVariants.{Plain, Key, PrimaryKey}
use Rattle.statement_trees.specs.declared.tree.Property.{Property}
use Rattle.statement_trees.specs.declared.tree.Select.{Select}
use Rattle.statement_trees.specs.declared.tree.SelectItem.{SelectItem}
use Rattle.statement_trees.specs.declared.tree.SelectItem.TheVariants.{StarOf}
use Rattle.statement_trees.specs.declared.tree.Statement.{Statement}
use Rattle.statement_trees.specs.declared.tree.StatementBody.{StatementBody}
use Rattle.statement_trees.specs.declared.tree.StatementBody.TheVariants.{Declared, Query}
use Rattle.statement_trees.specs.declared.tree.WindowText.{WindowText}
use Rattle.ksql_types.specs.declared.code.Code.{Code}
use Rattle.ksql_types.specs.declared.code.Code.TheVariants as code
use Rattle.ksql_types.specs.Names.{are_column_names, is_topic_name}
use Rattle.aggregate_rules.specs.Grouping.{has_aggregate, has_ordered_aggregate, has_nested_aggregate, has_bare_column}
use Rattle.ksql_clauses.specs.declared.items.Named.{Named}
use Rattle.ksql_clauses.specs.declared.sources.Known.{Known}
use Rattle.ksql_clauses.specs.Items.{result_columns, is_alias, is_join}
use Rattle.ksql_clauses.specs.Keys.{on_sides, join_key, key_places, key_columns, value_columns}
use Rattle.ksql_clauses.specs.Properties.{are_bad, digits_in, format_in, name_of, topic_in, value_of}
use Rattle.ksql_scopes.specs.Resolved.{resolved}
use Rattle.ksql_clauses.specs.Sources.{all_known, has_unknown_source, have_one_alias, is_windowed, reads_stream, joined_streams, is_full, from_scope, item_scope, on_scope, there, late_exprs, early_exprs, front_exprs, on_exprs}
use Rattle.ksql_typing.specs.Standing.{HasType, HasValue, CanBeTrue, CanAgree}
use Rattle.ksql_scopes.specs.Uses.{has_unknown_name, has_ambiguous_name, has_unknown_function}
use Rattle.ksql_clauses.specs.Windows.{is_too_large, is_bad}

-- ---- TooLarge: a limit is exceeded

-- whether a property is PARTITIONS with more than 64
abbrev pub wants_many_partitions : Property → Bool
wants_many_partitions p = bytes_eq (name_of p) (codes "PARTITIONS") && nat_lt 64 (unwrap_or (digits_in p.value) 0)

-- whether one of the properties is, even if there are several
abbrev pub has_many_partitions : List Property → Bool
has_many_partitions ps = list_any wants_many_partitions ps

-- whether a column name in a join's result, which may be made of an alias and a name, is above 128 bytes
abbrev pub has_long_name : List Known → List Named → Bool
has_long_name ks cs = is_join ks && list_any (λ c. nat_lt 128 (length c.name)) cs

abbrev pub has_large_window : Option WindowText → Bool
has_large_window None = false
has_large_window (Some w) = is_too_large w

abbrev pub is_query_too_large : List Relation → Select → Bool
is_query_too_large catalog q =
    nat_lt 64 (length (result_columns q (all_known catalog q))) || nat_lt 8 (length q.group) || has_large_window q.window
    || has_long_name (all_known catalog q) (result_columns q (all_known catalog q))

-- ---- NameTaken

-- the topic of a statement: that of KAFKA_TOPIC, or for a query without it the relation's name
abbrev pub topic_of : List ℕ → StatementBody → Option (List ℕ)
topic_of name (Declared cs ps) = topic_in ps
topic_of name (Query ps q) = if is_some (value_of (codes "KAFKA_TOPIC") ps) then topic_in ps else Some name

abbrev pub is_topic_taken : List Relation → Option (List ℕ) → Bool
is_topic_taken catalog None = false
is_topic_taken catalog (Some topic) = list_any (has_topic topic) catalog

abbrev pub is_taken : List Relation → Statement → Bool
is_taken catalog st = list_any (has_name st.name) catalog || is_topic_taken catalog (topic_of st.name st.body)

-- ---- UnknownColumn, AmbiguousColumn

-- whether `a.*` names no source
abbrev pub is_unknown_star : List Known → SelectItem → Bool
is_unknown_star ks (StarOf alias) = not (is_alias alias ks)
is_unknown_star ks item = false

abbrev pub has_unknown_column : Select → List Known → Bool
has_unknown_column q ks =
    list_any (has_unknown_name (on_scope q ks)) (on_exprs q) || list_any (has_unknown_name (from_scope q ks)) (front_exprs q)
    || list_any (has_unknown_name (item_scope q ks)) (late_exprs q) || list_any (is_unknown_star ks) q.items

abbrev pub has_ambiguous_column : Select → List Known → Bool
has_ambiguous_column q ks =
    list_any (has_ambiguous_name (on_scope q ks)) (on_exprs q) || list_any (has_ambiguous_name (from_scope q ks)) (front_exprs q)
    || list_any (has_ambiguous_name (item_scope q ks)) (late_exprs q) || have_one_alias q

-- ---- DuplicateColumn

abbrev pub has_bad_names : Select → List Known → Bool
has_bad_names q ks = not (are_column_names (map (λ c. c.name) (key_columns q ks ++ value_columns q ks)))

-- ---- TypeMismatch

-- each member of a list
abbrev pub Each : {A : Type 0} → (A → Type 0) → List A → Type 0
Each P [] = Unit {0}
Each P (x ∷ xs) = P x × Each P xs

abbrev pub IfThere : {A : Type 0} → (A → Type 0) → Option A → Type 0
IfThere P None = Unit {0}
IfThere P (Some x) = P x

-- the expressions of a query have the types that their places require
pub record IsQueryTyped (q : Select) (ks : List Known) : Type 0 where
  pub on : Each (λ a. (t : Option SqlType) × HasType (on_scope q ks) a t) (on_exprs q)
  pub front : Each (λ a. (t : Option SqlType) × HasType (from_scope q ks) a t) (front_exprs q)
  pub late : Each (λ a. (t : Option SqlType) × HasType (item_scope q ks) a t) (late_exprs q)
  pub where_true : IfThere (CanBeTrue (from_scope q ks)) q.filter
  pub having_true : IfThere (CanBeTrue (item_scope q ks)) q.having
  pub valued : Each (λ c. HasValue (item_scope q ks) c.expr) (result_columns q ks)
  pub on_agrees : Each (λ on. IfThere (CanAgree (on_scope q ks)) (on_sides on)) (on_exprs q)

-- ---- WrongKind

abbrev pub same : Bool → Bool → Bool
same a b = if a then b else not b

abbrev pub has_wrong_mark : Bool → ColumnText → Bool
has_wrong_mark table c = of c.mark
  where
    of : KeyMark → Bool
    of Plain = false
    of Key = table
    of PrimaryKey = not table

abbrev pub is_grouped : Select → Bool
is_grouped q = nat_lt 0 (length q.group)

-- whether a query's result is a table
abbrev pub makes_table : Select → List Known → Bool
makes_table q ks = is_grouped q || not (reads_stream ks)

-- whether a join has a table on the left and a stream on the right, or is FULL between a stream and a table
abbrev pub is_wrong_join : Bool → Option (Bool × Bool) → Bool
is_wrong_join full None = false
is_wrong_join full (Some sides) = (not sides.0 && sides.1) || (full && not (same sides.0 sides.1))

abbrev pub is_query_wrong : Bool → Select → List Known → Bool
is_query_wrong table q ks =
    not (same table (makes_table q ks)) || is_wrong_join (is_full q) (joined_streams ks) || (is_some q.partition && not (reads_stream ks))

-- ---- KeyMissing, JoinNotOnKey

abbrev pub is_primary : ColumnText → Bool
is_primary c = of c.mark
  where
    of : KeyMark → Bool
    of PrimaryKey = true
    of _ = false

abbrev pub is_stream_join : Option (Bool × Bool) → Bool
is_stream_join None = false
is_stream_join (Some sides) = sides.0 && sides.1

abbrev pub has_stream_side : Option (Bool × Bool) → Bool
has_stream_side None = false
has_stream_side (Some sides) = sides.0 || sides.1

-- whether ON isn't `a = b` of the required form
abbrev pub is_not_on_key : Select → List Known → Bool
is_not_on_key q ks = is_join ks && not (is_some (join_key q ks)) && not (is_stream_join (joined_streams ks))

-- whether a key column is missing. This isn't checked in a join of two streams, nor in one with a stream whose ON
-- doesn't have the required form, nor with both GROUP BY and PARTITION BY.
abbrev pub lacks_key : Select → List Known → Bool
lacks_key q ks =
    not (is_stream_join (joined_streams ks)) && not (has_stream_side (joined_streams ks) && is_not_on_key q ks)
    && not (is_grouped q && is_some q.partition) && list_any is_none (key_places q ks)

-- ---- PartitionMismatch

abbrev pub have_other_partitions : List Known → Bool
have_other_partitions (l ∷ r ∷ more) = not (l.relation.partitions == r.relation.partitions)
have_other_partitions _ = false

-- ---- AggregateMisuse

-- the expressions of a query's items, including the columns of a star, and of HAVING, with resolved names
abbrev pub shown_exprs : Select → List Known → List Expr
shown_exprs q ks = map (λ c. c.expr) (result_columns q ks) ++ there (option_map (resolved (item_scope q ks)) q.having)

abbrev pub group_exprs : Select → List Known → List Expr
group_exprs q ks = map (resolved (from_scope q ks)) q.group

abbrev pub misuses_aggregates : Select → List Known → Bool
misuses_aggregates q ks =
    list_any has_aggregate (early_exprs q) || list_any has_nested_aggregate (late_exprs q)
    || (not (is_grouped q) && (list_any has_aggregate (late_exprs q) || is_some q.having))
    || (is_grouped q && (not (list_any has_aggregate (late_exprs q)) || is_some q.partition || list_any (has_bare_column (group_exprs q ks)) (shown_exprs q ks)))
    || (not (reads_stream ks) && list_any has_ordered_aggregate (late_exprs q))

-- ---- BadWindow

abbrev pub is_bad_window : Select → List Known → Bool
is_bad_window q ks = of q.window
  where
    of : Option WindowText → Bool
    of None = false
    of (Some w) = not (is_grouped q) || not (reads_stream ks) || is_bad w

-- ---- Unsupported

abbrev pub is_key : ColumnText → Bool
is_key c = of c.mark
  where
    of : KeyMark → Bool
    of Plain = false
    of _ = true

abbrev pub joins_itself : List Known → Bool
joins_itself (l ∷ r ∷ more) = bytes_eq l.relation.name r.relation.name
joins_itself _ = false

abbrev pub is_query_unsupported : Select → List Known → Bool
is_query_unsupported q ks =
    list_any has_unknown_function (early_exprs q) || list_any has_unknown_function (late_exprs q)
    || list_any (λ k. is_windowed k.relation) ks || joins_itself ks || is_stream_join (joined_streams ks)

-- ---- BadProperty

-- the format of a query's result: its own, or that of its left source
abbrev pub result_format : List Property → List Known → Format
result_format ps [] = unwrap_or (format_in ps) Json
result_format ps (k ∷ ks) = unwrap_or (format_in ps) k.relation.format

abbrev pub is_delimited : Format → Bool
is_delimited Delimited = true
is_delimited Json = false

abbrev pub has_bad_topic : Option (List ℕ) → Bool
has_bad_topic None = true
has_bad_topic (Some topic) = not (is_topic_name topic)

-- whether there are only key columns
abbrev pub has_only_keys : List ColumnText → Bool
has_only_keys cs = list_all is_key cs

abbrev pub is_declaration_bad : List ColumnText → List Property → Bool
is_declaration_bad cs ps =
    are_bad ps || has_bad_topic (topic_in ps) || (is_delimited (unwrap_or (format_in ps) Json) && has_only_keys cs)

abbrev pub is_query_bad : List ℕ → List Property → Select → List Known → Bool
is_query_bad name ps q ks =
    are_bad ps || has_bad_topic (topic_of name (Query ps q)) || (is_delimited (result_format ps ks) && (length (value_columns q ks) == 0))

-- ---- the rules by code

-- a declaration of columns with properties; `table` tells which kind
abbrev pub DeclarationBreaks : List Relation → Statement → List ColumnText → List Property → Code → Type 0
DeclarationBreaks catalog st cs ps code.TooLarge = IsTrue (nat_lt 64 (length cs) || has_many_partitions ps)
DeclarationBreaks catalog st cs ps code.NameTaken = IsTrue (is_taken catalog st)
DeclarationBreaks catalog st cs ps code.DuplicateColumn = IsTrue (not (are_column_names (map (λ c. c.name) cs)))
DeclarationBreaks catalog st cs ps code.WrongKind = IsTrue (list_any (has_wrong_mark st.table) cs)
DeclarationBreaks catalog st cs ps code.KeyMissing = IsTrue (st.table && not (list_any is_primary cs))
DeclarationBreaks catalog st cs ps code.Unsupported = IsTrue (nat_lt 1 (length (filter is_key cs)))
DeclarationBreaks catalog st cs ps code.BadProperty = IsTrue (is_declaration_bad cs ps)
DeclarationBreaks catalog st cs ps _ = ⊥

-- a query with properties over sources of the catalog
abbrev pub QueryBreaks : List Relation → Statement → List Property → Select → List Known → Code → Type 0
QueryBreaks catalog st ps q ks code.Syntax = ⊥
QueryBreaks catalog st ps q ks code.TooLarge = IsTrue (is_query_too_large catalog q || has_many_partitions ps)
QueryBreaks catalog st ps q ks code.UnknownRelation = IsTrue (has_unknown_source catalog q)
QueryBreaks catalog st ps q ks code.NameTaken = IsTrue (is_taken catalog st)
QueryBreaks catalog st ps q ks code.UnknownColumn = IsTrue (has_unknown_column q ks)
QueryBreaks catalog st ps q ks code.AmbiguousColumn = IsTrue (has_ambiguous_column q ks)
QueryBreaks catalog st ps q ks code.DuplicateColumn = IsTrue (has_bad_names q ks)
QueryBreaks catalog st ps q ks code.TypeMismatch = ¬ IsQueryTyped q ks
QueryBreaks catalog st ps q ks code.WrongKind = IsTrue (is_query_wrong st.table q ks)
QueryBreaks catalog st ps q ks code.KeyMissing = IsTrue (lacks_key q ks)
QueryBreaks catalog st ps q ks code.JoinNotOnKey = IsTrue (is_not_on_key q ks)
QueryBreaks catalog st ps q ks code.PartitionMismatch = IsTrue (have_other_partitions ks)
QueryBreaks catalog st ps q ks code.AggregateMisuse = IsTrue (misuses_aggregates q ks)
QueryBreaks catalog st ps q ks code.BadWindow = IsTrue (is_bad_window q ks)
QueryBreaks catalog st ps q ks code.Unsupported = IsTrue (is_query_unsupported q ks)
QueryBreaks catalog st ps q ks code.BadProperty = IsTrue (is_query_bad st.name ps q ks)

abbrev pub BodyBreaks : List Relation → Statement → StatementBody → Code → Type 0
BodyBreaks catalog st (Declared cs ps) c = DeclarationBreaks catalog st cs ps c
BodyBreaks catalog st (Query ps q) c = QueryBreaks catalog st ps q (all_known catalog q) c

-- whether there are already 200 relations, so that another one is too large
abbrev pub is_full_catalog : List Relation → Code → Bool
is_full_catalog catalog code.TooLarge = nat_lt 199 (length catalog)
is_full_catalog catalog _ = false

-- a statement breaks the rule of a code
abbrev pub Breaks : List Relation → Statement → Code → Type 0
Breaks catalog st c = IsTrue (is_full_catalog catalog c) ⊎ BodyBreaks catalog st st.body c
