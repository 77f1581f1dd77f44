-- Aggregate functions of lists of values, and the changes of groups (ksqlDB reference manual, "Aggregate functions").
use Rattle.std.specs.Prelude.{ℕ, ◌||◌, Bool, not, if◌then◌else◌, List, [], ◌∷◌, ◌++◌, length, map, filter, flat_map, Option, Some, None, unwrap_or, option_map, ℤ, pos, ◌+ℤ◌, ◌-ℤ◌}
use Rattle.std.specs.List.{fold, last_or}
use Rattle.std.specs.declared.cmp.Ordering.{Ordering}
use Rattle.std.specs.Ordering.{is_lt, is_gt}
use Rattle.ksql_types.specs.Key.{is_null}
use Rattle.ksql_types.specs.declared.value.SqlType.{SqlType}
use Rattle.ksql_types.specs.declared.value.Value.{Value}
use Rattle.ksql_types.specs.declared.value.Value.TheVariants.{Null, Big}
use Rattle.ksql_types.specs.declared.relation.Kind.{Kind}
use Rattle.ksql_types.specs.declared.relation.Kind.TheVariants.{Stream}
use Rattle.ksql_types.specs.declared.relation.Span.{Span}
use Rattle.ksql_place.specs.Said.{row_in, row_out}
use Rattle.ksql_place.specs.declared.change.Body.TheVariants.{Turned}
use Rattle.ksql_place.specs.declared.change.Change.{Change}
use Rattle.ksql_expr.specs.declared.typed.AggFun.{AggFun}
use Rattle.ksql_expr.specs.declared.typed.AggFun.TheVariants.{CountAll, Count, Sum, Min, Max, Latest, Earliest}
use Rattle.ksql_expr.specs.declared.typed.Typed.{Typed}
use Rattle.ksql_expr.specs.Rules.{agg_type}
use Rattle.ksql_expr.specs.Value.{value_of, whole, number, compare_so, first_value}
use Rattle.ksql_program.specs.declared.query.Agg.{Agg}
use Rattle.ksql_nodes.specs.Entries.{Row, Entry, latest_time}

-- ---- lists of values

-- the values that aren't NULL
abbrev pub present : List Value → List Value
present vs = filter (λ v. not (is_null v)) vs

-- the sum of whole numbers
abbrev pub total : List Value → ℤ
total [] = pos 0
total (v ∷ vs) = unwrap_or (whole v) (pos 0) +ℤ total vs

-- the number that COUNT and SUM wrap into the range of their type; no other function has one
abbrev pub amount : AggFun → List Value → ℤ
amount CountAll vs = pos (length vs)
amount Count vs = pos (length (present vs))
amount Sum vs = total (present vs)
amount _ vs = pos 0

-- the value that passes a comparison with the other; NULL is skipped
abbrev pub better : (Ordering → Bool) → Value → Value → Value
better test best v = if is_null best || compare_so test v best then v else best

-- the best of some values; NULL if there is none
abbrev pub extreme : (Ordering → Bool) → List Value → Value
extreme test vs = fold (better test) Null vs

-- an aggregate function of values, in their order and in its type
abbrev pub aggregate : AggFun → Option SqlType → List Value → Value
aggregate Min ty vs = extreme is_lt (present vs)
aggregate Max ty vs = extreme is_gt (present vs)
aggregate Latest ty vs = unwrap_or (last_or None (present vs)) Null
aggregate Earliest ty vs = first_value vs
aggregate f ty vs = number ty (amount f vs)

-- COUNT and SUM of the values that entered less those that left; tables have no other aggregates
abbrev pub balance : AggFun → Option SqlType → List Value → List Value → Value
balance f ty entered left = number ty (amount f entered -ℤ amount f left)

-- ---- the rows of a group

-- a row and its time
pub record Dated : Type 0 where
  pub row : Row
  pub time : ℕ

abbrev pub dated : ℕ → Option Row → List Dated
dated time None = []
dated time (Some row) = record { row = row; time = time } ∷ []

-- the rows that some entries bring
abbrev pub entered : List Entry → List Dated
entered es = flat_map (λ e. dated e.change.time (row_in e.change.body)) es

-- the rows that they take away
abbrev pub gone : List Entry → List Dated
gone es = flat_map (λ e. dated e.change.time (row_out e.change.body)) es

-- the value of an aggregate's argument on a row; NULL if it has none
abbrev pub argument : Option Typed → Dated → Value
argument None r = Null
argument (Some e) r = value_of r.row r.time e

abbrev pub arguments : Option Typed → List Dated → List Value
arguments arg rows = map (argument arg) rows

-- the type of an aggregate
abbrev pub type_of_agg : Agg → Option SqlType
type_of_agg a = unwrap_or (agg_type a.fun (option_map (λ e. e.ty) a.arg)) None

-- The value of an aggregate over the entries of a group: for a stream over all its rows; for a table, as tasks compute
-- it, over what entered less what left. The meaning of a query over a table is in TableAggregates.
abbrev pub worth : Kind → List Entry → Agg → Value
worth Stream es a = aggregate a.fun (type_of_agg a) (arguments a.arg (entered es))
worth _ es a = balance a.fun (type_of_agg a) (arguments a.arg (entered es)) (arguments a.arg (gone es))

-- ---- the changes of groups

-- the columns of a window: its start and its end
abbrev pub window_cells : Option Span → List Value
window_cells None = []
window_cells (Some w) = Big (pos w.start) ∷ Big (pos w.end) ∷ []

-- a row, if there are entries at all
abbrev pub unless_none : List Entry → Row → Option Row
unless_none [] row = None
unless_none (e ∷ es) row = Some row

-- the result of a group over its entries: its key, a column for each aggregate and those of the window; absent without
-- entries
abbrev pub outcome : Kind → List Agg → List Value → Option Span → List Entry → Option Row
outcome over aggs group span es = unless_none es (group ++ map (worth over es) aggs ++ window_cells span)

-- the change of a group when one more entry with its key is added: from its result before to that after, at the
-- greatest time so far
abbrev pub group_change : Kind → List Agg → Option Span → List Entry → Entry → Change
group_change over aggs span mine e =
    let all = mine ++ e ∷ [] in
    let c = e.change in
    record c { time = latest_time all; span = span; body = Turned (outcome over aggs c.key span mine) (outcome over aggs c.key span all) }
