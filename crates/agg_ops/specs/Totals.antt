-- How one more change of a group changes what is kept of the group: its greatest time, then the values of its
-- aggregates, each with all that its next value needs. Nothing is kept of a group without entries.
use Rattle.std.specs.Prelude.{ℕ, ◌*◌, ◌^◌, ◌<◌, max, nat_lt, Bool, true, false, not, ◌&&◌, if◌then◌else◌, List, [], ◌∷◌, ◌++◌, Option, Some, None, unwrap_or, ℤ, pos, ◌+ℤ◌, ◌-ℤ◌}
use Rattle.std.specs.Ordering.{is_lt, is_gt}
use Rattle.ksql_types.specs.Key.{is_null}
use Rattle.ksql_types.specs.declared.relation.Kind.{Kind}
use Rattle.ksql_types.specs.declared.relation.Kind.TheVariants.{Stream}
use Rattle.ksql_types.specs.declared.relation.Span.{Span}
use Rattle.ksql_types.specs.declared.relation.Window.{Window}
use Rattle.ksql_types.specs.declared.value.SqlType.{SqlType}
use Rattle.ksql_types.specs.declared.value.Value.{Value}
use Rattle.ksql_types.specs.declared.value.Value.TheVariants.{Big}
use Rattle.ksql_place.specs.Said.{row_in, row_out}
use Rattle.ksql_place.specs.declared.change.Body.TheVariants.{Turned}
use Rattle.ksql_place.specs.declared.change.Change.{Change}
use Rattle.ksql_expr.specs.declared.typed.AggFun.{AggFun}
use Rattle.ksql_expr.specs.declared.typed.AggFun.TheVariants.{Min, Max, Latest, Earliest}
use Rattle.ksql_expr.specs.Value.{whole, number}
use Rattle.ksql_program.specs.declared.query.Agg.{Agg}
use Rattle.ksql_nodes.specs.declared.node.Node.{Node}
use Rattle.ksql_nodes.specs.declared.node.Node.TheVariants.{Aggregate}
use Rattle.ksql_nodes.specs.Entries.{Row}
use Rattle.ksql_nodes.specs.Aggregates.{amount, better, aggregate, dated, argument, arguments, type_of_agg, window_cells}

-- a number in a type, increased by an amount
abbrev pub raised : Option SqlType → Value → ℤ → Value
raised ty mine by = number ty (unwrap_or (whole mine) (pos 0) +ℤ by)

-- a value, or another if it is NULL
abbrev pub present_or : Value → Value → Value
present_or v other = if is_null v then other else v

-- an aggregate of a stream, after one more value of its argument
abbrev pub more : AggFun → Option SqlType → Value → Value → Value
more Min ty mine v = better is_lt mine v
more Max ty mine v = better is_gt mine v
more Latest ty mine v = present_or v mine
more Earliest ty mine v = present_or mine v
more f ty mine v = raised ty mine (amount f (v ∷ []))

-- the same, after a row at a time, if any
abbrev pub with_row : Agg → ℕ → Option Row → Value → Value
with_row a time None mine = mine
with_row a time (Some row) mine = more a.fun (type_of_agg a) mine (argument a.arg (record { row = row; time = time }))

-- what COUNT and SUM add for a row at a time; 0 if there is none
abbrev pub amount_of : Agg → ℕ → Option Row → ℤ
amount_of a time row = amount a.fun (arguments a.arg (dated time row))

-- an aggregate after a change: for a stream with the row that it brings; for a table with the amount of that row added,
-- and that of the row it takes away subtracted
abbrev pub next_worth : Kind → Agg → Change → Value → Value
next_worth Stream a c mine = with_row a c.time (row_in c.body) mine
next_worth _ a c mine = raised (type_of_agg a) mine (amount_of a c.time (row_in c.body) -ℤ amount_of a c.time (row_out c.body))

-- an aggregate over no rows
abbrev pub initial : Kind → Agg → Value
initial Stream a = aggregate a.fun (type_of_agg a) []
initial _ a = number (type_of_agg a) (pos 0)

-- some aggregates, each after that change; one without a value yet begins with that over no rows
abbrev pub next_worths : Kind → List Agg → Change → List Value → List Value
next_worths over [] c mine = []
next_worths over (a ∷ aggs) c [] = next_worth over a c (initial over a) ∷ next_worths over aggs c []
next_worths over (a ∷ aggs) c (v ∷ vs) = next_worth over a c v ∷ next_worths over aggs c vs

-- the kept time; 0 if none is kept
abbrev pub kept_time : List Value → ℕ
kept_time (Big (pos time) ∷ vs) = time
kept_time vs = 0

-- the kept aggregates
abbrev pub kept_worths : List Value → List Value
kept_worths [] = []
kept_worths (time ∷ vs) = vs

-- what is kept of a group after one more change
abbrev pub next_totals : Kind → List Agg → Change → List Value → List Value
next_totals over aggs c mine = Big (pos (max (kept_time mine) c.time)) ∷ next_worths over aggs c (kept_worths mine)

-- the result of a group with these kept values, and of its window, if it has one
abbrev pub result_of : List Value → Option Span → List Value → Option Row
result_of group span [] = None
result_of group span (time ∷ vs) = Some (group ++ vs ++ window_cells span)

-- the change of a group from its kept values to the new ones
abbrev pub changed : Change → Option Span → List Value → List Value → Change
changed c span before after = record c { time = kept_time after; span = span; body = Turned (result_of c.key span before) (result_of c.key span after) }

-- a window whose start and end fit in signed 64-bit numbers
abbrev pub HasBigBounds : Span → Type 0
HasBigBounds s = (s.start < 2 ^ 63) × (s.end < 2 ^ 63)

-- whether a node is an aggregate without a window
abbrev pub is_plain_aggregate : Node → Bool
is_plain_aggregate (Aggregate over aggs None) = true
is_plain_aggregate node = false

-- whether a window advances, by at most its size, a time has at most 64 of them, and neither its size nor its grace is
-- above 2^53
abbrev pub is_sound_window : Window → Bool
is_sound_window w = nat_lt 0 w.advance && not (nat_lt w.size w.advance) && not (nat_lt (2 ^ 53) w.size) && not (nat_lt (64 * w.advance) w.size) && not (nat_lt (2 ^ 53) w.grace)

-- whether a node is an aggregate of a stream with a sound window
abbrev pub is_window_aggregate : Node → Bool
is_window_aggregate (Aggregate Stream aggs (Some w)) = is_sound_window w
is_window_aggregate node = false
