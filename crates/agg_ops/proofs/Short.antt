-- What is kept of a group is short, and as long as the aggregates are many.
use Rattle.std.proofs.Common.{◌≡◌, ap, refl, ℕ, suc, Bool, true, false, cond, List, [], ◌∷◌, length, All, arith}
use Rattle.std.specs.Prelude.{Option, None, Some, IfSome, ◌||◌, ℤ}
use Rattle.std.specs.Ordering.{is_lt, is_gt}
use Rattle.std.proofs.lemmas.List.Elements.{All-head, All-tail, All-cons}
use Rattle.ksql_types.specs.Key.{is_null}
use Rattle.ksql_types.specs.declared.relation.Kind.{Kind}
use Rattle.ksql_types.specs.declared.relation.Kind.TheVariants.{Stream, Table, Windowed}
use Rattle.ksql_types.specs.declared.value.SqlType.{SqlType}
use Rattle.ksql_types.specs.declared.value.SqlType.TheVariants as sql
use Rattle.ksql_types.specs.declared.value.Value.{Value}
use Rattle.ksql_place.specs.Said.{row_in}
use Rattle.ksql_place.specs.declared.change.Change.{Change}
use Rattle.ksql_expr.specs.declared.typed.AggFun.{AggFun}
use Rattle.ksql_expr.specs.declared.typed.AggFun.TheVariants.{CountAll, Count, Sum, Min, Max, Latest, Earliest}
use Rattle.ksql_expr.specs.Value.{number, compare_so}
use Rattle.ksql_program.specs.declared.query.Agg.{Agg}
use Rattle.ksql_nodes.specs.Entries.{Row}
use Rattle.ksql_nodes.specs.Aggregates.{aggregate, argument, type_of_agg}
use Rattle.record_codec.specs.Spelling.{IsShort}
use Rattle.operator.specs.Storable.{HasShortArguments}
use Rattle.agg_ops.specs.Totals.{more, with_row, initial, next_worth, next_worths, kept_worths, next_totals}

number-short : (ty : Option SqlType) (z : ℤ) → IsShort (number ty z)
number-short None z = tt
number-short (Some sql.Int) z = tt
number-short (Some sql.Big) z = tt
number-short (Some sql.Text) z = tt
number-short (Some sql.Bool) z = tt

one-of : (b : Bool) (x y : Value) → IsShort x → IsShort y → IsShort (cond b x y)
one-of true x y hx hy = hx
one-of false x y hx hy = hy

more-short : (f : AggFun) (ty : Option SqlType) (mine v : Value) → IsShort mine → IsShort v → IsShort (more f ty mine v)
more-short CountAll ty mine v hm hv = number-short ty _
more-short Count ty mine v hm hv = number-short ty _
more-short Sum ty mine v hm hv = number-short ty _
more-short Min ty mine v hm hv = one-of (is_null mine || compare_so is_lt v mine) v mine hv hm
more-short Max ty mine v hm hv = one-of (is_null mine || compare_so is_gt v mine) v mine hv hm
more-short Latest ty mine v hm hv = one-of (is_null v) mine v hm hv
more-short Earliest ty mine v hm hv = one-of (is_null mine) v mine hv hm

none-short : (f : AggFun) (ty : Option SqlType) → IsShort (aggregate f ty [])
none-short CountAll ty = number-short ty _
none-short Count ty = number-short ty _
none-short Sum ty = number-short ty _
none-short Min ty = tt
none-short Max ty = tt
none-short Latest ty = tt
none-short Earliest ty = tt

initial-short : (over : Kind) (a : Agg) → IsShort (initial over a)
initial-short Stream a = none-short a.fun (type_of_agg a)
initial-short Table a = number-short (type_of_agg a) _
initial-short Windowed a = number-short (type_of_agg a) _

-- the argument of an aggregate is short on a row at a time
abbrev HasShort : ℕ → Row → Agg → Type 0
HasShort time row a = IsShort (argument a.arg (record { row = row; time = time }))

row-short : (a : Agg) (time : ℕ) (row : Option Row) (mine : Value) → IsShort mine → IfSome row (λ row. HasShort time row a) → IsShort (with_row a time row mine)
row-short a time None mine hm h = hm
row-short a time (Some row) mine hm h = more-short a.fun (type_of_agg a) mine (argument a.arg (record { row = row; time = time })) hm h

next-short : (over : Kind) (a : Agg) (c : Change) (mine : Value) → IsShort mine → IfSome (row_in c.body) (λ row. HasShort c.time row a) → IsShort (next_worth over a c mine)
next-short Stream a c mine hm h = row-short a c.time (row_in c.body) mine hm h
next-short Table a c mine hm h = number-short (type_of_agg a) _
next-short Windowed a c mine hm h = number-short (type_of_agg a) _

first-short : (a : Agg) (aggs : List Agg) (row : Option Row) (time : ℕ) → IfSome row (λ row. All (HasShort time row) (a ∷ aggs)) → IfSome row (λ row. HasShort time row a)
first-short a aggs None time h = tt
first-short a aggs (Some row) time h = All-head (HasShort time row) a aggs h

rest-short : (a : Agg) (aggs : List Agg) (row : Option Row) (time : ℕ) → IfSome row (λ row. All (HasShort time row) (a ∷ aggs)) → IfSome row (λ row. All (HasShort time row) aggs)
rest-short a aggs None time h = tt
rest-short a aggs (Some row) time h = All-tail (HasShort time row) a aggs h

worths-short : (over : Kind) (aggs : List Agg) (c : Change) (mine : List Value) → All IsShort mine → HasShortArguments aggs c → All IsShort (next_worths over aggs c mine)
worths-short over [] c mine hm h = λ i d lt. absurd (omega arith)
worths-short over (a ∷ aggs) c [] hm h =
    All-cons IsShort (next_worth over a c (initial over a)) (next_worths over aggs c [])
    (next-short over a c (initial over a) (initial-short over a) (first-short a aggs (row_in c.body) c.time h))
    (worths-short over aggs c [] hm (rest-short a aggs (row_in c.body) c.time h))
worths-short over (a ∷ aggs) c (v ∷ vs) hm h =
    All-cons IsShort (next_worth over a c v) (next_worths over aggs c vs)
    (next-short over a c v (All-head IsShort v vs hm) (first-short a aggs (row_in c.body) c.time h))
    (worths-short over aggs c vs (All-tail IsShort v vs hm) (rest-short a aggs (row_in c.body) c.time h))

kept-short : (mine : List Value) → All IsShort mine → All IsShort (kept_worths mine)
kept-short [] hm = hm
kept-short (v ∷ vs) hm = All-tail IsShort v vs hm

pub totals-short : (over : Kind) (aggs : List Agg) (c : Change) (mine : List Value) → All IsShort mine → HasShortArguments aggs c → All IsShort (next_totals over aggs c mine)
totals-short over aggs c mine hm h =
    All-cons IsShort _ (next_worths over aggs c (kept_worths mine)) tt (worths-short over aggs c (kept_worths mine) (kept-short mine hm) h)

length-worths : (over : Kind) (aggs : List Agg) (c : Change) (mine : List Value) → length (next_worths over aggs c mine) ≡ length aggs
length-worths over [] c mine = refl
length-worths over (a ∷ aggs) c [] = ap suc (length-worths over aggs c [])
length-worths over (a ∷ aggs) c (v ∷ vs) = ap suc (length-worths over aggs c vs)

pub length-totals : (over : Kind) (aggs : List Agg) (c : Change) (mine : List Value) → length (next_totals over aggs c mine) ≡ suc (length aggs)
length-totals over aggs c mine = ap suc (length-worths over aggs c (kept_worths mine))
