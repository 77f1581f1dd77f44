-- What is kept of a group, after one more change.
use Rattle.std.proofs.Common.{◌≡◌, ◌∙◌, ap, ap₂, refl, sym, ℕ, ◌+◌, ◌<◌, List, [], ◌∷◌, ◌++◌, map, flat_map, length, take, get_or, arith}
use Rattle.std.specs.Prelude.{Option, None, Some, max, slice_get, unwrap_or, ℤ, pos, ◌-ℤ◌}
use Rattle.std.proofs.lemmas.List.{append-nil, map-append, take_more, length-take}
use Rattle.std.proofs.lemmas.Grind.{flat_map-append}
use Rattle.ksql_types.specs.declared.relation.Kind.{Kind}
use Rattle.ksql_types.specs.declared.relation.Kind.TheVariants.{Stream, Table, Windowed}
use Rattle.ksql_types.specs.declared.relation.Span.{Span}
use Rattle.ksql_types.specs.declared.value.Value.{Value}
use Rattle.ksql_types.specs.declared.value.Value.TheVariants.{Big}
use Rattle.ksql_place.specs.Order.{greatest}
use Rattle.ksql_place.specs.Said.{row_in, row_out}
use Rattle.ksql_place.specs.declared.change.Change.{Change}
use Rattle.ksql_expr.specs.Value.{number}
use Rattle.ksql_program.specs.declared.query.Agg.{Agg}
use Rattle.ksql_nodes.specs.Entries.{Row, Entry, latest_time}
use Rattle.ksql_nodes.specs.Aggregates.{Dated, dated, entered, gone, argument, arguments, aggregate, balance, type_of_agg, worth, outcome}
use Rattle.operator.specs.Kept.{totals}
use Rattle.agg_ops.specs.Totals.{raised, with_row, amount_of, initial, next_worth, next_worths, next_totals, result_of}
use Rattle.agg_ops.proofs.Aggregates.{aggregate-more, amount-none, balance-more}

-- the rows that entries bring, or take away, and those of one entry more
dated-more : (row_of : Change → Option Row) (es : List Entry) (e : Entry) →
    flat_map (λ (e : Entry). dated e.change.time (row_of e.change)) (es ++ e ∷ []) ≡ flat_map (λ (e : Entry). dated e.change.time (row_of e.change)) es ++ dated e.change.time (row_of e.change)
dated-more row_of es e =
    flat_map-append (λ (e : Entry). dated e.change.time (row_of e.change)) es (e ∷ [])
    ∙ ap (λ rows. flat_map (λ (e : Entry). dated e.change.time (row_of e.change)) es ++ rows) (append-nil (dated e.change.time (row_of e.change)))

arguments-more : (a : Agg) (row_of : Change → Option Row) (es : List Entry) (e : Entry) →
    arguments a.arg (flat_map (λ (e : Entry). dated e.change.time (row_of e.change)) (es ++ e ∷ []))
    ≡ arguments a.arg (flat_map (λ (e : Entry). dated e.change.time (row_of e.change)) es) ++ arguments a.arg (dated e.change.time (row_of e.change))
arguments-more a row_of es e =
    let rows : List Dated = flat_map (λ (e : Entry). dated e.change.time (row_of e.change)) es in
    ap (arguments a.arg) (dated-more row_of es e) ∙ map-append (argument a.arg) rows (dated e.change.time (row_of e.change))

stream-more : (a : Agg) (es : List Entry) (e : Entry) → worth Stream (es ++ e ∷ []) a ≡ with_row a e.change.time (row_in e.change.body) (worth Stream es a)
stream-more a es e = ap (aggregate a.fun (type_of_agg a)) (arguments-more a (λ c. row_in c.body) es e) ∙ by (row_in e.change.body)
  where
    before : List Value
    before = arguments a.arg (entered es)

    by : (row : Option Row) → aggregate a.fun (type_of_agg a) (before ++ arguments a.arg (dated e.change.time row)) ≡ with_row a e.change.time row (aggregate a.fun (type_of_agg a) before)
    by None = ap (aggregate a.fun (type_of_agg a)) (append-nil before)
    by (Some row) = aggregate-more a.fun (type_of_agg a) before (argument a.arg (record { row = row; time = e.change.time }))

table-more : (a : Agg) (es : List Entry) (e : Entry) →
    worth Table (es ++ e ∷ []) a ≡ raised (type_of_agg a) (worth Table es a) (amount_of a e.change.time (row_in e.change.body) -ℤ amount_of a e.change.time (row_out e.change.body))
table-more a es e =
    ap₂ (balance a.fun (type_of_agg a)) (arguments-more a (λ c. row_in c.body) es e) (arguments-more a (λ c. row_out c.body) es e)
    ∙ balance-more a.fun (type_of_agg a) (arguments a.arg (entered es)) (arguments a.arg (gone es)) (arguments a.arg (dated e.change.time (row_in e.change.body)))
    (arguments a.arg (dated e.change.time (row_out e.change.body)))

worth-more : (over : Kind) (a : Agg) (es : List Entry) (e : Entry) → worth over (es ++ e ∷ []) a ≡ next_worth over a e.change (worth over es a)
worth-more Stream a es e = stream-more a es e
worth-more Table a es e = table-more a es e
worth-more Windowed a es e = table-more a es e

table-none : (a : Agg) → worth Table [] a ≡ initial Table a
table-none a = ap (λ (z : ℤ). number (type_of_agg a) (z -ℤ z)) (amount-none a.fun)

worth-none : (over : Kind) (a : Agg) → worth over [] a ≡ initial over a
worth-none Stream a = refl
worth-none Table a = table-none a
worth-none Windowed a = table-none a

worths-first : (over : Kind) (aggs : List Agg) (e : Entry) → map (worth over (e ∷ [])) aggs ≡ next_worths over aggs e.change []
worths-first over [] e = refl
worths-first over (a ∷ aggs) e = ap₂ (λ (v : Value) vs. v ∷ vs) (worth-more over a [] e ∙ ap (next_worth over a e.change) (worth-none over a)) (worths-first over aggs e)

worths-more : (over : Kind) (aggs : List Agg) (es : List Entry) (e : Entry) → map (worth over (es ++ e ∷ [])) aggs ≡ next_worths over aggs e.change (map (worth over es) aggs)
worths-more over [] es e = refl
worths-more over (a ∷ aggs) es e = ap₂ (λ (v : Value) vs. v ∷ vs) (worth-more over a es e) (worths-more over aggs es e)

greatest-more : (ns : List ℕ) (n : ℕ) → greatest (ns ++ n ∷ []) ≡ max (greatest ns) n
greatest-more [] n = omega arith
greatest-more (m ∷ ns) n = omega (arith, greatest-more ns n)

-- the greatest time of entries and one more
pub time-more : (es : List Entry) (e : Entry) → latest_time (es ++ e ∷ []) ≡ max (latest_time es) e.change.time
time-more es e =
    ap greatest (map-append (λ (e : Entry). e.change.time) es (e ∷ [])) ∙ greatest-more (map (λ (e : Entry). e.change.time) es) e.change.time

-- what is kept of entries and one more
pub totals-more : (over : Kind) (aggs : List Agg) (es : List Entry) (e : Entry) →
    totals over aggs (es ++ e ∷ []) ≡ Some (next_totals over aggs e.change (unwrap_or (totals over aggs es) []))
totals-more over aggs [] e = ap₂ (λ t (vs : List Value). Some (Big (pos t) ∷ vs)) (time-more [] e) (worths-first over aggs e)
totals-more over aggs (d ∷ es) e = ap₂ (λ t (vs : List Value). Some (Big (pos t) ∷ vs)) (time-more (d ∷ es) e) (worths-more over aggs (d ∷ es) e)

-- the result of a group depends only on what is kept of it
pub outcome-of : (over : Kind) (aggs : List Agg) (group : List Value) (span : Option Span) (es : List Entry) →
    outcome over aggs group span es ≡ result_of group span (unwrap_or (totals over aggs es) [])
outcome-of over aggs group span [] = refl
outcome-of over aggs group span (e ∷ es) = refl

-- one aggregate more
pub next_worths-more : (over : Kind) (aggs : List Agg) (a : Agg) (c : Change) (mine : List Value) →
    next_worths over (aggs ++ a ∷ []) c mine ≡ next_worths over aggs c mine ++ next_worth over a c (unwrap_or (slice_get mine (length aggs)) (initial over a)) ∷ []
next_worths-more over [] a c [] = refl
next_worths-more over [] a c (v ∷ vs) = refl
next_worths-more over (b ∷ aggs) a c [] = ap (λ (vs : List Value). next_worth over b c (initial over b) ∷ vs) (next_worths-more over aggs a c [])
next_worths-more over (b ∷ aggs) a c (v ∷ vs) = ap (λ (vs : List Value). next_worth over b c v ∷ vs) (next_worths-more over aggs a c vs)

-- a step of the loop over the aggregates
pub worths-step : (over : Kind) (aggs : List Agg) (a : Agg) (c : Change) (mine : List Value) (i : ℕ) (first v : Value) (before after : List Value) → i < length aggs → a ≡ get_or aggs i a →
    before ≡ first ∷ next_worths over (take i aggs) c mine → v ≡ next_worth over a c (unwrap_or (slice_get mine i) (initial over a)) → after ≡ before ++ v ∷ [] →
    after ≡ first ∷ next_worths over (take (i + 1) aggs) c mine
worths-step over aggs a c mine i first v before after lt is so_far value push =
    let front : take (i + 1) aggs ≡ take i aggs ++ a ∷ [] = take_more aggs i a lt ∙ ap (λ (w : Agg). take i aggs ++ w ∷ []) (sym is) in
    let long : length (take i aggs) ≡ i = omega (arith, length-take i aggs) in
    push
    ∙ ap₂ (λ (vs : List Value) (v : Value). vs ++ v ∷ []) so_far (value ∙ ap (λ n. next_worth over a c (unwrap_or (slice_get mine n) (initial over a))) (sym long))
    ∙ ap (λ (vs : List Value). first ∷ vs) (sym (next_worths-more over (take i aggs) a c mine) ∙ ap (λ (some : List Agg). next_worths over some c mine) (sym front))
