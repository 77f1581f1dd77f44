-- What nodes give for changes with short values of UTF-8 are such changes.
use Rattle.std.proofs.Common.{ℕ, zero, suc, ◌<◌, List, [], ◌∷◌, ◌++◌, map, Bool, true, false}
use Rattle.std.specs.Prelude.{◌==◌, not, filter, max, replicate, if◌then◌else◌, Option, Some, None, option_map, option_and_then, unwrap_or, IfSome}
use Rattle.std.specs.List.{AllByRecursion, enumerate_from, fold, last_or}
use Rattle.std.specs.Ordering.{is_gt, is_lt}
use Rattle.std.specs.declared.cmp.Ordering.{Ordering}
use Rattle.ksql_types.specs.Key.{is_key, is_null}
use Rattle.ksql_types.specs.declared.relation.Kind.{Kind}
use Rattle.ksql_types.specs.declared.relation.Kind.TheVariants as kind
use Rattle.ksql_types.specs.declared.relation.Span.{Span}
use Rattle.ksql_types.specs.declared.relation.Window.{Window}
use Rattle.ksql_types.specs.declared.value.SqlType.{SqlType}
use Rattle.ksql_types.specs.declared.value.Value.{Value}
use Rattle.ksql_types.specs.declared.value.Value.TheVariants.{Null}
use Rattle.ksql_place.specs.Said.{row_in, row_out}
use Rattle.ksql_place.specs.declared.change.Body.{Body}
use Rattle.ksql_place.specs.declared.change.Body.TheVariants.{Said, Turned}
use Rattle.ksql_place.specs.declared.change.Change.{Change}
use Rattle.ksql_expr.specs.declared.typed.AggFun.{AggFun}
use Rattle.ksql_expr.specs.declared.typed.AggFun.TheVariants.{CountAll, Count, Sum, Min, Max, Latest, Earliest}
use Rattle.ksql_expr.specs.declared.typed.Typed.{Typed}
use Rattle.ksql_expr.specs.Value.{is_true_value, value_of}
use Rattle.ksql_program.specs.declared.query.Agg.{Agg}
use Rattle.ksql_program.specs.declared.query.JoinKind.{JoinKind}
use Rattle.ksql_program.specs.declared.query.JoinKind.TheVariants.{Inner, Left, Full}
use Rattle.ksql_nodes.specs.declared.node.Node.{Node}
use Rattle.ksql_nodes.specs.declared.node.Node.TheVariants.{Rekey, Table, JoinStreamTable, JoinTables, Filter, Group, Aggregate, Having, Select}
use Rattle.ksql_nodes.specs.declared.node.Side.{Side}
use Rattle.ksql_nodes.specs.Aggregates.{Dated, aggregate, argument, arguments, better, dated, entered, group_change, outcome, present, type_of_agg, window_cells, worth}
use Rattle.ksql_nodes.specs.Entries.{Entry, Row, is_same_key, of_key, of_side, row_after, time_after}
use Rattle.ksql_nodes.specs.Groups.{Member, grouped, in_group, member, moved}
use Rattle.ksql_nodes.specs.Joins.{join_key, join_row, join_tables, joined, joined_from, or_nulls, other_side, rekeyed, side_step}
use Rattle.ksql_nodes.specs.Nodes.{gives}
use Rattle.ksql_nodes.specs.Rows.{at_path, by_rows, filtered, key_of, passing, selected, selected_key, turned, values, with_body}
use Rattle.ksql_nodes.specs.Windows.{Timed, added, is_added, timed, window_change, windowed, windows_of, with_times}
use Rattle.ksql_nodes.proofs.Lists.{All-append}
use Rattle.meaning_laws.proofs.Lists.{All-filter, All-map}
use Rattle.meaning_laws.proofs.Sizes.{All-flat_map, Gives, last-holds, timed-hold}
use Rattle.short_laws.specs.Short.{HoldsProperTexts, IsProper, KeepsProper}
use Rattle.short_laws.proofs.ShortValues.{first-proper, number-proper, values-proper}
use Rattle.short_laws.proofs.WindowSpans.{windows-forward}

-- ---- rows

abbrev pub IsProperRow : Row → Type 0
IsProperRow row = AllByRecursion IsProper row

abbrev pub HasProperRow : Option Row → Type 0
HasProperRow o = IfSome o IsProperRow

abbrev pub HasProperRows : Body → Type 0
HasProperRows (Said row) = IsProperRow row
HasProperRows (Turned old new) = HasProperRow old × HasProperRow new

-- a window, if any, starts before it ends
abbrev pub IsForward : Option Span → Type 0
IsForward o = IfSome o (λ s. s.start < s.end)

-- a change with proper values, whose window, if any, starts before it ends, by recursion
abbrev pub IsTame : Change → Type 0
IsTame c = IsProperRow c.key × (HasProperRows c.body × IsForward c.span)

abbrev pub IsTameEntry : Entry → Type 0
IsTameEntry e = IsTame e.change

pub in-proper : (b : Body) → HasProperRows b → HasProperRow (row_in b)
in-proper (Said row) h = h
in-proper (Turned old new) h = h.1

out-proper : (b : Body) → HasProperRows b → HasProperRow (row_out b)
out-proper (Said row) h = tt
out-proper (Turned old new) h = h.0

nulls-proper : (n : ℕ) → IsProperRow (replicate n Null)
nulls-proper zero = tt
nulls-proper (suc n) = ((tt, tt), nulls-proper n)

-- the values of expressions
pub all-proper : (es : List Typed) (time : ℕ) (row : Row) → AllByRecursion HoldsProperTexts es → IsProperRow row → IsProperRow (values es time row)
all-proper [] time row h r = tt
all-proper (e ∷ es) time row h r = (values-proper row time e r h.0, all-proper es time row h.1 r)

key_of-proper : (cells : List Value) → IsProperRow cells → IsProperRow (key_of cells)
key_of-proper cells h = by (is_key cells)
  where
    by : (b : Bool) → IsProperRow (if b then cells else [])
    by true = h
    by false = tt

after-proper : (es : List Entry) → AllByRecursion IsTameEntry es → HasProperRow (row_after es)
after-proper es h = by (last_or None es) (last-holds IsTameEntry None es tt h)
  where
    by : (o : Option Entry) → IfSome o IsTameEntry → HasProperRow (option_and_then (λ (e : Entry). row_in e.change.body) o)
    by None h = tt
    by (Some e) h = in-proper e.change.body h.1.0

-- ---- bodies

turned-proper : (old new : Option Row) → HasProperRow old → HasProperRow new → IfSome (turned old new) HasProperRows
turned-proper None None ho hn = tt
turned-proper None (Some new) ho hn = (tt, hn)
turned-proper (Some old) None ho hn = (ho, tt)
turned-proper (Some old) (Some new) ho hn = (ho, hn)

-- a change with another body
with-tame : (c : Change) → IsProperRow c.key → IsForward c.span → (o : Option Body) → IfSome o HasProperRows → AllByRecursion IsTame (with_body c o)
with-tame c key span None h = tt
with-tame c key span (Some body) h = ((key, (h, span)), tt)

rekeyed-tame : (key : List Value) (c : Change) → IsProperRow key → IsTame c → AllByRecursion IsTame (rekeyed key c)
rekeyed-tame [] c k h = tt
rekeyed-tame (x ∷ xs) c k h = ((k, h.1), tt)

if-tame : (t : Bool) (cs : List Change) → AllByRecursion IsTame cs → AllByRecursion IsTame (if t then cs else [])
if-tame true cs h = h
if-tame false cs h = tt

join_key-proper : (on : Typed) (c : Change) → HoldsProperTexts on → IsTame c → IsProperRow (join_key on c)
join_key-proper on c fine h = by c.body h.1.0
  where
    by : (b : Body) → HasProperRows b → IsProperRow (join_key on (record c { body = b }))
    by (Said row) r = key_of-proper (value_of row c.time on ∷ []) (values-proper row c.time on r fine, tt)
    by (Turned old new) r = tt

-- ---- each row by itself

mapped-proper : (f : Row → Option Row) → ((row : Row) → IsProperRow row → HasProperRow (f row)) → (o : Option Row) → HasProperRow o → HasProperRow (option_and_then f o)
mapped-proper f keeps None h = tt
mapped-proper f keeps (Some row) h = keeps row h

rows-proper : (f : Row → Option Row) → ((row : Row) → IsProperRow row → HasProperRow (f row)) → (b : Body) → HasProperRows b → IfSome (by_rows f b) HasProperRows
rows-proper f keeps (Said row) h = by (f row) (keeps row h)
  where
    by : (o : Option Row) → HasProperRow o → IfSome (option_map (λ (r : Row). Said r) o) HasProperRows
    by None r = tt
    by (Some row) r = r
rows-proper f keeps (Turned old new) h = turned-proper (option_and_then f old) (option_and_then f new) (mapped-proper f keeps old h.0) (mapped-proper f keeps new h.1)

passing-proper : (on : Typed) (time : ℕ) (row : Row) → IsProperRow row → HasProperRow (passing on time row)
passing-proper on time row h = by (is_true_value (value_of row time on))
  where
    by : (b : Bool) → HasProperRow (if b then Some row else None)
    by true = h
    by false = tt

filtered-tame : (on : Typed) (c : Change) → IsTame c → AllByRecursion IsTame (filtered on c)
filtered-tame on c h = with-tame c h.0 h.1.1 _ (rows-proper (passing on c.time) (passing-proper on c.time) c.body h.1.0)

selected-proper : (keys : List Typed) (c : Change) → AllByRecursion HoldsProperTexts keys → IsTame c → IsProperRow (selected_key keys c)
selected-proper keys c fine h = by c.body h.1.0
  where
    by : (b : Body) → HasProperRows b → IsProperRow (selected_key keys (record c { body = b }))
    by (Said row) r = key_of-proper (values keys c.time row) (all-proper keys c.time row fine r)
    by (Turned old new) r = h.0

selected-tame : (keys items : List Typed) (c : Change) → AllByRecursion HoldsProperTexts keys → AllByRecursion HoldsProperTexts items → IsTame c → AllByRecursion IsTame (selected keys items c)
selected-tame keys items c ks is h =
    with-tame (record c { key = selected_key keys c }) (selected-proper keys c ks h) h.1.1 _
    (rows-proper (λ row. Some (values items c.time row)) (λ row r. all-proper items c.time row is r) c.body h.1.0)

-- ---- groups

member-proper : (keys : List Typed) (time : ℕ) (row : Row) → AllByRecursion HoldsProperTexts keys → IsProperRow row → IfSome (member keys time row) (λ m. IsProperRow m.group × IsProperRow m.row)
member-proper keys time row fine h = by (is_key (values keys time row))
  where
    by : (b : Bool) → IfSome (if b then Some (record { group = values keys time row; row = row }) else None) (λ (m : Member). IsProperRow m.group × IsProperRow m.row)
    by true = (all-proper keys time row fine h, h)
    by false = tt

members-proper : (keys : List Typed) (time : ℕ) (o : Option Row) → AllByRecursion HoldsProperTexts keys → HasProperRow o →
    IfSome (option_and_then (member keys time) o) (λ m. IsProperRow m.group × IsProperRow m.row)
members-proper keys time None fine h = tt
members-proper keys time (Some row) fine h = member-proper keys time row fine h

moved-tame : (c : Change) → IsForward c.span → (old new : Option Member) → IfSome old (λ m. IsProperRow m.group × IsProperRow m.row) → IfSome new (λ m. IsProperRow m.group × IsProperRow m.row) →
    AllByRecursion IsTame (moved c old new)
moved-tame c span None None ho hn = tt
moved-tame c span (Some l) None ho hn = ((ho.0, ((ho.1, tt), span)), tt)
moved-tame c span None (Some r) ho hn = ((hn.0, ((tt, hn.1), span)), tt)
moved-tame c span (Some l) (Some r) ho hn = by (is_same_key l.group r.group)
  where
    by : (b : Bool) → AllByRecursion IsTame
        (if b then in_group r.group 0 c (Turned (Some l.row) (Some r.row)) ∷ []
        else in_group l.group 0 c (Turned (Some l.row) None) ∷ in_group r.group 1 c (Turned None (Some r.row)) ∷ [])
    by true = ((hn.0, ((ho.1, hn.1), span)), tt)
    by false = ((ho.0, ((ho.1, tt), span)), ((hn.0, ((tt, hn.1), span)), tt))

grouped-tame : (keys : List Typed) (c : Change) → AllByRecursion HoldsProperTexts keys → IsTame c → AllByRecursion IsTame (grouped keys c)
grouped-tame keys c fine h = by c.body h.1.0
  where
    by : (b : Body) → HasProperRows b → AllByRecursion IsTame (grouped keys (record c { body = b }))
    by (Said row) r = rekeyed-tame _ (record c { body = Said row }) (key_of-proper (values keys c.time row) (all-proper keys c.time row fine r)) (h.0, (r, h.1.1))
    by (Turned old new) r =
        moved-tame (record c { body = Turned old new }) h.1.1 _ _ (members-proper keys c.time old fine r.0) (members-proper keys c.time new fine r.1)

-- ---- aggregates

present-proper : (vs : List Value) → IsProperRow vs → IsProperRow (present vs)
present-proper vs h = All-filter IsProper (λ v. not (is_null v)) vs h

best-proper : (test : Ordering → Bool) (best : Value) (vs : List Value) → IsProper best → IsProperRow vs → IsProper (fold (better test) best vs)
best-proper test best [] b h = b
best-proper test best (v ∷ vs) b h = best-proper test (better test best v) vs (by _) h.1
  where
    by : (t : Bool) → IsProper (if t then v else best)
    by true = h.0
    by false = b

last-proper : (o : Option Value) (vs : List Value) → IfSome o IsProper → IsProperRow vs → IsProper (unwrap_or (last_or o vs) Null)
last-proper None [] o h = (tt, tt)
last-proper (Some v) [] o h = o
last-proper o (v ∷ vs) h hs = last-proper (Some v) vs hs.0 hs.1

aggregate-proper : (f : AggFun) (ty : Option SqlType) (vs : List Value) → IsProperRow vs → IsProper (aggregate f ty vs)
aggregate-proper Min ty vs h = best-proper is_lt Null (present vs) (tt, tt) (present-proper vs h)
aggregate-proper Max ty vs h = best-proper is_gt Null (present vs) (tt, tt) (present-proper vs h)
aggregate-proper Latest ty vs h = last-proper None (present vs) tt (present-proper vs h)
aggregate-proper Earliest ty vs h = first-proper vs h
aggregate-proper CountAll ty vs h = number-proper ty _
aggregate-proper Count ty vs h = number-proper ty _
aggregate-proper Sum ty vs h = number-proper ty _

abbrev HasProperArgument : Agg → Type 0
HasProperArgument a = IfSome a.arg HoldsProperTexts

pub argument-proper : (arg : Option Typed) (row : Row) (time : ℕ) → IfSome arg HoldsProperTexts → IsProperRow row → IsProper (argument arg (record { row = row; time = time }))
argument-proper None row time fine h = (tt, tt)
argument-proper (Some e) row time fine h = values-proper row time e h fine

arguments-proper : (arg : Option Typed) → IfSome arg HoldsProperTexts → (rows : List Dated) → AllByRecursion (λ r. IsProperRow r.row) rows → IsProperRow (arguments arg rows)
arguments-proper arg fine [] h = tt
arguments-proper arg fine (r ∷ rs) h = (argument-proper arg r.row r.time fine h.0, arguments-proper arg fine rs h.1)

entered-proper : (es : List Entry) → AllByRecursion IsTameEntry es → AllByRecursion (λ r. IsProperRow r.row) (entered es)
entered-proper [] h = tt
entered-proper (e ∷ es) h = All-append (λ (r : Dated). IsProperRow r.row) (dated e.change.time (row_in e.change.body)) (entered es) (by (row_in e.change.body) (in-proper e.change.body h.0.1.0)) (entered-proper es h.1)
  where
    by : (o : Option Row) → HasProperRow o → AllByRecursion (λ (r : Dated). IsProperRow r.row) (dated e.change.time o)
    by None h = tt
    by (Some row) h = (h, tt)

worth-proper : (over : Kind) (es : List Entry) (a : Agg) → HasProperArgument a → AllByRecursion IsTameEntry es → IsProper (worth over es a)
worth-proper kind.Stream es a fine h = aggregate-proper a.fun (type_of_agg a) (arguments a.arg (entered es)) (arguments-proper a.arg fine (entered es) (entered-proper es h))
worth-proper kind.Table es a fine h = number-proper (type_of_agg a) _
worth-proper kind.Windowed es a fine h = number-proper (type_of_agg a) _

worths-proper : (over : Kind) (aggs : List Agg) (es : List Entry) → AllByRecursion HasProperArgument aggs → AllByRecursion IsTameEntry es → IsProperRow (map (worth over es) aggs)
worths-proper over [] es fine h = tt
worths-proper over (a ∷ aggs) es fine h = (worth-proper over es a fine.0 h, worths-proper over aggs es fine.1 h)

cells-proper : (span : Option Span) → IsProperRow (window_cells span)
cells-proper None = tt
cells-proper (Some s) = ((tt, tt), ((tt, tt), tt))

outcome-proper : (over : Kind) (aggs : List Agg) (group : List Value) (span : Option Span) (es : List Entry) → AllByRecursion HasProperArgument aggs → IsProperRow group → AllByRecursion IsTameEntry es →
    HasProperRow (outcome over aggs group span es)
outcome-proper over aggs group span [] fine g h = tt
outcome-proper over aggs group span (e ∷ es) fine g h =
    All-append IsProper (group ++ map (worth over (e ∷ es)) aggs) (window_cells span)
    (All-append IsProper group (map (worth over (e ∷ es)) aggs) g (worths-proper over aggs (e ∷ es) fine h)) (cells-proper span)

module _ (over : Kind) (aggs : List Agg) (fine : AllByRecursion HasProperArgument aggs) where
  group-tame : (span : Option Span) → IsForward span → (mine : List Entry) → AllByRecursion IsTameEntry mine → (e : Entry) → IsTameEntry e → IsTame (group_change over aggs span mine e)
  group-tame span forward mine past e now = (
    now.0,
    (
      (
        outcome-proper over aggs e.change.key span mine fine now.0 past,
        outcome-proper over aggs e.change.key span (mine ++ e ∷ []) fine now.0 (All-append IsTameEntry mine (e ∷ []) past (now, tt)),
      ),
      forward,
    ),
  )

  -- the change of one window of an entry
  window-tame : (w : Window) (before : List Timed) → AllByRecursion (λ t. IsTameEntry t.entry) before → (t : Timed) → IsTameEntry t.entry → (p : ℕ × Span) → p.1.start < p.1.end →
      AllByRecursion IsTame (window_change over aggs w before t p)
  window-tame w before past t now (i, span) forward =
      if-tame (is_added w span t) _ (
        group-tame (Some span) forward (added w span t.entry.change.key before)
            (All-map IsTameEntry (λ (t : Timed). t.entry) (filter _ before) (All-filter (λ (t : Timed). IsTameEntry t.entry) _ before past)) t.entry now,
        tt,
      )

  -- the changes of all its windows
  windowed-tame : (w : Window) (before : List Timed) → AllByRecursion (λ t. IsTameEntry t.entry) before → (t : Timed) → IsTameEntry t.entry → AllByRecursion IsTame (windowed over aggs w before t)
  windowed-tame w before past t now =
      All-flat_map IsTame (window_change over aggs w before t) (λ p. p.1.start < p.1.end) (window-tame w before past t now)
      (enumerate_from 0 (windows_of w t.entry.change.time)) (windows-forward w t.entry.change.time)

-- ---- joins

or_nulls-proper : (side : Side) (o : Option Row) → HasProperRow o → IsProperRow (or_nulls side o)
or_nulls-proper side None h = nulls-proper side.columns
or_nulls-proper side (Some row) h = h

joined-proper : (k : JoinKind) (l r : Side) (key : List Value) (left right : Option Row) → IsProperRow key → HasProperRow left → HasProperRow right → HasProperRow (joined k l r key left right)
joined-proper Inner l r key (Some a) (Some b) hk ha hb = All-append IsProper a b ha hb
joined-proper Inner l r key (Some a) None hk ha hb = tt
joined-proper Inner l r key None b hk ha hb = tt
joined-proper Left l r key (Some a) b hk ha hb = All-append IsProper a (or_nulls r b) ha (or_nulls-proper r b hb)
joined-proper Left l r key None b hk ha hb = tt
joined-proper Full l r key (Some a) b hk ha hb =
    All-append IsProper (a ++ or_nulls r b) key (All-append IsProper a (or_nulls r b) ha (or_nulls-proper r b hb)) hk
joined-proper Full l r key None (Some b) hk ha hb =
    All-append IsProper (or_nulls l None ++ b) key (All-append IsProper (or_nulls l None) b (nulls-proper l.columns) hb) hk
joined-proper Full l r key None None hk ha hb = tt

said-proper : (o : Option Row) → HasProperRow o → IfSome (option_map (λ (row : Row). Said row) o) HasProperRows
said-proper None h = tt
said-proper (Some row) h = h

row-tame : (k : JoinKind) (l r : Side) (before : List Entry) → AllByRecursion IsTameEntry before → (c : Change) → IsTame c → AllByRecursion IsTame (join_row k l r before c)
row-tame k l r before past c h =
    with-tame c h.0 h.1.1 _
    (said-proper _ (joined-proper k l r [] (row_in c.body) (row_after (of_side 1 (of_key c.key before))) tt (in-proper c.body h.1.0)
    (after-proper (of_side 1 (of_key c.key before)) (All-filter IsTameEntry _ (of_key c.key before) (All-filter IsTameEntry _ before past)))))

from-proper : (side : ℕ) (k : JoinKind) (l r : Side) (key : List Value) (own other : Option Row) → IsProperRow key → HasProperRow own → HasProperRow other →
    HasProperRow (joined_from side k l r key own other)
from-proper side k l r key own other hk ho hr = by (side == 0)
  where
    by : (b : Bool) → HasProperRow (if b then joined k l r key own other else joined k l r key other own)
    by true = joined-proper k l r key own other hk ho hr
    by false = joined-proper k l r key other own hk hr ho

tables-tame : (k : JoinKind) (l r : Side) (before : List Entry) → AllByRecursion IsTameEntry before → (e : Entry) → IsTameEntry e → AllByRecursion IsTame (join_tables k l r before e)
tables-tame k l r before past e now =
    with-tame (record (at_path (side_step e.side l r ∷ c.place.path) c) { time = max c.time (time_after others) }) now.0 now.1.1 _
    (by (turned (row_after mine) (row_in c.body)) (turned-proper (row_after mine) (row_in c.body) (rows-after e.side) (in-proper c.body now.1.0)))
  where
    c : Change
    c = e.change

    mine : List Entry
    mine = of_side e.side (of_key c.key before)

    others : List Entry
    others = of_side (other_side e.side) (of_key c.key before)

    rows-after : (side : ℕ) → HasProperRow (row_after (of_side side (of_key c.key before)))
    rows-after side = after-proper (of_side side (of_key c.key before)) (All-filter IsTameEntry _ (of_key c.key before) (All-filter IsTameEntry _ before past))

    joined_with : Option Row → Option Row
    joined_with own = joined_from e.side k l r c.key own (row_after others)

    with-proper : (own : Option Row) → HasProperRow own → HasProperRow (joined_with own)
    with-proper own h = from-proper e.side k l r c.key own (row_after others) now.0 h (rows-after (other_side e.side))

    by : (o : Option Body) → IfSome o HasProperRows → IfSome (option_and_then (λ own. turned (joined_with (row_out own)) (joined_with (row_in own))) o) HasProperRows
    by None h = tt
    by (Some body) h = turned-proper (joined_with (row_out body)) (joined_with (row_in body)) (with-proper (row_out body) (out-proper body h)) (with-proper (row_in body) (in-proper body h))

-- ---- the nodes

pub node-tame : (n : ℕ) (node : Node) → KeepsProper node → Gives IsTame IsTame (gives n node)
unfolding gives
node-tame n (Rekey key) fine before past e now = rekeyed-tame _ e.change (join_key-proper key e.change fine now) now
node-tame n (Table relation) fine before past e now =
    with-tame e.change now.0 now.1.1 _
    (turned-proper (row_after (of_key e.change.key before)) (row_in e.change.body) (after-proper (of_key e.change.key before) (All-filter IsTameEntry _ before past)) (in-proper e.change.body now.1.0))
node-tame n (JoinStreamTable kind on l r) fine before past e now =
    if-tame (e.side == 0) _
    (All-flat_map IsTame (join_row kind l r before) IsTame (row-tame kind l r before past) (rekeyed (join_key on e.change) e.change)
    (rekeyed-tame (join_key on e.change) e.change (join_key-proper on e.change fine now) now))
node-tame n (JoinTables kind l r) fine before past e now = tables-tame kind l r before past e now
node-tame n (Filter on) fine before past e now = filtered-tame on e.change now
node-tame n (Group keys) fine before past e now = grouped-tame keys e.change fine now
node-tame n (Aggregate over aggs None) fine before past e now = (group-tame over aggs fine None tt (of_key e.change.key before) (All-filter IsTameEntry _ before past) e now, tt)
node-tame n (Aggregate over aggs (Some w)) fine before past e now = windowed-tame over aggs fine w (with_times n before) (timed-hold IsTameEntry n [] before past) (timed n before e) now
node-tame n (Having on) fine before past e now = filtered-tame on e.change now
node-tame n (Select keys vs) fine before past e now = selected-tame keys vs e.change fine.0 fine.1 now
