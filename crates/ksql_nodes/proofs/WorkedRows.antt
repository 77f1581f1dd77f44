-- Worked examples, by evaluation.
use Rattle.std.proofs.Common.{◌≡◌, ◌∙◌, ap, refl, sym, ℕ, ◌+◌, List, [], ◌∷◌, ◌++◌}
use Rattle.std.specs.Prelude.{Option, Some, None, pos, negsuc}
use Rattle.std.specs.Int.{int_wrap}
use Rattle.ksql_types.specs.Lane.{hash}
use Rattle.ksql_types.specs.declared.value.SqlType.{SqlType}
use Rattle.ksql_types.specs.declared.value.SqlType.TheVariants as sql
use Rattle.ksql_types.specs.declared.value.Value.{Value}
use Rattle.ksql_types.specs.declared.value.Value.TheVariants.{Null, Int, Big, Txt}
use Rattle.ksql_types.specs.declared.relation.Kind.TheVariants as kind
use Rattle.ksql_place.specs.declared.change.Body.{Body}
use Rattle.ksql_place.specs.declared.change.Body.TheVariants.{Said, Turned}
use Rattle.ksql_place.specs.declared.change.Change.{Change}
use Rattle.ksql_expr.specs.Value.{value_of, node_value, cell}
use Rattle.ksql_expr.specs.declared.typed.AggFun.TheVariants.{CountAll, Sum, Min, Max, Latest}
use Rattle.ksql_expr.specs.declared.typed.Typed.{Typed, fold-roll-Typed}
use Rattle.ksql_expr.specs.declared.typed.TypedNode.{TypedNode, fold-TypedNode, fold-roll-TypedNode}
use Rattle.ksql_expr.specs.declared.typed.TypedNode.TheOpen.{TypedNode-F}
use Rattle.ksql_expr.specs.declared.typed.TypedNode.TheVariants as node
use Rattle.ksql_program.specs.declared.query.Agg.{Agg}
use Rattle.ksql_program.specs.declared.query.JoinKind.TheVariants.{Inner, Left, Full}
use Rattle.ksql_nodes.specs.declared.node.Node.TheVariants.{Table, Group, Aggregate, JoinTables, JoinStreamTable}
use Rattle.ksql_nodes.specs.declared.node.Side.{Side}
use Rattle.ksql_nodes.specs.Entries.{Entry, results, from_side, through, is_same_key}
use Rattle.ksql_nodes.specs.Aggregates.{aggregate}
use Rattle.ksql_nodes.specs.Nodes.{gives}
use Rattle.ksql_nodes.specs.TableAggregates.{aggregate_of_table}

-- ---- changes of the examples

abbrev column : ℕ → Typed
column i = record { ty = Some sql.Text; node = node.Column i }

column-value : (row : List Value) (time i : ℕ) → value_of row time (column i) ≡ cell row i
unfolding value_of
column-value row time i =
    fold-roll-Typed (Option SqlType → Value) Value (Value × Value) (node_value row time) (λ e. e.node e.ty) (λ w. (w.cond, w.result)) (record { ty = Some sql.Text; node = node.Column i })
    ∙ ap (λ (n : TypedNode). fold-TypedNode (Option SqlType → Value) Value (Value × Value) (node_value row time) (λ e. e.node e.ty) (λ w. (w.cond, w.result)) n (Some sql.Text))
    (sym (node.rolls-Column i))
    ∙ ap (λ (made : Option SqlType → Value). made (Some sql.Text))
    (fold-roll-TypedNode (Option SqlType → Value) Value (Value × Value) (node_value row time) (λ e. e.node e.ty) (λ w. (w.cond, w.result)) (TypedNode-F.Column i))

abbrev count_all : Agg
count_all = record { fun = CountAll; arg = None }

abbrev text : ℕ → Value
text letter = Txt (letter ∷ [])

abbrev big : ℕ → Value
big n = Big (pos n)

abbrev int : ℕ → Value
int n = Int (pos n)

-- a change that a record of a topic causes
abbrev change : ℕ → ℕ → List ℕ → ℕ → List Value → Body → Change
change topic offset path time key body = record {
  place = record { stamp = record { feed = 1; high = time; topic = topic; part = 0; offset = offset }; path = path };
  time = time;
  key = key;
  span = None;
  body = body;
}

abbrev on_left : Change → Entry
on_left c = record { side = 0; change = c }

abbrev on_right : Change → Entry
on_right c = record { side = 1; change = c }

-- the key a
abbrev key_a : List Value
key_a = text 97 ∷ []

-- ---- aggregates of a table

abbrev row_x : List Value
row_x = text 97 ∷ text 120 ∷ []

abbrev row_y : List Value
row_y = text 97 ∷ text 121 ∷ []

-- the records of a declared table: a x, a y, z null, a null
abbrev declared : List Change
declared = change 0 0 [] 1 key_a (Turned None (Some row_x)) ∷ change 0 1 [] 2 key_a (Turned None (Some row_y))
    ∷ change 0 2 [] 3 (text 122 ∷ []) (Turned None None) ∷ change 0 3 [] 4 key_a (Turned None None) ∷ []

abbrev counted : ℕ → ℕ → List Value
counted letter n = text letter ∷ big n ∷ []

-- the changes of the groups x and y
abbrev counts : List Change
counts = change 0 0 (0 ∷ []) 1 (text 120 ∷ []) (Turned None (Some (counted 120 1)))
    ∷ change 0 1 (0 ∷ []) 2 (text 120 ∷ []) (Turned (Some (counted 120 1)) (Some (counted 120 0)))
    ∷ change 0 1 (1 ∷ []) 2 (text 121 ∷ []) (Turned None (Some (counted 121 1)))
    ∷ change 0 3 (0 ∷ []) 4 (text 121 ∷ []) (Turned (Some (counted 121 1)) (Some (counted 121 0))) ∷ []

-- A row that moves leaves its group and enters another. A group that has lost its rows counts 0, and a tombstone of a
-- key that isn't there changes nothing.
pub a_moved_row_leaves_its_group :
    through (gives 1 (Table 0) ∷ gives 1 (Group (column 1 ∷ [])) ∷ gives 1 (Aggregate kind.Table (count_all ∷ []) None) ∷ []) (from_side 0 declared)
    ≡ counts
unfolding gives is_same_key int_wrap hash
a_moved_row_leaves_its_group = simp column-value refl

-- the rows that the table holds in each group give the same changes
pub a_moved_row_is_held_by_its_group :
    through (gives 1 (Table 0) ∷ aggregate_of_table (column 1 ∷ []) (count_all ∷ []) ∷ []) (from_side 0 declared) ≡ counts
unfolding gives is_same_key int_wrap hash
a_moved_row_is_held_by_its_group = simp column-value refl

-- ---- windows

-- a record of a stream of one column, with the key a
abbrev said_at : ℕ → ℕ → Change
said_at offset time = change 0 offset [] time key_a (Said (text 97 ∷ []))

abbrev window_row : ℕ → ℕ → List Value
window_row n start = text 97 ∷ big n ∷ big start ∷ big (start + 10) ∷ []

-- a change in a window of 10, the index-th of its time
abbrev in_window : ℕ → ℕ → ℕ → ℕ → Option (List Value) → List Value → Change
in_window offset time index start old new = record (change 0 offset (index ∷ []) time key_a (Turned old (Some new))) {
  span = Some (record { start = start; end = start + 10 });
}

-- tumbling windows of 10 with a grace of 5: at stream time 24 a record of 12 is still counted, and at 25 it comes too
-- late
pub a_late_record_stays_out :
    through (gives 1 (Group (column 0 ∷ [])) ∷ gives 1 (Aggregate kind.Stream (count_all ∷ []) (Some (record { size = 10; advance = 10; grace = 5 }))) ∷ [])
    (from_side 0 (said_at 0 24 ∷ said_at 1 12 ∷ said_at 2 25 ∷ said_at 3 12 ∷ []))
    ≡ in_window 0 24 0 20 None (window_row 1 20) ∷ in_window 1 12 0 10 None (window_row 1 10)
    ∷ in_window 2 25 0 20 (Some (window_row 1 20)) (window_row 2 20) ∷ []
unfolding gives is_same_key int_wrap hash
a_late_record_stays_out = simp column-value refl

-- hopping windows of 10 that start every 5: a record at 12 is in two of them, and one at 3 only in that from 0
pub hopping_windows_overlap :
    through (gives 1 (Group (column 0 ∷ [])) ∷ gives 1 (Aggregate kind.Stream (count_all ∷ []) (Some (record { size = 10; advance = 5; grace = 86400000 }))) ∷ [])
    (from_side 0 (said_at 0 12 ∷ said_at 1 3 ∷ []))
    ≡ in_window 0 12 0 5 None (window_row 1 5) ∷ in_window 0 12 1 10 None (window_row 1 10) ∷ in_window 1 3 0 0 None (window_row 1 0) ∷ []
unfolding gives is_same_key int_wrap hash
hopping_windows_overlap = simp column-value refl

-- ---- joins

abbrev side : ℕ → Side
side number = record { relation = number; columns = 2 }

abbrev l1 : List Value
l1 = text 97 ∷ int 1 ∷ []

abbrev r2 : List Value
r2 = text 97 ∷ int 2 ∷ []

-- a FULL join has NULLs for the side that is absent, and its row is absent once both are
pub a_full_join_has_nulls_for_a_side :
    results (gives 1 (JoinTables Full (side 0) (side 1))) []
    (on_right (change 1 0 [] 3 key_a (Turned None (Some r2))) ∷ on_left (change 0 0 [] 5 key_a (Turned None (Some l1)))
    ∷ on_left (change 0 1 [] 8 key_a (Turned None None)) ∷ on_right (change 1 1 [] 9 key_a (Turned None None)) ∷ [])
    ≡ change 1 0 (1 ∷ []) 3 key_a (Turned None (Some (Null ∷ Null ∷ r2 ++ key_a)))
    ∷ change 0 0 (0 ∷ []) 5 key_a (Turned (Some (Null ∷ Null ∷ r2 ++ key_a)) (Some (l1 ++ r2 ++ key_a)))
    ∷ change 0 1 (0 ∷ []) 8 key_a (Turned (Some (l1 ++ r2 ++ key_a)) (Some (Null ∷ Null ∷ r2 ++ key_a)))
    ∷ change 1 1 (1 ∷ []) 9 key_a (Turned (Some (Null ∷ Null ∷ r2 ++ key_a)) None) ∷ []
unfolding gives is_same_key int_wrap hash
a_full_join_has_nulls_for_a_side = refl

-- In a LEFT join a tombstone of a key that is absent on its own side triggers nothing. The time of a change is no
-- earlier than that of the other side's row.
pub a_tombstone_of_an_absent_key_triggers_nothing :
    results (gives 1 (JoinTables Left (side 1) (side 0))) []
    (on_right (change 0 0 [] 1 key_a (Turned None None)) ∷ on_left (change 1 0 [] 2 key_a (Turned None (Some l1)))
    ∷ on_right (change 0 1 [] 3 key_a (Turned None None)) ∷ on_right (change 0 2 [] 1 key_a (Turned None (Some r2)))
    ∷ on_left (change 1 1 [] 9 key_a (Turned None None)) ∷ on_left (change 1 2 [] 9 key_a (Turned None None)) ∷ [])
    ≡ change 1 0 (1 ∷ []) 2 key_a (Turned None (Some (l1 ++ Null ∷ Null ∷ [])))
    ∷ record (change 0 2 (0 ∷ []) 1 key_a (Turned (Some (l1 ++ Null ∷ Null ∷ [])) (Some (l1 ++ r2)))) { time = 2 }
    ∷ change 1 1 (1 ∷ []) 9 key_a (Turned (Some (l1 ++ r2)) None) ∷ []
unfolding gives is_same_key
a_tombstone_of_an_absent_key_triggers_nothing = refl

-- a stream's row is joined with the table's row before it, and not with one that it causes itself
pub a_row_is_joined_with_what_stands_before_it :
    results (gives 1 (JoinStreamTable Inner (column 0) (record { relation = 0; columns = 1 }) (side 1))) []
    (on_left (said_at 0 1) ∷ on_right (change 0 0 [] 1 key_a (Turned None (Some (counted 97 1))))
    ∷ on_left (said_at 1 2) ∷ on_right (change 0 1 [] 2 key_a (Turned (Some (counted 97 1)) (Some (counted 97 2)))) ∷ [])
    ≡ change 0 1 [] 2 key_a (Said (text 97 ∷ counted 97 1)) ∷ []
unfolding gives is_same_key
a_row_is_joined_with_what_stands_before_it = simp column-value refl

-- ---- aggregates of values

-- MIN passes over NULL
pub the_least_of_values : aggregate Min (Some sql.Int) (Null ∷ int 3 ∷ int 1 ∷ Null ∷ int 2 ∷ []) ≡ int 1
the_least_of_values = refl

-- LATEST_BY_OFFSET passes over NULL
pub the_latest_of_values : aggregate Latest (Some sql.Int) (Null ∷ int 3 ∷ int 1 ∷ Null ∷ []) ≡ int 1
the_latest_of_values = refl

-- MAX of NULLs is NULL, also where its argument has only NULL's type
pub the_greatest_of_nulls : aggregate Max None (Null ∷ []) ≡ Null
the_greatest_of_nulls = refl

-- SUM of INTEGER wraps around
pub a_sum_wraps_around : aggregate Sum (Some sql.Int) (int 2147483647 ∷ Null ∷ int 1 ∷ []) ≡ Int (negsuc 2147483647)
unfolding int_wrap
a_sum_wraps_around = refl
