-- A table after some entries, with the groups of their rows.
use Rattle.std.specs.Prelude.{ℕ, ◌||◌, Bool, false, List, ◌++◌, map, filter, Option, None, unwrap_or, option_map, option_and_then}
use Rattle.ksql_types.specs.declared.value.Value.{Value}
use Rattle.ksql_place.specs.Said.{row_in, row_out}
use Rattle.ksql_place.specs.declared.change.Body.TheVariants.{Turned}
use Rattle.ksql_place.specs.declared.change.Change.{Change}
use Rattle.ksql_expr.specs.declared.typed.Typed.{Typed}
use Rattle.ksql_program.specs.declared.query.Agg.{Agg}
use Rattle.ksql_nodes.specs.Entries.{Row, Entry, is_same_key, latest_time}
use Rattle.ksql_nodes.specs.Groups.{member}
use Rattle.ksql_nodes.specs.Aggregates.{entered, aggregate, arguments, type_of_agg, unless_none}
use Rattle.ksql_nodes.specs.TableAggregates.{standing}
use Rattle.reference.specs.Steps.{entry_of}
use Rattle.reference.specs.declared.table_groups.EntryInGroups.{EntryInGroups}
use Rattle.reference.specs.declared.table_groups.TableView.{TableView}
use Rattle.reference.specs.declared.table_groups.StandingEntry.{StandingEntry}

-- an entry and the groups of its old row and its new row
pub record InGroups : Type 0 where
  pub entry : Entry
  pub old_group : Option (List Value)
  pub new_group : Option (List Value)

-- the group that a row is in
abbrev pub group_of : List Typed → ℕ → Option Row → Option (List Value)
group_of keys time row = option_map (λ m. m.group) (option_and_then (member keys time) row)

-- an entry with its groups
abbrev pub in_groups : List Typed → Entry → InGroups
in_groups keys e =
    let c = e.change in
    record { entry = e; old_group = group_of keys c.time (row_out c.body); new_group = group_of keys c.time (row_in c.body) }

-- a borrowed one
abbrev pub lent : EntryInGroups → InGroups
lent e = record { entry = entry_of e.entry; old_group = e.old_group; new_group = e.new_group }

abbrev pub entries_of : List EntryInGroups → List Entry
entries_of es = map (λ e. entry_of e.entry) es

-- an entry and the group of its new row
pub record InGroup : Type 0 where
  pub entry : Entry
  pub group : Option (List Value)

abbrev pub standing_of : InGroups → InGroup
standing_of g = record { entry = g.entry; group = g.new_group }

abbrev pub lent_standing : StandingEntry → InGroup
lent_standing s = record { entry = entry_of s.entry; group = option_map (λ k. k.now) s.group }

-- a table after some entries: all of them with their groups, and the latest of each key
pub record View : Type 0 where
  pub entries : List InGroups
  pub standing : List InGroup

abbrev pub view_of : List Typed → List Entry → View
view_of keys es = record { entries = map (in_groups keys) es; standing = map (λ e. standing_of (in_groups keys e)) (standing es) }

abbrev pub lent_view : TableView → View
lent_view k = record { entries = map lent k.entries.now; standing = map lent_standing k.standing.now }

-- whether a row's group is this one
abbrev pub is_group : List Value → Option (List Value) → Bool
is_group group of_row = unwrap_or (option_map (λ g. is_same_key g group) of_row) false

-- the entries whose old row or new row is in a group
abbrev pub view_touching : List Value → List InGroups → List Entry
view_touching group es = map (λ e. e.entry) (filter (λ e. is_group group e.old_group || is_group group e.new_group) es)

-- the latest entries whose new row is in a group
abbrev pub view_held : List Value → List InGroup → List Entry
view_held group es = map (λ e. e.entry) (filter (λ e. is_group group e.group) es)

-- an aggregate over the rows that some entries bring
abbrev pub view_worth : List Entry → Agg → Value
view_worth es a = aggregate a.fun (type_of_agg a) (arguments a.arg (entered es))

-- a group's result in a view of the table
abbrev pub view_outcome : List Agg → List Value → View → Option Row
view_outcome aggs group s = unless_none (view_touching group s.entries) (group ++ map (view_worth (view_held group s.standing)) aggs)

-- the change of a group, from its result before an entry to that after it
abbrev pub view_change : List Agg → View → View → Change → Change
view_change aggs before after c =
    record c { time = latest_time (view_touching c.key after.entries); span = None; body = Turned (view_outcome aggs c.key before) (view_outcome aggs c.key after) }
