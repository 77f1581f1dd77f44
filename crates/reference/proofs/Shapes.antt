-- The changes of a query by its shape: change by change, of a join, and of groups.
use Rattle.std.proofs.Common.{◌≡◌, ◌∙◌, ap, ap₂, sym, refl, subst, ℕ, List, [], ◌∷◌, ◌++◌, map, ◌⊎◌, inl, inr, Result, Ok, Err, ◌<◌, length, get_or, arith}
use Rattle.std.specs.Prelude.{Option, Some, None, IfOk, IsTrue, is_none, option_map, slice_get, unwrap_or}
use Rattle.std.specs.List.{flat_map}
use Rattle.std.proofs.lemmas.Option.{slice_get-map}
use Rattle.ksql_types.specs.declared.relation.Kind.{Kind}
use Rattle.ksql_types.specs.declared.relation.Kind.TheVariants.{Stream, Table, Windowed}
use Rattle.ksql_types.specs.declared.relation.Window.{Window}
use Rattle.ksql_place.specs.declared.change.Change.{Change}
use Rattle.ksql_expr.specs.declared.typed.Typed.{Typed}
use Rattle.ksql_program.specs.declared.program.Item.{Item}
use Rattle.ksql_program.specs.declared.query.Agg.{Agg}
use Rattle.ksql_program.specs.declared.query.From.{From}
use Rattle.ksql_program.specs.declared.query.From.TheVariants.{One, Join}
use Rattle.ksql_program.specs.declared.query.JoinKind.{JoinKind}
use Rattle.ksql_program.specs.declared.query.Query.{Query}
use Rattle.ksql_program.specs.declared.query.Shape.{Shape}
use Rattle.ksql_program.specs.declared.query.Shape.TheVariants.{Plain, Group}
use Rattle.ksql_nodes.specs.declared.node.Node.{Node}
use Rattle.ksql_nodes.specs.declared.node.Node.TheVariants as node
use Rattle.ksql_nodes.specs.Entries.{Entry, Step, from_side, results, through}
use Rattle.ksql_nodes.specs.Nodes.{gives}
use Rattle.ksql_nodes.specs.TableAggregates.{aggregate_of_table}
use Rattle.reference.specs.Windowless.{is_windowless_shape}
use Rattle.reference.specs.Plain.{changes_of, grouping_steps, plain_gives}
use Rattle.query_meaning.specs.Queries.{after_aggregate, changes_at, filter_of, join_of, join_over, key_columns, kind_at, leftmost, partitions_at, query_changes, read_entries, shape_steps, side_at, steps_of, whole_changes}
use Rattle.query_meaning.specs.Parts.{joined_changes}
use Rattle.reference.specs.declared.meaning.Listed.{Listed}
use Rattle.reference.proofs.ChangeByChange.{steps-each}
use Rattle.query_meaning.proofs.QuerySteps.{changed-from-side, query-steps, through-append}

-- the same, from what each step made
pub query-made : (items : List Item) (lists : List (List Change)) (q : Query) (number lanes : ℕ) (over : Kind) (nodes : List Node) (joined filtered : List Change) →
    number ≡ leftmost q.from → lanes ≡ partitions_at items number → over ≡ kind_at items number → nodes ≡ filter_of q.filter →
    joined ≡ joined_changes items lists q.from → filtered ≡ through (map (gives lanes) nodes) (from_side 0 joined) →
    through (shape_steps lanes over q.shape) (from_side 0 filtered) ≡ query_changes items lists q
query-made items lists q number lanes over nodes joined filtered is_number is_lanes is_over is_nodes is_joined is_filtered =
    let n = partitions_at items (leftmost q.from) in
    let k = kind_at items (leftmost q.from) in
    let same : lanes ≡ n = is_lanes ∙ ap (partitions_at items) is_number in
    let kinds : over ≡ k = is_over ∙ ap (kind_at items) is_number in
    let passed : filtered ≡ through (map (gives n) (filter_of q.filter)) (from_side 0 (joined_changes items lists q.from)) =
    is_filtered ∙ ap (λ (l : ℕ). through (map (gives l) nodes) (from_side 0 joined)) same
    ∙ ap₂ (λ (ns : List Node) (cs : List Change). through (map (gives n) ns) (from_side 0 cs)) is_nodes is_joined in
    ap₂ (λ (l : ℕ) (o : Kind). through (shape_steps l o q.shape) (from_side 0 filtered)) same kinds
    ∙ ap (λ (cs : List Change). through (shape_steps n k q.shape) (from_side 0 cs)) passed
    ∙ sym (query-steps items lists q)

-- a query over one relation without a grouping: change by change
pub query-plain : (items : List Item) (lists : List (List Change)) (q : Query) (number : ℕ) (keys values : List Typed) → q.from ≡ One number → q.shape ≡ Plain keys values →
    query_changes items lists q ≡ flat_map (plain_gives (key_columns items number) q.filter keys values) (changes_at lists number)
unfolding query_changes steps_of read_entries
query-plain items lists q number keys values from shape =
    let over : From → Shape → List Change = λ f s.
    through (map (gives (partitions_at items (leftmost f))) (join_of items f ++ filter_of q.filter)
    ++ shape_steps (partitions_at items (leftmost f)) (kind_at items (leftmost f)) s) (read_entries items lists f) in
    ap (λ (f : From). over f q.shape) from ∙ ap (over (One number)) shape
    ∙ steps-each (partitions_at items number) (key_columns items number) q.filter keys values (changes_at lists number)

-- the changes of a relation, wherever they lie
pub found-at : (lists : List Listed) (number : ℕ) (found : Option Listed) → slice_get lists number ≡ found →
    changes_at (map changes_of lists) number ≡ unwrap_or (option_map changes_of found) []
found-at lists number found at = ap (λ (o : Option (List Change)). unwrap_or o []) (slice_get-map changes_of lists number ∙ ap (option_map changes_of) at)

-- the steps of a shape with a grouping without a window
pub grouped-steps : (n : ℕ) (over : Kind) (keys : List Typed) (aggs : List Agg) (having : Option Typed) (values : List Typed) →
    shape_steps n over (Group keys None aggs having values) ≡ grouping_steps n over keys aggs ++ map (gives n) (after_aggregate having values)
grouped-steps n Stream keys aggs having values = refl
grouped-steps n Table keys aggs having values = refl
grouped-steps n Windowed keys aggs having values = refl

-- the groups of a table
pub groups-of-table : (n : ℕ) (over : Kind) (keys : List Typed) (aggs : List Agg) (changes : List Change) → (over ≡ Table) ⊎ (over ≡ Windowed) →
    through (grouping_steps n over keys aggs) (from_side 0 changes) ≡ results (aggregate_of_table keys aggs) [] (from_side 0 changes)
groups-of-table n over keys aggs changes (inl is) =
    ap (λ (k : Kind). through (grouping_steps n k keys aggs) (from_side 0 changes)) is ∙ changed-from-side (results (aggregate_of_table keys aggs) [] (from_side 0 changes))
groups-of-table n over keys aggs changes (inr is) =
    ap (λ (k : Kind). through (grouping_steps n k keys aggs) (from_side 0 changes)) is ∙ changed-from-side (results (aggregate_of_table keys aggs) [] (from_side 0 changes))

no-window : (o : Option Window) → IsTrue (is_none o) → o ≡ None
no-window None h = refl
no-window (Some w) h = cc

-- a shape with a grouping: its groups, and then HAVING and the items
pub shape-grouped : (n : ℕ) (over : Kind) (shape : Shape) (keys : List Typed) (window : Option Window) (aggs : List Agg) (having : Option Typed) (values : List Typed)
    (changes : List Change) → shape ≡ Group keys window aggs having values → IsTrue (is_windowless_shape shape) →
    through (shape_steps n over shape) (from_side 0 changes)
    ≡ through (map (gives n) (after_aggregate having values)) (from_side 0 (through (grouping_steps n over keys aggs) (from_side 0 changes)))
shape-grouped n over shape keys window aggs having values changes is built =
    let none : window ≡ None = no-window window (subst (λ (s : Shape). IsTrue (is_windowless_shape s)) is built) in
    ap (λ (s : Shape). through (shape_steps n over s) (from_side 0 changes)) (is ∙ ap (λ (w : Option Window). Group keys w aggs having values) none)
    ∙ ap (λ (steps : List Step). through steps (from_side 0 changes)) (grouped-steps n over keys aggs having values)
    ∙ through-append (grouping_steps n over keys aggs) (map (gives n) (after_aggregate having values)) changes

-- what a query over one relation reads
pub joined-one : (items : List Item) (lists : List (List Change)) (f : From) (number : ℕ) → f ≡ One number → joined_changes items lists f ≡ whole_changes items lists number
unfolding read_entries
joined-one items lists f number is = ap (joined_changes items lists) is ∙ changed-from-side (whole_changes items lists number)

-- a join has one node
one-join : (items : List Item) (k : JoinKind) (left right : ℕ) (on : Typed) (over : Kind) → (x : Node) × (join_over items k left right on over ≡ x ∷ [])
one-join items k left right on Stream = (node.JoinStreamTable k on (side_at items left) (side_at items right), refl)
one-join items k left right on Table = (node.JoinTables k (side_at items left) (side_at items right), refl)
one-join items k left right on Windowed = (node.JoinTables k (side_at items left) (side_at items right), refl)

-- what a join makes of its entries
pub joined-entries : {T E : Type 0} (r : Result T E) (list : T → List Change) (items : List Item) (lists : List (List Change)) (f : From) (k : JoinKind) (left right : ℕ) (on : Typed)
    (nodes : List Node) (node : Node) (es : List Entry) → f ≡ Join k left right on → nodes ≡ join_over items k left right on (kind_at items left) →
    ((d : Node) → 0 < length nodes → get_or nodes 0 d ≡ node) → es ≡ read_entries items lists (Join k left right on) →
    IfOk r (λ changes. (lanes : ℕ) → list changes ≡ results (gives lanes node) [] es) → IfOk r (λ changes. list changes ≡ joined_changes items lists f)
joined-entries (Ok x) list items lists f k left right on nodes node es is made at read h =
    let n = partitions_at items left in
    let (first, alone) = one-join items k left right on (kind_at items left) in
    let one : nodes ≡ first ∷ [] = made ∙ alone in
    let some : 0 < length nodes = subst (λ (ns : List Node). 0 < length ns) (sym one) (omega arith) in
    let same : first ≡ node = ap (λ (ns : List Node). get_or ns 0 first) (sym one) ∙ at first some in
    h n ∙ sym (changed-from-side (results (gives n node) [] es))
    ∙ ap (λ (y : Node). through (gives n y ∷ []) es) (sym same)
    ∙ ap (λ (ns : List Node). through (map (gives n) ns) es) (sym alone)
    ∙ ap (through (map (gives n) (join_over items k left right on (kind_at items left)))) read
    ∙ ap (joined_changes items lists) (sym is)
joined-entries (Err e) list items lists f k left right on nodes node es is made at read h = tt
