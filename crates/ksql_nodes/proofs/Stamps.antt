-- What a node gives has the stamp of its entry.
use Rattle.std.proofs.Common.{◌≡◌, refl, ℕ, List, [], ◌∷◌, Bool, true, false, cond}
use Rattle.std.specs.Prelude.{◌==◌, max, Option, Some, None, if◌then◌else◌}
use Rattle.std.specs.List.{AllByRecursion, flat_map, enumerate_from}
use Rattle.ksql_types.specs.declared.value.Value.{Value}
use Rattle.ksql_types.specs.declared.relation.Span.{Span}
use Rattle.ksql_types.specs.declared.relation.Kind.{Kind}
use Rattle.ksql_place.specs.declared.change.Body.{Body}
use Rattle.ksql_place.specs.declared.change.Body.TheVariants.{Said, Turned}
use Rattle.ksql_place.specs.declared.change.Change.{Change}
use Rattle.ksql_place.specs.declared.stamp.Stamp.{Stamp}
use Rattle.ksql_expr.specs.declared.typed.Typed.{Typed}
use Rattle.ksql_program.specs.declared.query.Agg.{Agg}
use Rattle.ksql_program.specs.declared.query.JoinKind.{JoinKind}
use Rattle.ksql_types.specs.declared.relation.Window.{Window}
use Rattle.ksql_nodes.specs.declared.node.Node.{Node}
use Rattle.ksql_nodes.specs.declared.node.Node.TheVariants.{Rekey, Table, JoinStreamTable, JoinTables, Filter, Group, Aggregate, Having, Select}
use Rattle.ksql_nodes.specs.declared.node.Side.{Side}
use Rattle.ksql_nodes.specs.Entries.{Entry, is_same_key, of_key, of_side, time_after}
use Rattle.ksql_nodes.specs.Rows.{with_body, at_path, selected_key}
use Rattle.ksql_nodes.specs.Joins.{rekeyed, join_key, join_row, side_step, other_side}
use Rattle.ksql_nodes.specs.Groups.{Member, in_group, moved, grouped}
use Rattle.ksql_nodes.specs.Windows.{Timed, is_added, window_change, windows_of}
use Rattle.ksql_nodes.specs.Nodes.{gives}
use Rattle.ksql_nodes.specs.Steps.{KeepsStamp}
use Rattle.ksql_nodes.proofs.Lists.{All-append}

abbrev Keep : Stamp → List Change → Type 0
Keep s cs = AllByRecursion (λ c. c.place.stamp ≡ s) cs

body-keeps : (c : Change) (b : Option Body) → Keep c.place.stamp (with_body c b)
body-keeps c None = tt
body-keeps c (Some b) = (refl, tt)

rekeyed-keeps : (k : List Value) (c : Change) → Keep c.place.stamp (rekeyed k c)
rekeyed-keeps [] c = tt
rekeyed-keeps (k ∷ ks) c = (refl, tt)

each-keeps : {A : Type 0} (s : Stamp) (f : A → List Change) → ((x : A) → Keep s (f x)) → (xs : List A) → Keep s (flat_map f xs)
each-keeps s f keeps [] = tt
each-keeps s f keeps (x ∷ xs) = All-append (λ c. c.place.stamp ≡ s) (f x) (flat_map f xs) (keeps x) (each-keeps s f keeps xs)

join-keeps : (kind : JoinKind) (l r : Side) (before : List Entry) (k : List Value) (c : Change) →
    Keep c.place.stamp (flat_map (join_row kind l r before) (rekeyed k c))
join-keeps kind l r before [] c = tt
join-keeps kind l r before (k ∷ ks) c =
    let d : Change = record c { key = k ∷ ks } in
    All-append (λ (x : Change). x.place.stamp ≡ c.place.stamp) (join_row kind l r before d) [] (each-body d) tt
  where
    each-body : (d : Change) → Keep d.place.stamp (join_row kind l r before d)
    each-body d = body-keeps d _

if-keeps : (s : Stamp) (b : Bool) (cs : List Change) → Keep s cs → Keep s (if b then cs else [])
if-keeps s true cs h = h
if-keeps s false cs h = tt

moved-keeps : (c : Change) (old new : Option Member) → Keep c.place.stamp (moved c old new)
moved-keeps c None None = tt
moved-keeps c (Some l) None = (refl, tt)
moved-keeps c None (Some r) = (refl, tt)
moved-keeps c (Some l) (Some r) =
    elim (is_same_key l.group r.group) as (λ b. Keep c.place.stamp (cond b (in_group r.group 0 c (Turned (Some l.row) (Some r.row)) ∷ [])
    (in_group l.group 0 c (Turned (Some l.row) None) ∷ in_group r.group 1 c (Turned None (Some r.row)) ∷ [])))
    [ true ↦ (refl, tt) | false ↦ (refl, (refl, tt)) ]

grouped-keeps : (keys : List Typed) (c : Change) → Keep c.place.stamp (grouped keys c)
grouped-keeps keys c = by_body c.body
  where
    by_body : (b : Body) → Keep c.place.stamp (grouped keys (record c { body = b }))
    by_body (Said row) = rekeyed-keeps _ (record c { body = Said row })
    by_body (Turned old new) = moved-keeps (record c { body = Turned old new }) _ _

window-keeps : (over : Kind) (aggs : List Agg) (w : Window) (before : List Timed) (t : Timed) (p : ℕ × Span) → Keep t.entry.change.place.stamp (window_change over aggs w before t p)
window-keeps over aggs w before t (i, span) = if-keeps t.entry.change.place.stamp (is_added w span t) _ (refl, tt)

pub gives-keeps : (n : ℕ) (node : Node) → KeepsStamp (gives n node)
unfolding gives
gives-keeps n (Rekey key) before e = rekeyed-keeps _ e.change
gives-keeps n (Table relation) before e = body-keeps e.change _
gives-keeps n (JoinStreamTable kind on l r) before e = if-keeps e.change.place.stamp (e.side == 0) _ (join-keeps kind l r before (join_key on e.change) e.change)
gives-keeps n (JoinTables kind l r) before e = body-keeps (record (at_path (side_step e.side l r ∷ e.change.place.path) e.change) { time = max e.change.time (time_after (of_side (other_side e.side) (of_key e.change.key before))) }) _
gives-keeps n (Filter on) before e = body-keeps e.change _
gives-keeps n (Group keys) before e = grouped-keeps keys e.change
gives-keeps n (Aggregate over aggs None) before e = (refl, tt)
gives-keeps n (Aggregate over aggs (Some w)) before e = each-keeps e.change.place.stamp _ (window-keeps over aggs w _ _) (enumerate_from 0 (windows_of w e.change.time))
gives-keeps n (Having on) before e = body-keeps e.change _
gives-keeps n (Select keys vs) before e = body-keeps (record e.change { key = selected_key keys e.change }) _
