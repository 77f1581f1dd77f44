-- The keys of what nodes give.
use Rattle.std.proofs.Common.{◌≡◌, refl, sym, subst, ℕ, List, [], ◌∷◌, ◌++◌, Bool, true, false, cond}
use Rattle.std.specs.Prelude.{◌==◌, Option, Some, None, IfSome, option_and_then, if◌then◌else◌}
use Rattle.std.specs.List.{AllByRecursion, flat_map, enumerate_from}
use Rattle.std.specs.Cmp.{unsigned_Decides}
use Rattle.ksql_types.specs.Key.{is_key}
use Rattle.ksql_types.specs.declared.value.Value.{Value}
use Rattle.ksql_types.specs.declared.relation.Kind.{Kind}
use Rattle.ksql_types.specs.declared.relation.Span.{Span}
use Rattle.ksql_types.specs.declared.relation.Window.{Window}
use Rattle.ksql_place.specs.declared.change.Body.{Body}
use Rattle.ksql_place.specs.declared.change.Body.TheVariants.{Said, Turned}
use Rattle.ksql_place.specs.declared.change.Change.{Change}
use Rattle.ksql_expr.specs.declared.typed.Typed.{Typed}
use Rattle.ksql_program.specs.declared.query.Agg.{Agg}
use Rattle.ksql_program.specs.declared.query.JoinKind.{JoinKind}
use Rattle.ksql_nodes.specs.declared.node.Node.{Node}
use Rattle.ksql_nodes.specs.declared.node.Node.TheVariants.{Rekey, Table, JoinStreamTable, JoinTables, Filter, Group, Aggregate, Having, Select}
use Rattle.ksql_nodes.specs.declared.node.Side.{Side}
use Rattle.ksql_nodes.specs.Entries.{Row, Entry, Step, from_side, is_same_key, results}
use Rattle.ksql_nodes.specs.Rows.{at_path, key_of, values, with_body}
use Rattle.ksql_nodes.specs.Joins.{join_key, join_row, join_stream, rekeyed}
use Rattle.ksql_nodes.specs.Groups.{Member, grouped, in_group, member, moved}
use Rattle.ksql_nodes.specs.Aggregates.{group_change}
use Rattle.ksql_nodes.specs.Windows.{Timed, added, is_added, timed, window_change, windowed, windows_of, with_times}
use Rattle.ksql_nodes.specs.Nodes.{gives}
use Rattle.ksql_nodes.proofs.Lists.{All-append}
use Rattle.ksql_nodes.proofs.Results.{entry}
use Rattle.meaning_laws.proofs.Lists.{All-map, All-weaker}
use Rattle.lane_laws.specs.Lanes.{HasKey, IsKeyed}

-- changes whose keys are all so
abbrev pub HaveKeys : (List Value → Type 0) → List Change → Type 0
HaveKeys P cs = AllByRecursion (λ c. P c.key) cs

body-key : (P : List Value → Type 0) (c : Change) (b : Option Body) → P c.key → HaveKeys P (with_body c b)
body-key P c None h = tt
body-key P c (Some b) h = (h, tt)

rekeyed-key : (P : List Value → Type 0) (k : List Value) (c : Change) → (IsKeyed k → P k) → HaveKeys P (rekeyed k c)
rekeyed-key P [] c h = tt
rekeyed-key P (k ∷ ks) c h = (h tt, tt)

-- ---- joins of a stream

joined-key : (P : List Value → Type 0) (kind : JoinKind) (l r : Side) (before : List Entry) (k : List Value) (c : Change) → (IsKeyed k → P k) →
    HaveKeys P (flat_map (join_row kind l r before) (rekeyed k c))
joined-key P kind l r before [] c h = tt
joined-key P kind l r before (k ∷ ks) c h =
    let d : Change = record c { key = k ∷ ks } in
    All-append (λ (x : Change). P x.key) (join_row kind l r before d) [] (each-body d (h tt)) tt
  where
    each-body : (d : Change) → P d.key → HaveKeys P (join_row kind l r before d)
    each-body d h = body-key P d _ h

-- what a join of a stream gives has the join key
pub stream-join-keys : (P : List Value → Type 0) (kind : JoinKind) (on : Typed) (l r : Side) (before : List Entry) (e : Entry) →
    (e.side ≡ 0 → IsKeyed (join_key on e.change) → P (join_key on e.change)) → HaveKeys P (join_stream kind on l r before e)
stream-join-keys P kind on l r before e h = by (e.side == 0) refl
  where
    by : (b : Bool) → (e.side == 0) ≡ b → HaveKeys P (if b then flat_map (join_row kind l r before) (rekeyed (join_key on e.change) e.change) else [])
    by true is = joined-key P kind l r before (join_key on e.change) e.change (h ((unsigned_Decides e.side 0).0 is))
    by false is = tt

-- ---- groups

moved-keys : (P : List Value → Type 0) (c : Change) (old new : Option Member) → IfSome old (λ m. P m.group) → IfSome new (λ m. P m.group) → HaveKeys P (moved c old new)
moved-keys P c None None a b = tt
moved-keys P c (Some l) None a b = (a, tt)
moved-keys P c None (Some r) a b = (b, tt)
moved-keys P c (Some l) (Some r) a b =
    elim (is_same_key l.group r.group) as (λ t. HaveKeys P (cond t (in_group r.group 0 c (Turned (Some l.row) (Some r.row)) ∷ [])
    (in_group l.group 0 c (Turned (Some l.row) None) ∷ in_group r.group 1 c (Turned None (Some r.row)) ∷ [])))
    [ true ↦ (b, tt) | false ↦ (a, (b, tt)) ]

member-key : (P : List Value → Type 0) (keys : List Typed) (time : ℕ) (row : Option Row) → IfSome row (λ r. P (values keys time r)) →
    IfSome (option_and_then (member keys time) row) (λ m. P m.group)
member-key P keys time None h = tt
member-key P keys time (Some r) h =
    elim (is_key (values keys time r)) as (λ b. IfSome {T = Member} (if b then Some (record { group = values keys time r; row = r }) else None) (λ m. P m.group))
    [ true ↦ h | false ↦ tt ]

-- the keys of the groups of a change's rows
abbrev pub HasGroups : (List Value → Type 0) → List Typed → Change → Type 0
HasGroups P keys c = by c.body
  where
    by : Body → Type 0
    by (Said row) = IsKeyed (key_of (values keys c.time row)) → P (key_of (values keys c.time row))
    by (Turned old new) = IfSome old (λ row. P (values keys c.time row)) × IfSome new (λ row. P (values keys c.time row))

-- a change under the keys of its groups has them
pub grouped-keys : (P : List Value → Type 0) (keys : List Typed) (c : Change) → HasGroups P keys c → HaveKeys P (grouped keys c)
grouped-keys P keys c h = by c.body h
  where
    by : (b : Body) → HasGroups P keys (record c { body = b }) → HaveKeys P (grouped keys (record c { body = b }))
    by (Said row) h = rekeyed-key P (key_of (values keys c.time row)) (record c { body = Said row }) h
    by (Turned old new) h = moved-keys P (record c { body = Turned old new }) _ _ (member-key P keys c.time old h.0) (member-key P keys c.time new h.1)

-- ---- nodes that keep the key

abbrev pub KeepsKey : Node → Type 0
KeepsKey (Rekey key) = ⊥
KeepsKey (JoinStreamTable kind on l r) = ⊥
KeepsKey (Group keys) = ⊥
KeepsKey (Select keys vs) = ⊥
KeepsKey _ = Unit {0}

abbrev pub Key : List Value → List Change → Type 0
Key key cs = HaveKeys (λ k. k ≡ key) cs

-- (whatever place and time it has)
table-join-key : (e : Entry) (path : List ℕ) (time : ℕ) (b : Option Body) → Key e.change.key (with_body (record (at_path path e.change) { time = time }) b)
table-join-key e path time b = body-key (λ k. k ≡ e.change.key) (record (at_path path e.change) { time = time }) b refl

each-key : {A : Type 0} (key : List Value) (f : A → List Change) → ((x : A) → Key key (f x)) → (xs : List A) → Key key (flat_map f xs)
each-key key f keeps [] = tt
each-key key f keeps (x ∷ xs) = All-append (λ c. c.key ≡ key) (f x) (flat_map f xs) (keeps x) (each-key key f keeps xs)

windowed-key : (over : Kind) (aggs : List Agg) (w : Window) (before : List Timed) (t : Timed) → Key t.entry.change.key (windowed over aggs w before t)
windowed-key over aggs w before t = each-key t.entry.change.key (window_change over aggs w before t) by (enumerate_from 0 (windows_of w t.entry.change.time))
  where
    if-key : (b : Bool) (c : Change) → c.key ≡ t.entry.change.key → Key t.entry.change.key (if b then c ∷ [] else [])
    if-key true c h = (h, tt)
    if-key false c h = tt

    by : (x : ℕ × Span) → Key t.entry.change.key (window_change over aggs w before t x)
    by (i, span) = if-key (is_added w span t) (at_path (t.entry.change.place.path ++ i ∷ []) (group_change over aggs (Some span) (added w span t.entry.change.key before) t.entry)) refl

pub gives-key : (n : ℕ) (node : Node) → KeepsKey node → (before : List Entry) (e : Entry) → Key e.change.key (gives n node before e)
unfolding gives
gives-key n (Rekey key) keeps before e = absurd keeps
gives-key n (Table relation) keeps before e = body-key (λ k. k ≡ e.change.key) e.change _ refl
gives-key n (JoinStreamTable kind on l r) keeps before e = absurd keeps
gives-key n (JoinTables kind l r) keeps before e = table-join-key e _ _ _
gives-key n (Filter on) keeps before e = body-key (λ k. k ≡ e.change.key) e.change _ refl
gives-key n (Group keys) keeps before e = absurd keeps
gives-key n (Aggregate over aggs None) keeps before e = (refl, tt)
gives-key n (Aggregate over aggs (Some w)) keeps before e = windowed-key over aggs w (with_times n before) (timed n before e)
gives-key n (Having on) keeps before e = body-key (λ k. k ≡ e.change.key) e.change _ refl
gives-key n (Select keys vs) keeps before e = absurd keeps

-- ---- the keys of all results

step-keyed : (Good : Entry → Type 0) (step : Step) → ((before : List Entry) (e : Entry) → Good e → HaveKeys IsKeyed (step before e)) →
    (before es : List Entry) → AllByRecursion Good es → HaveKeys IsKeyed (results step before es)
step-keyed Good step each before [] good = tt
step-keyed Good step each before (e ∷ es) good =
    All-append (λ c. IsKeyed c.key) (step before e) (results step (before ++ e ∷ []) es) (each before e good.0) (step-keyed Good step each (before ++ e ∷ []) es good.1)

-- a step that gives keys for good entries
pub results-keyed : (Good : Entry → Type 0) (step : Step) → ((before : List Entry) (e : Entry) → Good e → HaveKeys IsKeyed (step before e)) →
    (es : List Entry) → AllByRecursion Good es → AllByRecursion HasKey (from_side 0 (results step [] es))
results-keyed Good step each es good = All-map HasKey entry (results step [] es) (step-keyed Good step each [] es good)

-- a node that keeps the key
pub kept-keyed : (n : ℕ) (node : Node) → KeepsKey node → (es : List Entry) → AllByRecursion HasKey es → AllByRecursion HasKey (from_side 0 (results (gives n node) [] es))
kept-keyed n node keeps es keyed = results-keyed HasKey (gives n node) each es keyed
  where
    each : (before : List Entry) (e : Entry) → HasKey e → HaveKeys IsKeyed (gives n node before e)
    each before e h = All-weaker (λ c. c.key ≡ e.change.key) (λ c. IsKeyed c.key) (λ c is. subst IsKeyed (sym is) h) (gives n node before e) (gives-key n node keeps before e)
