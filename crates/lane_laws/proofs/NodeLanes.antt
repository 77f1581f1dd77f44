-- Each node is divided by partitions.
use Rattle.std.proofs.Common.{◌≡◌, ◌∙◌, ap, ap₂, refl, sym, ℕ, List, [], ◌∷◌, Bool, true, false, true≢false}
use Rattle.std.specs.Prelude.{◌==◌, filter, flat_map, Option, Some, None, IfSome, if◌then◌else◌}
use Rattle.std.specs.List.{AllByRecursion}
use Rattle.std.specs.Cmp.{unsigned_Decides}
use Rattle.ksql_types.specs.Lane.{lane}
use Rattle.ksql_types.specs.declared.relation.Kind.{Kind}
use Rattle.ksql_types.specs.declared.relation.Window.{Window}
use Rattle.ksql_types.specs.declared.value.Value.{Value}
use Rattle.ksql_place.specs.declared.change.Body.{Body}
use Rattle.ksql_place.specs.declared.change.Body.TheVariants.{Said, Turned}
use Rattle.ksql_place.specs.declared.change.Change.{Change}
use Rattle.ksql_place.specs.declared.stamp.Stamp.{Stamp}
use Rattle.ksql_expr.specs.declared.typed.Typed.{Typed}
use Rattle.ksql_program.specs.declared.query.Agg.{Agg}
use Rattle.ksql_program.specs.declared.query.JoinKind.{JoinKind}
use Rattle.ksql_nodes.specs.declared.node.Node.{Node}
use Rattle.ksql_nodes.specs.declared.node.Node.TheVariants.{Table, JoinStreamTable, JoinTables, Filter, Group, Aggregate, Having}
use Rattle.ksql_nodes.specs.declared.node.Side.{Side}
use Rattle.ksql_nodes.specs.Entries.{Row, Entry, from_side, results}
use Rattle.ksql_nodes.specs.Joins.{join_key, join_row, join_stream, rekeyed}
use Rattle.ksql_nodes.specs.Nodes.{gives}
use Rattle.ksql_nodes.specs.Rows.{values}
use Rattle.ksql_nodes.specs.Steps.{is_of_key}
use Rattle.ksql_nodes.proofs.Keys.{key-decides}
use Rattle.ksql_nodes.proofs.Locality.{gives-fixed}
use Rattle.ksql_nodes.proofs.Stamps.{gives-keeps}
use Rattle.meaning_laws.proofs.Lists.{All-of, All-passes}
use Rattle.ksql_place.specs.Routing.{is_to}
use Rattle.lane_laws.specs.Lanes.{HasKey, IsInOwnGroup, IsJoinedByKey, IsKeyed, IsLaned, in_part}
use Rattle.lane_laws.proofs.Dividing.{divided}
use Rattle.lane_laws.proofs.KeptKeys.{HasGroups, Key, KeepsKey, gives-key, grouped-keys, kept-keyed, results-keyed, stream-join-keys}
use Rattle.lane_laws.proofs.OneTime.{LooksByKey, gives-one, key_lane, keyed-lane, keyed-lanes, lane-covers}

-- changes with the key and the stamp of an entry go to its partition
going : (n part : ℕ) (e : Entry) (cs : List Change) → Key e.change.key cs → AllByRecursion (λ c. c.place.stamp ≡ e.change.place.stamp) cs →
    AllByRecursion (λ c. is_to n part c ≡ in_part n part e) cs
going n part e [] keys stamps = tt
going n part e (c ∷ cs) keys stamps = (ap₂ (λ key (stamp : Stamp). lane key n stamp.part == part) keys.0 stamps.0, going n part e cs keys.1 stamps.1)

-- a node that keeps the key of good entries, and gives for one what it gives in its partition alone
node-laned : (n : ℕ) (node : Node) (Good : Entry → Type 0) → ((before : List Entry) (e : Entry) → Good e → Key e.change.key (gives n node before e)) →
    ((part : ℕ) (before : List Entry) (e : Entry) → AllByRecursion Good before → Good e → in_part n part e ≡ true →
    gives 1 node (filter (in_part n part) before) e ≡ gives n node before e) →
    (es : List Entry) → AllByRecursion Good es → IsLaned n node es
node-laned n node Good keys same es good part =
    divided Good (in_part n part) (is_to n part) (gives 1 node) (gives n node)
    (λ before e h. going n part e (gives n node before e) (keys before e h) (gives-keeps n node before e)) (same part) [] es tt good

pub laned-filter : (n : ℕ) (on : Typed) (es : List Entry) → IsLaned n (Filter on) es
unfolding gives
laned-filter n on es =
    node-laned n (Filter on) (λ e. Unit {0}) (λ before e h. gives-key n (Filter on) tt before e) (λ part before e seen h is. refl) es (All-of es (λ e. tt))

pub laned-having : (n : ℕ) (on : Typed) (es : List Entry) → IsLaned n (Having on) es
unfolding gives
laned-having n on es =
    node-laned n (Having on) (λ e. Unit {0}) (λ before e h. gives-key n (Having on) tt before e) (λ part before e seen h is. refl) es (All-of es (λ e. tt))

-- a node that keeps the key and looks back by it, on entries with keys
keyed-laned : (n : ℕ) (node : Node) → LooksByKey node → KeepsKey node → (es : List Entry) → AllByRecursion HasKey es → IsLaned n node es
keyed-laned n node looks keeps es keyed = node-laned n node HasKey (λ before e h. gives-key n node keeps before e) same es keyed
  where
    same : (part : ℕ) (before : List Entry) (e : Entry) → AllByRecursion HasKey before → HasKey e → in_part n part e ≡ true →
        gives 1 node (filter (in_part n part) before) e ≡ gives n node before e
    same part before e seen h is =
        let own : key_lane n part e ≡ true = sym (keyed-lane n part e h) ∙ is in
        ap (λ es. gives 1 node es e) (keyed-lanes n part before seen)
        ∙ sym (gives-one n part node (filter (key_lane n part) before) e (All-passes (key_lane n part) before) own)
        ∙ gives-fixed n node e (key_lane n part) (lane-covers n part node e looks own) before

pub laned-table : (n number : ℕ) (es : List Entry) → AllByRecursion HasKey es → IsLaned n (Table number) es
laned-table n number = keyed-laned n (Table number) tt tt

-- with windows too: within one partition the entries have one stream time
pub laned-aggregate : (n : ℕ) (over : Kind) (aggs : List Agg) (w : Option Window) (es : List Entry) → AllByRecursion HasKey es → IsLaned n (Aggregate over aggs w) es
laned-aggregate n over aggs w = keyed-laned n (Aggregate over aggs w) tt tt

pub laned-table-join : (n : ℕ) (kind : JoinKind) (l r : Side) (es : List Entry) → AllByRecursion HasKey es → IsLaned n (JoinTables kind l r) es
laned-table-join n kind l r = keyed-laned n (JoinTables kind l r) tt tt

own-groups : (keys : List Typed) (c : Change) → IsInOwnGroup keys c → HasGroups (λ k. k ≡ c.key) keys c
own-groups keys c own = by c.body own
  where
    by : (b : Body) → IsInOwnGroup keys (record c { body = b }) → HasGroups (λ k. k ≡ c.key) keys (record c { body = b })
    by (Said row) own = λ keyed. own
    by (Turned old new) own = (own.1, own.2)

pub laned-group : (n : ℕ) (keys : List Typed) (es : List Entry) → AllByRecursion (λ e. IsInOwnGroup keys e.change) es → IsLaned n (Group keys) es
unfolding gives
laned-group n keys es own =
    node-laned n (Group keys) (λ e. IsInOwnGroup keys e.change)
    (λ before e h. grouped-keys (λ k. k ≡ e.change.key) keys e.change (own-groups keys e.change h)) (λ part before e seen h is. refl) es own

-- the rows of a key are in the partition of an entry with that key
join-covers : (n part : ℕ) (e : Entry) (key : List Value) → (IsKeyed key → key ≡ e.change.key) → in_part n part e ≡ true →
    (earlier : Entry) → is_of_key key earlier ≡ true → in_part n part earlier ≡ true
join-covers n part e [] keyed is earlier h = absurd (true≢false (sym h))
join-covers n part e (k ∷ ks) keyed is earlier h =
    ap (λ key. lane key n earlier.change.place.stamp.part == part) ((key-decides earlier.change.key (k ∷ ks)).0 h)
    ∙ ap (λ key. lane key n e.change.place.stamp.part == part) (keyed tt) ∙ is

pub laned-stream-join : (n : ℕ) (kind : JoinKind) (on : Typed) (l r : Side) (es : List Entry) → AllByRecursion (IsJoinedByKey on) es → IsLaned n (JoinStreamTable kind on l r) es
unfolding gives
laned-stream-join n kind on l r es keyed =
    node-laned n (JoinStreamTable kind on l r) (IsJoinedByKey on) (λ before e h. stream-join-keys (λ k. k ≡ e.change.key) kind on l r before e h)
    (λ part before e seen h is. by part before e h is (e.side == 0) refl) es keyed
  where
    by : (part : ℕ) (before : List Entry) (e : Entry) → IsJoinedByKey on e → in_part n part e ≡ true → (b : Bool) → (e.side == 0) ≡ b →
        join_stream kind on l r (filter (in_part n part) before) e ≡ join_stream kind on l r before e
    by part before e h is true first =
        gives-fixed n (JoinStreamTable kind on l r) e (in_part n part) (join-covers n part e (join_key on e.change) (h ((unsigned_Decides e.side 0).0 first)) is) before
    by part before e h is false second =
        ap (λ b. if b then flat_map (join_row kind l r (filter (in_part n part) before)) (rekeyed (join_key on e.change) e.change) else []) second
        ∙ sym (ap (λ b. if b then flat_map (join_row kind l r before) (rekeyed (join_key on e.change) e.change) else []) second)

-- ---- keys

pub table-keyed : (n number : ℕ) (es : List Entry) → AllByRecursion HasKey es → AllByRecursion HasKey (from_side 0 (results (gives n (Table number)) [] es))
table-keyed n number = kept-keyed n (Table number) tt

-- a grouping by at least one expression gives keys
some-groups : (key : Typed) (keys : List Typed) (c : Change) → HasGroups IsKeyed (key ∷ keys) c
some-groups key keys c = by c.body
  where
    of-row : (row : Option Row) → IfSome row (λ r. IsKeyed (values (key ∷ keys) c.time r))
    of-row None = tt
    of-row (Some r) = tt

    by : (b : Body) → HasGroups IsKeyed (key ∷ keys) (record c { body = b })
    by (Said row) = λ keyed. keyed
    by (Turned old new) = (of-row old, of-row new)

pub group-keyed : (n : ℕ) (key : Typed) (keys : List Typed) (es : List Entry) → AllByRecursion HasKey (from_side 0 (results (gives n (Group (key ∷ keys))) [] es))
unfolding gives
group-keyed n key keys es =
    results-keyed (λ e. Unit {0}) (gives n (Group (key ∷ keys))) (λ before e h. grouped-keys IsKeyed (key ∷ keys) e.change (some-groups key keys e.change)) es (All-of es (λ e. tt))

pub stream-join-keyed : (n : ℕ) (kind : JoinKind) (on : Typed) (l r : Side) (es : List Entry) → AllByRecursion HasKey (from_side 0 (results (gives n (JoinStreamTable kind on l r)) [] es))
unfolding gives
stream-join-keyed n kind on l r es =
    results-keyed (λ e. Unit {0}) (gives n (JoinStreamTable kind on l r)) (λ before e h. stream-join-keys IsKeyed kind on l r before e (λ first keyed. keyed)) es (All-of es (λ e. tt))
