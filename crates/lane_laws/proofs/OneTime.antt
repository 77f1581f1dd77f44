-- Within one lane the entries have one stream time, and a lane holds all entries that a node looks at by the key of a
-- change.
use Rattle.std.proofs.Common.{◌≡◌, ◌∙◌, ap, ap₂, refl, sym, ℕ, List, [], ◌∷◌, ◌++◌, Bool, true, cond, true≢false, arith}
use Rattle.std.specs.Prelude.{◌==◌, filter, Some, None}
use Rattle.std.specs.List.{AllByRecursion}
use Rattle.std.specs.Cmp.{unsigned_Decides}
use Rattle.ksql_types.specs.Lane.{lane}
use Rattle.ksql_types.specs.declared.value.Value.{Value}
use Rattle.ksql_nodes.specs.declared.node.Node.{Node}
use Rattle.ksql_nodes.specs.declared.node.Node.TheVariants.{Rekey, Table, JoinStreamTable, JoinTables, Filter, Group, Aggregate, Having, Select}
use Rattle.ksql_nodes.specs.Entries.{Entry, is_same_key, latest_time, results}
use Rattle.ksql_nodes.specs.Windows.{is_same_lane, timed, windowed}
use Rattle.ksql_nodes.specs.Nodes.{gives}
use Rattle.ksql_nodes.specs.Steps.{Covers}
use Rattle.ksql_nodes.proofs.Keys.{key-decides}
use Rattle.ksql_nodes.proofs.Lists.{All-append}
use Rattle.lane_laws.specs.Lanes.{HasKey, IsKeyed, in_part}

-- whether an entry's key has this lane of n
abbrev pub key_lane : ℕ → ℕ → Entry → Bool
key_lane n q e = lane e.change.key n 0 == q

-- an entry with a key is in the lane of its key
pub keyed-lane : (n q : ℕ) (e : Entry) → HasKey e → in_part n q e ≡ key_lane n q e
keyed-lane n q e keyed = by e.change.key e.change.place.stamp.part keyed
  where
    by : (key : List Value) (home : ℕ) → IsKeyed key → (lane key n home == q) ≡ (lane key n 0 == q)
    by [] home keyed = absurd keyed
    by (k ∷ ks) home keyed = refl

pub keyed-lanes : (n q : ℕ) (es : List Entry) → AllByRecursion HasKey es → filter (in_part n q) es ≡ filter (key_lane n q) es
keyed-lanes n q [] keyed = refl
keyed-lanes n q (e ∷ es) keyed = ap₂ (λ b rest. cond b (e ∷ rest) rest) (keyed-lane n q e keyed.0) (keyed-lanes n q es keyed.1)

-- ---- what a lane holds

-- the nodes that look back by the key of a change
abbrev pub LooksByKey : Node → Type 0
LooksByKey (JoinStreamTable kind on l r) = ⊥
LooksByKey _ = Unit {0}

key-covers : (n q : ℕ) (e earlier : Entry) → key_lane n q e ≡ true → is_same_key earlier.change.key e.change.key ≡ true → key_lane n q earlier ≡ true
key-covers n q e earlier is same = ap (λ k. lane k n 0 == q) ((key-decides earlier.change.key e.change.key).0 same) ∙ is

pub lane-covers : (n q : ℕ) (node : Node) (e : Entry) → LooksByKey node → key_lane n q e ≡ true → Covers n node e (key_lane n q)
lane-covers n q (Rekey key) e looks is earlier h = absurd (true≢false (sym h))
lane-covers n q (Table relation) e looks is earlier h = key-covers n q e earlier is h
lane-covers n q (JoinStreamTable kind on l r) e looks is earlier h = absurd looks
lane-covers n q (JoinTables kind l r) e looks is earlier h = key-covers n q e earlier is h
lane-covers n q (Filter on) e looks is earlier h = absurd (true≢false (sym h))
lane-covers n q (Group keys) e looks is earlier h = absurd (true≢false (sym h))
lane-covers n q (Aggregate over aggs None) e looks is earlier h = key-covers n q e earlier is h
lane-covers n q (Aggregate over aggs (Some w)) e looks is earlier h =
    (unsigned_Decides (lane earlier.change.key n 0) q).1
    (sym ((unsigned_Decides (lane e.change.key n 0) (lane earlier.change.key n 0)).0 h) ∙ (unsigned_Decides (lane e.change.key n 0) q).0 is)
lane-covers n q (Having on) e looks is earlier h = absurd (true≢false (sym h))
lane-covers n q (Select keys vs) e looks is earlier h = absurd (true≢false (sym h))

-- ---- one stream time

one : (key : List Value) → lane key 1 0 ≡ 0
one [] = refl
one (k ∷ ks) = omega arith

own-one : (e : Entry) → key_lane 1 0 e ≡ true
own-one e = (unsigned_Decides (lane e.change.key 1 0) 0).1 (one e.change.key)

abbrev InLane : ℕ → ℕ → List Entry → Type 0
InLane n q es = AllByRecursion (λ e. key_lane n q e ≡ true) es

in-one : (es : List Entry) → InLane 1 0 es
in-one [] = tt
in-one (e ∷ es) = (own-one e, in-one es)

all-in : (n q : ℕ) (e : Entry) → key_lane n q e ≡ true → (es : List Entry) → InLane n q es → filter (is_same_lane n e) es ≡ es
all-in n q e is [] all = refl
all-in n q e is (x ∷ xs) all =
    ap₂ (λ b rest. cond b (x ∷ rest) rest)
    ((unsigned_Decides (lane e.change.key n 0) (lane x.change.key n 0)).1 ((unsigned_Decides (lane e.change.key n 0) q).0 is ∙ sym ((unsigned_Decides (lane x.change.key n 0) q).0 all.0)))
    (all-in n q e is xs all.1)

timed-one : (n q : ℕ) (before : List Entry) (e : Entry) → key_lane n q e ≡ true → InLane n q before → timed n before e ≡ timed 1 before e
timed-one n q before e is all =
    ap (λ es. record { entry = e; stream_time = latest_time (es ++ e ∷ []) }) (all-in n q e is before all ∙ sym (all-in 1 0 e (own-one e) before (in-one before)))

times-one : (n q : ℕ) (before es : List Entry) → InLane n q before → InLane n q es →
    results (λ b e. timed n b e ∷ []) before es ≡ results (λ b e. timed 1 b e ∷ []) before es
times-one n q before [] seen all = refl
times-one n q before (e ∷ es) seen all =
    ap₂ (λ t ts. t ∷ ts) (timed-one n q before e all.0 seen)
    (times-one n q (before ++ e ∷ []) es (All-append (λ x. key_lane n q x ≡ true) before (e ∷ []) seen (all.0, tt)) all.1)

-- within one lane a node gives what it gives with one stream time
pub gives-one : (n q : ℕ) (node : Node) (before : List Entry) (e : Entry) → InLane n q before → key_lane n q e ≡ true → gives n node before e ≡ gives 1 node before e
unfolding gives
gives-one n q (Rekey key) before e seen is = refl
gives-one n q (Table relation) before e seen is = refl
gives-one n q (JoinStreamTable kind on l r) before e seen is = refl
gives-one n q (JoinTables kind l r) before e seen is = refl
gives-one n q (Filter on) before e seen is = refl
gives-one n q (Group keys) before e seen is = refl
gives-one n q (Aggregate over aggs None) before e seen is = refl
gives-one n q (Aggregate over aggs (Some w)) before e seen is = ap₂ (windowed over aggs w) (times-one n q [] before tt seen) (timed-one n q before e is seen)
gives-one n q (Having on) before e seen is = refl
gives-one n q (Select keys vs) before e seen is = refl
