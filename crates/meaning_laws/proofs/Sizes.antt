-- Times and paths of what steps give.
use Rattle.std.proofs.Common.{ℕ, ◌+◌, ◌≤◌, List, [], ◌∷◌, ◌++◌, length, length-append, Bool, true, false, cond, arith}
use Rattle.std.specs.Prelude.{◌==◌, max, filter, flat_map, if◌then◌else◌, Option, Some, None, option_map, option_and_then, unwrap_or, IfSome}
use Rattle.std.specs.List.{last_or, enumerate_from, AllByRecursion}
use Rattle.ksql_types.specs.declared.value.Value.{Value}
use Rattle.ksql_types.specs.declared.relation.Kind.{Kind}
use Rattle.ksql_types.specs.declared.relation.Span.{Span}
use Rattle.ksql_types.specs.declared.relation.Window.{Window}
use Rattle.ksql_place.specs.Said.{row_in}
use Rattle.ksql_place.specs.declared.change.Body.{Body}
use Rattle.ksql_place.specs.declared.change.Body.TheVariants.{Said, Turned}
use Rattle.ksql_place.specs.declared.change.Change.{Change}
use Rattle.ksql_expr.specs.declared.typed.Typed.{Typed}
use Rattle.ksql_program.specs.declared.query.Agg.{Agg}
use Rattle.ksql_program.specs.declared.query.JoinKind.{JoinKind}
use Rattle.ksql_nodes.specs.declared.node.Node.{Node}
use Rattle.ksql_nodes.specs.declared.node.Node.TheVariants.{Rekey, Table, JoinStreamTable, JoinTables, Filter, Group, Aggregate, Having, Select}
use Rattle.ksql_nodes.specs.declared.node.Side.{Side}
use Rattle.ksql_nodes.specs.Aggregates.{group_change}
use Rattle.ksql_nodes.specs.Entries.{Entry, Step, from_side, is_same_key, latest_time, of_key, of_side, results, time_after}
use Rattle.ksql_nodes.specs.Groups.{Member, grouped, in_group, moved}
use Rattle.ksql_nodes.specs.Joins.{join_key, join_row, other_side, rekeyed, side_step}
use Rattle.ksql_nodes.specs.Nodes.{gives}
use Rattle.ksql_nodes.specs.Rows.{at_path, selected_key, with_body}
use Rattle.ksql_nodes.specs.TableAggregates.{aggregate_of_table, held_change, touching}
use Rattle.ksql_nodes.specs.Windows.{Timed, added, is_added, timed, window_change, windows_of, with_times}
use Rattle.ksql_nodes.proofs.Lists.{All-append}
use Rattle.meaning_laws.proofs.Lists.{All-filter, All-map, All-weaker}

-- a step gives changes with property B for entries with property P
abbrev pub GivesFor : (P : Entry → Type 0) (B : Change → Type 0) → Step → Type 0
GivesFor P B step = (before : List Entry) → AllByRecursion P before → (e : Entry) → P e → AllByRecursion B (step before e)

-- the same for entries whose changes are A
abbrev pub Gives : (A B : Change → Type 0) → Step → Type 0
Gives A B step = GivesFor (λ e. A e.change) B step

pub results-give : (P : Entry → Type 0) (B : Change → Type 0) (step : Step) → GivesFor P B step → (before es : List Entry) → AllByRecursion P before → AllByRecursion P es →
    AllByRecursion B (results step before es)
results-give P B step give before [] past now = tt
results-give P B step give before (e ∷ es) past now =
    All-append B (step before e) (results step (before ++ e ∷ []) es) (give before past e now.0)
    (results-give P B step give (before ++ e ∷ []) es (All-append P before (e ∷ []) past (now.0, tt)) now.1)

pub entries-give : (A : Change → Type 0) (side : ℕ) (changes : List Change) → AllByRecursion A changes → AllByRecursion (λ e. A e.change) (from_side side changes)
entries-give A side changes h = All-map (λ e. A e.change) (λ c. record { side = side; change = c }) changes h

pub All-flat_map : {X : Type 0} (B : Change → Type 0) (f : X → List Change) (P : X → Type 0) → ((x : X) → P x → AllByRecursion B (f x)) → (xs : List X) → AllByRecursion P xs → AllByRecursion B (flat_map f xs)
All-flat_map B f P give [] h = tt
All-flat_map B f P give (x ∷ xs) h = All-append B (f x) (flat_map f xs) (give x h.0) (All-flat_map B f P give xs h.1)

pub last-holds : (P : Entry → Type 0) (o : Option Entry) (es : List Entry) → IfSome o P → AllByRecursion P es → IfSome (last_or o es) P
last-holds P o [] h hs = h
last-holds P o (e ∷ es) h hs = last-holds P (Some e) es hs.0 hs.1

-- the entries whose times are bounded
pub timed-hold : (P : Entry → Type 0) (n : ℕ) (before es : List Entry) → AllByRecursion P es → AllByRecursion (λ t. P t.entry) (results (λ before e. timed n before e ∷ []) before es)
timed-hold P n before [] h = tt
timed-hold P n before (e ∷ es) h = (h.0, timed-hold P n (before ++ e ∷ []) es h.1)

-- ---- times

latest-within : (b : ℕ) (es : List Entry) → AllByRecursion (λ e. e.change.time ≤ b) es → latest_time es ≤ b
latest-within b [] h = omega arith
latest-within b (e ∷ es) h = let rest = latest-within b es h.1 in let own = h.0 in omega arith

time_after-within : (b : ℕ) (es : List Entry) → AllByRecursion (λ e. e.change.time ≤ b) es → time_after es ≤ b
time_after-within b es h = by (last_or None es) (last-holds (λ e. e.change.time ≤ b) None es tt h)
  where
    row : (time : ℕ) (o : Option (List Value)) → time ≤ b → unwrap_or (option_map (λ row. time) o) 0 ≤ b
    row time None h = omega arith
    row time (Some r) h = h

    by : (o : Option Entry) → IfSome o (λ e. e.change.time ≤ b) → unwrap_or (option_and_then (λ e. option_map (λ row. e.change.time) (row_in e.change.body)) o) 0 ≤ b
    by None h = omega arith
    by (Some e) h = row e.change.time (row_in e.change.body) h

-- ---- the nodes

-- a change's time is at most b, and its path has at most m numbers
abbrev pub IsSized : ℕ → ℕ → Change → Type 0
IsSized b m c = (c.time ≤ b) × (length c.place.path ≤ m)

-- by how many numbers a node makes paths longer
abbrev pub growth : Node → ℕ
growth (JoinTables kind l r) = 1
growth (Group keys) = 1
growth (Aggregate over aggs (Some w)) = 1
growth node = 0

longer : (path : List ℕ) (i m k : ℕ) → length path ≤ m → m + 1 ≤ k → length (path ++ i ∷ []) ≤ k
longer path i m k h grows = let e = length-append path (i ∷ []) in omega (arith, e)

module _ (b m k : ℕ) where
  body-sized : (c : Change) → IsSized b k c → (o : Option Body) → AllByRecursion (IsSized b k) (with_body c o)
  body-sized c h None = tt
  body-sized c h (Some body) = (h, tt)

  rekeyed-sized : (key : List Value) (c : Change) → IsSized b k c → AllByRecursion (IsSized b k) (rekeyed key c)
  rekeyed-sized [] c h = tt
  rekeyed-sized (x ∷ xs) c h = (h, tt)

  if-sized : (t : Bool) (cs : List Change) → AllByRecursion (IsSized b k) cs → AllByRecursion (IsSized b k) (if t then cs else [])
  if-sized true cs h = h
  if-sized false cs h = tt

  grown : (c : Change) → IsSized b m c → m ≤ k → IsSized b k c
  grown c h grows = (h.0, let own = h.1 in omega arith)

  member-sized : (c : Change) → IsSized b m c → m + 1 ≤ k → (i : ℕ) → (c.time ≤ b) × (length (c.place.path ++ i ∷ []) ≤ k)
  member-sized c h grows i = (h.0, longer c.place.path i m k h.1 grows)

  moved-sized : (c : Change) → IsSized b m c → m + 1 ≤ k → (old new : Option Member) → AllByRecursion (IsSized b k) (moved c old new)
  moved-sized c h grows None None = tt
  moved-sized c h grows (Some l) None = (member-sized c h grows 0, tt)
  moved-sized c h grows None (Some r) = (member-sized c h grows 0, tt)
  moved-sized c h grows (Some l) (Some r) =
      elim (is_same_key l.group r.group) as (λ t. AllByRecursion (IsSized b k) (cond t (in_group r.group 0 c (Turned (Some l.row) (Some r.row)) ∷ [])
      (in_group l.group 0 c (Turned (Some l.row) None) ∷ in_group r.group 1 c (Turned None (Some r.row)) ∷ []))) [
        | true ↦ (member-sized c h grows 0, tt)
        | false ↦ (member-sized c h grows 0, (member-sized c h grows 1, tt))
      ]

  pub grouped-sized : (keys : List Typed) (c : Change) → IsSized b m c → m + 1 ≤ k → AllByRecursion (IsSized b k) (grouped keys c)
  grouped-sized keys c h grows = by_body c.body
    where
      by_body : (body : Body) → AllByRecursion (IsSized b k) (grouped keys (record c { body = body }))
      by_body (Said row) = rekeyed-sized _ (record c { body = Said row }) (h.0, let own = h.1 in omega arith)
      by_body (Turned old new) = moved-sized (record c { body = Turned old new }) h grows _ _

  group_change-sized : (over : Kind) (aggs : List Agg) (span : Option Span) (mine : List Entry) → AllByRecursion (λ e. IsSized b m e.change) mine → (e : Entry) → IsSized b m e.change →
      (group_change over aggs span mine e).time ≤ b
  group_change-sized over aggs span mine past e now =
      latest-within b (mine ++ e ∷ [])
      (All-append (λ e. e.change.time ≤ b) mine (e ∷ []) (All-weaker (λ (e : Entry). IsSized b m e.change) (λ e. e.change.time ≤ b) (λ e h. h.0) mine past) (now.0, tt))

  window-sized : (over : Kind) (aggs : List Agg) (w : Window) (before : List Timed) → AllByRecursion (λ t. IsSized b m t.entry.change) before → (t : Timed) → IsSized b m t.entry.change → m + 1 ≤ k →
      (p : ℕ × Span) → AllByRecursion (IsSized b k) (window_change over aggs w before t p)
  window-sized over aggs w before past t now grows (i, span) =
      if-sized (is_added w span t) _ (
        (
          group_change-sized over aggs (Some span) (added w span t.entry.change.key before)
              (All-map (λ e. IsSized b m e.change) (λ (t : Timed). t.entry) (filter _ before) (All-filter (λ t. IsSized b m t.entry.change) _ before past)) t.entry now,
          longer t.entry.change.place.path i m k now.1 grows,
        ),
        tt,
      )

  join-sized : (kind : JoinKind) (l r : Side) (before : List Entry) (key : List Value) (c : Change) → IsSized b k c → AllByRecursion (IsSized b k) (flat_map (join_row kind l r before) (rekeyed key c))
  join-sized kind l r before key c h = All-flat_map (IsSized b k) (join_row kind l r before) (IsSized b k) (λ d g. body-sized d g _) (rekeyed key c) (rekeyed-sized key c h)

  pub node-sized : (n : ℕ) (node : Node) → m + growth node ≤ k → Gives (IsSized b m) (IsSized b k) (gives n node)
  unfolding gives
  node-sized n (Rekey key) grows before past e now = rekeyed-sized _ e.change (grown e.change now (omega arith))
  node-sized n (Table relation) grows before past e now = body-sized e.change (grown e.change now (omega arith)) _
  node-sized n (JoinStreamTable kind on l r) grows before past e now =
      if-sized (e.side == 0) _ (join-sized kind l r before (join_key on e.change) e.change (grown e.change now (omega arith)))
  node-sized n (JoinTables kind l r) grows before past e now =
      let others : List Entry = of_side (other_side e.side) (of_key e.change.key before) in
      let after : time_after others ≤ b =
      time_after-within b others (All-filter (λ e. e.change.time ≤ b) _ (of_key e.change.key before) (All-filter (λ e. e.change.time ≤ b) _ before
      (All-weaker (λ (e : Entry). IsSized b m e.change) (λ e. e.change.time ≤ b) (λ e h. h.0) before past))) in
      let own = now in
      body-sized (record (at_path (side_step e.side l r ∷ e.change.place.path) e.change) { time = max e.change.time (time_after others) }) (omega arith, omega arith) _
  node-sized n (Filter on) grows before past e now = body-sized e.change (grown e.change now (omega arith)) _
  node-sized n (Group keys) grows before past e now = grouped-sized keys e.change now grows
  node-sized n (Aggregate over aggs None) grows before past e now =
      ((group_change-sized over aggs None (of_key e.change.key before) (All-filter (λ e. IsSized b m e.change) _ before past) e now, let own = now in omega arith), tt)
  node-sized n (Aggregate over aggs (Some w)) grows before past e now =
      All-flat_map (IsSized b k) (window_change over aggs w (with_times n before) (timed n before e)) (λ p. Unit {0})
      (λ p _. window-sized over aggs w (with_times n before) (timed-hold (λ e. IsSized b m e.change) n [] before past) (timed n before e) now grows p)
      (enumerate_from 0 (windows_of w e.change.time)) (units (enumerate_from 0 (windows_of w e.change.time)))
    where
      units : (xs : List (ℕ × Span)) → AllByRecursion (λ p. Unit {0}) xs
      units [] = tt
      units (x ∷ xs) = (tt, units xs)
  node-sized n (Having on) grows before past e now = body-sized e.change (grown e.change now (omega arith)) _
  node-sized n (Select keys vs) grows before past e now = body-sized (record e.change { key = selected_key keys e.change }) (grown e.change now (omega arith)) _

  pub aggregate-sized : (keys : List Typed) (aggs : List Agg) → m + 1 ≤ k → Gives (IsSized b m) (IsSized b k) (aggregate_of_table keys aggs)
  aggregate-sized keys aggs grows before past e now =
      All-map (IsSized b k) (held_change keys aggs before e) (grouped keys e.change)
      (All-weaker (IsSized b k) (λ c. IsSized b k (held_change keys aggs before e c))
      (λ c h. (
        latest-within b (touching keys c.key (before ++ e ∷ [])) (All-filter (λ e. e.change.time ≤ b) _ (before ++ e ∷ [])
            (All-append (λ e. e.change.time ≤ b) before (e ∷ []) (All-weaker (λ (e : Entry). IsSized b m e.change) (λ e. e.change.time ≤ b) (λ e h. h.0) before past) (now.0, tt))),
        h.1,
      ))
      (grouped keys e.change) (grouped-sized keys e.change now grows))
