-- A task of a filter and a select list can store what comes of small records.
use Rattle.std.proofs.Common.{◌≡◌, ◌∙◌, ap, sym, refl, subst, ℕ, zero, suc, List, [], ◌∷◌, ◌++◌, ◌≤◌, ◌^◌, Bool, true, false, cond, length, map, arith, All}
use Rattle.std.specs.Prelude.{filter, flat_map, if◌then◌else◌, IsSome, IsTrue}
use Rattle.std.specs.List.{AllByRecursion}
use Rattle.std.specs.declared.cmp.Ordering.{Ordering}
use Rattle.std.specs.Ordering.{is_gt}
use Rattle.std.proofs.lemmas.Bool.{false≢true}
use Rattle.std.proofs.lemmas.List.Elements.{All-filter, All-from_recursion, recursion_from_All}
use Rattle.ksql_types.specs.declared.relation.Kind.{Kind}
use Rattle.ksql_types.specs.declared.relation.Kind.TheVariants as kind
use Rattle.ksql_types.specs.declared.value.Value.{Value}
use Rattle.ksql_place.specs.Ascending.{ascending, placed}
use Rattle.ksql_place.specs.Said.{saying}
use Rattle.ksql_place.specs.declared.change.Change.{Change}
use Rattle.ksql_place.specs.declared.change.Decoded.{Decoded}
use Rattle.ksql_place.specs.declared.change.Decoded.TheVariants.{Good, Tombstone, Skipped}
use Rattle.ksql_place.specs.declared.change.SourceRecord.{SourceRecord}
use Rattle.ksql_expr.specs.declared.typed.Typed.{Typed}
use Rattle.record_codec.specs.Spelling.{IsShort}
use Rattle.ksql_nodes.specs.declared.node.Node.{Node}
use Rattle.ksql_nodes.specs.declared.node.Node.TheVariants.{Filter, Select}
use Rattle.ksql_nodes.specs.Entries.{Entry, from_side}
use Rattle.topology.specs.Contents.{with_cells}
use Rattle.topology.specs.declared.topology.SubInput.{SubInput}
use Rattle.core_state.specs.Wired.{between, log_feed}
use Rattle.core_state.specs.declared.log.LogEntry.{LogEntry}
use Rattle.core_state.specs.declared.log.LogEntry.TheVariants.{Fed}
use Rattle.op_chain.specs.Chain.{HaveOwnStores, StandAlong, has_operator}
use Rattle.node_tests.specs.Plain.{AreFiltered, IsPlain}
use Rattle.node_tests.proofs.Filtered.{storable-filtered}
use Rattle.topic_log.specs.Shelves.{part_at, routes_in, shelf_of}
use Rattle.topic_log.specs.declared.shelves.Shelves.{Shelves}
use Rattle.task_core.specs.Reading.{kind_read, taken, takes}
use Rattle.task_core.specs.Tasks.{CanRead, CanStore, TaskView, bound_of, next_entries, shown_to}

-- a record with an early time and a short key
abbrev pub IsModestRecord : SourceRecord → Type 0
IsModestRecord r = (r.time ≤ 2 ^ 53) × All IsShort r.key

abbrev AreModest : List Entry → Type 0
AreModest es = AllByRecursion (λ e. IsPlain e.change) es

-- ---- what is taken

cells-modest : (n : ℕ) (c : Change) → IsPlain c → IsPlain (with_cells n c)
cells-modest zero c h = h
cells-modest (suc n) c h = record { time = h.time; path = h.path; key = h.key }

said-modest : (k : Kind) (side keys : ℕ) (r : SourceRecord) (key : List Value) (value : Decoded) → (r.time ≤ 2 ^ 53) → All IsShort key →
    AreModest (from_side side (map (with_cells keys) (saying k (record r { key = key; value = value }))))
said-modest kind.Stream side keys r key (Good row) early short = (cells-modest keys _ (record { time = early; path = omega arith; key = short }), tt)
said-modest kind.Stream side keys r key Tombstone early short = tt
said-modest kind.Stream side keys r key Skipped early short = tt
said-modest kind.Table side keys r [] value early short = tt
said-modest kind.Table side keys r (v ∷ vs) (Good row) early short = (cells-modest keys _ (record { time = early; path = omega arith; key = short }), tt)
said-modest kind.Table side keys r (v ∷ vs) Tombstone early short = (cells-modest keys _ (record { time = early; path = omega arith; key = short }), tt)
said-modest kind.Table side keys r (v ∷ vs) Skipped early short = tt
said-modest kind.Windowed side keys r key value early short = tt

modest-append : (us vs : List Entry) → AreModest us → AreModest vs → AreModest (us ++ vs)
modest-append [] vs h k = k
modest-append (u ∷ us) vs h k = (h.0, modest-append us vs h.1 k)

flat-modest : (nodes : List Node) (input : SubInput) (p : LogEntry → Bool) (rs : List SourceRecord) → AllByRecursion IsModestRecord rs →
    AreModest (flat_map (taken nodes 0 input) (filter p (map Fed rs)))
flat-modest nodes input p [] h = tt
flat-modest nodes input p (r ∷ rs) h =
    elim (p (Fed r)) as (λ t. AreModest (flat_map (taken nodes 0 input) (cond t (Fed r ∷ filter p (map Fed rs)) (filter p (map Fed rs))))) [
      | true ↦ modest-append (taken nodes 0 input (Fed r)) (flat_map (taken nodes 0 input) (filter p (map Fed rs)))
          (said-modest (kind_read nodes 0) 0 input.keys r r.key r.value h.0.0 h.0.1) (flat-modest nodes input p rs h.1)
      | false ↦ flat-modest nodes input p rs h.1
    ]

placed-modest : (cmp : Entry → Entry → Ordering) (e : Entry) (es : List Entry) → IsPlain e.change → AreModest es → AreModest (placed cmp e es)
placed-modest cmp e [] h k = (h, tt)
placed-modest cmp e (d ∷ ds) h k =
    elim (is_gt (cmp e d)) as (λ up. AreModest (if up then d ∷ placed cmp e ds else e ∷ d ∷ ds))
    [ true ↦ (k.0, placed-modest cmp e ds h k.1) | false ↦ (h, k) ]

ascending-modest : (cmp : Entry → Entry → Ordering) (es : List Entry) → AreModest es → AreModest (ascending cmp es)
ascending-modest cmp [] h = tt
ascending-modest cmp (e ∷ es) h = placed-modest cmp e (ascending cmp es) h.0 (ascending-modest cmp es h.1)

-- what a task takes of records of one topic
pub takes-modest : (nodes : List Node) (input : SubInput) (shown : ℕ → List LogEntry) (a b : ℕ) (rs : List SourceRecord) →
    shown input.topic ≡ map Fed rs → All IsModestRecord rs → AreModest (takes nodes (input ∷ []) shown a b)
takes-modest nodes input shown a b rs is h =
    ascending-modest _ _
    (modest-append (flat_map (taken nodes 0 input) (between log_feed a b (shown input.topic))) []
    (subst (λ (xs : List LogEntry). AreModest (flat_map (taken nodes 0 input) (between log_feed a b xs))) (sym is)
    (flat-modest nodes input _ rs (recursion_from_All IsModestRecord rs h))) tt)

-- ---- a filter and a select list

pub filtered-operators : (nodes : List Node) → AreFiltered nodes → All (λ n. IsTrue (has_operator n)) nodes
filtered-operators nodes (on, keys, items, are) =
    subst (All (λ n. IsTrue (has_operator n))) (sym are)
    (All-from_recursion (λ (n : Node). IsTrue (has_operator n)) (Filter on ∷ Select keys items ∷ []) (refl, (refl, tt)))

own-stores : (on : Typed) (keys items : List Typed) → HaveOwnStores (Filter on ∷ Select keys items ∷ [])
own-stores on keys items zero zero d low below = absurd (omega (arith, low))
own-stores on keys items zero (suc zero) d low below = λ number own. absurd (false≢true own)
own-stores on keys items zero (suc (suc j)) d low below = absurd (omega (arith, below))
own-stores on keys items (suc i) zero d low below = absurd (omega (arith, low))
own-stores on keys items (suc i) (suc zero) d low below = absurd (omega (arith, low))
own-stores on keys items (suc i) (suc (suc j)) d low below = absurd (omega (arith, below))

pub filtered-own : (nodes : List Node) → AreFiltered nodes → HaveOwnStores nodes
filtered-own nodes (on, keys, items, are) = subst HaveOwnStores (sym are) (own-stores on keys items)

-- ---- a task of one input

-- what a broker shows after records were fed to a partition that showed nothing
pub shown-after : (old next : List LogEntry) (p : SourceRecord → Bool) (records : List SourceRecord) → old ≡ [] → next ≡ old ++ map Fed (filter p records) → All IsModestRecord records →
    (rs : List SourceRecord) × (next ≡ map Fed rs) × All IsModestRecord rs
shown-after old next p records none is h =
    (filter p records, is ∙ ap (λ (xs : List LogEntry). xs ++ map Fed (filter p records)) none, All-filter p IsModestRecord records h)

one-input : (P : List SubInput → Type 0) (inputs : List SubInput) (input : SubInput) → inputs ≡ input ∷ [] → P (input ∷ []) → P inputs
one-input P inputs input is h = subst P (sym is) h

pub readable-one : (b : Shelves) (t : TaskView) (input : SubInput) → t.inputs ≡ input ∷ [] → IsSome (part_at b input.topic t.name.part) → CanRead b t
readable-one b t input is there =
    record {
      some = one-input (λ inputs. 1 ≤ length inputs) t.inputs input is (omega arith);
      two = one-input (λ inputs. length inputs ≤ 2) t.inputs input is (omega arith);
      parts = one-input (All (λ i. IsSome (part_at b i.topic t.name.part))) t.inputs input is
          (All-from_recursion (λ i. IsSome (part_at b i.topic t.name.part)) (input ∷ []) (there, tt));
    }

pub storable-one : (b : Shelves) (t : TaskView) (input : SubInput) (rs : List SourceRecord) → t.inputs ≡ input ∷ [] → (shelf_of b).shown input.topic t.name.part ≡ map Fed rs →
    All IsModestRecord rs → StandAlong t.nodes t.maps [] → AreFiltered t.nodes → CanStore (routes_in b) (shelf_of b) t
storable-one b t input rs is shown modest stand filtered = (
  [],
  stand,
  storable-filtered t.nodes [] (next_entries (routes_in b) (shelf_of b) t) filtered
      (one-input (λ inputs. AreModest (takes t.nodes inputs (shown_to (shelf_of b) t) t.done (bound_of (routes_in b) (shelf_of b) t))) t.inputs input is
      (takes-modest t.nodes input (shown_to (shelf_of b) t) t.done (bound_of (routes_in b) (shelf_of b) t) rs shown modest)),
)
