-- What a reader of two inputs gives is what the task takes.
use Rattle.std.proofs.Common.{◌≡◌, ◌∙◌, ap₂, sym, refl, ℕ, List, [], ◌∷◌, ◌++◌, ◌≤◌, length, get_or, arith, append-nil}
use Rattle.std.specs.Prelude.{flat_map}
use Rattle.ksql_types.specs.declared.relation.Kind.{Kind}
use Rattle.ksql_place.specs.Ascending.{ascending}
use Rattle.ksql_nodes.specs.declared.node.Node.{Node}
use Rattle.ksql_nodes.specs.Entries.{Entry}
use Rattle.query_meaning.specs.Queries.{entry_cmp}
use Rattle.topology.specs.declared.topology.SubInput.{SubInput}
use Rattle.core_state.specs.Wired.{between, log_feed}
use Rattle.core_state.specs.declared.log.LogEntry.{LogEntry}
use Rattle.core_state.specs.declared.log.LogEntry.TheVariants.{Fed, Said}
use Rattle.topic_log.specs.Entries.{entries_in}
use Rattle.task_core.specs.Readers.{pending, taken_as}
use Rattle.task_core.specs.Reading.{kind_read, taken, takes}
use Rattle.task_core.specs.declared.reader.Rest.{Rest}
use Rattle.task_core.proofs.Merging.{both}

taken-one : (nodes : List Node) (side : ℕ) (input : SubInput) (x : LogEntry) → taken_as (kind_read nodes side) side input x ≡ taken nodes side input x
taken-one nodes side input (Fed r) = refl
taken-one nodes side input (Said c) = refl

taken-same : (nodes : List Node) (side : ℕ) (input : SubInput) (xs : List LogEntry) →
    flat_map (taken_as (kind_read nodes side) side input) xs ≡ flat_map (taken nodes side input) xs
taken-same nodes side input [] = refl
taken-same nodes side input (x ∷ xs) = ap₂ (λ (us vs : List Entry). us ++ vs) (taken-one nodes side input x) (taken-same nodes side input xs)

-- the rest of an input, as it is read
pub record Shows (kind : Kind) (input : SubInput) (shown : List LogEntry) (r : Rest) : Type 0 where
  pub kind_is : r.kind ≡ kind
  pub input_is : r.input ≡ input
  pub entries_are : entries_in r.entries ≡ shown

pub takes-two : (nodes : List Node) (inputs : List SubInput) (shown : ℕ → List LogEntry) (a b : ℕ) (first second : Rest) (d e : SubInput) →
    2 ≤ length inputs → length inputs ≤ 2 →
    Shows (kind_read nodes 0) (get_or inputs 0 d) (between log_feed a b (shown (get_or inputs 0 d).topic)) first →
    Shows (kind_read nodes 1) (get_or inputs 1 e) (between log_feed a b (shown (get_or inputs 1 e).topic)) second →
    pending (record { left = first; right = second }) ≡ takes nodes inputs shown a b
takes-two nodes [] shown a b first second d e some few left right = absurd (omega (arith, some))
takes-two nodes (i ∷ []) shown a b first second d e some few left right = absurd (omega (arith, some))
takes-two nodes (i ∷ j ∷ k ∷ more) shown a b first second d e some few left right = absurd (omega (arith, few))
takes-two nodes (i ∷ j ∷ []) shown a b first second d e some few left right =
    let xs = between log_feed a b (shown i.topic) in
    let ys = between log_feed a b (shown j.topic) in
    let read : pending (record { left = first; right = second }) ≡ both (kind_read nodes 0) (kind_read nodes 1) i j xs ys
    = λ t. both (left.kind_is t) (right.kind_is t) (left.input_is t) (right.input_is t) (left.entries_are t) (right.entries_are t) in
    read
    ∙ ap₂ (λ (us vs : List Entry). ascending (entry_cmp i.relation j.relation) (us ++ vs)) (taken-same nodes 0 i xs)
    (taken-same nodes 1 j ys ∙ sym (append-nil (flat_map (taken nodes 1 j) ys)))
