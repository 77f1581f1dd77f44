-- A plain query gives its results change by change.
use Rattle.std.proofs.Common.{◌≡◌, ◌∙◌, ap, ap₂, sym, refl, ℕ, List, [], ◌∷◌, ◌++◌, map, true, false}
use Rattle.std.specs.Prelude.{if◌then◌else◌, Option, Some, None, option_map, option_and_then}
use Rattle.std.specs.List.{flat_map}
use Rattle.std.proofs.lemmas.List.Concat.{flat_map-append, flat_map_single}
use Rattle.std.proofs.lemmas.List.Folds.{flat_map-map}
use Rattle.ksql_types.specs.declared.value.Value.{Value}
use Rattle.ksql_place.specs.declared.change.Body.TheVariants.{Turned}
use Rattle.ksql_place.specs.declared.change.Change.{Change}
use Rattle.ksql_expr.specs.declared.typed.Typed.{Typed}
use Rattle.ksql_expr.specs.Value.{value_of, is_true_value}
use Rattle.ksql_nodes.specs.declared.node.Node.TheVariants as node
use Rattle.ksql_nodes.specs.Entries.{Entry, Row, from_side, results, through}
use Rattle.ksql_nodes.specs.Nodes.{gives}
use Rattle.ksql_nodes.specs.Rows.{filtered, passing, selected, turned, values, with_body}
use Rattle.reference.specs.Plain.{change_at, passed, plain_gives, row_left}
use Rattle.query_meaning.specs.Queries.{filter_of, key_cells, with_key_cells}
use Rattle.reference.specs.declared.plain.At.{At}
use Rattle.query_meaning.proofs.QuerySteps.{changed-from-side}

-- ---- steps that look back at nothing

results-each : {A B : Type 0} (f : A → List B) (before es : List A) → results (λ _ e. f e) before es ≡ flat_map f es
results-each f before [] = refl
results-each f before (e ∷ es) = ap (λ rest. f e ++ rest) (results-each f (before ++ e ∷ []) es)

step-each : (f : Change → List Change) (changes : List Change) → results (λ _ (e : Entry). f e.change) [] (from_side 0 changes) ≡ flat_map f changes
step-each f changes =
    results-each (λ (e : Entry). f e.change) [] (from_side 0 changes) ∙ flat_map-map (λ (e : Entry). f e.change) (λ c. record { side = 0; change = c }) changes

flat_map-twice : {A B C : Type 0} (f : B → List C) (g : A → List B) (xs : List A) → flat_map f (flat_map g xs) ≡ flat_map (λ x. flat_map f (g x)) xs
flat_map-twice f g [] = refl
flat_map-twice f g (x ∷ xs) = flat_map-append f (g x) (flat_map g xs) ∙ ap (λ rest. flat_map f (g x) ++ rest) (flat_map-twice f g xs)

-- WHERE and then the select list, on changes with their key cells
pub steps-each : (lanes columns : ℕ) (filter : Option Typed) (keys items : List Typed) (changes : List Change) →
    through (map (gives lanes) (filter_of filter) ++ gives lanes (node.Select keys items) ∷ []) (from_side 0 (map (with_key_cells columns) changes))
    ≡ flat_map (plain_gives columns filter keys items) changes
unfolding gives
steps-each lanes columns None keys items changes =
    let whole : List Change = map (with_key_cells columns) changes in
    changed-from-side (results (gives lanes (node.Select keys items)) [] (from_side 0 whole))
    ∙ step-each (selected keys items) whole
    ∙ ap (flat_map (selected keys items)) (sym (flat_map_single (with_key_cells columns) changes))
    ∙ flat_map-twice (selected keys items) (λ c. passed None (with_key_cells columns c)) changes
steps-each lanes columns (Some on) keys items changes =
    let whole : List Change = map (with_key_cells columns) changes in
    let kept : List Change = results (gives lanes (node.Filter on)) [] (from_side 0 whole) in
    changed-from-side (results (gives lanes (node.Select keys items)) [] (from_side 0 kept))
    ∙ step-each (selected keys items) kept
    ∙ ap (flat_map (selected keys items)) (step-each (filtered on) whole ∙ flat_map-map (filtered on) (with_key_cells columns) changes)
    ∙ flat_map-twice (selected keys items) (λ c. passed (Some on) (with_key_cells columns c)) changes

-- ---- what a change gives

selected-turned : (keys items : List Typed) (c : Change) (old new : Option Row) →
    flat_map (selected keys items) (with_body c (turned old new)) ≡ with_body c (turned (option_map (values items c.time) old) (option_map (values items c.time) new))
selected-turned keys items c None None = refl
selected-turned keys items c None (Some new) = refl
selected-turned keys items c (Some old) None = refl
selected-turned keys items c (Some old) (Some new) = refl

-- a row with its key cells that passes WHERE, and then the select list
left-of : (columns : ℕ) (on : Typed) (items : List Typed) (time : ℕ) (key : List Value) (row : Option Row) →
    option_map (values items time) (option_and_then (passing on time) (option_map (λ r. key_cells columns key ++ r) row))
    ≡ option_and_then (row_left columns (Some on) items time key) row
left-of columns on items time key None = refl
left-of columns on items time key (Some row) =
    let whole = key_cells columns key ++ row in
    elim (is_true_value (value_of whole time on))
    as (λ b. option_map (values items time) (if b then Some whole else None) ≡ (if b then Some (values items time whole) else None)) [ true ↦ refl | false ↦ refl ]

-- what a table's change gives: from what remains of its old row to what remains of its new one
pub turned-gives : (columns : ℕ) (filter : Option Typed) (keys items : List Typed) (at : At) (old new : Option Row) →
    let left : Option Row → Option Row = option_and_then (row_left columns filter items at.time at.key.now) in
    plain_gives columns filter keys items (change_at at (Turned old new)) ≡ with_body (change_at at (Turned old new)) (turned (left old) (left new))
turned-gives columns None keys items at None None = refl
turned-gives columns None keys items at None (Some new) = refl
turned-gives columns None keys items at (Some old) None = refl
turned-gives columns None keys items at (Some old) (Some new) = refl
turned-gives columns (Some on) keys items at old new =
    let whole : Option Row → Option Row = option_map (λ r. key_cells columns at.key.now ++ r) in
    let c = change_at at (Turned old new) in
    selected-turned keys items c (option_and_then (passing on at.time) (whole old)) (option_and_then (passing on at.time) (whole new))
    ∙ ap₂ (λ (a b : Option Row). with_body c (turned a b)) (left-of columns on items at.time at.key.now old) (left-of columns on items at.time at.key.now new)
