-- What all tasks send to a partition, in place order, is the part of the whole that goes there.
use Rattle.std.proofs.Common.{◌≡◌, ◌∙◌, ap, ap₂, refl, sym, subst, ℕ, ◌<◌, List, [], ◌∷◌, ◌++◌, map}
use Rattle.std.proofs.lemmas.List.Elements.{filter-append}
use Rattle.std.proofs.lemmas.Nat.{mod_below}
use Rattle.std.specs.Prelude.{Bool, filter, flat_map}
use Rattle.std.specs.List.{range_with_len}
use Rattle.std.specs.Cmp.{IsTotalOrder}
use Rattle.std.proofs.lemmas.Cmp.{on_total}
use Rattle.ksql_types.specs.Lane.{hash, key_bytes, lane}
use Rattle.ksql_types.specs.declared.value.Value.{Value}
use Rattle.ksql_place.specs.Ascending.{ascending}
use Rattle.ksql_place.specs.declared.change.Change.{Change}
use Rattle.ksql_place.proofs.Orders.{place_total}
use Rattle.ksql_nodes.specs.declared.node.Node.{Node}
use Rattle.ksql_nodes.specs.declared.node.Node.TheVariants.{Rekey, Table, JoinStreamTable, JoinTables, Filter, Group, Aggregate, Having, Select}
use Rattle.ksql_nodes.specs.Entries.{Entry, from_side, results, through}
use Rattle.ksql_nodes.specs.Nodes.{gives}
use Rattle.query_meaning.proofs.QuerySteps.{changed-from-side}
use Rattle.meaning_laws.proofs.Forks.{IsBefore, Rise, before-less}
use Rattle.meaning_laws.proofs.Lists.{Pairwise, Pairwise-filter, Pairwise-weaker, filter-map}
use Rattle.ksql_place.specs.Routing.{change_cmp, is_to}
use Rattle.lane_laws.specs.Lanes.{AreLaned, LooksAtNone, in_part}
use Rattle.lane_laws.proofs.Gathering.{IsBelow, gathered}
use Rattle.lane_laws.proofs.Inputs.{side-part}

-- nodes in a row
pub laned-through : (n : ℕ) (nodes : List Node) (es : List Entry) → AreLaned n nodes es → (part : ℕ) →
    through (map (gives 1) nodes) (filter (in_part n part) es) ≡ filter (is_to n part) (through (map (gives n) nodes) es)
laned-through n [] es laned part = sym (filter-map (is_to n part) (λ e. e.change) es)
laned-through n (node ∷ nodes) es laned part =
    let all : List Change = results (gives n node) [] es in
    ap (λ cs. through (map (gives 1) nodes) (from_side 0 cs)) (laned.0 part)
    ∙ ap (through (map (gives 1) nodes)) (side-part n part 0 all)
    ∙ laned-through n nodes (from_side 0 all) laned.1 part

-- ---- a node that looks at no earlier entry

-- what it gives for a change
abbrev alone : Node → Change → List Change
alone node c = gives 1 node [] (record { side = 0; change = c })

gives-alone : (n : ℕ) (node : Node) → LooksAtNone node → (before : List Entry) (e : Entry) → gives n node before e ≡ alone node e.change
unfolding gives
gives-alone n (Rekey key) looks before e = refl
gives-alone n (Table relation) looks before e = absurd looks
gives-alone n (JoinStreamTable kind on l r) looks before e = absurd looks
gives-alone n (JoinTables kind l r) looks before e = absurd looks
gives-alone n (Filter on) looks before e = refl
gives-alone n (Group keys) looks before e = refl
gives-alone n (Aggregate over aggs w) looks before e = absurd looks
gives-alone n (Having on) looks before e = refl
gives-alone n (Select keys vs) looks before e = refl

results-alone : (n : ℕ) (node : Node) → LooksAtNone node → (before es : List Entry) →
    results (gives n node) before es ≡ flat_map (alone node) (map (λ e. e.change) es)
results-alone n node looks before [] = refl
results-alone n node looks before (e ∷ es) =
    ap₂ (λ now later. now ++ later) (gives-alone n node looks before e) (results-alone n node looks (before ++ e ∷ []) es)

-- as the last of some nodes
through-last : (first : List Node) (last : Node) → LooksAtNone last → (es : List Entry) →
    through (map (gives 1) (first ++ last ∷ [])) es ≡ flat_map (alone last) (through (map (gives 1) first) es)
through-last [] last looks es = changed-from-side (results (gives 1 last) [] es) ∙ results-alone 1 last looks [] es
through-last (node ∷ first) last looks es = through-last first last looks (from_side 0 (results (gives 1 node) [] es))

-- ---- what tasks send

filter-each : {A B : Type 0} (p : B → Bool) (f : A → List B) (xs : List A) → filter p (flat_map f xs) ≡ flat_map (λ x. filter p (f x)) xs
filter-each p f [] = refl
filter-each p f (x ∷ xs) = filter-append p (f x) (flat_map f xs) ∙ ap (λ rest. filter p (f x) ++ rest) (filter-each p f xs)

change_total : IsTotalOrder change_cmp
change_total = on_total (λ (c : Change). c.place) place_total

lane-below : (n : ℕ) → 0 < n → (key : List Value) (home : ℕ) → lane key n home < n
lane-below n some [] home = mod_below home n some
lane-below n some (first ∷ more) home = mod_below (hash (key_bytes (first ∷ more))) n some

-- the tasks' last node looks at no earlier entry, and the nodes before it leave to each task its part of a whole list
pub sent-whole : (n m : ℕ) → 0 < n → (first : List Node) (last : Node) → LooksAtNone last → (parts : ℕ → List Entry) (whole : List Change) →
    ((part : ℕ) → through (map (gives 1) first) (parts part) ≡ filter (is_to n part) whole) → Rise (results (gives n last) [] (from_side 0 whole)) → (q : ℕ) →
    ascending change_cmp (flat_map (λ task. filter (is_to m q) (through (map (gives 1) (first ++ last ∷ [])) (parts task))) (range_with_len 0 n))
    ≡ filter (is_to m q) (results (gives n last) [] (from_side 0 whole))
sent-whole n m some first last looks parts whole reads rise q =
    let to : Change → Bool = is_to m q in
    let sends : Change → List Change = λ c. filter to (alone last c) in
    let task_sends : (task : ℕ) → filter to (through (map (gives 1) (first ++ last ∷ [])) (parts task)) ≡ flat_map sends (filter (is_to n task) whole) =
    λ task. ap (filter to) (through-last first last looks (parts task) ∙ ap (flat_map (alone last)) (reads task)) ∙ filter-each to (alone last) (filter (is_to n task) whole) in
    let whole_sends : filter to (results (gives n last) [] (from_side 0 whole)) ≡ flat_map sends whole =
    ap (filter to) (results-alone n last looks [] (from_side 0 whole) ∙ ap (flat_map (alone last)) (changed-from-side whole)) ∙ filter-each to (alone last) whole in
    let up : Pairwise (IsBelow change_cmp) (flat_map sends whole) =
    subst (Pairwise (IsBelow change_cmp)) whole_sends
    (Pairwise-filter (IsBelow change_cmp) to (results (gives n last) [] (from_side 0 whole))
    (Pairwise-weaker (λ c d. IsBefore c.place d.place) (IsBelow change_cmp) (λ c d. before-less c.place d.place) (results (gives n last) [] (from_side 0 whole)) rise)) in
    (λ i. ascending change_cmp (flat_map (λ task. task_sends task i) (range_with_len 0 n)))
    ∙ gathered (λ c. lane c.key n c.place.stamp.part) sends change_total n (λ c. lane-below n some c.key c.place.stamp.part) whole up
    ∙ sym whole_sends
