-- Steps and nodes in a row, and what the tasks of one stage send.
use Rattle.std.proofs.Common.{◌≡◌, ◌∙◌, ap, refl, sym, subst, ℕ, ◌<◌, List, [], ◌∷◌, ◌++◌, map, append_assoc}
use Rattle.std.proofs.lemmas.List.{map-append}
use Rattle.std.specs.Prelude.{filter, flat_map}
use Rattle.std.specs.List.{AllByRecursion, range_with_len}
use Rattle.ksql_place.specs.Ascending.{ascending}
use Rattle.ksql_place.specs.declared.change.Change.{Change}
use Rattle.ksql_nodes.specs.declared.node.Node.{Node}
use Rattle.ksql_nodes.specs.declared.node.Node.TheVariants.{Rekey, Table, JoinStreamTable, JoinTables, Filter, Group, Aggregate, Having, Select}
use Rattle.ksql_nodes.specs.Entries.{Entry, Step, from_side, results, through}
use Rattle.ksql_nodes.specs.Nodes.{gives}
use Rattle.meaning_laws.proofs.Forks.{Rise}
use Rattle.meaning_laws.proofs.Rising.{IsPlain, gives-rising, rise-next, through-rise}
use Rattle.meaning_laws.proofs.Turning.{changed-from-side}
use Rattle.ksql_place.specs.Routing.{change_cmp, is_to}
use Rattle.lane_laws.specs.Lanes.{AreLaned, LooksAtNone, in_part}
use Rattle.lane_laws.proofs.Sending.{laned-through, sent-whole}

-- ---- steps

-- the entries that come after some steps
abbrev pub entries_after : List Step → List Entry → List Entry
entries_after [] es = es
entries_after (step ∷ steps) es = entries_after steps (from_side 0 (results step [] es))

pub through-append : (xs ys : List Step) (es : List Entry) → through (xs ++ ys) es ≡ through ys (entries_after xs es)
through-append [] ys es = refl
through-append (x ∷ xs) ys es = through-append xs ys (from_side 0 (results x [] es))

-- one node
pub one-node : (n : ℕ) (x : Node) (es : List Entry) → from_side 0 (results (gives n x) [] es) ≡ from_side 0 (through (gives n x ∷ []) es)
one-node n x es = ap (from_side 0) (sym (changed-from-side (results (gives n x) [] es)))

-- where changes come, changes come after them
pub entries-changes : (steps : List Step) (cs : List Change) → entries_after steps (from_side 0 cs) ≡ from_side 0 (through steps (from_side 0 cs))
entries-changes [] cs = sym (ap (from_side 0) (changed-from-side cs))
entries-changes (step ∷ steps) cs = entries-changes steps (results step [] (from_side 0 cs))

-- some nodes and one more after changes
pub through-last : (n : ℕ) (nodes : List Node) (last : Node) (cs : List Change) →
    through (map (gives n) (nodes ++ last ∷ [])) (from_side 0 cs) ≡ results (gives n last) [] (from_side 0 (through (map (gives n) nodes) (from_side 0 cs)))
through-last n nodes last cs =
    ap (λ steps. through steps (from_side 0 cs)) (map-append (gives n) nodes (last ∷ []))
    ∙ through-append (map (gives n) nodes) (gives n last ∷ []) (from_side 0 cs)
    ∙ changed-from-side (results (gives n last) [] (entries_after (map (gives n) nodes) (from_side 0 cs)))
    ∙ ap (results (gives n last) []) (entries-changes (map (gives n) nodes) cs)

-- ---- nodes

pub laned-append : (n : ℕ) (xs ys : List Node) (es : List Entry) → AreLaned n xs es → AreLaned n ys (entries_after (map (gives n) xs) es) → AreLaned n (xs ++ ys) es
laned-append n [] ys es first second = second
laned-append n (x ∷ xs) ys es first second = (first.0, laned-append n xs ys (from_side 0 (results (gives n x) [] es)) first.1 second)

-- the nodes with one input, whose entries have their own places
abbrev pub HasOneInput : Node → Type 0
HasOneInput (JoinStreamTable kind on l r) = ⊥
HasOneInput (JoinTables kind l r) = ⊥
HasOneInput _ = Unit {0}

one-plain : (n : ℕ) (node : Node) → HasOneInput node → IsPlain (gives n node)
one-plain n (Rekey key) one = gives-rising n (Rekey key)
one-plain n (Table relation) one = gives-rising n (Table relation)
one-plain n (JoinStreamTable kind on l r) one = absurd one
one-plain n (JoinTables kind l r) one = absurd one
one-plain n (Filter on) one = gives-rising n (Filter on)
one-plain n (Group keys) one = gives-rising n (Group keys)
one-plain n (Aggregate over aggs w) one = gives-rising n (Aggregate over aggs w)
one-plain n (Having on) one = gives-rising n (Having on)
one-plain n (Select keys values) one = gives-rising n (Select keys values)

nodes-plain : (n : ℕ) (nodes : List Node) → AllByRecursion HasOneInput nodes → AllByRecursion IsPlain (map (gives n) nodes)
nodes-plain n [] one = tt
nodes-plain n (x ∷ xs) one = (one-plain n x one.0, nodes-plain n xs one.1)

pub nodes-rise : (n : ℕ) (nodes : List Node) → AllByRecursion HasOneInput nodes → (cs : List Change) → Rise cs → Rise (through (map (gives n) nodes) (from_side 0 cs))
nodes-rise n nodes one cs rise = through-rise (map (gives n) nodes) (nodes-plain n nodes one) (from_side 0 cs) (rise-next cs rise)

-- ---- a stage

-- what is known of what the tasks of a stage read, and of its first nodes: after those come changes
module _ (n : ℕ) (some : 0 < n) (first : List Node) (parts : ℕ → List Entry) (es : List Entry) (reads : (part : ℕ) → parts part ≡ filter (in_part n part) es)
    (laned : AreLaned n first es) (read : List Change) (after : entries_after (map (gives n) first) es ≡ from_side 0 read) (rise : Rise read) where
  module _ (middle : List Node) (divided : AreLaned n middle (from_side 0 read)) where
    abbrev whole : List Change
    whole = through (map (gives n) middle) (from_side 0 read)

    -- what the tasks have before the last node
    before-last : (part : ℕ) → through (map (gives 1) (first ++ middle)) (parts part) ≡ filter (is_to n part) whole
    before-last part =
        ap (through (map (gives 1) (first ++ middle))) (reads part)
        ∙ laned-through n (first ++ middle) es (laned-append n first middle es laned (subst (AreLaned n middle) (sym after) divided)) part
        ∙ ap (filter (is_to n part))
        (ap (λ steps. through steps es) (map-append (gives n) first middle) ∙ through-append (map (gives n) first) (map (gives n) middle) es ∙ ap (through (map (gives n) middle)) after)

    pub stage-sent : (last : Node) → LooksAtNone last → AllByRecursion HasOneInput (middle ++ last ∷ []) → (nodes : List Node) → nodes ≡ first ++ (middle ++ last ∷ []) → (m q : ℕ) →
        ascending change_cmp (flat_map (λ task. filter (is_to m q) (through (map (gives 1) nodes) (parts task))) (range_with_len 0 n))
        ≡ filter (is_to m q) (through (map (gives n) (middle ++ last ∷ [])) (from_side 0 read))
    stage-sent last looks one nodes is m q =
        ap (λ xs. ascending change_cmp (flat_map (λ task. filter (is_to m q) (through (map (gives 1) xs) (parts task))) (range_with_len 0 n)))
        (is ∙ sym (append_assoc first middle (last ∷ [])))
        ∙ sent-whole n m some (first ++ middle) last looks parts whole before-last
        (subst Rise (through-last n middle last read) (nodes-rise n (middle ++ last ∷ []) one read rise)) q
        ∙ ap (filter (is_to m q)) (sym (through-last n middle last read))
