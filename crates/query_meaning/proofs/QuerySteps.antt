-- The changes of a query, one step after another.
use Rattle.std.proofs.Common.{◌≡◌, ◌∙◌, ap, sym, refl, ℕ, List, [], ◌∷◌, ◌++◌, map, append_assoc}
use Rattle.std.specs.Prelude.{◌==◌, if◌then◌else◌}
use Rattle.std.specs.Cmp.{IsTotalOrder}
use Rattle.std.proofs.lemmas.Cmp.{on_total}
use Rattle.std.proofs.lemmas.List.{map-append}
use Rattle.ksql_types.specs.declared.relation.Kind.{Kind}
use Rattle.ksql_types.specs.declared.relation.Kind.TheVariants.{Stream, Table, Windowed}
use Rattle.ksql_place.specs.declared.change.Change.{Change}
use Rattle.ksql_place.proofs.Orders.{between_total}
use Rattle.ksql_program.specs.declared.program.Item.{Item}
use Rattle.ksql_program.specs.declared.query.From.{From}
use Rattle.ksql_program.specs.declared.query.From.TheVariants.{One, Join}
use Rattle.ksql_program.specs.declared.query.Query.{Query}
use Rattle.ksql_nodes.specs.declared.node.Node.{Node}
use Rattle.ksql_nodes.specs.declared.node.Node.TheVariants as node
use Rattle.ksql_nodes.specs.Entries.{Entry, Step, from_side, results, through}
use Rattle.ksql_nodes.specs.Nodes.{gives}
use Rattle.query_meaning.specs.Queries.{entry_cmp, filter_of, join_of, join_over, kind_at, leftmost, partitions_at, query_changes, read_entries, shape_steps, side_at, steps_of, whole_changes}
use Rattle.query_meaning.specs.Parts.{joined_changes}

-- the changes of one side
pub changed-from-side : (changes : List Change) → map (λ (e : Entry). e.change) (from_side 0 changes) ≡ changes
changed-from-side [] = refl
changed-from-side (c ∷ cs) = ap (λ rest. c ∷ rest) (changed-from-side cs)

-- steps after others, on the changes of one side
pub through-append : (first second : List Step) (changes : List Change) →
    through (first ++ second) (from_side 0 changes) ≡ through second (from_side 0 (through first (from_side 0 changes)))
through-append [] second changes = ap (λ (cs : List Change). through second (from_side 0 cs)) (sym (changed-from-side changes))
through-append (step ∷ steps) second changes = through-append steps second (results step [] (from_side 0 changes))

-- what a query reads, and then other steps
read-first : (items : List Item) (lists : List (List Change)) (f : From) (rest : List Step) →
    through (map (gives (partitions_at items (leftmost f))) (join_of items f) ++ rest) (read_entries items lists f)
    ≡ through rest (from_side 0 (joined_changes items lists f))
unfolding read_entries
read-first items lists (One number) rest = ap (λ (cs : List Change). through rest (from_side 0 cs)) (sym (changed-from-side (whole_changes items lists number)))
read-first items lists (Join k left right on) rest = by (kind_at items left)
  where
    n : ℕ
    n = partitions_at items left

    es : List Entry
    es = read_entries items lists (Join k left right on)

    after : (x : Node) → through (gives n x ∷ rest) es ≡ through rest (from_side 0 (through (gives n x ∷ []) es))
    after x = ap (λ (cs : List Change). through rest (from_side 0 cs)) (sym (changed-from-side (results (gives n x) [] es)))

    by : (over : Kind) → through (map (gives n) (join_over items k left right on over) ++ rest) es
        ≡ through rest (from_side 0 (through (map (gives n) (join_over items k left right on over)) es))
    by Stream = after (node.JoinStreamTable k on (side_at items left) (side_at items right))
    by Table = after (node.JoinTables k (side_at items left) (side_at items right))
    by Windowed = after (node.JoinTables k (side_at items left) (side_at items right))

-- a query: what it reads, WHERE, and its shape
pub query-steps : (items : List Item) (lists : List (List Change)) (q : Query) →
    query_changes items lists q
    ≡ through (shape_steps (partitions_at items (leftmost q.from)) (kind_at items (leftmost q.from)) q.shape)
    (from_side 0 (through (map (gives (partitions_at items (leftmost q.from))) (filter_of q.filter)) (from_side 0 (joined_changes items lists q.from))))
unfolding query_changes steps_of
query-steps items lists q =
    let n = partitions_at items (leftmost q.from) in
    let joins = join_of items q.from in
    let wheres = filter_of q.filter in
    let shapes = shape_steps n (kind_at items (leftmost q.from)) q.shape in
    ap (λ (steps : List Step). through steps (read_entries items lists q.from))
    (ap (λ (steps : List Step). steps ++ shapes) (map-append (gives n) joins wheres) ∙ append_assoc (map (gives n) joins) (map (gives n) wheres) shapes)
    ∙ read-first items lists q.from (map (gives n) wheres ++ shapes)
    ∙ through-append (map (gives n) wheres) shapes (joined_changes items lists q.from)

-- ---- the order of the entries of a join

pub entries_total : (left right : ℕ) → IsTotalOrder (entry_cmp left right)
entries_total left right = on_total (λ (e : Entry). (e.change.place, if e.side == 0 then left else right)) between_total
