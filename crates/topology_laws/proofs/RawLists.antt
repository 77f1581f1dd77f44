-- The content of the topics of relations: what the records say, and the changes of queries.
use Rattle.std.proofs.Common.{◌≡◌, ◌∙◌, ap, ap₂, refl, sym, subst, ℕ, List, [], ◌∷◌, ◌++◌, Bool, true, false, cond}
use Rattle.std.specs.Prelude.{◌==◌, filter, flat_map, Option, Some, None, option_and_then, option_map, slice_get}
use Rattle.std.specs.List.{AllByRecursion}
use Rattle.std.specs.Cmp.{unsigned_Decides}
use Rattle.std.specs.declared.cmp.Ordering.TheVariants.{Less}
use Rattle.ksql_types.specs.Lane.{lane}
use Rattle.ksql_types.specs.declared.value.Value.{Value}
use Rattle.ksql_types.specs.declared.relation.Kind.{Kind}
use Rattle.ksql_types.specs.declared.relation.Kind.TheVariants as kind
use Rattle.ksql_types.specs.declared.relation.Relation.{Relation}
use Rattle.ksql_place.specs.Order.{record_cmp}
use Rattle.ksql_place.specs.Said.{is_of_topic, row_in, said, said_by, saying}
use Rattle.ksql_place.specs.declared.change.Body.{Body}
use Rattle.ksql_place.specs.declared.change.Body.TheVariants.{Said, Turned}
use Rattle.ksql_place.specs.declared.change.Change.{Change}
use Rattle.ksql_place.specs.declared.change.Decoded.{Decoded}
use Rattle.ksql_place.specs.declared.change.Decoded.TheVariants.{Good, Skipped, Tombstone}
use Rattle.ksql_place.specs.declared.change.SourceRecord.{SourceRecord}
use Rattle.ksql_expr.specs.declared.typed.Typed.{Typed}
use Rattle.ksql_program.specs.Program.{relation_at}
use Rattle.ksql_program.specs.declared.program.Item.{Item}
use Rattle.ksql_program.specs.declared.program.Item.TheVariants.{Declared}
use Rattle.ksql_nodes.specs.declared.node.Node.TheVariants.{Select, Table}
use Rattle.ksql_nodes.specs.Entries.{Entry, Row, from_side, of_key, results, row_after, through}
use Rattle.ksql_nodes.specs.Nodes.{gives}
use Rattle.ksql_nodes.specs.Rows.{by_rows, selected_key, turned, values, with_body}
use Rattle.ksql_nodes.specs.Steps.{IsTableFrom}
use Rattle.ksql_nodes.proofs.Lists.{All-append}
use Rattle.query_meaning.specs.Meaning.{declared_changes, steps_of_declared}
use Rattle.meaning_laws.proofs.Forks.{Rise}
use Rattle.meaning_laws.proofs.Lists.{Pairwise, Pairwise-filter}
use Rattle.meaning_laws.proofs.RelationPlaces.{flat-rise}
use Rattle.meaning_laws.proofs.Saying.{placed_at}
use Rattle.meaning_laws.proofs.Turning.{AreTurned, changed-from-side}
use Rattle.ksql_place.specs.Routing.{is_to}
use Rattle.topology.specs.Contents.{source_changes, source_contents}
use Rattle.lane_laws.specs.Lanes.{IsKeyed, tabled}
use Rattle.short_laws.specs.Fed.{IsInItsPartition}
use Rattle.topology_laws.proofs.Raw.{IsRaw}

-- ---- what records say

saying-keyed : (r : SourceRecord) (key : List Value) (value : Decoded) → r.key ≡ key → AllByRecursion (λ c. IsKeyed c.key) (placed_at r (said_by kind.Table key value))
saying-keyed r [] value is = tt
saying-keyed r (k ∷ ks) (Good row) is = (subst IsKeyed (sym is) tt, tt)
saying-keyed r (k ∷ ks) Tombstone is = (subst IsKeyed (sym is) tt, tt)
saying-keyed r (k ∷ ks) Skipped is = tt

flat-keyed : (order : List SourceRecord) → AllByRecursion (λ c. IsKeyed c.key) (flat_map (saying kind.Table) order)
flat-keyed [] = tt
flat-keyed (r ∷ rs) = All-append (λ c. IsKeyed c.key) (saying kind.Table r) (flat_map (saying kind.Table) rs) (saying-keyed r r.key r.value refl) (flat-keyed rs)

declared-stream : (k : Kind) (number : ℕ) (changes : List Change) → k ≡ kind.Stream → through (steps_of_declared k number) (from_side 0 changes) ≡ changes
declared-stream k number changes is = ap (λ over. through (steps_of_declared over number) (from_side 0 changes)) is ∙ changed-from-side changes

declared-table : (k : Kind) (number : ℕ) (changes : List Change) → k ≡ kind.Table → through (steps_of_declared k number) (from_side 0 changes) ≡ tabled number changes
declared-table k number changes is = ap (λ over. through (steps_of_declared over number) (from_side 0 changes)) is ∙ changed-from-side (tabled number changes)

-- the topic of a declared relation has what its records say
pub declared-raw : (r : Relation) (order : List SourceRecord) → Pairwise (λ a b. record_cmp a b ≡ Less) order → IsRaw r (said r order) (declared_changes r order) × Rise (said r order)
unfolding declared_changes said
declared-raw r order rise = (
  record {
    keyed = λ is. subst (λ k. AllByRecursion (λ c. IsKeyed c.key) (flat_map (saying k) (filter (is_of_topic r) order))) (sym is) (flat-keyed (filter (is_of_topic r) order));
    stream = declared-stream r.kind r.number (flat_map (saying r.kind) (filter (is_of_topic r) order));
    table = declared-table r.kind r.number (flat_map (saying r.kind) (filter (is_of_topic r) order));
  },
  flat-rise r.kind (filter (is_of_topic r) order) (Pairwise-filter (λ a b. record_cmp a b ≡ Less) (is_of_topic r) order rise),
)

-- ---- the partitions of a source

-- each change is in the partition that it would go to
module _ (n : ℕ) where
  abbrev StandsThere : SourceRecord → Type 0
  StandsThere r = r.stamp.part ≡ lane r.key n r.stamp.part

  saying-parts : (part : ℕ) (r : SourceRecord) (o : Option Body) → StandsThere r →
      (rest : List Change) → filter (λ c. c.place.stamp.part == part) rest ≡ filter (is_to n part) rest →
      filter (λ c. c.place.stamp.part == part) (placed_at r o ++ rest) ≡ filter (is_to n part) (placed_at r o ++ rest)
  saying-parts part r None there rest same = same
  saying-parts part r (Some body) there rest same =
      let c : Change = record { place = record { stamp = r.stamp; path = [] }; time = r.time; key = r.key; span = None; body = body } in
      ap₂ (λ b ds. cond b (c ∷ ds) ds) (ap (λ p. p == part) there) same

  flat-parts : (part : ℕ) (k : Kind) (order : List SourceRecord) → AllByRecursion StandsThere order →
      filter (λ c. c.place.stamp.part == part) (flat_map (saying k) order) ≡ filter (is_to n part) (flat_map (saying k) order)
  flat-parts part k [] there = refl
  flat-parts part k (r ∷ rs) there = saying-parts part r (said_by k r.key r.value) there.0 (flat_map (saying k) rs) (flat-parts part k rs there.1)

-- records of a topic are in the partitions of the relation with its number
of-topic : (items : List Item) (r : Relation) → relation_at items r.number ≡ Some r → (order : List SourceRecord) → AllByRecursion (IsInItsPartition items) order →
    AllByRecursion (StandsThere r.partitions) (filter (is_of_topic r) order)
of-topic items r at [] placed = tt
of-topic items r at (s ∷ ss) placed = by (is_of_topic r s) refl (of-topic items r at ss placed.1)
  where
    by : (b : Bool) → is_of_topic r s ≡ b → AllByRecursion (StandsThere r.partitions) (filter (is_of_topic r) ss) →
        AllByRecursion (StandsThere r.partitions) (cond b (s ∷ filter (is_of_topic r) ss) (filter (is_of_topic r) ss))
    by true is rest = (placed.0 r (ap (relation_at items) ((unsigned_Decides s.stamp.topic r.number).0 is) ∙ at), rest)
    by false is rest = rest

-- each partition of a source has the part of what its records say that goes there
pub source-parts : (items : List Item) (order : List SourceRecord) → AllByRecursion (IsInItsPartition items) order → (number : ℕ) (r : Relation) → slice_get items number ≡ Some (Declared r) →
    relation_at items r.number ≡ Some r → (part : ℕ) → source_contents items order number part ≡ filter (is_to r.partitions part) (said r order)
unfolding said
source-parts items order placed number r is at part =
    ap (λ o. filter (λ c. c.place.stamp.part == part) (source_changes order o)) is
    ∙ flat-parts r.partitions part r.kind (filter (is_of_topic r) order) (of-topic items r at order placed)

-- ---- the table of a written table

-- a change of a table isn't from absent to absent
abbrev pub IsPresent : Change → Type 0
IsPresent c = by c.body
  where
    by : Body → Type 0
    by (Said row) = Unit {0}
    by (Turned None None) = ⊥
    by (Turned old new) = Unit {0}

present-again : (c : Change) (old : Option Row) → IsPresent c → c.body ≡ Turned old (row_in c.body) → with_body c (turned old (row_in c.body)) ≡ c ∷ []
present-again c old present is = by old (row_in c.body) is
  where
    by : (old new : Option Row) → c.body ≡ Turned old new → with_body c (turned old new) ≡ c ∷ []
    by None None same = absurd (subst (λ body. IsPresent (record c { body = body })) same present)
    by None (Some row) same = ap (λ body. record c { body = body } ∷ []) (sym same)
    by (Some row) new same = ap (λ body. record c { body = body } ∷ []) (sym same)

table-again : (number : ℕ) (before : List Entry) (changes : List Change) → IsTableFrom before (from_side 0 changes) → AllByRecursion IsPresent changes →
    results (gives 1 (Table number)) before (from_side 0 changes) ≡ changes
unfolding gives
table-again number before [] turned present = refl
table-again number before (c ∷ cs) turned present =
    ap₂ (λ xs ys. xs ++ ys) (present-again c (row_after (of_key c.key before)) present.0 turned.0)
    (table-again number (before ++ record { side = 0; change = c } ∷ []) cs turned.1 present.1)

-- the node Table leaves a table's changes as they are
pub tabled-again : (number : ℕ) (changes : List Change) → AreTurned changes → AllByRecursion IsPresent changes → tabled number changes ≡ changes
tabled-again number changes turned present = table-again number [] changes turned present

body-present : (c : Change) (o : Option Row) (p : Option Row) → AllByRecursion IsPresent (with_body c (turned o p))
body-present c None None = tt
body-present c None (Some row) = (tt, tt)
body-present c (Some row) p = (tt, tt)

rows-present : (c : Change) (f : Row → Option Row) (body : Body) → AllByRecursion IsPresent (with_body c (by_rows f body))
rows-present c f (Said row) = by (f row)
  where
    by : (o : Option Row) → AllByRecursion IsPresent (with_body c (option_map (λ r. Said r) o))
    by None = tt
    by (Some row) = (tt, tt)
rows-present c f (Turned old new) = body-present c (option_and_then f old) (option_and_then f new)

-- what a select list gives is present
pub select-present : (n : ℕ) (keys items : List Typed) (before es : List Entry) → AllByRecursion IsPresent (results (gives n (Select keys items)) before es)
unfolding gives
select-present n keys items before [] = tt
select-present n keys items before (e ∷ es) =
    All-append IsPresent (gives n (Select keys items) before e) (results (gives n (Select keys items)) (before ++ e ∷ []) es)
    (rows-present (record e.change { key = selected_key keys e.change }) (λ row. Some (values items e.change.time row)) e.change.body) (select-present n keys items (before ++ e ∷ []) es)
