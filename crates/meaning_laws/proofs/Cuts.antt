-- The meaning of the records that pass a test of stamps, if these come first.
use Rattle.std.proofs.Common.{◌≡◌, ◌∙◌, ap, ap₂, sym, refl, ℕ, List, [], ◌∷◌, ◌++◌, map, Bool, true, false, cond, arith}
use Rattle.std.specs.Prelude.{filter, flat_map, Option, Some, None, option_map, unwrap_or, slice_get, nat_le}
use Rattle.std.specs.List.{AllByRecursion}
use Rattle.std.specs.Ordering.{is_gt, nat_cmp, ordering_then}
use Rattle.std.specs.declared.cmp.Ordering.{Ordering}
use Rattle.std.specs.declared.cmp.Ordering.TheVariants.{Less, Equal, Greater}
use Rattle.std.proofs.lemmas.List.{map-append}
use Rattle.std.proofs.lemmas.List.Elements.{filter-append}
use Rattle.std.proofs.lemmas.Option.{slice_get-map}
use Rattle.std.proofs.lemmas.Bool.Decides.{nat_tests}
use Rattle.ksql_types.specs.declared.relation.Kind.{Kind}
use Rattle.ksql_types.specs.declared.relation.Relation.{Relation}
use Rattle.ksql_place.specs.Ascending.{ascending, PassesFirst, Rises}
use Rattle.ksql_place.specs.Order.{record_cmp, stamp_cmp}
use Rattle.ksql_place.specs.Said.{is_of_topic, said, said_by, saying}
use Rattle.ksql_place.specs.declared.change.Body.{Body}
use Rattle.ksql_place.specs.declared.change.Change.{Change}
use Rattle.ksql_place.specs.declared.change.SourceRecord.{SourceRecord}
use Rattle.ksql_place.specs.declared.stamp.Stamp.{Stamp}
use Rattle.ksql_place.proofs.Ascending.{Ascends, Ascends-ascending, filter-ascending}
use Rattle.ksql_program.specs.declared.program.Item.{Item}
use Rattle.ksql_program.specs.declared.program.Item.TheVariants.{Declared, Started}
use Rattle.ksql_program.specs.declared.query.From.{From}
use Rattle.ksql_program.specs.declared.query.From.TheVariants.{One, Join}
use Rattle.ksql_program.specs.declared.query.Query.{Query}
use Rattle.ksql_nodes.specs.Entries.{Entry, from_side, through}
use Rattle.ksql_nodes.proofs.Cuts.{through-cut}
use Rattle.ksql_nodes.proofs.Lists.{All-append}
use Rattle.query_meaning.specs.Meaning.{declared_changes, item_changes, meaning_from, steps_of_declared}
use Rattle.query_meaning.specs.Queries.{changes_at, entry_cmp, key_columns, query_changes, read_entries, steps_of, whole_changes, with_key_cells}
use Rattle.query_meaning.proofs.QuerySteps.{entries_total}
use Rattle.meaning_laws.specs.Prefixes.{IsMeantByFeeds}
use Rattle.meaning_laws.proofs.Lists.{All-weaker, filter-map, filter-swap, first-filter, first-map, Pairwise, Pairwise-from_all}
use Rattle.meaning_laws.proofs.Keeping.{steps-keep, declared-keeps}
use Rattle.meaning_laws.proofs.EachRelation.{at-each}
use Rattle.meaning_laws.proofs.Saying.{placed_at, saying-keeps, flat-each}
use Rattle.meaning_laws.proofs.StampOrder.{passes, enters, PassesAfter, first-append, through-first}

first-of : (o p : Ordering) → is_gt (ordering_then o p) ≡ false → is_gt o ≡ false
first-of Less p h = refl
first-of Equal p h = refl
first-of Greater p h = h

module _ (p : Stamp → Bool) (lower : (a b : Stamp) → is_gt (stamp_cmp a b) ≡ false → p b ≡ true → p a ≡ true) where
  abbrev cut : List Change → List Change
  cut changes = filter (passes p) changes

  abbrev cut_records : List SourceRecord → List SourceRecord
  cut_records order = filter (λ r. p r.stamp) order

  abbrev First : List Change → Type 0
  First changes = PassesFirst (passes p) changes

  -- ---- what records say

  placed-cut : (r : SourceRecord) (o : Option Body) → cut (placed_at r o) ≡ cond (p r.stamp) (placed_at r o) []
  placed-cut r None = elim (p r.stamp) as (λ b. ◌≡◌ {A = List Change} [] (cond b [] [])) [ true ↦ refl | false ↦ refl ]
  placed-cut r (Some body) = refl

  saying-cut : (kind : Kind) (r : SourceRecord) → cut (saying kind r) ≡ cond (p r.stamp) (saying kind r) []
  saying-cut kind r = placed-cut r (said_by kind r.key r.value)

  flat-cut : (kind : Kind) (order : List SourceRecord) → cut (flat_map (saying kind) order) ≡ flat_map (saying kind) (cut_records order)
  flat-cut kind [] = refl
  flat-cut kind (r ∷ rs) =
      filter-append (passes p) (saying kind r) (flat_map (saying kind) rs)
      ∙ ap₂ (λ xs ys. xs ++ ys) (saying-cut kind r) (flat-cut kind rs)
      ∙ by (p r.stamp)
    where
      by : (b : Bool) → cond b (saying kind r) [] ++ flat_map (saying kind) (cut_records rs) ≡ flat_map (saying kind) (cond b (r ∷ cut_records rs) (cut_records rs))
      by true = refl
      by false = refl

  said-cut : (relation : Relation) (order : List SourceRecord) → cut (said relation order) ≡ said relation (cut_records order)
  unfolding said
  said-cut relation order =
      flat-cut relation.kind (filter (is_of_topic relation) order) ∙ ap (flat_map (saying relation.kind)) (filter-swap (λ r. p r.stamp) (is_of_topic relation) order)

  flat-first : (kind : Kind) (order : List SourceRecord) → PassesFirst (λ r. p r.stamp) order → First (flat_map (saying kind) order)
  flat-first kind [] first = tt
  flat-first kind (r ∷ rs) first =
      first-append p r.stamp (saying kind r) (flat_map (saying kind) rs) (saying-keeps kind r) (flat-each (PassesAfter p r.stamp) kind rs first.0) (flat-first kind rs first.1)

  said-first : (relation : Relation) (order : List SourceRecord) → PassesFirst (λ r. p r.stamp) order → First (said relation order)
  unfolding said
  said-first relation order first = flat-first relation.kind (filter (is_of_topic relation) order) (first-filter (λ r. p r.stamp) (is_of_topic relation) order first)

  abbrev entry : ℕ → Change → Entry
  entry side c = record { side = side; change = c }

  side-cut : (side : ℕ) (changes : List Change) → filter (enters p) (from_side side changes) ≡ from_side side (cut changes)
  side-cut side changes = filter-map (enters p) (entry side) changes

  declared-cut : (relation : Relation) (order : List SourceRecord) → PassesFirst (λ r. p r.stamp) order →
      cut (declared_changes relation order) ≡ declared_changes relation (cut_records order)
  unfolding declared_changes
  declared-cut relation order first =
      through-cut p (steps_of_declared relation.kind relation.number) (declared-keeps relation.kind relation.number) (from_side 0 (said relation order))
      (first-map (enters p) (entry 0) (said relation order) (said-first relation order first))
      ∙ ap (through (steps_of_declared relation.kind relation.number)) (side-cut 0 (said relation order) ∙ ap (from_side 0) (said-cut relation order))

  declared-first : (relation : Relation) (order : List SourceRecord) → PassesFirst (λ r. p r.stamp) order → First (declared_changes relation order)
  unfolding declared_changes
  declared-first relation order first =
      through-first p (steps_of_declared relation.kind relation.number) (declared-keeps relation.kind relation.number) (from_side 0 (said relation order))
      (first-map (enters p) (entry 0) (said relation order) (said-first relation order first))

  -- ---- what queries read

  at-cut : (lists : List (List Change)) (number : ℕ) → changes_at (map cut lists) number ≡ cut (changes_at lists number)
  at-cut lists number = ap (λ o. unwrap_or o []) (slice_get-map cut lists number) ∙ by (slice_get lists number)
    where
      by : (o : Option (List Change)) → unwrap_or (option_map cut o) [] ≡ cut (unwrap_or o [])
      by None = refl
      by (Some changes) = refl

  whole-cut : (items : List Item) (lists : List (List Change)) (number : ℕ) →
      cut (whole_changes items lists number) ≡ whole_changes items (map cut lists) number
  whole-cut items lists number =
      filter-map (passes p) (with_key_cells (key_columns items number)) (changes_at lists number)
      ∙ ap (map (with_key_cells (key_columns items number))) (sym (at-cut lists number))

  read-cut : (items : List Item) (lists : List (List Change)) (from : From) →
      filter (enters p) (read_entries items lists from) ≡ read_entries items (map cut lists) from
  unfolding read_entries
  read-cut items lists (One number) = side-cut 0 (whole_changes items lists number) ∙ ap (from_side 0) (whole-cut items lists number)
  read-cut items lists (Join kind left right on) =
      filter-ascending (entries_total left right) (enters p) (from_side 0 (whole_changes items lists left) ++ from_side 1 (whole_changes items lists right))
      ∙ ap (ascending (entry_cmp left right))
      (filter-append (enters p) (from_side 0 (whole_changes items lists left)) (from_side 1 (whole_changes items lists right))
      ∙ ap₂ (λ xs ys. xs ++ ys)
      (side-cut 0 (whole_changes items lists left) ∙ ap (from_side 0) (whole-cut items lists left))
      (side-cut 1 (whole_changes items lists right) ∙ ap (from_side 1) (whole-cut items lists right)))

  ascends-first : (left right : ℕ) (es : List Entry) → Ascends (entry_cmp left right) es → PassesFirst (enters p) es
  ascends-first left right [] up = tt
  ascends-first left right (e ∷ es) up = (
    All-weaker (λ later. is_gt (entry_cmp left right e later) ≡ false) (λ later. PassesAfter p e.change.place.stamp later.change.place.stamp)
        (λ later low. lower e.change.place.stamp later.change.place.stamp (first-of (stamp_cmp e.change.place.stamp later.change.place.stamp) _ low)) es up.0,
    ascends-first left right es up.1,
  )

  read-first : (items : List Item) (lists : List (List Change)) (from : From) → AllByRecursion First lists → PassesFirst (enters p) (read_entries items lists from)
  unfolding read_entries
  read-first items lists (One number) first =
      first-map (enters p) (entry 0) (whole_changes items lists number)
      (first-map (passes p) (with_key_cells (key_columns items number)) (changes_at lists number) (at-each First tt lists first number))
  read-first items lists (Join kind left right on) first =
      ascends-first left right (read_entries items lists (Join kind left right on))
      (Ascends-ascending (entries_total left right) (from_side 0 (whole_changes items lists left) ++ from_side 1 (whole_changes items lists right)))

  query-cut : (items : List Item) (lists : List (List Change)) (q : Query) → AllByRecursion First lists →
      cut (query_changes items lists q) ≡ query_changes items (map cut lists) q
  unfolding query_changes
  query-cut items lists q first =
      through-cut p (steps_of items q) (steps-keep items q) (read_entries items lists q.from) (read-first items lists q.from first)
      ∙ ap (through (steps_of items q)) (read-cut items lists q.from)

  query-first : (items : List Item) (lists : List (List Change)) (q : Query) → AllByRecursion First lists → First (query_changes items lists q)
  unfolding query_changes
  query-first items lists q first =
      through-first p (steps_of items q) (steps-keep items q) (read_entries items lists q.from) (read-first items lists q.from first)

  -- ---- each relation

  item-cut : (items : List Item) (order : List SourceRecord) → PassesFirst (λ r. p r.stamp) order → (lists : List (List Change)) → AllByRecursion First lists → (i : Item) →
      cut (item_changes items order lists i) ≡ item_changes items (cut_records order) (map cut lists) i
  item-cut items order in_front lists first (Declared relation) = declared-cut relation order in_front
  item-cut items order in_front lists first (Started q) = query-cut items lists q first

  item-first : (items : List Item) (order : List SourceRecord) → PassesFirst (λ r. p r.stamp) order → (lists : List (List Change)) → AllByRecursion First lists → (i : Item) →
      First (item_changes items order lists i)
  item-first items order in_front lists first (Declared relation) = declared-first relation order in_front
  item-first items order in_front lists first (Started q) = query-first items lists q first

  pub meant-cut : (items : List Item) (order : List SourceRecord) → PassesFirst (λ r. p r.stamp) order → (lists : List (List Change)) → AllByRecursion First lists → (is : List Item) →
      meaning_from items (cut_records order) (map cut lists) is ≡ map cut (meaning_from items order lists is)
  unfolding meaning_from
  meant-cut items order in_front lists first [] = refl
  meant-cut items order in_front lists first (i ∷ is) =
      ap (λ more. meaning_from items (cut_records order) more is)
      (ap (λ changes. map cut lists ++ changes ∷ []) (sym (item-cut items order in_front lists first i)) ∙ sym (map-append cut lists (item_changes items order lists i ∷ [])))
      ∙ meant-cut items order in_front (lists ++ item_changes items order lists i ∷ [])
      (All-append First lists (item_changes items order lists i ∷ []) first (item-first items order in_front lists first i, tt)) is

  pub rises-first : (order : List SourceRecord) → Pairwise (λ a b. record_cmp a b ≡ Less) order → PassesFirst (λ r. p r.stamp) order
  rises-first [] rises = tt
  rises-first (r ∷ rs) rises = (
    All-weaker (λ later. record_cmp r later ≡ Less) (λ later. PassesAfter p r.stamp later.stamp) (λ later less. lower r.stamp later.stamp (ap is_gt less)) rs rises.0,
    rises-first rs rises.1,
  )

-- ---- feeds

up_to-lower : (feed : ℕ) (a b : Stamp) → is_gt (stamp_cmp a b) ≡ false → nat_le b.feed feed ≡ true → nat_le a.feed feed ≡ true
up_to-lower feed a b low is =
    let first : is_gt (nat_cmp a.feed b.feed) ≡ false = first-of (nat_cmp a.feed b.feed) _ low in
    grind (arith, nat_tests)

pub meant-up_to : (items : List Item) (order : List SourceRecord) → Rises record_cmp order → IsMeantByFeeds items order
meant-up_to items order rises feed =
    let p : Stamp → Bool = λ s. nat_le s.feed feed in
    meant-cut p (up_to-lower feed) items order (rises-first p (up_to-lower feed) order (Pairwise-from_all (λ a b. record_cmp a b ≡ Less) order rises)) [] tt items
