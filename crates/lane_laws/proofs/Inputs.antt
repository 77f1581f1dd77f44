-- What tasks read: parts of lists, and tables with the cells of their keys.
use Rattle.std.proofs.Common.{◌≡◌, ◌∙◌, ap, ap₂, refl, sym, ℕ, zero, suc, List, [], ◌∷◌, ◌++◌, map, Bool, true, false, cond}
use Rattle.std.proofs.lemmas.List.{map-append}
use Rattle.std.proofs.lemmas.List.Elements.{filter-append}
use Rattle.std.specs.Prelude.{filter, Option, Some, None, option_map}
use Rattle.std.specs.List.{AllByRecursion}
use Rattle.ksql_types.specs.declared.value.Value.{Value}
use Rattle.ksql_place.specs.Ascending.{ascending}
use Rattle.ksql_place.specs.Said.{row_in}
use Rattle.ksql_place.specs.declared.change.Body.{Body}
use Rattle.ksql_place.specs.declared.change.Body.TheVariants.{Said, Turned}
use Rattle.ksql_place.specs.declared.change.Change.{Change}
use Rattle.ksql_place.proofs.Ascending.{filter-ascending}
use Rattle.ksql_nodes.specs.declared.node.Node.TheVariants.{Table}
use Rattle.ksql_nodes.specs.Entries.{Entry, Row, from_side, is_same_key, of_key, results, row_after}
use Rattle.ksql_nodes.specs.Nodes.{gives}
use Rattle.ksql_nodes.specs.Rows.{turned, with_body}
use Rattle.ksql_nodes.proofs.Keys.{key-decides}
use Rattle.ksql_nodes.proofs.Lists.{All-append}
use Rattle.ksql_nodes.proofs.Results.{entry}
use Rattle.query_meaning.specs.Queries.{entry_cmp, key_cells, with_key_cells}
use Rattle.query_meaning.proofs.QuerySteps.{entries_total}
use Rattle.meaning_laws.proofs.Lists.{All-ascending, filter-map}
use Rattle.meaning_laws.proofs.Turning.{after-more}
use Rattle.ksql_place.specs.Routing.{is_to}
use Rattle.topology.specs.Contents.{with_cells}
use Rattle.lane_laws.specs.Lanes.{HasKey, in_part, merged, tabled}

-- ---- parts of lists

pub side-part : (n part side : ℕ) (cs : List Change) → from_side side (filter (is_to n part) cs) ≡ filter (in_part n part) (from_side side cs)
side-part n part side cs = sym (filter-map (in_part n part) (λ c. record { side = side; change = c }) cs)

pub cells-part : (n part columns : ℕ) (cs : List Change) → map (with_cells columns) (filter (is_to n part) cs) ≡ filter (is_to n part) (map (with_cells columns) cs)
cells-part n part zero cs = sym (filter-map (is_to n part) (with_cells zero) cs)
cells-part n part (suc columns) cs = sym (filter-map (is_to n part) (with_cells (suc columns)) cs)

pub merged-part : (n part a b : ℕ) (ls rs : List Change) → merged a b (filter (is_to n part) ls) (filter (is_to n part) rs) ≡ filter (in_part n part) (merged a b ls rs)
merged-part n part a b ls rs =
    ap (ascending (entry_cmp a b))
    (ap₂ (λ xs ys. xs ++ ys) (side-part n part 0 ls) (side-part n part 1 rs) ∙ sym (filter-append (in_part n part) (from_side 0 ls) (from_side 1 rs)))
    ∙ sym (filter-ascending (entries_total a b) (in_part n part) (from_side 0 ls ++ from_side 1 rs))

pub merged-keyed : (a b : ℕ) (ls rs : List Change) → AllByRecursion HasKey (from_side 0 ls) → AllByRecursion HasKey (from_side 1 rs) → AllByRecursion HasKey (merged a b ls rs)
merged-keyed a b ls rs left right =
    All-ascending HasKey (entry_cmp a b) (from_side 0 ls ++ from_side 1 rs) (All-append HasKey (from_side 0 ls) (from_side 1 rs) left right)

-- ---- tables with the cells of their keys

module _ (columns : ℕ) where
  -- the row of a key with its cells in front
  abbrev whole : List Value → Row → Row
  whole key row = key_cells columns key ++ row

  -- entries leave for each key the row that others leave, with its cells in front
  abbrev LeavesWhole : List Entry → List Entry → Type 0
  LeavesWhole outs before = (key : List Value) → row_after (of_key key outs) ≡ option_map (whole key) (row_after (of_key key before))

  row-whole : (c : Change) → row_in (with_key_cells columns c).body ≡ option_map (whole c.key) (row_in c.body)
  row-whole c = by c.body
    where
      by : (b : Body) → row_in (with_key_cells columns (record c { body = b })).body ≡ option_map (whole c.key) (row_in b)
      by (Said row) = refl
      by (Turned old new) = refl

  turned-whole : (c : Change) (old new : Option Row) →
      with_body (with_key_cells columns c) (turned (option_map (whole c.key) old) (option_map (whole c.key) new)) ≡ map (with_key_cells columns) (with_body c (turned old new))
  turned-whole c None None = refl
  turned-whole c None (Some new) = refl
  turned-whole c (Some old) None = refl
  turned-whole c (Some old) (Some new) = refl

  leaves-more : (outs before : List Entry) (c : Change) → LeavesWhole outs before → LeavesWhole (outs ++ entry (with_key_cells columns c) ∷ []) (before ++ entry c ∷ [])
  leaves-more outs before c leaves key =
      after-more key outs (entry (with_key_cells columns c))
      ∙ ap₂ (λ new old. cond (is_same_key c.key key) new old) (row-whole c) (leaves key)
      ∙ by (is_same_key c.key key) refl
      ∙ sym (ap (option_map (whole key)) (after-more key before (entry c)))
    where
      by : (b : Bool) → is_same_key c.key key ≡ b →
          cond b (option_map (whole c.key) (row_in c.body)) (option_map (whole key) (row_after (of_key key before)))
          ≡ option_map (whole key) (cond b (row_in c.body) (row_after (of_key key before)))
      by true same = ap (λ k. option_map (whole k) (row_in c.body)) ((key-decides c.key key).0 same)
      by false same = refl

  tabled-from : (n number : ℕ) (outs before : List Entry) (cs : List Change) → LeavesWhole outs before →
      results (gives n (Table number)) outs (from_side 0 (map (with_key_cells columns) cs)) ≡ map (with_key_cells columns) (results (gives 1 (Table number)) before (from_side 0 cs))
  unfolding gives
  tabled-from n number outs before [] leaves = refl
  tabled-from n number outs before (c ∷ cs) leaves =
      ap₂ (λ now later. now ++ later)
      (ap₂ (λ old new. with_body (with_key_cells columns c) (turned old new)) (leaves c.key) (row-whole c) ∙ turned-whole c (row_after (of_key c.key before)) (row_in c.body))
      (tabled-from n number (outs ++ entry (with_key_cells columns c) ∷ []) (before ++ entry c ∷ []) cs (leaves-more outs before c leaves))
      ∙ sym (map-append (with_key_cells columns) (with_body c (turned (row_after (of_key c.key before)) (row_in c.body))) (results (gives 1 (Table number)) (before ++ entry c ∷ []) (from_side 0 cs)))

pub tabled-cells : (n number columns : ℕ) (cs : List Change) →
    results (gives n (Table number)) [] (from_side 0 (map (with_key_cells columns) cs)) ≡ map (with_key_cells columns) (tabled number cs)
tabled-cells n number columns cs = tabled-from columns n number [] [] cs (λ key. refl)
