-- What comes to the nodes of a topology can be stored by their operators.
use Rattle.std.proofs.Common.{◌≡◌, ◌∙◌, ap, refl, sym, subst, ℕ, zero, suc, ◌+◌, ◌<◌, ◌≤◌, ◌^◌, List, [], ◌∷◌, ◌++◌, length, length-append, map, arith}
use Rattle.std.specs.Prelude.{◌==◌, All, filter, Option, None, Some, IfSome, option_map, slice_get, unwrap_or}
use Rattle.std.specs.List.{AllByRecursion}
use Rattle.std.proofs.lemmas.List.{length-replicate}
use Rattle.std.proofs.lemmas.List.Elements.{All-from_recursion, recursion_from_All}
use Rattle.ksql_types.specs.Columns.{columns}
use Rattle.ksql_types.specs.declared.relation.Column.{Column}
use Rattle.ksql_types.specs.declared.relation.Relation.{Relation}
use Rattle.ksql_types.specs.declared.value.Value.{Value}
use Rattle.ksql_types.specs.declared.value.Value.TheVariants.{Null}
use Rattle.ksql_place.specs.Said.{is_of_topic, row_in, said, said_by, saying}
use Rattle.ksql_place.specs.declared.change.Body.{Body}
use Rattle.ksql_place.specs.declared.change.Body.TheVariants.{Said, Turned}
use Rattle.ksql_place.specs.declared.change.Change.{Change}
use Rattle.ksql_place.specs.declared.change.SourceRecord.{SourceRecord}
use Rattle.ksql_program.specs.Program.{relation_at}
use Rattle.ksql_program.specs.Sound.{IsSound}
use Rattle.ksql_program.specs.declared.program.Item.{Item}
use Rattle.ksql_program.specs.declared.program.Item.TheVariants.{Declared, Started}
use Rattle.ksql_program.specs.declared.query.Agg.{Agg}
use Rattle.ksql_nodes.specs.declared.node.Node.{Node}
use Rattle.ksql_nodes.specs.declared.node.Node.TheVariants as node
use Rattle.ksql_nodes.specs.Aggregates.{argument}
use Rattle.ksql_nodes.specs.Entries.{Entry, Row, from_side, results}
use Rattle.ksql_nodes.specs.Nodes.{gives}
use Rattle.ksql_nodes.proofs.Lists.{All-append}
use Rattle.query_meaning.specs.Queries.{entry_cmp, key_cells, key_columns, with_key_cells}
use Rattle.meaning_laws.specs.Bounds.{HasColumnsOf, IsBodyOf, IsInTime, IsKeyOf, IsRowOf}
use Rattle.meaning_laws.proofs.Lists.{All-ascending, All-both, All-filter, All-map, All-of, All-weaker}
use Rattle.meaning_laws.proofs.Saying.{placed_at}
use Rattle.meaning_laws.proofs.Sizes.{All-flat_map, Gives, IsSized, growth, node-sized}
use Rattle.record_codec.specs.Spelling.{IsShort, IsWithinLimits}
use Rattle.operator.specs.Storable.{HasShortArguments, HasShortRow, IsShortAt, IsStorable}
use Rattle.topology.specs.Contents.{Contents, contents, source_changes, source_contents, task_entries, with_cells}
use Rattle.topology.specs.Topologies.{input_of, subs, topology_of}
use Rattle.topology.specs.declared.stage.CutName.{CutName}
use Rattle.topology.specs.declared.stage.Link.{Link}
use Rattle.topology.specs.declared.stage.Link.TheVariants as link
use Rattle.short_laws.specs.Fed.{IsFed}
use Rattle.sending_laws.proofs.SentColumns.{sent-filled}
use Rattle.op_chain.specs.Chain.{AreStorable}
use Rattle.short_laws.specs.Short.{HoldTexts, HoldsProperTexts, IsProper, IsShortRecord, IsTextRecord, KeepsProper}
use Rattle.storing_laws.specs.Stored.{CanBeStored}
use Rattle.storing_laws.proofs.Along.{cells-hold, contents-hold, passed-hold, reads-hold, sub_growth, total}
use Rattle.storing_laws.proofs.ProperContents.{IsProperRecord, source-tame, whole-tame}
use Rattle.short_laws.proofs.ShortChanges.{HasProperRow, IsProperRow, IsTame, argument-proper, in-proper, node-tame}
use Rattle.storing_laws.proofs.StageForms.{HasForm, IsFormedSub, IsLater, IsNarrow, all-get, of_one, of_stream, of_table, of_tables, subs-bound, subs-formed}
use Rattle.storing_laws.proofs.StageTexts.{KeepsTexts, subs-keep}

-- ---- changes with bounds

-- a change with proper values, a time of at most 2^53 and a path of at most m numbers
abbrev pub IsBounded : ℕ → Change → Type 0
IsBounded m c = IsSized (2 ^ 53) m c × IsTame c

wider : (m k : ℕ) → m ≤ k → (c : Change) → IsBounded m c → IsBounded k c
wider m k grows c h = ((h.0.0, let own = h.0.1 in omega (arith, grows, own)), h.1)

node-bounded : (m : ℕ) (x : Node) → KeepsProper x → Gives (IsBounded m) (IsBounded (m + growth x)) (gives 1 x)
node-bounded m x keeps before past e now =
    All-both (IsSized (2 ^ 53) (m + growth x)) IsTame (gives 1 x before e)
    (node-sized (2 ^ 53) m (m + growth x) 1 x (omega arith) before (All-weaker (λ (e : Entry). IsBounded m e.change) (λ e. IsSized (2 ^ 53) m e.change) (λ e h. h.0) before past) e now.0)
    (node-tame 1 x keeps before (All-weaker (λ (e : Entry). IsBounded m e.change) (λ e. IsTame e.change) (λ e h. h.1) before past) e now.1)

whole-bounded : (m count : ℕ) (c : Change) → IsBounded m c → IsBounded m (with_cells count c)
whole-bounded m zero c h = h
whole-bounded m (suc count) c h = (h.0, whole-tame (suc count) c h.1)

-- ---- what records say

said-sized : (r : Relation) (order : List SourceRecord) → AllByRecursion IsInTime order → AllByRecursion (IsSized (2 ^ 53) 0) (said r order)
unfolding said
said-sized r order h =
    All-flat_map (IsSized (2 ^ 53) 0) (saying r.kind) IsInTime (λ source small. by source small (said_by r.kind source.key source.value))
    (filter (is_of_topic r) order) (All-filter IsInTime (is_of_topic r) order h)
  where
    by : (source : SourceRecord) → source.time ≤ 2 ^ 53 → (o : Option Body) → AllByRecursion (IsSized (2 ^ 53) 0) (placed_at source o)
    by source small None = tt
    by source small (Some body) = ((small, omega arith), tt)

source-sized : (items : List Item) (order : List SourceRecord) → AllByRecursion IsInTime order → (topic part : ℕ) → AllByRecursion (IsSized (2 ^ 53) 0) (source_contents items order topic part)
source-sized items order h topic part = All-filter (IsSized (2 ^ 53) 0) (λ c. c.place.stamp.part == part) (source_changes order (slice_get items topic)) (by (slice_get items topic))
  where
    by : (o : Option Item) → AllByRecursion (IsSized (2 ^ 53) 0) (source_changes order o)
    by None = tt
    by (Some (Declared r)) = said-sized r order h
    by (Some (Started q)) = tt

-- ---- whole rows of a relation

-- the row that a change brings has at most n values
abbrev pub Fits : ℕ → Change → Type 0
Fits n c = IfSome (row_in c.body) (λ row. length row ≤ n)

row-length : (cs : List Column) (row : Row) → IsRowOf cs row → length row ≡ length cs
row-length [] [] h = refl
row-length [] (v ∷ row) h = absurd h
row-length (c ∷ cs) [] h = absurd h
row-length (c ∷ cs) (v ∷ row) h = ap suc (row-length cs row h.1)

cells-length : (cs : List Column) (count : ℕ) (key : List Value) → count ≡ length cs → IsKeyOf cs key → length (key_cells count key) ≡ length cs
cells-length cs count [] is h = length-replicate count Null ∙ is
cells-length cs count (k ∷ ks) is h = row-length cs (k ∷ ks) h.0

module _ (r : Relation) (count : ℕ) (is : count ≡ length r.schema.keys) where
  both-lengths : (key : List Value) → IsKeyOf r.schema.keys key → (row : Row) → IsRowOf r.schema.values row → length (key_cells count key ++ row) ≤ length (columns r)
  both-lengths key hk row hr =
      let whole : length (key_cells count key ++ row) ≡ length (key_cells count key) + length row = length-append (key_cells count key) row in
      let cells : length (key_cells count key) ≡ length r.schema.keys = cells-length r.schema.keys count key is hk in
      let values : length row ≡ length r.schema.values = row-length r.schema.values row hr in
      let all : length (columns r) ≡ length r.schema.keys + length r.schema.values = length-append r.schema.keys r.schema.values in
      omega (arith, whole, cells, values, all)

  option-fits : (key : List Value) → IsKeyOf r.schema.keys key → (o : Option Row) → IfSome o (IsRowOf r.schema.values) →
      IfSome (option_map (λ row. key_cells count key ++ row) o) (λ row. length row ≤ length (columns r))
  option-fits key hk None hr = tt
  option-fits key hk (Some row) hr = both-lengths key hk row hr

  cells-fit : (c : Change) → HasColumnsOf r c → Fits (length (columns r)) (with_key_cells count c)
  cells-fit c h = by c.body h.rows
    where
      by : (b : Body) → IsBodyOf r.schema.values b → Fits (length (columns r)) (with_key_cells count (record c { body = b }))
      by (Said row) hr = both-lengths c.key h.key row hr
      by (Turned old new) hr = option-fits c.key h.key new hr.1

value-length : (r : Relation) (row : Row) → IsRowOf r.schema.values row → length row ≤ length (columns r)
value-length r row h =
    let values : length row ≡ length r.schema.values = row-length r.schema.values row h in
    let all : length (columns r) ≡ length r.schema.keys + length r.schema.values = length-append r.schema.keys r.schema.values in
    omega (arith, values, all)

own-fits : (r : Relation) (c : Change) → HasColumnsOf r c → Fits (length (columns r)) c
own-fits r c h = by c.body h.rows
  where
    some : (o : Option Row) → IfSome o (IsRowOf r.schema.values) → IfSome o (λ row. length row ≤ length (columns r))
    some None h = tt
    some (Some row) h = value-length r row h

    by : (b : Body) → IsBodyOf r.schema.values b → Fits (length (columns r)) (record c { body = b })
    by (Said row) h = value-length r row h
    by (Turned old new) h = some new h.1

whole-fits : (r : Relation) (count : ℕ) → count ≡ length r.schema.keys → (c : Change) → HasColumnsOf r c → Fits (length (columns r)) (with_cells count c)
whole-fits r zero is c h = own-fits r c h
whole-fits r (suc count) is c h = cells-fit r (suc count) is c h

fits-more : (n m : ℕ) → n ≤ m → (c : Change) → Fits n c → Fits m c
fits-more n m less c h = by (row_in c.body) h
  where
    by : (o : Option Row) → IfSome o (λ row. length row ≤ n) → IfSome o (λ row. length row ≤ m)
    by None h = tt
    by (Some row) h = omega (arith, less, h)

-- ---- what a node stores

short-key : (row : Row) → IsProperRow row → All IsShort row
short-key row h = All-from_recursion IsShort row (All-weaker IsProper IsShort (λ v p. p.0) row h)

-- the row that a table keeps
row-short : (m : ℕ) → m ≤ 512 → (c : Change) → IsBounded m c → Fits 64 c → HasShortRow c
row-short m few c h fits = by (row_in c.body) (in-proper c.body h.1.1.0) fits
  where
    by : (o : Option Row) → HasProperRow o → IfSome o (λ row. length row ≤ 64) → IfSome (option_map (λ row. record c { body = Turned None (Some row) }) o) IsWithinLimits
    by None proper fits = tt
    by (Some row) proper fits = record {
      path = let own = h.0.1 in omega (arith, few, own);
      span = h.1.1.1;
      windowed = λ some. refl;
      key = short-key c.key h.1.0;
      body = (tt, (fits, short-key row proper), refl);
    }

arguments-short : (aggs : List Agg) → AllByRecursion (λ a. IfSome a.arg HoldsProperTexts) aggs → (c : Change) → IsTame c → HasShortArguments aggs c
arguments-short aggs keeps c h = by (row_in c.body) (in-proper c.body h.1.0)
  where
    by : (o : Option Row) → HasProperRow o → IfSome o (λ row. All (λ a. IsShort (argument a.arg (record { row = row; time = c.time }))) aggs)
    by None proper = tt
    by (Some row) proper =
        All-from_recursion (λ (a : Agg). IsShort (argument a.arg (record { row = row; time = c.time }))) aggs
        (All-weaker (λ (a : Agg). IfSome a.arg HoldsProperTexts) (λ a. IsShort (argument a.arg (record { row = row; time = c.time })))
        (λ a held. (argument-proper a.arg row c.time held proper).0) aggs keeps)

later-short : (x : Node) → IsLater x → KeepsProper x → (e : Entry) → IsTame e.change → IsShortAt x e.side e.change
later-short (node.Rekey key) later keeps e h = tt
later-short (node.Table relation) later keeps e h = absurd later
later-short (node.JoinStreamTable kind on l r) later keeps e h = absurd later
later-short (node.JoinTables kind l r) later keeps e h = absurd later
later-short (node.Filter on) later keeps e h = tt
later-short (node.Group keys) later keeps e h = tt
later-short (node.Aggregate over aggs w) few keeps e h = (few, arguments-short aggs keeps e.change h)
later-short (node.Having on) later keeps e h = tt
later-short (node.Select keys values) later keeps e h = tt

storable : (x : Node) (m : ℕ) → m ≤ 512 → (e : Entry) → IsBounded m e.change → IsShortAt x e.side e.change → IsStorable x e.side e.change
storable x m few e h short = record { time = h.0.0; path = let own = h.0.1 in omega (arith, few, own); key = short-key e.change.key h.1.0; short = short }

-- a node's entries, and what it passes on, if all of them are short at it
first-storable : (x : Node) (rest : List Node) → KeepsProper x → (m : ℕ) → m ≤ 512 → (es : List Entry) → AllByRecursion (λ e. IsBounded m e.change) es →
    AllByRecursion (λ e. IsShortAt x e.side e.change) es →
    (AllByRecursion (λ e. IsBounded (m + growth x) e.change) (from_side 0 (results (gives 1 x) [] es)) → AreStorable rest [] (from_side 0 (results (gives 1 x) [] es))) →
    AreStorable (x ∷ rest) [] es
first-storable x rest keeps m few es h short after = (
  All-from_recursion (λ (e : Entry). IsStorable x e.side e.change) es
      (All-weaker (λ (e : Entry). IsBounded m e.change × IsShortAt x e.side e.change) (λ e. IsStorable x e.side e.change) (λ e p. storable x m few e p.0 p.1) es
      (All-both (λ (e : Entry). IsBounded m e.change) (λ e. IsShortAt x e.side e.change) es h short)),
  after (passed-hold IsBounded wider KeepsProper node-bounded whole-bounded x keeps m es h),
)

nodes-storable : (nodes : List Node) → AllByRecursion IsLater nodes → AllByRecursion KeepsProper nodes → (m : ℕ) → m + total growth nodes ≤ 512 →
    (es : List Entry) → AllByRecursion (λ e. IsBounded m e.change) es → AreStorable nodes [] es
nodes-storable [] later keeps m bound es h = tt
nodes-storable (x ∷ xs) later keeps m bound es h =
    first-storable x xs keeps.0 m (omega (arith, bound)) es h
    (All-weaker (λ (e : Entry). IsBounded m e.change) (λ e. IsShortAt x e.side e.change) (λ e p. later-short x later.0 keeps.0 e p.1) es h)
    (nodes-storable xs later.1 keeps.1 (m + growth x) (omega (arith, bound)) (from_side 0 (results (gives 1 x) [] es)))

zero-apart : zero ≡ suc zero → ⊥
zero-apart is = omega (arith, is)

-- ---- a stage

module _ (items : List Item) (first : ℕ) (cuts : List CutName) (has : Contents) (hold : (topic part : ℕ) → AllByRecursion (IsBounded 400) (has topic part))
    (filled : (number part : ℕ) (r : Relation) → relation_at items number ≡ Some r → All (HasColumnsOf r) (has number part)) (part : ℕ) where
  abbrev read_at : Link → List Change
  read_at l = map (with_cells (input_of items first cuts l).keys) (has (input_of items first cuts l).topic part)

  entries-bounded : (links : List Link) → AllByRecursion (λ e. IsBounded 400 e.change) (task_entries (map (input_of items first cuts) links) has part)
  entries-bounded links = reads-hold IsBounded wider KeepsProper node-bounded whole-bounded has 400 hold (map (input_of items first cuts) links) part

  -- the changes of a relation have short rows
  relation-rows : (number : ℕ) → IsNarrow items number → AllByRecursion HasShortRow (read_at (link.Relation number))
  relation-rows number (r, at, narrow) =
      All-weaker (λ (c : Change). IsBounded 400 c × Fits 64 c) HasShortRow (λ c h. row-short 400 (omega arith) c h.0 h.1) (read_at (link.Relation number))
      (All-both (IsBounded 400) (Fits 64) (read_at (link.Relation number))
      (cells-hold IsBounded wider KeepsProper node-bounded whole-bounded 400 (key_columns items number) (has number part) (hold number part))
      (All-map (Fits 64) (with_cells (key_columns items number)) (has number part)
      (All-weaker (HasColumnsOf r) (λ c. Fits 64 (with_cells (key_columns items number) c))
      (λ c h. fits-more (length (columns r)) 64 narrow (with_cells (key_columns items number) c)
      (whole-fits r (key_columns items number) (ap (λ o. unwrap_or (option_map (λ (r : Relation). length r.schema.keys) o) 0) at) c h))
      (has number part) (recursion_from_All (HasColumnsOf r) (has number part) (filled number part r at)))))

  -- the entries of two sides
  sides : (P : Entry → Type 0) (l : Link) (right : ℕ) → AllByRecursion (λ c. P (record { side = 0; change = c })) (read_at l) → AllByRecursion (λ c. P (record { side = 1; change = c })) (read_at (link.Relation right)) →
      AllByRecursion P (task_entries (map (input_of items first cuts) (l ∷ link.Relation right ∷ [])) has part)
  sides P l right lefts rights =
      All-ascending P (entry_cmp (input_of items first cuts l).relation right) (from_side 0 (read_at l) ++ from_side 1 (read_at (link.Relation right)))
      (All-append P (from_side 0 (read_at l)) (from_side 1 (read_at (link.Relation right)))
      (All-map P (λ c. record { side = 0; change = c }) (read_at l) lefts)
      (All-map P (λ c. record { side = 1; change = c }) (read_at (link.Relation right)) rights))

  form-storable : (links : List Link) (nodes : List Node) → HasForm items links nodes → AllByRecursion KeepsProper nodes → total growth nodes ≤ 2 →
      AreStorable nodes [] (task_entries (map (input_of items first cuts) links) has part)
  form-storable links nodes (of_one {l = l} later) keeps grows =
      nodes-storable nodes later keeps 400 (omega (arith, grows)) (task_entries (map (input_of items first cuts) (l ∷ [])) has part) (entries-bounded (l ∷ []))
  form-storable links nodes (of_table {number = number} {nodes = rest} narrow later) keeps grows =
      first-storable (node.Table number) rest keeps.0 400 (omega arith) (from_side 0 (read_at (link.Relation number))) (entries-bounded (link.Relation number ∷ []))
      (All-map (λ (e : Entry). HasShortRow e.change) (λ c. record { side = 0; change = c }) (read_at (link.Relation number)) (relation-rows number narrow))
      (nodes-storable rest later keeps.1 (400 + 0) (omega (arith, grows)) _)
  form-storable links nodes (of_stream {k = k} {on = on} {right = right} {l = l} {nodes = rest} narrow later) keeps grows =
      first-storable _ rest keeps.0 400 (omega arith) (task_entries (map (input_of items first cuts) (l ∷ link.Relation right ∷ [])) has part) (entries-bounded (l ∷ link.Relation right ∷ []))
      (sides (λ e. e.side ≡ 1 → HasShortRow e.change) l right (All-of (read_at l) (λ c is. absurd (zero-apart is)))
      (All-weaker HasShortRow (λ c. 1 ≡ 1 → HasShortRow c) (λ c h is. h) (read_at (link.Relation right)) (relation-rows right narrow)))
      (nodes-storable rest later keeps.1 (400 + 0) (omega (arith, grows)) _)
  form-storable links nodes (of_tables {k = k} {left = left} {right = right} {nodes = rest} apart narrow_left narrow_right later) keeps grows =
      first-storable _ rest keeps.0 400 (omega arith) (task_entries (map (input_of items first cuts) (link.Relation left ∷ link.Relation right ∷ [])) has part)
      (entries-bounded (link.Relation left ∷ link.Relation right ∷ []))
      (sides (λ e. (e.side < 2) × HasShortRow e.change) (link.Relation left) right
      (All-weaker HasShortRow (λ c. (0 < 2) × HasShortRow c) (λ c h. (omega arith, h)) (read_at (link.Relation left)) (relation-rows left narrow_left))
      (All-weaker HasShortRow (λ c. (1 < 2) × HasShortRow c) (λ c h. (omega arith, h)) (read_at (link.Relation right)) (relation-rows right narrow_right)))
      (nodes-storable rest later keeps.1 (400 + 1) (omega (arith, grows)) _)

-- ---- all sub-topologies

module _ (items : List Item) (order : List SourceRecord) (sound : IsSound items) (fed : IsFed items order) (texts : HoldTexts items)
    (small : All IsInTime order) (short : All IsShortRecord order) (utf8 : All IsTextRecord order) where
  abbrev has : Contents
  has = contents items (topology_of items) order

  bounded : (topic part : ℕ) → AllByRecursion (IsBounded 400) (has topic part)
  bounded topic part =
      All-weaker (IsBounded (0 + total sub_growth (subs items))) (IsBounded 400)
      (wider (0 + total sub_growth (subs items)) 400 (let most : total sub_growth (subs items) ≤ 400 = subs-bound items sound in omega (arith, most))) (has topic part)
      (contents-hold IsBounded wider KeepsProper node-bounded whole-bounded (topology_of items).topics (source_contents items order) 0 begin (subs items) (subs-keep items sound texts) topic part)
    where
      records : AllByRecursion IsProperRecord order
      records = All-both IsShortRecord IsTextRecord order (recursion_from_All IsShortRecord order short) (recursion_from_All IsTextRecord order utf8)

      begin : (topic part : ℕ) → AllByRecursion (IsBounded 0) (source_contents items order topic part)
      begin topic part =
          All-both (IsSized (2 ^ 53) 0) IsTame (source_contents items order topic part)
          (source-sized items order (recursion_from_All IsInTime order small) topic part) (source-tame items order records topic part)

  pub can-be-stored : CanBeStored items (topology_of items) order
  can-be-stored number s at part =
      let formed = all-get (IsFormedSub items) (subs items) (subs-formed items sound) number s at in
      subst (λ inputs. AreStorable s.nodes [] (task_entries inputs has part)) (sym formed.inputs)
      (form-storable items formed.first formed.cuts has bounded (sent-filled items order sound fed.columns).relations part formed.links s.nodes formed.form
      (all-get KeepsTexts (subs items) (subs-keep items sound texts) number s at) formed.grows)
