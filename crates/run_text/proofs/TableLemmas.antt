-- What one more record gives a declared stream or table, and the keys that have a row after it.
use Rattle.std.proofs.Common.{◌≡◌, ◌∙◌, ap, ap₂, refl, sym, ℕ, List, [], ◌∷◌, ◌++◌, Bool, true, false, cond, append_assoc}
use Rattle.std.specs.Prelude.{filter, flat_map, if◌then◌else◌, is_some, ◌==◌, ◌||◌, option_and_then, option_map, Option, Some, None}
use Rattle.std.specs.Cmp.Lexicographic.{slice_cmp}
use Rattle.std.specs.List.{last_or}
use Rattle.std.specs.Ordering.{is_eq}
use Rattle.std.proofs.lemmas.List.{append-nil, map-append}
use Rattle.std.proofs.lemmas.List.Elements.{filter-append}
use Rattle.indexmap.specs.IndexSet.{IndexSet, Updates}
use Rattle.ksql_types.specs.declared.relation.Kind.{Kind}
use Rattle.ksql_types.specs.declared.relation.Kind.TheVariants.{Stream, Table, Windowed}
use Rattle.ksql_types.specs.declared.value.Value.{Value}
use Rattle.ksql_place.specs.Said.{row_in, said_by, saying}
use Rattle.ksql_place.specs.declared.change.Body.{Body}
use Rattle.ksql_place.specs.declared.change.Body.TheVariants.{Said, Turned}
use Rattle.ksql_place.specs.declared.change.Change.{Change}
use Rattle.ksql_place.specs.declared.change.Decoded.{Decoded}
use Rattle.ksql_place.specs.declared.change.Decoded.TheVariants.{Good, Tombstone, Skipped}
use Rattle.ksql_place.specs.declared.change.SourceRecord.{SourceRecord}
use Rattle.ksql_place.specs.declared.stamp.Stamp.{Stamp}
use Rattle.ksql_nodes.specs.declared.node.Node.TheVariants as node
use Rattle.ksql_nodes.specs.Entries.{Entry, Row, from_side, is_same_key, of_key, results, row_after}
use Rattle.ksql_nodes.specs.Nodes.{gives}
use Rattle.ksql_nodes.specs.Rows.{turned, with_body}
use Rattle.ksql_nodes.proofs.Results.{entry, results-more}
use Rattle.query_meaning.specs.Parts.{changes_by, said_to}
use Rattle.query_meaning.proofs.QuerySteps.{changed-from-side}
use Rattle.run_text.specs.Printed.{Shown}
use Rattle.run_text.specs.Report.{cell_cmp}
use Rattle.run_text.specs.Lines.{row_brought}
use Rattle.run_text.specs.RowKeys.{as_fed, is_equal_key, AreRowKeys}
use Rattle.run_text.specs.RowOrder.{key-ties}
use Rattle.run_text.specs.declared.row_keys.LentKey.{LentKey}

-- ---- what is said

-- one record more
pub said_to-more : (kind : Kind) (number : ℕ) (before : List SourceRecord) (x : SourceRecord) →
    said_to kind number (before ++ x ∷ []) ≡ said_to kind number before ++ said_to kind number (x ∷ [])
said_to-more kind number [] x = refl
said_to-more kind number (y ∷ ys) x = by (y.stamp.topic == number) (said_to-more kind number ys x)
  where
    of_topic : List SourceRecord → List SourceRecord
    of_topic rs = filter (λ (r : SourceRecord). r.stamp.topic == number) rs

    by : (b : Bool) → said_to kind number (ys ++ x ∷ []) ≡ said_to kind number ys ++ said_to kind number (x ∷ []) →
        flat_map (saying kind) (cond b (y ∷ of_topic (ys ++ x ∷ [])) (of_topic (ys ++ x ∷ [])))
        ≡ flat_map (saying kind) (cond b (y ∷ of_topic ys) (of_topic ys)) ++ said_to kind number (x ∷ [])
    by true rest =
        ap (λ (cs : List Change). saying kind y ++ cs) rest
        ∙ sym (append_assoc (saying kind y) (said_to kind number ys) (said_to kind number (x ∷ [])))
    by false rest = rest

-- a change that a record makes, with this body
abbrev pub change_by : SourceRecord → Body → Change
change_by x body = record { place = record { stamp = x.stamp; path = [] }; time = x.time; key = x.key; span = None; body = body }

-- what a record says to a table, by the row that it brings
abbrev pub raw : SourceRecord → Option (Option Row) → List Change
raw x None = []
raw x (Some row) = change_by x (Turned None row) ∷ []

-- and to a stream
abbrev pub plain : SourceRecord → Option (Option Row) → List Change
plain x (Some (Some row)) = change_by x (Said row) ∷ []
plain x _ = []

saying-table : (stamp : Stamp) (time : ℕ) (key : List Value) (value : Decoded) →
    let x : SourceRecord = record { stamp = stamp; time = time; key = key; value = value } in
    saying Table x ≡ raw x (option_map row_in (said_by Table key value))
saying-table stamp time [] (Good row) = refl
saying-table stamp time [] Tombstone = refl
saying-table stamp time [] Skipped = refl
saying-table stamp time (k ∷ ks) (Good row) = refl
saying-table stamp time (k ∷ ks) Tombstone = refl
saying-table stamp time (k ∷ ks) Skipped = refl

-- a record that says a row, or its absence, brings it
pub row_brought-said : (kind : Kind) (key : List Value) (value : Decoded) (row : Option Row) →
    Some row ≡ option_map row_in (said_by kind key value) → row_brought value ≡ row
row_brought-said Stream key (Good r) row is = cc
row_brought-said Stream key Tombstone row is = cc
row_brought-said Stream key Skipped row is = cc
row_brought-said Table [] (Good r) row is = cc
row_brought-said Table [] Tombstone row is = cc
row_brought-said Table [] Skipped row is = cc
row_brought-said Table (k ∷ ks) (Good r) row is = cc
row_brought-said Table (k ∷ ks) Tombstone row is = cc
row_brought-said Table (k ∷ ks) Skipped row is = cc
row_brought-said Windowed key value row is = cc

-- a record of the topic, by what it says
pub said_to-table : (number : ℕ) (x : SourceRecord) (said : Option (Option Row)) → (x.stamp.topic == number) ≡ true →
    said ≡ option_map row_in (said_by Table x.key x.value) → said_to Table number (x ∷ []) ≡ raw x said
said_to-table number x said here is =
    ap (λ (b : Bool). flat_map (saying Table) (cond b (x ∷ []) [])) here ∙ append-nil (saying Table x)
    ∙ saying-table x.stamp x.time x.key x.value ∙ ap (raw x) (sym is)

-- no record says anything to a windowed table
silent : (xs : List SourceRecord) → flat_map (saying Windowed) xs ≡ []
silent [] = refl
silent (x ∷ xs) = silent xs

pub said_to-windowed : (number : ℕ) (order : List SourceRecord) → said_to Windowed number order ≡ []
said_to-windowed number order = silent (filter (λ r. r.stamp.topic == number) order)

-- ---- the changes of a table

changes_by-results : (number : ℕ) (order : List SourceRecord) →
    changes_by Table number order ≡ results (gives 1 (node.Table number)) [] (from_side 0 (said_to Table number order))
changes_by-results number order = changed-from-side (results (gives 1 (node.Table number)) [] (from_side 0 (said_to Table number order)))

-- the entries of what is said, after one more record
pub entries-more : (number : ℕ) (before : List SourceRecord) (x : SourceRecord) (c : Change) → said_to Table number (x ∷ []) ≡ c ∷ [] →
    from_side 0 (said_to Table number (before ++ x ∷ [])) ≡ from_side 0 (said_to Table number before) ++ entry c ∷ []
entries-more number before x c one =
    ap (from_side 0) (said_to-more Table number before x ∙ ap (λ (cs : List Change). said_to Table number before ++ cs) one)
    ∙ map-append entry (said_to Table number before) (c ∷ [])

-- the row that a key has before a record
abbrev pub row_before : ℕ → List SourceRecord → List Value → Option Row
row_before number before key = row_after (of_key key (from_side 0 (said_to Table number before)))

-- what a record's row turns
pub changes_by-more : (number : ℕ) (before : List SourceRecord) (x : SourceRecord) (row : Option Row) →
    said_to Table number (x ∷ []) ≡ change_by x (Turned None row) ∷ [] →
    changes_by Table number (before ++ x ∷ [])
    ≡ changes_by Table number before ++ with_body (change_by x (Turned None row)) (turned (row_before number before x.key) row)
unfolding gives
changes_by-more number before x row one =
    let es = from_side 0 (said_to Table number before) in
    changes_by-results number (before ++ x ∷ [])
    ∙ ap (results (gives 1 (node.Table number)) []) (entries-more number before x (change_by x (Turned None row)) one)
    ∙ results-more (gives 1 (node.Table number)) [] es (entry (change_by x (Turned None row)))
    ∙ ap (λ (cs : List Change). cs ++ with_body (change_by x (Turned None row)) (turned (row_before number before x.key) row)) (sym (changes_by-results number before))

-- what is shown of a record's row
abbrev pub shown_by : SourceRecord → Option Row → Shown
shown_by x row = record { part = x.stamp.part; time = x.time; key = x.key; span = None; row = row }

shown-turned : (x : SourceRecord) (old row : Option Row) →
    as_fed (with_body (change_by x (Turned None row)) (turned old row)) ≡ (if is_some old || is_some row then shown_by x row ∷ [] else [])
shown-turned x None None = refl
shown-turned x None (Some row) = refl
shown-turned x (Some old) None = refl
shown-turned x (Some old) (Some row) = refl

-- the lines of a table, one record later
pub lines-more : (number : ℕ) (before : List SourceRecord) (x : SourceRecord) (row : Option Row) (had : Bool) (lines : List Shown) →
    said_to Table number (x ∷ []) ≡ change_by x (Turned None row) ∷ [] → had ≡ is_some (row_before number before x.key) →
    lines ≡ as_fed (changes_by Table number before) →
    lines ++ (if had || is_some row then shown_by x row ∷ [] else []) ≡ as_fed (changes_by Table number (before ++ x ∷ []))
lines-more number before x row had lines one is_had so_far =
    let more = with_body (change_by x (Turned None row)) (turned (row_before number before x.key) row) in
    ap (λ (b : Bool). lines ++ (if b || is_some row then shown_by x row ∷ [] else [])) is_had
    ∙ ap (λ (ss : List Shown). lines ++ ss) (sym (shown-turned x (row_before number before x.key) row))
    ∙ ap (λ (ss : List Shown). ss ++ as_fed more) so_far
    ∙ sym (map-append _ (changes_by Table number before) more)
    ∙ sym (ap as_fed (changes_by-more number before x row one))

-- ---- the keys that have a row

last-more : (o : Option Entry) (es : List Entry) (e : Entry) → last_or o (es ++ e ∷ []) ≡ Some e
last-more o [] e = refl
last-more o (x ∷ xs) e = last-more (Some x) xs e

after-more : (key : List Value) (es : List Entry) (e : Entry) →
    row_after (of_key key (es ++ e ∷ [])) ≡ cond (is_same_key e.change.key key) (row_in e.change.body) (row_after (of_key key es))
after-more key es e = ap row_after (filter-append (λ x. is_same_key x.change.key key) es (e ∷ [])) ∙ by (is_same_key e.change.key key)
  where
    by : (b : Bool) → row_after (of_key key es ++ cond b (e ∷ []) []) ≡ cond b (row_in e.change.body) (row_after (of_key key es))
    by true = ap (option_and_then (λ x. row_in x.change.body)) (last-more None (of_key key es) e)
    by false = ap row_after (append-nil (of_key key es))

-- whether a key has a row, one record later
pub has_row-more : (number : ℕ) (before : List SourceRecord) (x : SourceRecord) (row : Option Row) (key : List Value) →
    said_to Table number (x ∷ []) ≡ change_by x (Turned None row) ∷ [] →
    is_some (row_before number (before ++ x ∷ []) key) ≡ cond (is_same_key x.key key) (is_some row) (is_some (row_before number before key))
has_row-more number before x row key one =
    let es = from_side 0 (said_to Table number before) in
    ap (λ es. is_some (row_after (of_key key es))) (entries-more number before x (change_by x (Turned None row)) one)
    ∙ ap is_some (after-more key es (entry (change_by x (Turned None row))))
    ∙ by (is_same_key x.key key)
  where
    by : (b : Bool) → is_some (cond b row (row_before number before key)) ≡ cond b (is_some row) (is_some (row_before number before key))
    by true = refl
    by false = refl

-- the set of keys, one record later
pub row_keys-more : (number : ℕ) (before : List SourceRecord) (x : SourceRecord) (row : Option Row) {S : Type 0} (old new : IndexSet LentKey S) (key : LentKey) (stays : Bool) →
    said_to Table number (x ∷ []) ≡ change_by x (Turned None row) ∷ [] → key.cells.now ≡ x.key → stays ≡ is_some row →
    AreRowKeys old (from_side 0 (said_to Table number before)) → Updates is_equal_key old new key stays →
    AreRowKeys new (from_side 0 (said_to Table number (before ++ x ∷ [])))
row_keys-more number before x row old new key stays one is_key is_stays so_far turned =
    λ q.
    let had = is_some (row_before number before q.cells.now) in
    let same : is_eq (slice_cmp cell_cmp key.cells.now q.cells.now) ≡ is_same_key x.key q.cells.now =
    sym (key-ties key.cells.now q.cells.now) ∙ ap (λ (k : List Value). is_same_key k q.cells.now) is_key in
    turned.0 q
    ∙ ap (λ (b : Bool). cond (is_eq (slice_cmp cell_cmp key.cells.now q.cells.now)) stays b) (so_far q)
    ∙ ap₂ (λ (b s : Bool). cond b s had) same is_stays
    ∙ sym (has_row-more number before x row q.cells.now one)

-- a borrowed row is present if the row is
pub is_some-lent : {A B : Type 0} (f : A → B) (o : Option A) → is_some (option_map f o) ≡ is_some o
is_some-lent f None = refl
is_some-lent f (Some x) = refl
