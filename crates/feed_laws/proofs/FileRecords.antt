-- The records of a topic file fit their relation.
use Rattle.std.proofs.Common.{◌≡◌, refl, ℕ, zero, suc, ℤ, pos, negsuc, List, [], ◌∷◌, length, ◌≤◌, ◌<◌, ◌^◌, ◌/◌, ◌%◌, Bool, true, false, Option, Some, None, arith}
use Rattle.std.specs.Prelude.{◌==◌, ◌&&◌, IfSome, codes, filter_map, if◌then◌else◌, is_some, nat_le, option_and_then, option_map}
use Rattle.std.specs.Cmp.Lexicographic.{slice_cmp}
use Rattle.std.specs.Fmt.{decimal, digit_glyph, digits, digits_onto, signed_decimal}
use Rattle.std.specs.List.{All, AllByRecursion, cons_option}
use Rattle.std.specs.Option.{option_or}
use Rattle.std.specs.Ordering.{is_lt, match_ordering, nat_cmp}
use Rattle.std.specs.declared.cmp.Ordering.{Ordering}
use Rattle.std.specs.declared.cmp.Ordering.TheVariants.{Less, Equal, Greater}
use Rattle.std.specs.Str.{IsAscii, IsUtf8, is_utf8}
use Rattle.std.proofs.lemmas.Bool.{leb-true}
use Rattle.std.proofs.lemmas.Bool.Decides.{nat_tests}
use Rattle.std.proofs.lemmas.List.Elements.{All-cons, All-from_recursion, All-nil}
use Rattle.std.proofs.lemmas.Str.{IsUtf8-from_ascii, IsUtf8-from_is_utf8}
use Rattle.std.proofs.lemmas.Str.Ascii.{IsAscii-cons, IsAscii-nil}
use Rattle.json.proofs.Printed.Utf8.{IsUtf8-are_ascii}
use Rattle.serde_json.specs.Data as tree
use Rattle.serde_json.specs.Data.{Data, Members}
use Rattle.serde_json.specs.Find.{as_bool, as_object, as_str, get, get_member}
use Rattle.serde_json.specs.Read.{read}
use Rattle.ksql_types.specs.Key.{IsKey}
use Rattle.ksql_types.specs.declared.relation.Column.{Column}
use Rattle.ksql_types.specs.declared.relation.Format.{Format}
use Rattle.ksql_types.specs.declared.relation.Format.TheVariants.{Json, Delimited}
use Rattle.ksql_types.specs.declared.relation.Relation.{Relation}
use Rattle.ksql_types.specs.declared.value.SqlType.{SqlType}
use Rattle.ksql_types.specs.declared.value.SqlType.TheVariants as types
use Rattle.ksql_types.specs.declared.value.Value.{Value}
use Rattle.ksql_types.specs.declared.value.Value.TheVariants as values
use Rattle.ksql_types.specs.Text.{longest_value}
use Rattle.ksql_place.specs.declared.change.Decoded.{Decoded}
use Rattle.meaning_laws.specs.Bounds.{IsDecodedOf, IsKeyOf, IsOf, IsRowOf}
use Rattle.topic_files.specs.declared.topic.Fed.{Fed}
use Rattle.topic_files.specs.Cells.{as_int, cell, cell_of, cells, column_field, int_of, is_like, least_like, lesser, named_field, text_form, text_value, truth_text, typed, value_of_type}
use Rattle.topic_files.specs.Delimited.{as_big, field_value as field_cell, fields_of, row_of, text_row, truth_in, whole, written}
use Rattle.topic_files.specs.File.{feds_of, topic_lines}
use Rattle.topic_files.specs.Lines.{lines_of, record_lines}
use Rattle.topic_files.specs.Record.{delimited_row, fed_of, fed_of_data, field_value, good_row, key_of, keyed, object_row, record_at, row_in}
use Rattle.topic_files.specs.TopicLine.{as_time, data_of, is_key, is_value, last_time, present, time_of, topic_time, unless_null, whole_number}
use Rattle.short_laws.specs.Short.{HoldsInDecoded, IsProper}
use Rattle.feed_laws.specs.Fitting.{IsFedOf}
use Rattle.feed_laws.proofs.Strings.{IsTextData, AreTextFields, anything, onto, onward, text-read}

-- ---- what is found in JSON

either : {A : Type 0} (P : A → Type 0) (o p : Option A) → IfSome o P → IfSome p P → IfSome (option_or o p) P
either P None p is-o is-p = is-p
either P (Some a) p is-o is-p = is-o

text-member : (name : List ℕ) (ms : Members) → AreTextFields ms → IfSome (get_member name ms) IsTextData
text-member name tree.no_members are = tt
text-member name (tree.member l d ms) are = by (slice_cmp nat_cmp name l) (text-member name ms are.1)
  where
    by : (o : Ordering) → IfSome (get_member name ms) IsTextData → IfSome (match_ordering o (get_member name ms) (Some d) (get_member name ms)) IsTextData
    by Less rest = rest
    by Equal rest = are.0
    by Greater rest = rest

text-field : (name : List ℕ) (d : Data) → IsTextData d → IfSome (get name d) IsTextData
text-field name tree.null is = tt
text-field name (tree.boolean b) is = tt
text-field name (tree.number n) is = tt
text-field name (tree.string s) is = tt
text-field name (tree.array ds) is = tt
text-field name (tree.object ms) is = text-member name ms is

-- a member of an object whose data is a text
abbrev IsTextMember : List ℕ × Data → Type 0
IsTextMember m = IsTextData m.1

text-lesser : (one : List ℕ × Data) (other : Option (List ℕ × Data)) → IsTextMember one → IfSome other IsTextMember → IsTextMember (lesser one other)
text-lesser one None is others = is
text-lesser one (Some other) is others = by (is_lt (slice_cmp nat_cmp other.0 one.0))
  where
    by : (b : Bool) → IsTextMember (if b then other else one)
    by true = others
    by false = is

text-like : (name : List ℕ) (ms : Members) → AreTextFields ms → IfSome (least_like name ms) IsTextMember
text-like name tree.no_members are = tt
text-like name (tree.member key d more) are = by (is_like key name) (text-like name more are.1)
  where
    by : (b : Bool) → IfSome (least_like name more) IsTextMember → IfSome (if b then Some (lesser (key, d) (least_like name more)) else least_like name more) IsTextMember
    by true rest = text-lesser (key, d) (least_like name more) are.0 rest
    by false rest = rest

text-object : (d : Data) → IsTextData d → IfSome (as_object d) AreTextFields
text-object tree.null is = tt
text-object (tree.boolean b) is = tt
text-object (tree.number n) is = tt
text-object (tree.string s) is = tt
text-object (tree.array ds) is = tt
text-object (tree.object ms) is = is

text-unless_null : (d : Data) → IsTextData d → IfSome (unless_null d) IsTextData
text-unless_null tree.null is = tt
text-unless_null (tree.boolean b) is = is
text-unless_null (tree.number n) is = is
text-unless_null (tree.string s) is = is
text-unless_null (tree.array ds) is = is
text-unless_null (tree.object ms) is = is

text-named : (name : List ℕ) (d : Data) → IsTextData d → IfSome (named_field name d) IsTextData
text-named name d is =
    either IsTextData (get name d) (option_map (λ found. found.1) (option_and_then (least_like name) (as_object d))) (text-field name d is)
    (onto (λ (found : List ℕ × Data). found.1) IsTextMember IsTextData (λ found is-text. is-text) (option_and_then (least_like name) (as_object d))
    (onward (least_like name) AreTextFields IsTextMember (λ ms are. text-like name ms are) (as_object d) (text-object d is)))

text-column : (name : List ℕ) (d : Data) → IsTextData d → IfSome (column_field name d) IsTextData
text-column name d is = onward unless_null IsTextData IsTextData (λ e is-e. text-unless_null e is-e) (named_field name d) (text-named name d is)

text-present : (name : List ℕ) (d : Data) → IsTextData d → IfSome (present name d) IsTextData
text-present name d is = onward unless_null IsTextData IsTextData (λ e is-e. text-unless_null e is-e) (get name d) (text-field name d is)

text-str : (d : Data) → IsTextData d → IfSome (as_str d) IsUtf8
text-str tree.null is = tt
text-str (tree.boolean b) is = tt
text-str (tree.number n) is = tt
text-str (tree.string s) is = is
text-str (tree.array ds) is = tt
text-str (tree.object ms) is = tt

-- ---- texts of numbers and truth values

ascii-glyph : (d : ℕ) → d < 10 → digit_glyph false d < 128
ascii-glyph d low = grind (arith, nat_tests)

ascii-digits : (k n : ℕ) (acc : List ℕ) → IsAscii acc → IsAscii (digits_onto k 10 false n acc)
ascii-digits zero n acc is = is
ascii-digits (suc k) n acc is = by (n / 10 == 0) (λ after are. ascii-digits k (n / 10) after are)
  where
    last : List ℕ
    last = digit_glyph false (n % 10) ∷ acc

    ascii : IsAscii last
    ascii = IsAscii-cons (digit_glyph false (n % 10)) acc (ascii-glyph (n % 10) (omega arith)) is

    by : (b : Bool) → ((after : List ℕ) → IsAscii after → IsAscii (digits_onto k 10 false (n / 10) after)) →
        IsAscii (if b then last else digits_onto k 10 false (n / 10) last)
    by true more = ascii
    by false more = more last ascii

ascii-decimal : (n : ℕ) → IsAscii (decimal n)
unfolding digits
ascii-decimal n = ascii-digits 64 n [] IsAscii-nil

text-signed : (z : ℤ) → IsUtf8 (signed_decimal z)
text-signed (pos n) = IsUtf8-from_ascii (decimal n) (ascii-decimal n)
text-signed (negsuc n) = IsUtf8-from_ascii (signed_decimal (negsuc n)) (IsAscii-cons 45 (decimal (suc n)) (omega arith) (ascii-decimal (suc n)))

text-truth : (b : Bool) → IsUtf8 (truth_text b)
text-truth true = IsUtf8-are_ascii (codes "true") refl
text-truth false = IsUtf8-are_ascii (codes "false") refl

text-form : (d : Data) → IsTextData d → IfSome (text_form d) IsUtf8
text-form d is =
    either IsUtf8 (as_str d) (option_or (option_map signed_decimal (whole_number d)) (option_map truth_text (as_bool d))) (text-str d is)
    (either IsUtf8 (option_map signed_decimal (whole_number d)) (option_map truth_text (as_bool d))
    (onto signed_decimal (λ z. Unit {0}) IsUtf8 (λ z _. text-signed z) (whole_number d) (anything (whole_number d)))
    (onto truth_text (λ b. Unit {0}) IsUtf8 (λ b _. text-truth b) (as_bool d) (anything (as_bool d))))

-- ---- values

-- a value of a type that is short and of UTF-8
abbrev FitsType : SqlType → Value → Type 0
FitsType ty v = IsOf ty v × IsProper v

-- one that makes a key
abbrev FitsKey : SqlType → Value → Type 0
FitsKey ty v = FitsType ty v × IsKey (v ∷ [])

fits-text : (text : List ℕ) → IsUtf8 text → IfSome (text_value text) (FitsKey types.Text)
fits-text text utf8 = by (nat_le (length text) longest_value) refl
  where
    by : (b : Bool) → nat_le (length text) longest_value ≡ b → IfSome (if b then Some (values.Txt text) else None) (FitsKey types.Text)
    by true is = ((refl, (leb-true (length text) longest_value is, utf8)), refl)
    by false is = tt

fits-typed : (ty : SqlType) (d : Data) → IsTextData d → IfSome (typed ty d) (FitsKey ty)
fits-typed types.Int d is = onto values.Int (λ n. Unit {0}) (FitsKey types.Int) (λ n _. ((refl, (tt, tt)), refl)) (int_of d) (anything (int_of d))
fits-typed types.Big d is = onto values.Big (λ n. Unit {0}) (FitsKey types.Big) (λ n _. ((refl, (tt, tt)), refl)) (whole_number d) (anything (whole_number d))
fits-typed types.Text d is = onward text_value IsUtf8 (FitsKey types.Text) (λ text utf8. fits-text text utf8) (as_str d) (text-str d is)
fits-typed types.Bool d is = onto values.Bool (λ b. Unit {0}) (FitsKey types.Bool) (λ b _. ((refl, (tt, tt)), refl)) (as_bool d) (anything (as_bool d))

weaker : {A : Type 0} (P Q : A → Type 0) → ((a : A) → P a → Q a) → (o : Option A) → IfSome o P → IfSome o Q
weaker P Q to None is = tt
weaker P Q to (Some a) is = to a is

fits-value : (ty : SqlType) (d : Data) → IsTextData d → IfSome (value_of_type ty d) (FitsType ty)
fits-value types.Int d is = weaker (FitsKey types.Int) (FitsType types.Int) (λ v fits. fits.0) (typed types.Int d) (fits-typed types.Int d is)
fits-value types.Big d is = weaker (FitsKey types.Big) (FitsType types.Big) (λ v fits. fits.0) (typed types.Big d) (fits-typed types.Big d is)
fits-value types.Text d is =
    onward text_value IsUtf8 (FitsType types.Text) (λ text utf8. weaker (FitsKey types.Text) (FitsType types.Text) (λ v fits. fits.0) (text_value text) (fits-text text utf8))
    (text_form d) (text-form d is)
fits-value types.Bool d is = weaker (FitsKey types.Bool) (FitsType types.Bool) (λ v fits. fits.0) (typed types.Bool d) (fits-typed types.Bool d is)

fits-null : (ty : SqlType) → FitsType ty values.Null
fits-null ty = (refl, (tt, tt))

fits-cell : (c : Column) (d : Data) → IsTextData d → IfSome (cell c d) (FitsType c.ty)
fits-cell c d is = by (column_field c.name d) (text-column c.name d is)
  where
    by : (o : Option Data) → IfSome o IsTextData → IfSome (cell_of c.ty o) (FitsType c.ty)
    by None text = fits-null c.ty
    by (Some field) text = fits-value c.ty field text

-- a row of columns, with proper values
abbrev FitsRow : List Column → List Value → Type 0
FitsRow cs row = IsRowOf cs row × AllByRecursion IsProper row

fits-cells : (cs : List Column) (d : Data) → IsTextData d → IfSome (cells cs d) (FitsRow cs)
fits-cells [] d is = (tt, tt)
fits-cells (c ∷ cs) d is =
    onward (λ value. option_map (λ more. value ∷ more) (cells cs d)) (FitsType c.ty) (FitsRow (c ∷ cs))
    (λ value fits. onto (λ more. value ∷ more) (FitsRow cs) (FitsRow (c ∷ cs)) (λ more rest. ((fits.0, rest.0), (fits.1, rest.1))) (cells cs d) (fits-cells cs d is))
    (cell c d) (fits-cell c d is)

fits-object : (cs : List Column) (d : Data) → IsTextData d → IfSome (object_row cs d) (FitsRow cs)
fits-object cs d is = by (is_some (as_object d))
  where
    by : (b : Bool) → IfSome (if b then cells cs d else None) (FitsRow cs)
    by true = fits-cells cs d is
    by false = tt

-- the value that a field writes
fits-written : (ty : SqlType) (field : List ℕ) → IsUtf8 field → IfSome (written ty field) (FitsType ty)
fits-written types.Int field utf8 =
    onto values.Int (λ n. Unit {0}) (FitsType types.Int) (λ n _. (refl, (tt, tt))) (option_and_then as_int (whole field)) (anything (option_and_then as_int (whole field)))
fits-written types.Big field utf8 =
    onto values.Big (λ n. Unit {0}) (FitsType types.Big) (λ n _. (refl, (tt, tt))) (option_and_then as_big (whole field)) (anything (option_and_then as_big (whole field)))
fits-written types.Text field utf8 = weaker (FitsKey types.Text) (FitsType types.Text) (λ v fits. fits.0) (text_value field) (fits-text field utf8)
fits-written types.Bool field utf8 = onto values.Bool (λ b. Unit {0}) (FitsType types.Bool) (λ b _. (refl, (tt, tt))) (truth_in field) (anything (truth_in field))

fits-field_cell : (ty : SqlType) (field : List ℕ) → IfSome (field_cell ty field) (FitsType ty)
fits-field_cell ty field = by (length field == 0) (full (is_utf8 field) refl)
  where
    full : (b : Bool) → is_utf8 field ≡ b → IfSome (if b then written ty field else None) (FitsType ty)
    full true is = fits-written ty field (IsUtf8-from_is_utf8 field is)
    full false is = tt

    by : (b : Bool) → IfSome (if is_utf8 field then written ty field else None) (FitsType ty) →
        IfSome (if b then Some values.Null else (if is_utf8 field then written ty field else None)) (FitsType ty)
    by true fits = fits-null ty
    by false fits = fits

fits-fields : (cs : List Column) (fields : List (List ℕ)) → IfSome (row_of cs fields) (FitsRow cs)
fits-fields [] [] = (tt, tt)
fits-fields [] (field ∷ fields) = tt
fits-fields (c ∷ cs) [] = tt
fits-fields (c ∷ cs) (field ∷ fields) =
    onward (λ value. option_map (λ more. value ∷ more) (row_of cs fields)) (FitsType c.ty) (FitsRow (c ∷ cs))
    (λ value fits. onto (λ more. value ∷ more) (FitsRow cs) (FitsRow (c ∷ cs)) (λ more rest. ((fits.0, rest.0), (fits.1, rest.1))) (row_of cs fields) (fits-fields cs fields))
    (field_cell c.ty field) (fits-field_cell c.ty field)

fits-text_row : (cs : List Column) (text : List ℕ) → IfSome (text_row cs text) (FitsRow cs)
fits-text_row cs text = onward (row_of cs) (λ _. Unit {0}) (FitsRow cs) (λ fields _. fits-fields cs fields) (fields_of text) (anything (fields_of text))

fits-delimited : (cs : List Column) (d : Data) → IfSome (delimited_row cs d) (FitsRow cs)
fits-delimited cs d = onward (text_row cs) (λ _. Unit {0}) (FitsRow cs) (λ text _. fits-text_row cs text) (as_str d) (anything (as_str d))

fits-row : (format : Format) (cs : List Column) (d : Data) → IsTextData d → IfSome (row_in format cs d) (FitsRow cs)
fits-row Json cs d is = fits-object cs d is
fits-row Delimited cs d is = fits-delimited cs d

-- ---- records

-- a decoded value with a row of columns, if it has one
abbrev FitsDecoded : List Column → Decoded → Type 0
FitsDecoded cs v = IsDecodedOf cs v × HoldsInDecoded IsProper v

fits-good : (cs : List Column) (o : Option (List Value)) → IfSome o (FitsRow cs) → FitsDecoded cs (good_row o)
fits-good cs (Some row) fits = (fits.0, All-from_recursion IsProper row fits.1)
fits-good cs None fits = (tt, tt)

fits-field : (r : Relation) (o : Option Data) → IfSome o IsTextData → FitsDecoded r.schema.values (field_value r o)
fits-field r None is = (tt, tt)
fits-field r (Some d) is = fits-good r.schema.values (row_in r.format r.schema.values d) (fits-row r.format r.schema.values d is)

-- a key of columns, with proper values
abbrev FitsKeys : List Column → List Value → Type 0
FitsKeys cs key = IsKeyOf cs key × All IsProper key

fits-key : (cs : List Column) (o : Option Data) → IfSome o IsTextData → IfSome (key_of cs o) (FitsKeys cs)
fits-key cs None is = (tt, All-nil IsProper)
fits-key [] (Some d) is = (tt, All-nil IsProper)
fits-key (c ∷ []) (Some d) is =
    onto (λ value. value ∷ []) (FitsKey c.ty) (FitsKeys (c ∷ []))
    (λ value fits. (((fits.0.0, tt), fits.1), All-cons IsProper value [] fits.0.1 (All-nil IsProper)))
    (typed c.ty d) (fits-typed c.ty d is)
fits-key (first ∷ second ∷ more) (Some d) is = tt

fits-keyed : (r : Relation) (time : ℕ) (value : Decoded) (key : Option (List Value)) → time ≤ 2 ^ 53 → FitsDecoded r.schema.values value → IfSome key (FitsKeys r.schema.keys) →
    IsFedOf r (keyed time value key)
fits-keyed r time value (Some key) low row keys = record { key = keys.0; row = row.0; proper_key = keys.1; proper_row = row.1; time = low }
fits-keyed r time value None low row keys = record { key = tt; row = tt; proper_key = All-nil IsProper; proper_row = tt; time = low }

low-time : (z : ℤ) → IfSome (as_time z) (λ t. t ≤ 2 ^ 53)
low-time (pos n) = by (nat_le n last_time) refl
  where
    by : (b : Bool) → nat_le n last_time ≡ b → IfSome (if b then Some n else None) (λ t. t ≤ 2 ^ 53)
    by true is = leb-true n last_time is
    by false is = tt
low-time (negsuc n) = tt

low-topic_time : (d : Data) → IfSome (topic_time d) (λ t. t ≤ 2 ^ 53)
low-topic_time d = by (is_key (present (codes "k") d) && is_value (present (codes "v") d))
  where
    by : (b : Bool) → IfSome (if b then time_of d else None) (λ t. t ≤ 2 ^ 53)
    by true =
        onward as_time (λ z. Unit {0}) (λ t. t ≤ 2 ^ 53) (λ z _. low-time z) (option_and_then whole_number (get (codes "t") d))
        (anything (option_and_then whole_number (get (codes "t") d)))
    by false = tt

fits-data : (r : Relation) (d : Data) → IsTextData d → IfSome (fed_of_data r d) (IsFedOf r)
fits-data r d is =
    onto (record_at r d) (λ t. t ≤ 2 ^ 53) (IsFedOf r)
    (λ time low. fits-keyed r time (field_value r (present (codes "v") d)) (key_of r.schema.keys (present (codes "k") d)) low
    (fits-field r (present (codes "v") d) (text-present (codes "v") d is)) (fits-key r.schema.keys (present (codes "k") d) (text-present (codes "k") d is)))
    (topic_time d) (low-topic_time d)

text-line : (line : List ℕ) → IfSome (data_of line) IsTextData
text-line line = by (is_utf8 line) refl
  where
    by : (b : Bool) → is_utf8 line ≡ b → IfSome (if b then read line else None) IsTextData
    by true is = text-read line (IsUtf8-from_is_utf8 line is)
    by false is = tt

fits-line : (r : Relation) (line : List ℕ) → IfSome (fed_of r line) (IsFedOf r)
fits-line r line = onward (fed_of_data r) IsTextData (IsFedOf r) (λ d is. fits-data r d is) (data_of line) (text-line line)

fits-lines : (r : Relation) (lines : List (List ℕ)) → AllByRecursion (IsFedOf r) (filter_map (fed_of r) lines)
fits-lines r [] = tt
fits-lines r (line ∷ lines) = by (fed_of r line) (fits-line r line) (fits-lines r lines)
  where
    by : (o : Option Fed) → IfSome o (IsFedOf r) → AllByRecursion (IsFedOf r) (filter_map (fed_of r) lines) →
        AllByRecursion (IsFedOf r) (cons_option o (filter_map (fed_of r) lines))
    by None fits rest = rest
    by (Some fed) fits rest = (fits, rest)

-- the records of a file fit
pub fits-file : (r : Relation) (file : List ℕ) → All (IsFedOf r) (topic_lines r file).feds
fits-file r file = All-from_recursion (IsFedOf r) (feds_of r (lines_of file)) (fits-lines r (record_lines (lines_of file)))
