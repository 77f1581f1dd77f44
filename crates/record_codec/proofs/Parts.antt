-- Each part of a change is read exactly if it is spelled.
use Rattle.std.proofs.Common.{◌≡◌, ℕ, zero, suc, lit<, ◌<◌, ◌≤◌, ◌^◌, Bool, true, false, ltb, leb, not, ◌&&◌, ◌||◌, List, ◌∷◌, ◌++◌, length, Option, Some, None, refl, sym, ap, subst, ◌∙◌, append_assoc, arith, []}
use Rattle.std.specs.Prelude.{ℤ, IfSome, is_some}
use Rattle.std.specs.List.{All, list_all}
use Rattle.std.specs.Int.{w32, w64, cast_signed, cast_unsigned}
use Rattle.std.specs.Int.RustNames.{FitsSigned}
use Rattle.std.specs.Str.{is_utf8}
use Rattle.std.proofs.lemmas.Bool.{ltb-true, lt-ltb, leb-true}
use Rattle.std.proofs.lemmas.Int.{ints, to_z-of_z, of_z-to_z}
use Rattle.std.proofs.lemmas.Str.{IsUtf8-from_is_utf8, is_utf8-from_IsUtf8}
use Rattle.std.proofs.lemmas.Option.{same_Some, some_pair_parts}
use Rattle.ksql_types.specs.Key.{IsKey, is_key, is_null}
use Rattle.ksql_types.specs.declared.value.Value.{Value}
use Rattle.ksql_types.specs.declared.value.Value.TheVariants as sql
use Rattle.ksql_types.specs.declared.relation.Span.{Span}
use Rattle.ksql_place.specs.declared.stamp.Stamp.{Stamp}
use Rattle.ksql_place.specs.declared.change.Body.{Body}
use Rattle.ksql_place.specs.declared.change.Body.TheVariants.{Said, Turned}
use Rattle.ksql_place.specs.declared.change.Change.{Change}
use Rattle.record_codec.specs.Spelling.{Always, four, eight, text, truth_byte, value, values, optional, stamp, path, span, is_turned, head, body, spelling, IsShort, IsShortRow, IsShortBody, IsTypedValue, IsTypedStamp as IsStamp, IsTypedSpan, IsTypedBody, InFour, InEight, IsSpellableText, IsSpellableValue, AtMost, Optionally, IsSpellableKey, IsSpellablePath, IsSpellableSpan, IsSpellableWindow, IsSpellableBody, IsSpellable, IsSpellableRow, AreSpellable}
use Rattle.record_codec.specs.Reading.{Begins}
use Rattle.record_codec.proofs.Parsers.{Reader, both, seen_as, where_true, four_at, eight_at, counted, list_at, optional_at, taken, text_at, truth_at, value_at, row_at, values_at, key_at, path_at, stamp_of, stamp_at, span_of, span_at, window_at, head_at, rows_at, body_at, Parts, change_of, change_at}
use Rattle.record_codec.proofs.Readers.{bind_some, Reads, reads-suits, in_row, and_then, reads-both, reads-next, reads-as, passing, reads-where, itself, reads-taken, reads-four, reads-eight, at_most, reads-counted, reads-list, reads-optional}

-- ---- values

pub reads-text : Reads text IsSpellableText text_at
unfolding text_at
reads-text =
    let counting = reads-counted 65536 itself Always taken (lit< tt) reads-taken in
    reads-suits text (passing (at_most 65536 Always) is_utf8) IsSpellableText (where_true is_utf8 (counted 65536 taken))
    (λ a h. (h.0.0, IsUtf8-from_is_utf8 a h.1)) (λ a h. ((h.0, tt), is_utf8-from_IsUtf8 a h.1))
    (reads-where text (at_most 65536 Always) is_utf8 (counted 65536 taken) counting)

found-truth : (bytes : List ℕ) (x : Bool × List ℕ) → truth_at bytes ≡ Some x → Begins truth_byte Always bytes x
unfolding truth_at
found-truth [] x e = absurd cc
found-truth (zero ∷ bytes) x e =
    let made : Bool × List ℕ = (false, bytes) in
    subst (λ (y : Bool × List ℕ). Begins truth_byte Always (0 ∷ bytes) y) (same_Some made x e) (record { parts = refl; fitting = tt })
found-truth (suc zero ∷ bytes) x e =
    let made : Bool × List ℕ = (true, bytes) in
    subst (λ (y : Bool × List ℕ). Begins truth_byte Always (1 ∷ bytes) y) (same_Some made x e) (record { parts = refl; fitting = tt })
found-truth (suc (suc b) ∷ bytes) x e = absurd cc

only-truth : (b : Bool) (rest : List ℕ) → Unit {0} → truth_at (truth_byte b ++ rest) ≡ Some (b, rest)
unfolding truth_at
only-truth false rest h = refl
only-truth true rest h = refl

pub reads-truth : Reads truth_byte Always truth_at
reads-truth = record { found = found-truth; only = only-truth }

-- what follows the byte for the kind of a value
after_kind : {A : Type 0} (tag : ℕ) (s : A → List ℕ) (fits : A → Type 0) (read : Reader A) (f : A → Value) → Reads s fits read
    → ((a : A) → fits a → (tag ∷ s a ≡ value (f a)) × IsSpellableValue (f a)) → (bytes : List ℕ) (y : Value × List ℕ)
    → seen_as f read bytes ≡ Some y → Begins value IsSpellableValue (tag ∷ bytes) y
after_kind tag s fits read f r to bytes y e =
    let p = bind_some (read bytes) (λ x. Some (f x.0, x.1)) y e in
    let k = r.found bytes p.0 p.1 in
    let m = to p.0.0 k.fitting in
    let made : Value × List ℕ = (f p.0.0, p.0.1) in
    subst (λ (z : Value × List ℕ). Begins value IsSpellableValue (tag ∷ bytes) z) (same_Some made y p.2)
    (record { parts = ap (λ (w : List ℕ). tag ∷ w) k.parts ∙ ap (λ (w : List ℕ). w ++ p.0.1) m.0; fitting = m.1 })

signed32 : (n : ℕ) → n < 2 ^ 32 → FitsSigned w32 (cast_signed w32 n)
signed32 n lt = omega (arith, ints)

signed64 : (n : ℕ) → n < 2 ^ 64 → FitsSigned w64 (cast_signed w64 n)
signed64 n lt = omega (arith, ints)

bits32 : (z : ℤ) → FitsSigned w32 z → cast_unsigned w32 z < 2 ^ 32
bits32 z h = omega (arith, ints)

bits64 : (z : ℤ) → FitsSigned w64 z → cast_unsigned w64 z < 2 ^ 64
bits64 z h = omega (arith, ints)

found-value : (bytes : List ℕ) (x : Value × List ℕ) → value_at bytes ≡ Some x → Begins value IsSpellableValue bytes x
unfolding value_at
found-value [] x e = absurd cc
found-value (zero ∷ bytes) x e =
    let made : Value × List ℕ = (sql.Null, bytes) in
    subst (λ (y : Value × List ℕ). Begins value IsSpellableValue (0 ∷ bytes) y) (same_Some made x e) (record { parts = refl; fitting = (tt, tt) })
found-value (suc zero ∷ bytes) x e =
    after_kind 1 four InFour four_at (λ n. sql.Int (cast_signed w32 n)) reads-four (λ n lt. (ap (λ (k : ℕ). 1 ∷ four k) (sym (of_z-to_z w32 n lt)), (tt, signed32 n lt))) bytes x e
found-value (suc (suc zero) ∷ bytes) x e =
    after_kind 2 eight InEight eight_at (λ n. sql.Big (cast_signed w64 n)) reads-eight (λ n lt. (ap (λ (k : ℕ). 2 ∷ eight k) (sym (of_z-to_z w64 n lt)), (tt, signed64 n lt))) bytes x e
found-value (suc (suc (suc zero)) ∷ bytes) x e =
    after_kind 3 text IsSpellableText text_at (λ t. sql.Txt t) reads-text (λ t fits. (refl, fits)) bytes x e
found-value (suc (suc (suc (suc zero))) ∷ bytes) x e =
    after_kind 4 truth_byte Always truth_at (λ b. sql.Bool b) reads-truth (λ b fits. (refl, (tt, tt))) bytes x e
found-value (suc (suc (suc (suc (suc b)))) ∷ bytes) x e = absurd cc

only-value : (v : Value) (rest : List ℕ) → IsSpellableValue v → value_at (value v ++ rest) ≡ Some (v, rest)
unfolding value_at
only-value sql.Null rest h = refl
only-value (sql.Int z) rest h = rw (reads-four.only (cast_unsigned w32 z) rest (bits32 z h.1)) (ap (λ (y : ℤ). Some (sql.Int y, rest)) (to_z-of_z w32 z h.1))
only-value (sql.Big z) rest h = rw (reads-eight.only (cast_unsigned w64 z) rest (bits64 z h.1)) (ap (λ (y : ℤ). Some (sql.Big y, rest)) (to_z-of_z w64 z h.1))
only-value (sql.Txt t) rest h = rw (reads-text.only t rest h) refl
only-value (sql.Bool b) rest h = rw (reads-truth.only b rest tt) refl

pub reads-value : Reads value IsSpellableValue value_at
reads-value = record { found = found-value; only = only-value }

-- ---- rows, keys and paths

abbrev IsRow : List Value → Type 0
IsRow = at_most 64 (All IsSpellableValue)

reads-cells : Reads values IsRow row_at
unfolding row_at
reads-cells = reads-list 64 value IsSpellableValue value_at (lit< tt) reads-value

short : (vs : List Value) → All IsSpellableValue vs → All IsShort vs
short vs h k d lt = (h k d lt).0

typed : (vs : List Value) → All IsSpellableValue vs → All IsTypedValue vs
typed vs h k d lt = (h k d lt).1

cells : (vs : List Value) → All IsShort vs → All IsTypedValue vs → All IsSpellableValue vs
cells vs h g k d lt = (h k d lt, g k d lt)

pub reads-row : Reads values IsSpellableRow row_at
reads-row =
    reads-suits values IsRow IsSpellableRow row_at (λ row h. record { limits = (h.0, short row h.1); types = typed row h.1 })
    (λ row h. (h.limits.0, cells row h.limits.1 h.types)) reads-cells

pub reads-values : Reads values AreSpellable values_at
unfolding values_at
reads-values =
    reads-suits values (at_most 4294967295 (All IsSpellableValue)) AreSpellable values_at (λ vs h. record { few = omega (arith, h.0); short = short vs h.1; types = typed vs h.1 })
    (λ vs h. (omega (arith, h.few), cells vs h.short h.types)) (reads-list 4294967295 value IsSpellableValue value_at (lit< tt) reads-value)

both-true : (b c : Bool) → (b && c) ≡ true → b ≡ true
both-true true c e = refl
both-true false c e = absurd cc

pub few : (key : List Value) → IsKey key → length key ≤ 8
few key h = leb-true _ _ (both-true (leb (length key) 8) (list_all (λ v. not (is_null v)) key) h)

pub reads-key : Reads values IsSpellableKey key_at
unfolding key_at
reads-key =
    reads-suits values (passing (at_most 8 (All IsSpellableValue)) is_key) IsSpellableKey (where_true is_key (list_at 8 value_at))
    (λ a h. (h.1, h.0.1)) (λ a h. ((few a h.0, h.1), h.0))
    (reads-where values (at_most 8 (All IsSpellableValue)) is_key (list_at 8 value_at) (reads-list 8 value IsSpellableValue value_at (lit< tt) reads-value))

pub reads-path : Reads path IsSpellablePath path_at
unfolding path_at
reads-path = reads-list 512 four InFour four_at (lit< tt) reads-four

-- ---- stamps

abbrev stamp_text : ℕ × (ℕ × (ℕ × (ℕ × ℕ))) → List ℕ
stamp_text = in_row eight (in_row eight (in_row four (in_row four eight)))

abbrev stamp_fits : ℕ × (ℕ × (ℕ × (ℕ × ℕ))) → Type 0
stamp_fits = and_then InEight (λ _. and_then InEight (λ _. and_then InFour (λ _. and_then InFour (λ _. InEight))))

five : (a b c d e : List ℕ) → a ++ (b ++ (c ++ (d ++ e))) ≡ a ++ b ++ c ++ d ++ e
five a b c d e = simp append_assoc

pub reads-stamp : Reads stamp IsStamp stamp_at
unfolding stamp_at
reads-stamp =
    let r2 = reads-next four eight InFour InEight four_at eight_at reads-four reads-eight in
    let r3 = reads-next four (in_row four eight) InFour (and_then InFour (λ _. InEight)) four_at (both four_at (λ _. eight_at)) reads-four r2 in
    let r4 = reads-next eight (in_row four (in_row four eight)) InEight (and_then InFour (λ _. and_then InFour (λ _. InEight))) eight_at (both four_at (λ _. both four_at (λ _. eight_at))) reads-eight r3 in
    let r5 = reads-next eight (in_row eight (in_row four (in_row four eight))) InEight (and_then InEight (λ _. and_then InFour (λ _. and_then InFour (λ _. InEight)))) eight_at
    (both eight_at (λ _. both four_at (λ _. both four_at (λ _. eight_at)))) reads-eight r4 in
    reads-as stamp_text stamp stamp_fits IsStamp stamp_of (λ s. (s.feed, (s.high, (s.topic, (s.part, s.offset)))))
    (both eight_at (λ _. both eight_at (λ _. both four_at (λ _. both four_at (λ _. eight_at)))))
    (λ p h. (five (eight p.0) (eight p.1.0) (four p.1.1.0) (four p.1.1.1.0) (eight p.1.1.1.1), record { feed = h.0; high = h.1.0; topic = h.1.1.0; part = h.1.1.1.0; offset = h.1.1.1.1 }))
    (λ s h. (refl, (h.feed, (h.high, (h.topic, (h.part, h.offset)))))) r5

-- ---- windows

abbrev is_below : Span → Bool
is_below s = ltb s.start s.end

pub reads-span : Reads span IsSpellableSpan span_at
unfolding span_at
reads-span =
    let two = reads-as (in_row eight eight) span (and_then InEight (λ _. InEight)) IsTypedSpan span_of (λ s. (s.start, s.end)) (both eight_at (λ _. eight_at))
    (λ p h. (refl, h)) (λ s h. (refl, h)) (reads-next eight eight InEight InEight eight_at eight_at reads-eight reads-eight) in
    reads-suits span (passing IsTypedSpan is_below) IsSpellableSpan (where_true is_below (seen_as span_of (both eight_at (λ _. eight_at))))
    (λ s h. (ltb-true _ _ h.1, h.0)) (λ s h. (h.1, lt-ltb _ _ h.0))
    (reads-where span IsTypedSpan is_below (seen_as span_of (both eight_at (λ _. eight_at))) two)

abbrev is_allowed : Bool → Option Span → Bool
is_allowed of_table o = of_table || not (is_some o)

pub reads-window : (of_table : Bool) → Reads (optional span) (passing (Optionally IsSpellableSpan) (is_allowed of_table)) (window_at of_table)
unfolding window_at
reads-window of_table =
    reads-where (optional span) (Optionally IsSpellableSpan) (is_allowed of_table) (optional_at span_at) (reads-optional span IsSpellableSpan span_at reads-span)

-- ---- the head and the body

found-head : (bytes : List ℕ) (x : Bool × List ℕ) → head_at bytes ≡ Some x → Begins head Always bytes x
unfolding head_at
found-head [] x e = absurd cc
found-head (zero ∷ bytes) x e = absurd cc
found-head (suc zero ∷ bytes) x e =
    let k = found-truth bytes x e in
    record { parts = ap (λ (w : List ℕ). 1 ∷ w) k.parts; fitting = tt }
found-head (suc (suc b) ∷ bytes) x e = absurd cc

only-head : (b : Bool) (rest : List ℕ) → Unit {0} → head_at (head b ++ rest) ≡ Some (b, rest)
unfolding head_at
only-head b rest h = only-truth b rest h

pub reads-head : Reads head Always head_at
reads-head = record { found = found-head; only = only-head }

abbrev IsBody : Body → Type 0
IsBody (Said row) = IsRow row
IsBody (Turned old new) = IfSome old IsRow × IfSome new IsRow × (is_some old || is_some new) ≡ true

-- a body of this kind
abbrev IsBodyOf : Bool → Body → Type 0
IsBodyOf of_table b = (is_turned b ≡ of_table) × IsBody b

abbrev row_in : Body → List Value
row_in (Said row) = row
row_in (Turned old new) = []

abbrev rows_in : Body → Option (List Value) × Option (List Value)
rows_in (Said row) = (None, None)
rows_in (Turned old new) = (old, new)

said-back : (b : Body) → IsBodyOf false b → (Said (row_in b) ≡ b) × IsRow (row_in b)
said-back (Said row) h = (refl, h.1)
said-back (Turned old new) h = let e = h.0 in absurd cc

abbrev turned_of : Option (List Value) × Option (List Value) → Body
turned_of rows = Turned rows.0 rows.1

abbrev one_at_least : Option (List Value) × Option (List Value) → Bool
one_at_least rows = is_some rows.0 || is_some rows.1

abbrev are_rows : Option (List Value) × Option (List Value) → Type 0
are_rows = passing (and_then (Optionally IsRow) (λ _. Optionally IsRow)) one_at_least

turned-back : (b : Body) → IsBodyOf true b → (turned_of (rows_in b) ≡ b) × are_rows (rows_in b)
turned-back (Said row) h = let e = h.0 in absurd cc
turned-back (Turned old new) h = (refl, ((h.1.0, h.1.1), h.1.2))

reads-rows : Reads (in_row (optional values) (optional values)) are_rows rows_at
reads-rows =
    let one = reads-optional values IsRow row_at reads-cells in
    reads-where (in_row (optional values) (optional values)) (and_then (Optionally IsRow) (λ _. Optionally IsRow)) one_at_least (both (optional_at row_at) (λ _. optional_at row_at))
    (reads-next (optional values) (optional values) (Optionally IsRow) (Optionally IsRow) (optional_at row_at) (optional_at row_at) one one)

pub reads-body : (of_table : Bool) → Reads body (IsBodyOf of_table) (body_at of_table)
unfolding body_at
reads-body false = reads-as values body IsRow (IsBodyOf false) (λ row. Said row) row_in row_at (λ row h. (refl, (refl, h))) said-back reads-cells
reads-body true =
    reads-as (in_row (optional values) (optional values)) body are_rows (IsBodyOf true) turned_of rows_in rows_at
    (λ rows h. (refl, (refl, (h.0.0, h.0.1, h.1)))) turned-back reads-rows

-- ---- changes

abbrev after_text : Stamp × (List ℕ × (ℕ × (Option Span × (List Value × Body)))) → List ℕ
after_text = in_row stamp (in_row path (in_row eight (in_row (optional span) (in_row values body))))

abbrev after_fits : Bool → Stamp × (List ℕ × (ℕ × (Option Span × (List Value × Body)))) → Type 0
after_fits k = and_then IsStamp (λ _. and_then IsSpellablePath (λ _. and_then InEight (λ _. and_then (passing (Optionally IsSpellableSpan) (is_allowed k)) (λ _. and_then IsSpellableKey (λ _. IsBodyOf k)))))

abbrev after_at : Bool → Reader (Stamp × (List ℕ × (ℕ × (Option Span × (List Value × Body)))))
after_at k = both stamp_at (λ _. both path_at (λ _. both eight_at (λ _. both (window_at k) (λ _. both key_at (λ _. body_at k)))))

reads-after : (k : Bool) → Reads after_text (after_fits k) (after_at k)
reads-after k =
    let window = passing (Optionally IsSpellableSpan) (is_allowed k) in
    let r2 = reads-next values body IsSpellableKey (IsBodyOf k) key_at (body_at k) reads-key (reads-body k) in
    let r3 = reads-next (optional span) (in_row values body) (passing (Optionally IsSpellableSpan) (is_allowed k)) (and_then IsSpellableKey (λ _. IsBodyOf k)) (window_at k) (both key_at (λ _. body_at k)) (reads-window k) r2 in
    let r4 = reads-next eight (in_row (optional span) (in_row values body)) InEight (and_then (passing (Optionally IsSpellableSpan) (is_allowed k)) (λ _. and_then IsSpellableKey (λ _. IsBodyOf k)))
    eight_at (both (window_at k) (λ _. both key_at (λ _. body_at k))) reads-eight r3 in
    let r5 = reads-next path (in_row eight (in_row (optional span) (in_row values body))) IsSpellablePath (and_then InEight (λ _. and_then (passing (Optionally IsSpellableSpan) (is_allowed k)) (λ _. and_then IsSpellableKey (λ _. IsBodyOf k))))
    path_at (both eight_at (λ _. both (window_at k) (λ _. both key_at (λ _. body_at k)))) reads-path r4 in
    reads-next stamp (in_row path (in_row eight (in_row (optional span) (in_row values body)))) IsStamp
    (and_then IsSpellablePath (λ _. and_then InEight (λ _. and_then (passing (Optionally IsSpellableSpan) (is_allowed k)) (λ _. and_then IsSpellableKey (λ _. IsBodyOf k)))))
    stamp_at (both path_at (λ _. both eight_at (λ _. both (window_at k) (λ _. both key_at (λ _. body_at k))))) reads-stamp r5

regroup : (b : Bool) (s a t w k r : List ℕ) → head b ++ (s ++ (a ++ (t ++ (w ++ (k ++ r))))) ≡ head b ++ s ++ a ++ t ++ w ++ k ++ r
regroup b s a t w k r = simp append_assoc

windowed-of : (k some turned : Bool) → turned ≡ k → (k || not some) ≡ true → some ≡ true → turned ≡ true
windowed-of true some turned e h s = e
windowed-of false true turned e h s = absurd cc
windowed-of false false turned e h s = absurd cc

windowed-back : (turned some : Bool) → (some ≡ true → turned ≡ true) → (turned || not some) ≡ true
windowed-back true some h = refl
windowed-back false true h = h refl
windowed-back false false h = refl

abbrev parts_of : Change → Parts
parts_of c = (is_turned c.body, (c.place.stamp, (c.place.path, (c.time, (c.span, (c.key, c.body))))))

abbrev parts_fit : Parts → Type 0
parts_fit = and_then Always after_fits

-- ---- the limits, and what holds of every change in a program

short-row : (o : Option (List Value)) → IfSome o IsRow → IfSome o IsShortRow
short-row None h = tt
short-row (Some row) h = (h.0, short row h.1)

typed-row : (o : Option (List Value)) → IfSome o IsRow → IfSome o (All IsTypedValue)
typed-row None h = tt
typed-row (Some row) h = typed row h.1

row-cells : (o : Option (List Value)) → IfSome o IsShortRow → IfSome o (All IsTypedValue) → IfSome o IsRow
row-cells None h g = tt
row-cells (Some row) h g = (h.0, cells row h.1 g)

short-body : (b : Body) → IsBody b → IsShortBody b
short-body (Said row) h = (h.0, short row h.1)
short-body (Turned old new) h = (short-row old h.0, short-row new h.1, h.2)

typed-body : (b : Body) → IsBody b → IsTypedBody b
typed-body (Said row) h = typed row h.1
typed-body (Turned old new) h = (typed-row old h.0, typed-row new h.1)

body-cells : (b : Body) → IsShortBody b → IsTypedBody b → IsBody b
body-cells (Said row) h g = (h.0, cells row h.1 g)
body-cells (Turned old new) h g = (row-cells old h.0 g.0, row-cells new h.1 g.1, h.2)

abbrev rises : Span → Type 0
rises s = s.start < s.end

rising-span : (o : Option Span) → IfSome o IsSpellableSpan → IfSome o rises
rising-span None h = tt
rising-span (Some s) h = h.0

typed-span : (o : Option Span) → IfSome o IsSpellableSpan → IfSome o IsTypedSpan
typed-span None h = tt
typed-span (Some s) h = h.1

span-of : (o : Option Span) → IfSome o rises → IfSome o IsTypedSpan → IfSome o IsSpellableSpan
span-of None h g = tt
span-of (Some s) h g = (h, g)

parts-to : (p : Parts) → parts_fit p → (in_row head after_text p ≡ spelling (change_of p)) × IsSpellable (change_of p)
unfolding spelling
parts-to p h =
    let kind : is_turned p.1.1.1.1.1.1 ≡ p.0 = h.1.1.1.1.1.1.0 in (
      ap (λ (k : Bool). head k ++ after_text p.1) (sym kind)
          ∙ regroup (is_turned p.1.1.1.1.1.1) (stamp p.1.0) (path p.1.1.0) (eight p.1.1.1.0) (optional span p.1.1.1.1.0) (values p.1.1.1.1.1.0) (body p.1.1.1.1.1.1),
      record {
        limits = record {
          path = h.1.1.0.0;
          span = rising-span p.1.1.1.1.0 h.1.1.1.1.0.0;
          windowed = windowed-of p.0 (is_some p.1.1.1.1.0) (is_turned p.1.1.1.1.1.1) kind h.1.1.1.1.0.1;
          key = short p.1.1.1.1.1.0 h.1.1.1.1.1.0.1;
          body = short-body p.1.1.1.1.1.1 h.1.1.1.1.1.1.1;
        };
        types = record {
          stamp = h.1.0;
          path = h.1.1.0.1;
          time = h.1.1.1.0;
          span = typed-span p.1.1.1.1.0 h.1.1.1.1.0.0;
          key = h.1.1.1.1.1.0.0;
          key_values = typed p.1.1.1.1.1.0 h.1.1.1.1.1.0.1;
          body = typed-body p.1.1.1.1.1.1 h.1.1.1.1.1.1.1;
        };
      },
    )

parts-back : (c : Change) → IsSpellable c → (change_of (parts_of c) ≡ c) × parts_fit (parts_of c)
parts-back c h =
    let window : IfSome c.span IsSpellableSpan = span-of c.span h.limits.span h.types.span in
    let key : IsSpellableKey c.key = (h.types.key, cells c.key h.limits.key h.types.key_values) in
    let inside : IsBody c.body = body-cells c.body h.limits.body h.types.body in
    (refl, (tt, (h.types.stamp, ((h.limits.path, h.types.path), (h.types.time, ((window, windowed-back (is_turned c.body) (is_some c.span) h.limits.windowed), (key, (refl, inside))))))))

pub reads-change : Reads spelling IsSpellable change_at
unfolding change_at
reads-change =
    reads-as (in_row head after_text) spelling parts_fit IsSpellable change_of parts_of (both head_at after_at) parts-to parts-back
    (reads-both head after_text Always after_fits head_at after_at reads-head (λ k _. reads-after k))

-- ---- windows, bodies and rows, by what has a spelling

pub reads-spelled-window : (of_table : Bool) → Reads (optional span) (IsSpellableWindow of_table) (window_at of_table)
reads-spelled-window k =
    reads-suits (optional span) (passing (Optionally IsSpellableSpan) (is_allowed k)) (IsSpellableWindow k) (window_at k)
    (λ o h. (h.0, windowed-of k (is_some o) k refl h.1)) (λ o h. (h.0, windowed-back k (is_some o) h.1)) (reads-window k)

pub reads-spelled-body : (of_table : Bool) → Reads body (IsSpellableBody of_table) (body_at of_table)
reads-spelled-body k =
    reads-suits body (IsBodyOf k) (IsSpellableBody k) (body_at k) (λ b h. (h.0, short-body b h.1, typed-body b h.1)) (λ b h. (h.0, body-cells b h.1 h.2)) (reads-body k)

pub reads-optional-row : Reads (optional values) (Optionally IsSpellableRow) (optional_at row_at)
reads-optional-row = reads-optional values IsSpellableRow row_at reads-row

pub reads-list-of-values : (limit : ℕ) → limit < 2 ^ 32 → Reads values (AtMost limit IsSpellableValue) (list_at limit value_at)
reads-list-of-values limit small = reads-list limit value IsSpellableValue value_at small reads-value

pub few-values : (vs : List Value) → AreSpellable vs → AtMost 4294967295 IsSpellableValue vs
few-values vs h = (omega (arith, h.few), cells vs h.short h.types)

-- a row or a list of values has one spelling
pub values-apart : (a b : List Value) (more rest : List ℕ) → IsSpellableRow a → IsSpellableRow b → values a ++ more ≡ values b ++ rest → (a ≡ b) × (more ≡ rest)
values-apart a b more rest ha hb e = some_pair_parts a b more rest (sym (reads-row.only a more ha) ∙ ap row_at e ∙ reads-row.only b rest hb)
