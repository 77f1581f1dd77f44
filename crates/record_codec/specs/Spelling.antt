-- The bytes of a change, version 1, and which changes have a spelling. All numbers are big-endian.
use Rattle.std.specs.Prelude.{◌≡◌, ℕ, ◌<◌, ◌≤◌, ◌^◌, Bool, true, false, ◌||◌, IsTrue, List, ◌∷◌, ◌++◌, length, Option, Some, None, is_some, IfSome, []}
use Rattle.std.specs.List.{All, flat_map}
use Rattle.std.specs.Int.{w32, w64, to_be_bytes, cast_unsigned}
use Rattle.std.specs.Int.RustNames.{FitsSigned}
use Rattle.std.specs.Str.{IsUtf8}
use Rattle.ksql_types.specs.Key.{IsKey}
use Rattle.ksql_types.specs.declared.value.Value.{Value}
use Rattle.ksql_types.specs.declared.value.Value.TheVariants as sql
use Rattle.ksql_types.specs.declared.relation.Span.{Span}
use Rattle.ksql_place.specs.declared.stamp.Stamp.{Stamp}
use Rattle.ksql_place.specs.declared.change.Body.{Body}
use Rattle.ksql_place.specs.declared.change.Body.TheVariants.{Said, Turned}
use Rattle.ksql_place.specs.declared.change.Change.{Change}

-- a number in four bytes
unfoldable pub four : ℕ → List ℕ
four n = to_be_bytes w32 n

-- a number in eight bytes
unfoldable pub eight : ℕ → List ℕ
eight n = to_be_bytes w64 n

-- a text: its length in bytes, and its bytes
abbrev pub text : List ℕ → List ℕ
text bytes = four (length bytes) ++ bytes

-- the byte of a truth
abbrev pub truth : Bool → ℕ
truth false = 0
truth true = 1

-- the same, as a list
abbrev pub truth_byte : Bool → List ℕ
truth_byte b = truth b ∷ []

-- a value: a byte for its kind, and its content; a signed number in two's complement
abbrev pub value : Value → List ℕ
value sql.Null = 0 ∷ []
value (sql.Int n) = 1 ∷ four (cast_unsigned w32 n)
value (sql.Big n) = 2 ∷ eight (cast_unsigned w64 n)
value (sql.Txt bytes) = 3 ∷ text bytes
value (sql.Bool b) = 4 ∷ truth b ∷ []

-- the values of a key or of a row: their number, and each value
abbrev pub values : List Value → List ℕ
values vs = four (length vs) ++ flat_map value vs

-- an optional part: a byte 0; or a byte 1 and the part
abbrev pub optional : {A : Type 0} → (A → List ℕ) → Option A → List ℕ
optional spelled None = 0 ∷ []
optional spelled (Some x) = 1 ∷ spelled x

abbrev pub stamp : Stamp → List ℕ
stamp s = eight s.feed ++ eight s.high ++ four s.topic ++ four s.part ++ eight s.offset

-- a path: the number of its numbers, and each number
abbrev pub path : List ℕ → List ℕ
path numbers = four (length numbers) ++ flat_map four numbers

-- a window
abbrev pub span : Span → List ℕ
span s = eight s.start ++ eight s.end

-- whether a body is a table's, not a stream's
abbrev pub is_turned : Body → Bool
is_turned (Said row) = false
is_turned (Turned old new) = true

-- the version, and the kind
abbrev pub head : Bool → List ℕ
head of_table = 1 ∷ truth of_table ∷ []

-- a row; or the old row, then the new one
abbrev pub body : Body → List ℕ
body (Said row) = values row
body (Turned old new) = optional values old ++ optional values new

-- a change
unfoldable pub spelling : Change → List ℕ
spelling c = head (is_turned c.body) ++ stamp c.place.stamp ++ path c.place.path ++ eight c.time ++ optional span c.span ++ values c.key ++ body c.body

-- ---- what stands before a change's body

-- before the time
abbrev pub before_time : Change → List ℕ
before_time c = head (is_turned c.body) ++ stamp c.place.stamp ++ path c.place.path

-- after the time
abbrev pub window_and_key : Change → List ℕ
window_and_key c = optional span c.span ++ values c.key

-- all of it
abbrev pub before_body : Change → List ℕ
before_body c = before_time c ++ eight c.time ++ window_and_key c

-- ---- the limits of the format

-- a text has at most 65,536 bytes
abbrev pub IsShort : Value → Type 0
IsShort sql.Null = Unit {0}
IsShort (sql.Int n) = Unit {0}
IsShort (sql.Big n) = Unit {0}
IsShort (sql.Txt bytes) = length bytes ≤ 65536
IsShort (sql.Bool b) = Unit {0}

-- a row has at most 64 values
abbrev pub IsShortRow : List Value → Type 0
IsShortRow row = (length row ≤ 64) × All IsShort row

-- a stream's change has a row, and a table's the old row, the new one or both
abbrev pub IsShortBody : Body → Type 0
IsShortBody (Said row) = IsShortRow row
IsShortBody (Turned old new) = IfSome old IsShortRow × IfSome new IsShortRow × IsTrue (is_some old || is_some new)

-- a path has at most 512 numbers; a window starts below its end, and only a table's change has one
pub record IsWithinLimits (c : Change) : Type 0 where
  pub path : length c.place.path ≤ 512
  pub span : IfSome c.span (λ s. s.start < s.end)
  pub windowed : IsTrue (is_some c.span) → IsTrue (is_turned c.body)
  pub key : All IsShort c.key
  pub body : IsShortBody c.body

-- ---- what holds of every change in a program

-- a number in the range of its type, or a text of UTF-8
abbrev pub IsTypedValue : Value → Type 0
IsTypedValue sql.Null = Unit {0}
IsTypedValue (sql.Int n) = FitsSigned w32 n
IsTypedValue (sql.Big n) = FitsSigned w64 n
IsTypedValue (sql.Txt bytes) = IsUtf8 bytes
IsTypedValue (sql.Bool b) = Unit {0}

pub record IsTypedStamp (s : Stamp) : Type 0 where
  pub feed : s.feed < 2 ^ 64
  pub high : s.high < 2 ^ 64
  pub topic : s.topic < 2 ^ 32
  pub part : s.part < 2 ^ 32
  pub offset : s.offset < 2 ^ 64

abbrev pub IsTypedSpan : Span → Type 0
IsTypedSpan s = (s.start < 2 ^ 64) × (s.end < 2 ^ 64)

abbrev pub IsTypedBody : Body → Type 0
IsTypedBody (Said row) = All IsTypedValue row
IsTypedBody (Turned old new) = IfSome old (All IsTypedValue) × IfSome new (All IsTypedValue)

-- numbers in the ranges of their types, texts of UTF-8, and a valid key
pub record IsTyped (c : Change) : Type 0 where
  pub stamp : IsTypedStamp c.place.stamp
  pub path : All (λ n. n < 2 ^ 32) c.place.path
  pub time : c.time < 2 ^ 64
  pub span : IfSome c.span IsTypedSpan
  pub key : IsKey c.key
  pub key_values : All IsTypedValue c.key
  pub body : IsTypedBody c.body

-- ---- what has a spelling

-- each of a kind has a spelling
abbrev pub Always : {A : Type 0} → A → Type 0
Always x = Unit {0}

-- a number that fits in four bytes
abbrev pub InFour : ℕ → Type 0
InFour n = n < 2 ^ 32

-- a number that fits in eight bytes
abbrev pub InEight : ℕ → Type 0
InEight n = n < 2 ^ 64

-- a text of UTF-8 that isn't too long
abbrev pub IsSpellableText : List ℕ → Type 0
IsSpellableText bytes = (length bytes ≤ 65536) × IsUtf8 bytes

-- a short value in the range of its type
abbrev pub IsSpellableValue : Value → Type 0
IsSpellableValue v = IsShort v × IsTypedValue v

-- this many of one kind
abbrev pub ThisMany : {A : Type 0} → ℕ → (A → Type 0) → List A → Type 0
ThisMany n fits xs = (length xs ≡ n) × All fits xs

-- at most this many of one kind
abbrev pub AtMost : {A : Type 0} → ℕ → (A → Type 0) → List A → Type 0
AtMost n fits xs = (length xs ≤ n) × All fits xs

-- one of a kind, or none
abbrev pub Optionally : {A : Type 0} → (A → Type 0) → Option A → Type 0
Optionally fits o = IfSome o fits

-- a valid key of such values
abbrev pub IsSpellableKey : List Value → Type 0
IsSpellableKey key = IsKey key × All IsSpellableValue key

-- at most 512 numbers
abbrev pub IsSpellablePath : List ℕ → Type 0
IsSpellablePath = AtMost 512 InFour

-- a window that starts below its end
abbrev pub IsSpellableSpan : Span → Type 0
IsSpellableSpan s = (s.start < s.end) × IsTypedSpan s

-- a window of a table's change or of a stream's
abbrev pub IsSpellableWindow : Bool → Option Span → Type 0
IsSpellableWindow of_table window = IfSome window IsSpellableSpan × (IsTrue (is_some window) → IsTrue of_table)

-- a body of a table's change or of a stream's
abbrev pub IsSpellableBody : Bool → Body → Type 0
IsSpellableBody of_table b = (is_turned b ≡ of_table) × IsShortBody b × IsTypedBody b

pub record IsSpellable (c : Change) : Type 0 where
  pub limits : IsWithinLimits c
  pub types : IsTyped c

pub record IsSpellableRow (row : List Value) : Type 0 where
  pub limits : IsShortRow row
  pub types : All IsTypedValue row

-- values, whose number fits in four bytes
pub record AreSpellable (vs : List Value) : Type 0 where
  pub few : length vs < 2 ^ 32
  pub short : All IsShort vs
  pub types : All IsTypedValue vs
