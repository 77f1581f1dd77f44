-- How the parts of a change are read from the start of some bytes, as functions: each is the inverse of a spelling.
use Rattle.std.specs.Prelude.{ℕ, zero, suc, Bool, true, false, not, ◌||◌, if◌then◌else◌, nat_le, nat_lt, ◌&&◌, ◌^◌, bytes_eq, List, ◌∷◌, take, drop, length, Option, Some, None, is_some, []}
use Rattle.std.specs.Int.{w32, w64, from_be_bytes, cast_signed}
use Rattle.std.specs.Str.{is_utf8}
use Rattle.ksql_types.specs.Key.{is_key}
use Rattle.ksql_types.specs.declared.value.Value.{Value}
use Rattle.ksql_types.specs.declared.value.Value.TheVariants as sql
use Rattle.ksql_types.specs.declared.relation.Span.{Span}
use Rattle.ksql_place.specs.declared.stamp.Stamp.{Stamp}
use Rattle.ksql_place.specs.declared.change.Body.{Body}
use Rattle.ksql_place.specs.declared.change.Body.TheVariants.{Said, Turned}
use Rattle.ksql_place.specs.declared.change.Change.{Change}
use Rattle.record_codec.specs.Spelling.{four, eight}

infixl 10 ◌>>=◌
abbrev pub ◌>>=◌ : {A B : Type 0} → Option A → (A → Option B) → Option B
None >>= f = None
(Some x) >>= f = f x

-- a reader gives what stands at the start, and the bytes after it
abbrev pub Reader : Type 0 → Type 0
Reader A = List ℕ → Option (A × List ℕ)

-- one part, then another, which may depend on the first
abbrev pub both : {A B : Type 0} → Reader A → (A → Reader B) → Reader (A × B)
both first second bytes = first bytes >>= λ a. second a.0 a.1 >>= λ b. Some ((a.0, b.0), b.1)

-- what is read, mapped by a function
abbrev pub seen_as : {A B : Type 0} → (A → B) → Reader A → Reader B
seen_as f read bytes = read bytes >>= λ x. Some (f x.0, x.1)

-- what is read, if it passes a test
abbrev pub where_true : {A : Type 0} → (A → Bool) → Reader A → Reader A
where_true test read bytes = read bytes >>= λ x. if test x.0 then Some x else None

-- this many parts of one kind
unfoldable pub times : {A : Type 0} → Reader A → ℕ → Reader (List A)
times read zero bytes = Some ([], bytes)
times read (suc n) bytes = read bytes >>= λ x. times read n x.1 >>= λ xs. Some (x.0 ∷ xs.0, xs.1)

-- a number below the limit in this many bytes, if this is its spelling
abbrev pub number_at : ℕ → ℕ → (ℕ → List ℕ) → (List ℕ → ℕ) → Reader ℕ
number_at size limit spelled number bytes =
    if nat_lt (length bytes) size then None
    else if nat_lt (number (take size bytes)) limit && bytes_eq (spelled (number (take size bytes))) (take size bytes) then Some (number (take size bytes), drop size bytes)
    else None

-- a number in four bytes
unfoldable pub four_at : Reader ℕ
four_at = number_at 4 (2 ^ 32) four (from_be_bytes w32)

-- a number in eight bytes
unfoldable pub eight_at : Reader ℕ
eight_at = number_at 8 (2 ^ 64) eight (from_be_bytes w64)

-- a length up to the limit, and something of that length
abbrev pub counted : {A : Type 0} → ℕ → (ℕ → Reader (List A)) → Reader (List A)
counted limit items = seen_as (λ p. p.1) (both (where_true (λ n. nat_le n limit) four_at) items)

-- a number of parts up to the limit, and each part
unfoldable pub list_at : {A : Type 0} → ℕ → Reader A → Reader (List A)
list_at limit read = counted limit (times read)

-- a byte 0; or a byte 1 and a part
unfoldable pub optional_at : {A : Type 0} → Reader A → Reader (Option A)
optional_at read [] = None
optional_at read (zero ∷ rest) = Some (None, rest)
optional_at read (suc zero ∷ rest) = read rest >>= λ x. Some (Some x.0, x.1)
optional_at read (suc (suc b) ∷ rest) = None

-- the first n bytes
abbrev pub taken : ℕ → Reader (List ℕ)
taken n bytes = if nat_lt (length bytes) n then None else Some (take n bytes, drop n bytes)

-- a text of at most 65,536 bytes of UTF-8
unfoldable pub text_at : Reader (List ℕ)
text_at = where_true is_utf8 (counted 65536 taken)

unfoldable pub truth_at : Reader Bool
truth_at [] = None
truth_at (zero ∷ rest) = Some (false, rest)
truth_at (suc zero ∷ rest) = Some (true, rest)
truth_at (suc (suc b) ∷ rest) = None

unfoldable pub value_at : Reader Value
value_at [] = None
value_at (zero ∷ rest) = Some (sql.Null, rest)
value_at (suc zero ∷ rest) = four_at rest >>= λ x. Some (sql.Int (cast_signed w32 x.0), x.1)
value_at (suc (suc zero) ∷ rest) = eight_at rest >>= λ x. Some (sql.Big (cast_signed w64 x.0), x.1)
value_at (suc (suc (suc zero)) ∷ rest) = text_at rest >>= λ x. Some (sql.Txt x.0, x.1)
value_at (suc (suc (suc (suc zero))) ∷ rest) = truth_at rest >>= λ x. Some (sql.Bool x.0, x.1)
value_at (suc (suc (suc (suc (suc b)))) ∷ rest) = None

unfoldable pub row_at : Reader (List Value)
row_at = list_at 64 value_at

-- values, their number in four bytes
unfoldable pub values_at : Reader (List Value)
values_at = list_at 4294967295 value_at

unfoldable pub key_at : Reader (List Value)
key_at = where_true is_key (list_at 8 value_at)

unfoldable pub path_at : Reader (List ℕ)
path_at = list_at 512 four_at

abbrev pub stamp_of : ℕ × (ℕ × (ℕ × (ℕ × ℕ))) → Stamp
stamp_of p = record { feed = p.0; high = p.1.0; topic = p.1.1.0; part = p.1.1.1.0; offset = p.1.1.1.1 }

unfoldable pub stamp_at : Reader Stamp
stamp_at = seen_as stamp_of (both eight_at (λ _. both eight_at (λ _. both four_at (λ _. both four_at (λ _. eight_at)))))

abbrev pub span_of : ℕ × ℕ → Span
span_of p = record { start = p.0; end = p.1 }

unfoldable pub span_at : Reader Span
span_at = where_true (λ s. nat_lt s.start s.end) (seen_as span_of (both eight_at (λ _. eight_at)))

-- a window if present, which only a table's change can have
unfoldable pub window_at : Bool → Reader (Option Span)
window_at of_table = where_true (λ o. of_table || not (is_some o)) (optional_at span_at)

-- the version, and whether a table's change follows
unfoldable pub head_at : Reader Bool
head_at [] = None
head_at (zero ∷ rest) = None
head_at (suc zero ∷ rest) = truth_at rest
head_at (suc (suc b) ∷ rest) = None

abbrev pub rows_at : Reader (Option (List Value) × Option (List Value))
rows_at = where_true (λ rows. is_some rows.0 || is_some rows.1) (both (optional_at row_at) (λ _. optional_at row_at))

unfoldable pub body_at : Bool → Reader Body
body_at false = seen_as Said row_at
body_at true = seen_as (λ rows. Turned rows.0 rows.1) rows_at

-- the parts of a change, one after another
abbrev pub Parts : Type 0
Parts = Bool × (Stamp × (List ℕ × (ℕ × (Option Span × (List Value × Body)))))

abbrev pub change_of : Parts → Change
change_of p = record {
  place = record { stamp = p.1.0; path = p.1.1.0 };
  time = p.1.1.1.0;
  key = p.1.1.1.1.1.0;
  span = p.1.1.1.1.0;
  body = p.1.1.1.1.1.1;
}

unfoldable pub change_at : Reader Change
change_at = seen_as change_of (both head_at (λ of_table. both stamp_at (λ _. both path_at (λ _. both eight_at (λ _. both (window_at of_table) (λ _. both key_at (λ _. body_at of_table)))))))
