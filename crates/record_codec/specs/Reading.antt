-- What it means to read: reading is the inverse of spelling.
use Rattle.std.specs.Prelude.{◌≡◌, ◌≢◌, ℕ, List, ◌++◌, Result, Ok, Err}
use Rattle.std.specs.Global.{Vec}
use Rattle.std.specs.Borrow.{Bor}
use Rattle.record_codec.specs.declared.fault.ReadError.{ReadError}
use Rattle.record_codec.specs.declared.fault.ReadError.TheVariants.{Unspelled, OutOfMemory}

-- what was read, and the bytes after it
abbrev pub with_rest : {A : Type 0} → A × Bor (List ℕ) → A × List ℕ
with_rest x = (x.0, x.1.now)

-- the same for a list
abbrev pub with_items : {A : Type 0} → Vec A × Bor (List ℕ) → List A × List ℕ
with_items x = (x.0.items, x.1.now)

-- the bytes begin with the spelling of x, and the rest follows
pub record Begins {A : Type 0} (spelled : A → List ℕ) (fits : A → Type 0) (bytes : List ℕ) (x : A × List ℕ) : Type 0 where
  pub fitting : fits x.0
  pub parts : bytes ≡ spelled x.0 ++ x.1

-- the bytes begin with the spelling of nothing that has one; if memory ran out, that isn't known
abbrev pub BeginsWithNone : {A : Type 0} → (A → List ℕ) → (A → Type 0) → List ℕ → ReadError → Type 0
BeginsWithNone {A} spelled fits bytes Unspelled = (x : A) (rest : List ℕ) → fits x → bytes ≢ spelled x ++ rest
BeginsWithNone spelled fits bytes OutOfMemory = Unit {0}

-- reading: what the bytes begin with, if anything, and the bytes after it
abbrev pub IsRead : {A R : Type 0} → (A → List ℕ) → (A → Type 0) → (R → A × List ℕ) → List ℕ
    → Result R ReadError → Type 0
IsRead spelled fits seen bytes (Ok r) = Begins spelled fits bytes (seen r)
IsRead spelled fits seen bytes (Err e) = BeginsWithNone spelled fits bytes e

-- reading all of the bytes: what they spell, if anything
abbrev pub IsReadWhole : {A : Type 0} → (A → List ℕ) → (A → Type 0) → List ℕ → Result A ReadError → Type 0
IsReadWhole spelled fits bytes (Ok x) = fits x × (bytes ≡ spelled x)
IsReadWhole {A} spelled fits bytes (Err Unspelled) = (x : A) → fits x → bytes ≢ spelled x
IsReadWhole spelled fits bytes (Err OutOfMemory) = Unit {0}

-- what was sought is the answer, unless memory ran out
abbrev pub Finds : {R Y : Type 0} → (R → Y) → Y → Result R ReadError → Type 0
Finds seen y (Ok r) = seen r ≡ y
Finds seen y (Err e) = e ≡ OutOfMemory

-- skipping: if the bytes begin with the spelling of something, the bytes after it
abbrev pub IsSkipped : {A : Type 0} → (A → List ℕ) → (A → Type 0) → List ℕ → Result (Bor (List ℕ)) ReadError → Type 0
IsSkipped {A} spelled fits bytes result =
    (x : A) (rest : List ℕ) → fits x → bytes ≡ spelled x ++ rest → Finds (λ after. after.now) rest result
