-- What is known of files, failed reads, written bytes and failed writes.
use Rattle.std.specs.Prelude.{◌≡◌, ◌⊎◌, ℕ, ◌-◌, ◌^◌, ◌<◌, ◌≤◌, Bool, true, ◌&&◌, IsTrue, if◌then◌else◌, List, [], ◌∷◌, ◌++◌, length, take, bytes_eq, Option, None, Some, option_map, is_none}

-- the most bytes of a file that a read returns
unfoldable pub read_limit : ℕ
read_limit = 67108865

-- the bytes of the first file with this name
abbrev pub content : List ℕ → List (List ℕ × List ℕ) → Option (List ℕ)
content name [] = None
content name (file ∷ files) = if bytes_eq file.0 name then Some file.1 else content name files

-- what a read of this name returns: the file's bytes, cut off at the limit
abbrev pub read_bytes : List ℕ → List (List ℕ × List ℕ) → Option (List ℕ)
read_bytes name files = option_map (take read_limit) (content name files)

-- whether no two files have the same name
abbrev pub are_names_distinct : List (List ℕ × List ℕ) → Bool
are_names_distinct [] = true
are_names_distinct (file ∷ files) = is_none (content file.0 files) && are_names_distinct files

-- no two files have the same name
abbrev pub AreNamesDistinct : List (List ℕ × List ℕ) → Type 0
AreNamesDistinct files = IsTrue (are_names_distinct files)

-- the failed names are as before, or this name joined them
abbrev pub MayJoin : List (List ℕ) → List (List ℕ) → List ℕ → Type 0
MayJoin old new name = (new ≡ old) ⊎ (new ≡ old ++ name ∷ [])

-- some names joined the failed ones, and this one is the last
abbrev pub JoinedLast : List (List ℕ) → List (List ℕ) → List ℕ → Type 0
JoinedLast old new name = (others : List (List ℕ)) × (new ≡ old ++ (others ++ name ∷ []))

-- a count rose, or is at its greatest value, where it can't rise
abbrev pub Rose : ℕ → ℕ → Type 0
Rose old new = (old < new) ⊎ (2 ^ 64 - 1 ≤ new)

-- known bytes, and then these
abbrev pub followed_by : Option (List ℕ) → List ℕ → Option (List ℕ)
followed_by known bytes = option_map (λ w. w ++ bytes) known

-- a prefix of the piece was written after what was there
abbrev pub WrotePrefix : Option (List ℕ) → Option (List ℕ) → List ℕ → Type 0
WrotePrefix old new piece = (k : ℕ) × (k ≤ length piece) × (new ≡ followed_by old (take k piece))
