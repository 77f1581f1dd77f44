-- Tables of words.
use Rattle.std.specs.Prelude.{ℕ, List, [], ◌∷◌, Option, Some, None, if◌then◌else◌, bytes_eq}

-- the entry of a word in a table
abbrev pub beside : {A : Type 0} → List (List ℕ × A) → List ℕ → Option A
beside [] word = None
beside (row ∷ rows) word = if bytes_eq row.0 word then Some row.1 else beside rows word
