-- The lines of a topic file.
use Rattle.std.specs.Prelude.{ℕ, List, [], ◌∷◌, length, filter, Bool, not, ◌==◌, ◌||◌, if◌then◌else◌}
use Rattle.std.specs.List.{list_all, slice_split}

-- whether a byte is a line feed
abbrev pub is_line_feed : ℕ → Bool
is_line_feed byte = byte == 10

-- the pieces, without the last one if it is empty
abbrev pub without_empty_end : List (List ℕ) → List (List ℕ)
without_empty_end [] = []
without_empty_end (piece ∷ []) = if length piece == 0 then [] else piece ∷ []
without_empty_end (piece ∷ next ∷ more) = piece ∷ without_empty_end (next ∷ more)

-- the lines of a file: the pieces between its line feeds, and what follows the last one unless it is empty
abbrev pub lines_of : List ℕ → List (List ℕ)
lines_of file = without_empty_end (slice_split is_line_feed file)

-- whether a byte is a space, a tab or a carriage return
abbrev pub is_blank_byte : ℕ → Bool
is_blank_byte byte = (byte == 32) || (byte == 9) || (byte == 13)

-- whether a line has only blanks
abbrev pub is_blank : List ℕ → Bool
is_blank line = list_all is_blank_byte line

-- the lines that hold records: those that aren't blank
abbrev pub record_lines : List (List ℕ) → List (List ℕ)
record_lines lines = filter (λ line. not (is_blank line)) lines
