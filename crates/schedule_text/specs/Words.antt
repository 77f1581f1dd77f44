-- The words of a line, and the numbers that they spell.
use Rattle.std.specs.Prelude.{ℕ, ◌+◌, ◌-◌, ◌*◌, List, [], ◌∷◌, length, Bool, ◌==◌, ◌&&◌, ◌||◌, nat_le, if◌then◌else◌, Option, Some, None, option_and_then}
use Rattle.std.specs.List.{list_all, slice_split}
use Rattle.std.specs.Char.{is_ascii_digit}

-- whether a byte is a blank: a space or a tab
abbrev pub is_blank : ℕ → Bool
is_blank byte = (byte == 32) || (byte == 9)

-- the pieces of a line between blanks
abbrev pub words_of : List ℕ → List (List ℕ)
words_of line = slice_split is_blank line

-- whether a piece is empty
abbrev pub is_empty : List ℕ → Bool
is_empty piece = length piece == 0

-- the number that digits after a number spell
abbrev pub decimal_after : ℕ → List ℕ → ℕ
decimal_after number [] = number
decimal_after number (digit ∷ more) = decimal_after (10 * number + (digit - 48)) more

-- the number that decimal digits spell
abbrev pub decimal : List ℕ → ℕ
decimal digits = decimal_after 0 digits

-- the number of a word of one or more decimal digits, None for any other word
abbrev pub number_of : List ℕ → Option ℕ
number_of [] = None
number_of (byte ∷ more) = if list_all is_ascii_digit (byte ∷ more) then Some (decimal (byte ∷ more)) else None

-- a number from the least to the greatest, None for any other
abbrev pub within : ℕ → ℕ → ℕ → Option ℕ
within least greatest number = if nat_le least number && nat_le number greatest then Some number else None

-- the worker that a word names: a number from 1 to 9999
abbrev pub worker_of : List ℕ → Option ℕ
worker_of word = option_and_then (within 1 9999) (number_of word)

-- the number of records that a word asks for: from 0 to 200,000
abbrev pub count_of : List ℕ → Option ℕ
count_of word = option_and_then (within 0 200000) (number_of word)
