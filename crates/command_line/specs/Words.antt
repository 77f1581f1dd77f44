-- What the words of the command line ask for.
use Rattle.std.specs.Prelude.{ℕ, ◌^◌, ◌<◌, ◌≤◌, Bool, true, false, List, [], ◌∷◌, length, nat_le, codes, bytes_eq, Option, None, Some, IfSome, if◌then◌else◌}
use Rattle.std.specs.List.{list_all}
use Rattle.std.specs.Option.{option_map_or, unwrap_or}
use Rattle.std.specs.Str.Parse.{digits_value, IsNumeral, without_leading_plus}
use Rattle.clap.specs.Words.{App, Kinds, Row, Text, fault_of, first_of, matches_of, one_of}
use Rattle.command_line.specs.declared.asked.Command.{Command}
use Rattle.command_line.specs.declared.asked.Command.TheVariants as asked
use Rattle.command_line.specs.Options.{demo_app, explain_app, run_app}

-- the most bytes of a word
abbrev pub longest_word : ℕ
longest_word = 4096

-- ---- what matches say

-- the text of an option, empty if it has none
abbrev pub text_of : Text → List Row → Text
text_of id rows = unwrap_or (first_of id rows) []

-- the number that digits spell, with or without a plus in front
abbrev pub number_in : Text → ℕ
number_in text = digits_value 10 (without_leading_plus text)

-- a text, if any, is a number that fits in 32 bits
abbrev pub IsNumber : Option Text → Type 0
IsNumber text = IfSome text (λ t. IsNumeral 10 (without_leading_plus t) × (number_in t < 2 ^ 32))

-- the number of an option, 1 if it has none
abbrev pub number_of : Text → List Row → ℕ
number_of id rows = option_map_or number_in (one_of id rows) 1

-- a flag is given
abbrev pub is_given : Text → List Row → Bool
is_given id rows = option_map_or (λ text. bytes_eq text (codes "true")) (one_of id rows) false

-- what the matches of each command ask for
unfoldable pub run_of : List Row → Command
run_of rows = asked.Run (text_of (codes "script") rows) (text_of (codes "topics") rows) (number_of (codes "workers") rows)
    (first_of (codes "schedule") rows) (is_given (codes "trace") rows)

unfoldable pub explain_of : List Row → Command
explain_of rows = asked.Explain (text_of (codes "script") rows)

unfoldable pub demo_of : List Row → Command
demo_of rows = asked.Demo (number_of (codes "records") rows) (number_of (codes "workers") rows)

-- ---- what words ask for

-- whether words have no fault
abbrev pub is_faultless : Kinds → Bool
is_faultless [] = true
is_faultless (kind ∷ kinds) = false

-- the command of words that it accepts, where the first stands for the program's name
unfoldable pub accepted : App → (List Row → Command) → List Text → Option Command
accepted app asks words = if is_faultless (fault_of app words) then Some (asks (matches_of app words)) else None

-- the command of the words from the second on, where the first names it
abbrev pub named : List Text → Option Command
named [] = None
named (name ∷ words) =
    if bytes_eq name (codes "run") then accepted run_app run_of (name ∷ words)
    else (if bytes_eq name (codes "explain") then accepted explain_app explain_of (name ∷ words)
    else (if bytes_eq name (codes "demo") then accepted demo_app demo_of (name ∷ words) else None))

-- the command of the words after the program's name
abbrev pub after_program : List Text → Option Command
after_program [] = None
after_program (program ∷ words) = named words

-- whether each word has at most 4,096 bytes
abbrev pub are_short : List Text → Bool
are_short words = list_all (λ word. nat_le (length word) longest_word) words

-- the command of the words, the program's name first, if they are one and each word is short
abbrev pub command_of : List Text → Option Command
command_of words = if are_short words then after_program words else None

-- ---- the limits of commands

-- each text has at most 4,096 bytes, there are from 1 to 32 workers and from 1 to 100,000 records
abbrev pub IsWithinLimits : Command → Type 0
IsWithinLimits (asked.Run script topics workers schedule trace) = (length script ≤ longest_word) × (length topics ≤ longest_word)
    × ((1 ≤ workers) × (workers ≤ 32)) × IfSome schedule (λ name. length name ≤ longest_word)
IsWithinLimits (asked.Explain script) = length script ≤ longest_word
IsWithinLimits (asked.Demo records workers) = ((1 ≤ records) × (records ≤ 100000)) × ((1 ≤ workers) × (workers ≤ 32))
