-- How texts are stored.
use Rattle.std.specs.Prelude.{ℕ, List, ◌≤◌, length, take}
use Rattle.std.specs.Arc.{arc_str_bytes}
use Rattle.std.specs.Str.{IsUtf8}
use Rattle.ksql_types.specs.declared.chars.ShortText.{ShortText}
use Rattle.ksql_types.specs.declared.chars.Text.{Text}
use Rattle.ksql_types.specs.declared.chars.Text.TheVariants.{Short, Long}
use Rattle.ksql_types.specs.Text.{longest_text}

-- the bytes of a text
abbrev pub bytes_in : Text → List ℕ
bytes_in (Short s) = take s.len s.bytes
bytes_in (Long t) = arc_str_bytes t

-- a text stored in place
pub record IsShortText (s : ShortText) : Type 0 where
  pub few : s.len ≤ 14
  pub utf8 : IsUtf8 (take s.len s.bytes)

-- a text within its bound
abbrev pub IsText : Text → Type 0
IsText (Short s) = IsShortText s
IsText (Long t) = length (arc_str_bytes t) ≤ longest_text
