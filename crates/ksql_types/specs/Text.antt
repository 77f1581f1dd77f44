-- Bounds of texts.
use Rattle.std.specs.Prelude.{ℕ}

-- the most bytes of a text
unfoldable pub longest_text : ℕ
longest_text = 1048576

-- the most bytes of a VARCHAR value
abbrev pub longest_value : ℕ
longest_value = 65536
