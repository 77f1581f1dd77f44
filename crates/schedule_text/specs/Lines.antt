-- The lines of a schedule that are skipped.
use Rattle.std.specs.Prelude.{ℕ, List, [], ◌∷◌, Bool, true, ◌==◌}

-- whether a line is skipped: it is empty, or it begins with `#`
abbrev pub is_skipped : List ℕ → Bool
is_skipped [] = true
is_skipped (byte ∷ more) = byte == 35
