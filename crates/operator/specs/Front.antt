-- The fronts of lists.
use Rattle.std.specs.Prelude.{◌≡◌, List, ◌++◌}

-- a list is a front of another, which begins with it: perhaps nothing, perhaps all of it
abbrev pub IsFront : {A : Type 0} → List A → List A → Type 0
IsFront {A} some all = (rest : List A) × (some ++ rest ≡ all)
