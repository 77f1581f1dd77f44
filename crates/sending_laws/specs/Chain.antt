-- The chain of some sub-topologies as their longest path.
use Rattle.std.specs.Prelude.{◌≡◌, ℕ, ◌≤◌, List, [], ◌∷◌, length, map, All, Contains}
use Rattle.topology.specs.declared.topology.Sub.{Sub}

-- sub-topologies in a row: each reads the topic that the one before it writes
abbrev pub AreInRow : List Sub → Type 0
AreInRow [] = Unit {0}
AreInRow (s ∷ []) = Unit {0}
AreInRow (s ∷ next ∷ path) = Contains (map (λ input. input.topic) next.inputs) s.output × AreInRow (next ∷ path)

-- a path through some sub-topologies
abbrev pub IsPath : List Sub → List Sub → Type 0
IsPath subs path = All (Contains subs) path × AreInRow path

-- the longest path has n sub-topologies
abbrev pub IsLongest : List Sub → ℕ → Type 0
IsLongest subs n = ((path : List Sub) × IsPath subs path × (length path ≡ n)) × ((path : List Sub) → IsPath subs path → length path ≤ n)
