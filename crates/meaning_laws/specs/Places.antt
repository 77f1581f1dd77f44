-- The order of a relation's changes.
use Rattle.std.specs.Prelude.{◌≡◌, ℕ, List, ◌∷◌, ◌++◌}
use Rattle.std.specs.List.{AllPairs}
use Rattle.ksql_place.specs.Ascending.{Rises}
use Rattle.ksql_place.specs.Order.{place_cmp}
use Rattle.ksql_place.specs.declared.change.Change.{Change}

-- the places of changes rise
abbrev pub HasRisingPlaces : List Change → Type 0
HasRisingPlaces changes = Rises (λ c d. place_cmp c.place d.place) changes

-- a path is a proper prefix of another
abbrev pub IsProperPrefix : List ℕ → List ℕ → Type 0
IsProperPrefix path longer = (n : ℕ) × (more : List ℕ) × (longer ≡ path ++ n ∷ more)

-- under one stamp no path is a prefix of another
abbrev pub HasForkedPaths : List Change → Type 0
HasForkedPaths changes =
    AllPairs (λ c d. c.place.stamp ≡ d.place.stamp → (¬ IsProperPrefix c.place.path d.place.path) × (¬ IsProperPrefix d.place.path c.place.path)) changes

-- places rise, and under one stamp no path is a prefix of another
abbrev pub ArePlaced : List Change → Type 0
ArePlaced changes = HasRisingPlaces changes × HasForkedPaths changes
