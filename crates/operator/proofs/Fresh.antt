-- Maps before any entry.
use Rattle.std.proofs.Common.{◌≡◌, refl, ℕ, List}
use Rattle.std.specs.Prelude.{None}
use Rattle.std.specs.Cmp.Lexicographic.{slice_cmp}
use Rattle.std.specs.Ordering.{nat_cmp}
use Rattle.std.specs.FinMap as finite
use Rattle.operator.specs.Holding.{no_maps}
use Rattle.operator.specs.StandsFor.{AreParts, no_parts}

pub none : (b : List ℕ) → finite.get no_maps.left b ≡ None
none b = finite.get-empty (slice_cmp nat_cmp) b

pub holds-none : AreParts no_maps no_parts
holds-none = record { left = none; right = none; aggregate = none; windows = none; time = refl }
