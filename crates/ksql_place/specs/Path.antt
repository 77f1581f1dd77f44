-- The numbers of a path.
use Rattle.std.specs.Prelude.{List, ℕ, []}
use Rattle.ksql_place.specs.declared.path.Numbers.{Numbers}
use Rattle.ksql_place.specs.declared.path.Numbers.TheVariants.{Root, One, Two, Three, Many}

-- the numbers of a path
abbrev pub numbers_in : Numbers → List ℕ
numbers_in Root = []
numbers_in (One numbers) = numbers
numbers_in (Two numbers) = numbers
numbers_in (Three numbers) = numbers
numbers_in (Many numbers) = numbers
