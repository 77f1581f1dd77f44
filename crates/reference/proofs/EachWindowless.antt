-- Each item of a program without windows has none.
use Rattle.std.proofs.Common.{refl, List, [], ◌∷◌, Bool, true, false}
use Rattle.std.specs.Prelude.{◌&&◌, IsTrue}
use Rattle.std.specs.List.{AllByRecursion}
use Rattle.ksql_program.specs.declared.program.Item.{Item}
use Rattle.reference.specs.Windowless.{HaveNoWindow, have_no_window, is_windowless}

both-true : (a b : Bool) → IsTrue (a && b) → IsTrue a × IsTrue b
both-true true b h = (refl, h)
both-true false b h = cc

pub each-windowless : (items : List Item) → HaveNoWindow items → AllByRecursion (λ i. IsTrue (is_windowless i)) items
each-windowless [] h = tt
each-windowless (i ∷ is) h = let (first, rest) = both-true (is_windowless i) (have_no_window is) h in (first, each-windowless is rest)
