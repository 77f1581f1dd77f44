-- Programs without windows, as the plain evaluation requires.
use Rattle.std.specs.Prelude.{Bool, true, false, not, ◌&&◌, IsTrue, List, [], ◌∷◌, is_none}
use Rattle.ksql_types.specs.declared.relation.Kind.{Kind}
use Rattle.ksql_types.specs.declared.relation.Kind.TheVariants.{Windowed}
use Rattle.ksql_program.specs.declared.program.Item.{Item}
use Rattle.ksql_program.specs.declared.program.Item.TheVariants.{Declared, Started}
use Rattle.ksql_program.specs.declared.query.Shape.{Shape}
use Rattle.ksql_program.specs.declared.query.Shape.TheVariants.{Plain, Group}

abbrev pub is_windowed : Kind → Bool
is_windowed Windowed = true
is_windowed _ = false

-- whether a shape has no window
abbrev pub is_windowless_shape : Shape → Bool
is_windowless_shape (Plain keys values) = true
is_windowless_shape (Group keys window aggs having values) = is_none window

-- whether an item has no window
abbrev pub is_windowless : Item → Bool
is_windowless (Declared r) = not (is_windowed r.kind)
is_windowless (Started q) = is_windowless_shape q.shape

-- whether no item has a window
abbrev pub have_no_window : List Item → Bool
have_no_window [] = true
have_no_window (i ∷ is) = is_windowless i && have_no_window is

abbrev pub HaveNoWindow : List Item → Type 0
HaveNoWindow items = IsTrue (have_no_window items)
