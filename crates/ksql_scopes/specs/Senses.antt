-- What a name stands for, counted.
use Rattle.std.specs.Prelude.{ℕ, List, [], ◌∷◌, Option, Some, None}
use Rattle.ksql_expr.specs.declared.typed.TypedNode.{TypedNode}
use Rattle.ksql_expr.specs.declared.typed.TypedNode.TheVariants as n
use Rattle.ksql_scopes.specs.declared.sense.Sense.{Sense}
use Rattle.ksql_scopes.specs.declared.sense.Sense.TheVariants.{Nothing, One, Several}
use Rattle.ksql_scopes.specs.Scope.{Meaning}

-- what a name stands for: nothing, one meaning, or several
abbrev pub sense : List Meaning → Option (Option Meaning)
sense [] = None
sense (m ∷ []) = Some (Some m)
sense (m ∷ o ∷ ms) = Some None

abbrev pub place : Option ℕ → TypedNode
place (Some column) = n.Column column
place None = n.RowTime

abbrev pub view : Sense → Option (Option Meaning)
view Nothing = None
view (One column ty) = Some (Some (place column, ty))
view Several = Some None

-- what stands for either of two
abbrev pub both : Option (Option Meaning) → Option (Option Meaning) → Option (Option Meaning)
both None other = other
both one None = one
both one other = Some None
