-- Select lists whose items are columns in ascending order.
use Rattle.std.specs.Prelude.{◌≡◌, ◌≤◌, ℕ, Bool, true, false, List, [], ◌∷◌, suc, ◌&&◌, nat_le, Option, Some, None, unwrap_or, option_map, IsTrue}
use Rattle.ksql_types.specs.declared.value.Value.{Value}
use Rattle.ksql_expr.specs.declared.typed.Typed.{Typed}
use Rattle.ksql_expr.specs.declared.typed.TypedNode.{out-TypedNode}
use Rattle.ksql_expr.specs.declared.typed.TypedNode.TheOpen.{TypedNode-F}
use Rattle.ksql_expr.specs.Value.{cell}

-- the column of a form, if it is one
abbrev pub column_in : {A B C : Type 0} → TypedNode-F A B C → Option ℕ
column_in (TypedNode-F.Column column) = Some column
column_in _ = None

-- the column of an expression, if it is one
abbrev pub column_of : Typed → Option ℕ
column_of e = column_in (out-TypedNode e.node)

-- whether expressions are columns in ascending order, none before a given one
abbrev pub are_rising : ℕ → List Typed → Bool
are_rising from [] = true
are_rising from (e ∷ es) = unwrap_or (option_map (λ column. nat_le from column && are_rising (suc column) es) (column_of e)) false

-- some columns ascend, and from the first of them on the cells are still those of a row
abbrev pub AreLeft : List Typed → List Value → List Value → Type 0
AreLeft es row cells = (from : ℕ) × IsTrue (are_rising from es) × ((n : ℕ) → from ≤ n → cell cells n ≡ cell row n)
