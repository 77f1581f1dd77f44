-- The value of an operand, borrowed or computed; and the values of the WHENs of a CASE.
use Rattle.std.specs.Prelude.{◌≡◌, ℕ, List, map, Result, IfOk}
use Rattle.std.specs.declared.alloc.AllocError.{AllocError}
use Rattle.ksql_types.specs.declared.value.Value.{Value}
use Rattle.ksql_eval.specs.declared.operand.Operand.{Operand}
use Rattle.ksql_eval.specs.declared.operand.Operand.TheVariants.{Lent, Made}
use Rattle.ksql_expr.specs.declared.typed.TypedWhen.{TypedWhen}
use Rattle.ksql_expr.specs.Value.{value_of}

abbrev pub worth : Operand → Value
worth (Lent value) = value.now
worth (Made value) = value

-- a result of evaluation has this value, unless memory ran out
abbrev pub IsWorth : Result Operand AllocError → Value → Type 0
IsWorth made value = IfOk made (λ operand. worth operand ≡ value)

-- the condition and the result of each WHEN
abbrev pub whens_of : List Value → ℕ → List TypedWhen → List (Value × Value)
whens_of row time whens = map (λ w. (value_of row time w.cond, value_of row time w.result)) whens
