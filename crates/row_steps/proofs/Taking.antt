-- Cells that are taken out of a row by rising columns.
use Rattle.std.proofs.Common.{◌≡◌, ◌∙◌, ap, sym, ℕ, ◌<◌, List, length, get_or, set, Option, arith}
use Rattle.std.specs.Prelude.{unwrap_or}
use Rattle.std.proofs.lemmas.List.{get_or-set_other}
use Rattle.std.proofs.lemmas.Option.{slice_get-get_or, unwrap_or-slice_get}
use Rattle.ksql_types.specs.declared.value.Value.{Value}
use Rattle.ksql_types.specs.declared.value.Value.TheVariants.{Null}
use Rattle.ksql_expr.specs.Value.{cell}

pub this_cell : (cells : List Value) (column : ℕ) (d : Value) → column < length cells → cell cells column ≡ get_or cells column d
this_cell cells column d lt = ap (λ (o : Option Value). unwrap_or o Null) (slice_get-get_or cells column d lt)

pub other_cell : (cells : List Value) (column n : ℕ) (v : Value) → column < n → cell (set cells column v) n ≡ cell cells n
other_cell cells column n v lt =
    unwrap_or-slice_get (set cells column v) n Null ∙ get_or-set_other cells column n v Null (λ same. absurd (omega (arith, same, lt))) ∙ sym (unwrap_or-slice_get cells n Null)
